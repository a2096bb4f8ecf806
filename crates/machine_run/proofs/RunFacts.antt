-- A run goes on.
use Rattle.std.proofs.Common.{◌≡◌, ℕ, ◌+◌, ◌-◌, ◌≤◌, List, [], ◌∷◌, ◌++◌, replicate, sym, ap, ◌∙◌, subst, arith, append_assoc, append-nil}
use Rattle.std.proofs.lemmas.List.{replicate-append-replicate}
use Rattle.std.proofs.lemmas.Grind.{flat_map-append}
use Rattle.conda_base.specs.declared.actor.Actor.{Actor}
use Rattle.conda_host.specs.declared.outside.Role.{Role}
use Rattle.schedule_log.specs.declared.entry.Entry.{Entry}
use Rattle.schedule_log.specs.Texts.{text_of, order_text}
use Rattle.chip_laws.specs.Design.{Design}
use Rattle.streams.specs.Seen.{Seen, ShowsText, ShowsFront}
use Rattle.machine_run.specs.declared.machine.Machine.{Ghosts}
use Rattle.machine_run.specs.declared.run.Run.{Run}
use Rattle.streams.specs.Fronts.{IsFrontOf}
use Rattle.machine_run.specs.Running.{HaveFronts, IsRun}

-- what the laws of a machine say of its texts
pub record AreFronts {A : Type 0} (m : Ghosts A) : Type 0 where
  pub journal : (d : Design) (events more : List Actor) → IsFrontOf (m.journal d events) (m.journal d (events ++ more))
  pub output : (d : Design) (events more : List Actor) → IsFrontOf (m.output d events) (m.output d (events ++ more))

front_trans : {A : Type 0} {a b c : List A} → IsFrontOf a b → IsFrontOf b c → IsFrontOf a c
front_trans {a = a} p q = record { rest = p.rest ++ q.rest; same = q.same ∙ ap (λ x. x ++ q.rest) p.same ∙ append_assoc a p.rest q.rest }

order_front : {a b : List Entry} → IsFrontOf a b → IsFrontOf (order_text a) (order_text b)
order_front {a = a} p = record { rest = order_text p.rest; same = ap order_text p.same ∙ flat_map-append (λ e. text_of e ++ 10 ∷ []) a p.rest }

has_longer : {v : Seen} {role : Role} {a b : List ℕ} → IsFrontOf a b → ShowsFront v role a → ShowsFront v role b
has_longer p h = record { front = λ told is. front_trans (h.front told is) p }

-- texts that are fronts of those of events are fronts of those of more events
pub fronts_more : {A : Type 0} (m : Ghosts A) → AreFronts m → (d : Design) (v : Seen) (events more : List Actor) → HaveFronts m d v events → HaveFronts m d v (events ++ more)
fronts_more m laws d v events more h = record {
  order = has_longer (order_front (laws.journal d events more)) h.order;
  output = has_longer (laws.output d events more) h.output;
}

all_front : (v : Seen) (role : Role) (text : List ℕ) → ShowsText v role text → ShowsFront v role text
all_front v role text h = record { front = λ told is. record { rest = []; same = sym (h.same told is) ∙ sym (append-nil (v.text role)) } }

pub fronts_of_run : {A : Type 0} (m : Ghosts A) (d : Design) (v : Seen) (run : Run A) (events : List Actor) → IsRun m d v run events → HaveFronts m d v events
fronts_of_run m d v run events r = record { order = all_front v _ _ r.order; output = all_front v _ _ r.output }

pub one_more : (events : List Actor) (n : ℕ) (a : Actor) → (events ++ replicate n a) ++ a ∷ [] ≡ events ++ replicate (n + 1) a
one_more events n a = append_assoc events (replicate n a) (a ∷ []) ∙ ap (λ xs. events ++ xs) (replicate-append-replicate n 1 a)

rest_of : (count n : ℕ) → n + 1 ≤ count → (n + 1) + (count - (n + 1)) ≡ count
rest_of count n h = omega arith

-- of some of a line's events
pub one_more_of : {A : Type 0} (m : Ghosts A) → AreFronts m → (d : Design) (v : Seen) (events : List Actor) (n count : ℕ) (a : Actor) → n + 1 ≤ count
    → HaveFronts m d v ((events ++ replicate n a) ++ a ∷ []) → HaveFronts m d v (events ++ replicate count a)
one_more_of m laws d v events n count a h fronts =
    let all : (events ++ replicate (n + 1) a) ++ replicate (count - (n + 1)) a ≡ events ++ replicate count a =
    append_assoc events (replicate (n + 1) a) (replicate (count - (n + 1)) a)
    ∙ ap (λ xs. events ++ xs) (replicate-append-replicate (n + 1) (count - (n + 1)) a ∙ ap (λ k. replicate k a) (rest_of count n h)) in
    subst (HaveFronts m d v) all
    (fronts_more m laws d v (events ++ replicate (n + 1) a) (replicate (count - (n + 1)) a) (subst (HaveFronts m d v) (one_more events n a) fronts))
