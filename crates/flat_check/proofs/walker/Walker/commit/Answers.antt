use Rattle.std.proofs.Common.{◌≡◌, ◌<◌, ◌∙◌, ℕ, sym, ap, subst, length, true, Result, Ok, Err, List, [], Option, None}
use Rattle.std.proofs.lemmas.List.{with_items_is}
use Rattle.std.specs.Result.{IfOk, MatchResult}
use Rattle.offload_calls.specs.State.{Setup}
use Rattle.flat_check.specs.declared.refusal.Refusal.{Refusal}
use Rattle.flat_check.specs.Marks.{Marked}
use Rattle.flat_check.specs.Flats.{HasMadePortion, flat_parts}
use Rattle.flat_check.specs.Portions.{MarksStored, marks_at}
use Rattle.flat_check.specs.Tries.{FitsTries, try_parts}
use Rattle.flat_check.specs.Walkers.{ShowsWalk, ruling_of, walker_parts}
use Rattle.flat_check.specs.Walks.{Fine, Ruling, Walk, has_acts, ruling_by, stored_of}
use Rattle.flat_check.proofs.TryFacts.{all-fit-as, fits-closed}
use Rattle.flat_check.proofs.WalkerFacts.{open-marks, rules-acts, walks-commit}
use Rattle.flat_check.proofs.walker.Walker.commit.Goals as goal

pub portion-found-requires-clause-marks : goal.portion-found-requires-clause-marks
portion-found-requires-clause-marks c =
    all-fit-as c.deref_mut.result.now c.args.self.now.tries.marks.items c.args.code.now c.deref_mut.ensures.value c.requires.fits.tries.fit

marks_are : (c : goal.After-refuse) → c.close.new.self.marks.items ≡ c.portion-found.new.marks
marks_are c =
    ap (λ ms. ms.items) c.close.ensures.marks
    ∙ with_items_is c.args.self.now.tries.marks c.portion-found.new.marks (c.portion-found.auto.marks ∙ c.deref_mut.ensures.len)

here : (c : goal.After-refuse) (s : Setup) (v : Walk) → ShowsWalk s (walker_parts c.args.self.now) v → c.args.j < s.cores
here c s v sh = subst (λ n. c.args.j < n) sh.flat.many_statuses c.requires.there

has : (c : goal.After-refuse) (s : Setup) (v : Walk) → ShowsWalk s (walker_parts c.args.self.now) v → has_acts (v.tries c.args.j) c.args.n ≡ true
has c s v sh = sym (c.has_acts.ensures s v.tries (here c s v sh) sh.tries) ∙ c.if-not-has_acts.false

made : (c : goal.After-refuse) (s : Setup) (v : Walk) → s.code ≡ c.args.code.now → ShowsWalk s (walker_parts c.args.self.now) v
    → HasMadePortion s v.flat c.args.j c.args.n (stored_of (v.tries c.args.j)) c.args.self.now.tries.marks.items (flat_parts c.portion-found.new.self) c.portion-found.new.marks c.portion-found.result
made c s v same sh =
    subst (λ (ms : List Marked). HasMadePortion s v.flat c.args.j c.args.n (stored_of (v.tries c.args.j)) ms (flat_parts c.portion-found.new.self) c.portion-found.new.marks c.portion-found.result)
    c.deref_mut.ensures.value
    (c.portion-found.ensures.acts s v.flat (stored_of (v.tries c.args.j)) same sh.flat
    (subst (λ (ms : List Marked). MarksStored (marks_at ms c.args.j) s.code.base (stored_of (v.tries c.args.j)) []) (sym c.deref_mut.ensures.value)
    (open-marks s.code.base (marks_at c.args.self.now.tries.marks.items c.args.j) (v.tries c.args.j) c.args.n (has c s v sh) (sh.tries.marks c.args.j (here c s v sh)))))

ruled_by : {A : Type 0} (r : Result A Refusal) (found : Option ℕ) (x : Ruling) → x ≡ ruling_by found
    → MatchResult r (λ a. found ≡ None) (λ why. ruling_by found ≡ ruling_of why) → MatchResult r (λ a. x ≡ Fine) (λ why. x ≡ ruling_of why)
ruled_by (Ok a) found x is h = is ∙ ap ruling_by h
ruled_by (Err why) found x is h = is ∙ h

pub returns-clause-rules : goal.returns-clause-rules
returns-clause-rules c = λ s v cause same sh.
    ruled_by c.refuse.result c.portion-found.result _
    (rules-acts s v c.args.j c.args.n cause (has c s v sh) ∙ ap ruling_by (sym (made c s v same sh).found_is)) c.refuse.ensures

if_ok : {A E : Type 0} (r : Result A E) (P : Type 0) → P → IfOk r (λ x. P)
if_ok (Ok x) P h = h
if_ok (Err e) P h = tt

pub returns-clause-walks : goal.returns-clause-walks
returns-clause-walks c = λ s v cause same sh.
    if_ok c.refuse.result _
    (walks-commit s (walker_parts c.args.self.now) (walker_parts (record { flat = c.portion-found.new.self; tries = c.close.new.self })) v c.args.j c.args.n cause
    c.portion-found.new.marks c.portion-found.result sh (made c s v same sh) (c.portion-found.auto.marks ∙ ap length c.deref_mut.ensures.value)
    c.close.ensures.acts (marks_are c))

pub returns-clause-fits : goal.returns-clause-fits
returns-clause-fits c = record {
  flat = c.portion-found.ensures.fits;
  tries =
      subst (λ n. FitsTries c.args.code.now n (try_parts c.close.new.self)) (sym c.portion-found.ensures.cores)
      (fits-closed c.args.code.now (length c.args.self.now.flat.statuses.items) (try_parts c.args.self.now.tries) (try_parts c.close.new.self) c.args.j c.close.ensures.acts
      (ap length (marks_are c) ∙ c.portion-found.auto.marks ∙ ap length c.deref_mut.ensures.value)
      (all-fit-as c.close.new.self.marks.items c.portion-found.new.marks c.args.code.now (marks_are c) c.portion-found.ensures.kept)
      c.requires.fits.tries);
}
