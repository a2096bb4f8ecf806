-- What machines of any rules stand for: at the start, and after one event more.
use Rattle.std.proofs.Common.{◌≡◌, ◌<◌, ℕ, zero, suc, false, true, List, [], ◌∷◌, ◌++◌, length, replicate, cond, ltb, IsTrue, refl, sym, ap, ◌∙◌, subst, arith, Option, Some, None}
use Rattle.std.specs.Prelude.{slice_get, nat_lt}
use Rattle.std.specs.List.{AllByRecursion}
use Rattle.std.proofs.lemmas.Bool.{cond-true, lt-ltb, ltb-true}
use Rattle.std.proofs.lemmas.Bool.Decides.{nat_tests}
use Rattle.conda_base.specs.declared.actor.Actor.{Actor}
use Rattle.conda_base.specs.declared.actor.Actor.TheVariants as Actor_is
use Rattle.schedule_log.specs.declared.entry.Entry.{Entry}
use Rattle.chip_config.specs.Settings.{Settings, IsAccepted}
use Rattle.rv32_hart.specs.Regs.{start_regs}
use Rattle.rv32_hart.specs.Code.{IsCode}
use Rattle.line_memory.specs.Tags.{Shape}
use Rattle.line_memory.specs.Backing.{BackingView, shape_of}
use Rattle.line_memory.specs.Notes.{all_noted}
use Rattle.traffic_trace.specs.Notes.{no_notes}
use Rattle.coherent_mem.specs.Parts.{shown}
use Rattle.coherent_mem.specs.Steps.{unused}
use Rattle.offload_calls.specs.declared.status.CoreStatus.TheVariants as Core_is
use Rattle.offload_calls.specs.State.{State, start, start_hart, status_of}
use Rattle.chip_laws.specs.Design.{Design, IsActorOf, setup_of}
use Rattle.baseline_laws.specs.Worlds.{Rules, World, start_world, world, world_from}
use Rattle.baseline_laws.proofs.GrowthFacts.{grows}
use Rattle.plain_chip.specs.Views.{PlainView, is_actor_of}
use Rattle.plain_chip.specs.Shows.{IsAtStart, IsMade, PlainTurns, ShowsPlain, StandsPlain, shape_for}

-- ---- a machine that was just made

ltb-zero : (i : ℕ) → ltb i 0 ≡ false
ltb-zero i = grind (arith, nat_tests)

zero-ltb : (n : ℕ) → ltb 0 (suc n) ≡ true
zero-ltb n = grind (arith, nat_tests)

ltb-suc : (i n : ℕ) → ltb (suc i) (suc n) ≡ ltb i n
ltb-suc i n = grind (arith, nat_tests)

get-replicate : {A : Type 0} (n k : ℕ) (x : A) → slice_get (replicate n x) k ≡ cond (ltb k n) (Some x) None
get-replicate zero k x = rw ltb-zero refl
get-replicate (suc n) zero x = rw zero-ltb refl
get-replicate (suc n) (suc k) x = rw ltb-suc (get-replicate n k x)

-- the parts of a machine that was just made
pub record Made (d : Design) (holders : ℕ) (c : PlainView) : Type 0 where
  pub config : c.config ≡ d.config
  pub accepted : IsAccepted d.config
  pub code : c.code ≡ d.image.code
  pub is_code : IsCode d.image.code
  pub base : d.image.code.base ≡ d.config.mem_base
  pub bytes : length d.image.code.bytes ≡ d.config.mem_bytes
  pub memory : shown c.memory
      ≡ unused d.config.line_bytes holders d.config.hart_sets d.config.hart_ways d.image.code.base d.image.code.bytes
  pub many : length c.harts ≡ d.config.harts
  pub harts : (h : ℕ) → h < d.config.harts → slice_get c.harts h ≡ Some (start_hart d.image.entry d.config.harts h)
  pub statuses : c.statuses ≡ replicate d.config.cores Core_is.Idle
  pub regs : c.regs ≡ replicate d.config.cores (start_regs 0)
  pub log : c.log ≡ no_notes d.config.trace_last

made-shows : (d : Design) (holders : ℕ) (c : PlainView) (w : World) → Made d holders c → IsAtStart d w
    → ShowsPlain d (shape_for d holders) c w
made-shows d holders c w m at = record {
  config = m.config;
  code = m.code;
  lines = ap (λ (x : BackingView). x.line_bytes) m.memory;
  base = ap (λ (x : BackingView). x.base) m.memory;
  shape_is = ap (λ (x : BackingView). shape_of x) m.memory;
  view = ap (λ (x : BackingView). x.view) m.memory ∙ ap (λ (g : State). g.memory) (sym at.flat_is);
  tags = ap (λ (x : BackingView). x.tags) m.memory ∙ sym at.tags_are;
  log = m.log ∙ ap (all_noted (no_notes d.config.trace_last)) (sym at.notes_are);
  many = m.many;
  harts = λ h u. m.harts h u ∙ ap (λ (g : State). Some (g.harts h)) (sym at.flat_is);
  statuses = λ k. ap (λ xs. slice_get xs k) m.statuses ∙ get-replicate d.config.cores k Core_is.Idle
      ∙ ap (λ (g : State). status_of d.config.cores g.cores k) (sym at.flat_is);
  regs = λ j u. ap (λ xs. slice_get xs j) m.regs ∙ get-replicate d.config.cores j (start_regs 0)
      ∙ cond-true (ltb j d.config.cores) (Some (start_regs 0)) None (lt-ltb j d.config.cores u)
      ∙ ap (λ (g : State). Some (g.cores j).regs) (sym at.flat_is);
}

pub made-is : (d : Design) (holders : ℕ) (c : PlainView) → Made d holders c → IsMade d holders c
made-is d holders c m = record {
  is_design = record { accepted = m.accepted; code = m.is_code; base = m.base; bytes = m.bytes };
  config_is = m.config;
  holders_are = ap (λ (x : BackingView). x.holders) m.memory;
  shows = λ w at. made-shows d holders c w m at;
}

pub made-stands : (d : Design) (holders : ℕ) (r : Rules) (c : PlainView) → r.setup ≡ setup_of d → IsMade d holders c
    → StandsPlain d (shape_for d holders) r c []
unfolding world_from
made-stands d holders r c setup m = record {
  is_design = m.is_design;
  actors = tt;
  shows = m.shows (start_world r) (record { flat_is = ap start setup; tags_are = refl; notes_are = refl });
}

-- ---- one event more

actor-of : (d : Design) (c : PlainView) (a : Actor) → c.config ≡ d.config → IsTrue (is_actor_of c a) → IsActorOf d a
actor-of d c (Actor_is.Hart h) same there =
    ltb-true h d.config.harts (subst (λ (x : Settings). IsTrue (nat_lt h x.harts)) same there)
actor-of d c (Actor_is.Core j) same there =
    ltb-true j d.config.cores (subst (λ (x : Settings). IsTrue (nat_lt j x.cores)) same there)

all-push : (P : Actor → Type 0) (xs : List Actor) (a : Actor) → AllByRecursion P xs → P a
    → AllByRecursion P (xs ++ a ∷ [])
all-push P [] a h p = (p, tt)
all-push P (x ∷ xs) a h p = (h.0, all-push P xs a h.1 p)

pub stands-more : (d : Design) (shape : Shape) (r : Rules) (c new : PlainView) (events : List Actor) (a : Actor)
    (e : Entry) (puts : List ℕ) → IsTrue (is_actor_of c a) → StandsPlain d shape r c events
    → PlainTurns d shape r (world r events) a new e puts → StandsPlain d shape r new (events ++ a ∷ [])
stands-more d shape r c new events a e puts there s t = record {
  is_design = s.is_design;
  actors = all-push (IsActorOf d) events a s.actors (actor-of d c a s.shows.config there);
  shows = subst (ShowsPlain d shape new) (sym (grows r events a).world_after) t.shows;
}

pub output-more : (d : Design) (shape : Shape) (r : Rules) (new : PlainView) (events : List Actor) (a : Actor)
    (e : Entry) (puts : List ℕ) → PlainTurns d shape r (world r events) a new e puts
    → (world r (events ++ a ∷ [])).flat.output ≡ (world r events).flat.output ++ puts
output-more d shape r new events a e puts t =
    ap (λ (w : World). w.flat.output) (grows r events a).world_after ∙ t.output
