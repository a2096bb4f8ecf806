-- Each Commit and Back holds a number of acts from 1 to `portion_max`.
use Rattle.std.proofs.Common.{◌≡◌, ◌≤◌, ℕ, false, List, [], ◌∷◌, refl, eqb, not, Option, Some, None}
use Rattle.std.specs.List.{AllByRecursion}
use Rattle.std.proofs.lemmas.Bool.{cond_both}
use Rattle.conda_base.specs.declared.actor.Actor.{Actor}
use Rattle.conda_base.specs.declared.actor.Actor.TheVariants as The
use Rattle.schedule_log.specs.declared.entry.Entry.TheVariants.{Commit, Back}
use Rattle.offload_calls.specs.HartAct.{hart_runs}
use Rattle.offload_calls.specs.CoreActs.{core_runs}
use Rattle.try_runs.specs.Limits.{limits_of}
use Rattle.chip_laws.specs.Design.{Design, IsDesign, IsActorOf}
use Rattle.chip_laws.specs.Rules.{World, Opening, opening_end, is_conflict, is_locked_below, is_flushing, ruling, core_entry, next}
use Rattle.chip_laws.specs.Worlds.{happens, start_world, journal_from, journal}
use Rattle.chip_laws.specs.Bounded.{HasActs}
use Rattle.chip_laws.proofs.DesignFacts.{limits-fit}
use Rattle.try_runs.proofs.EndFacts.{ends_after_an_act}
use Rattle.chip_laws.proofs.WorldFacts.{waits_in}
use Rattle.chip_laws.proofs.LockFacts.{start-sound}
use Rattle.chip_laws.proofs.BoundedFacts.{sound_happens}
use Rattle.chip_laws.specs.Sound.{KeepsBounds, SoundAt}

core_entry-acts : (p : Design) (w : World) (j : ℕ) → IsDesign p → (x : Option Opening) → SoundAt p w j x → HasActs p (core_entry p w j x)
core_entry-acts p w j is None s =
    cond_both (is_flushing p w j) _ _ (HasActs p) (λ _. tt)
    (λ _. cond_both (eqb (w.seats j).backs p.config.retries) _ _ (HasActs p) (λ _. tt) (λ _. tt))
core_entry-acts p w j is (Some o) s = go (opening_end p o) refl
  where
    go : (cause : Option ℕ) → opening_end p o ≡ cause → HasActs p (ruling p j o cause)
    go None e = tt
    go (Some c) e =
        let some : 1 ≤ o.acts = ends_after_an_act p.image.code (limits_of p.config) o.regs o.fills o.acts c (limits-fit p is) e in
        cond_both (is_conflict p o) (Back j o.acts c) (Commit j o.acts c) (HasActs p)
        (λ _. record { some = some; few = s.few }) (λ _. record { some = some; few = s.few })

next-acts : (p : Design) (w : World) → IsDesign p → KeepsBounds p w → (a : Actor) → HasActs p (next p w a)
unfolding next
next-acts p w is s (The.Hart h) =
    cond_both (not (hart_runs (w.flat.harts h).status)) _ _ (HasActs p) (λ _. tt)
    (λ _. cond_both (is_locked_below w (λ k. false) p.config.cores) _ _ (HasActs p) (λ _. tt)
    (λ _. cond_both (waits_in p w h) _ _ (HasActs p) (λ _. tt) (λ _. tt)))
next-acts p w is s (The.Core j) =
    cond_both (not (core_runs (w.flat.cores j).status)) _ _ (HasActs p) (λ _. tt)
    (λ _. cond_both (is_locked_below w (λ k. eqb k j) p.config.cores) _ _ (HasActs p) (λ _. tt)
    (λ _. core_entry-acts p w j is (w.seats j).opening (s.opens j)))

journal-acts : (p : Design) (w : World) (s : List Actor) → IsDesign p → KeepsBounds p w → AllByRecursion (IsActorOf p) s → AllByRecursion (HasActs p) (journal_from p w s)
unfolding journal_from
journal-acts p w [] is so u = tt
journal-acts p w (a ∷ s) is so u = (next-acts p w is so a, journal-acts p (happens p w a) s is (sound_happens p w a u.0 so) u.1)

pub acts_bounded : (p : Design) (s : List Actor) → IsDesign p → AllByRecursion (IsActorOf p) s → AllByRecursion (HasActs p) (journal p s)
acts_bounded p s is u = journal-acts p (start_world p) s is (start-sound p is) u
