use Rattle.std.proofs.Common.{◌≡◌, ◌<◌, ◌+◌, ◌++◌, ◌∷◌, [], ◌∙◌, ap, sym, subst, refl, suc, length, ℕ, Some, List}
use Rattle.std.specs.Prelude.{slice_get}
use Rattle.offload_calls.specs.declared.status.CoreStatus.TheVariants as Core_is
use Rattle.chip_core.specs.declared.stage.Stage.{Stage}
use Rattle.chip_core.specs.declared.stage.Stage.TheVariants as Stage_is
use Rattle.chip_core.specs.Fits.{resting}
use Rattle.chip_core.proofs.StartFacts.{one-more, replicate-more, push-get}
use Rattle.chip_core.proofs.cores.Cores.new.Goals as goal
use Rattle.chip_config.specs.Settings.{settings}

pub loop-j-preserved : goal.loop-j-preserved
loop-j-preserved c =
    let i = c.loop-j.invariant in
    let config = (settings c.args.config.now) in
    let held = c.loop-j.portions.items in
    record {
      statuses = c.push.ensures.items ∙ ap (λ xs. xs ++ Core_is.Idle ∷ []) i.statuses ∙ replicate-more c.loop-j.j Core_is.Idle;
      many = longer held c.push-in-loop-j.new.self.items c.loop-j.j (Stage_is.Ready c.in_ok-new.field-0) c.in_ok-push.ensures.items i.many;
      each = λ k u. subst (λ (xs : List Stage). slice_get xs k ≡ Some (resting config k)) (sym c.in_ok-push.ensures.items)
          (push-get (resting config) held (Stage_is.Ready c.in_ok-new.field-0)
          (λ n v. i.each n (subst (λ m. n < m) i.many v))
          (ap Stage_is.Ready c.in_ok-new.ensures.value ∙ ap (resting config) (sym i.many))
          k (subst (λ m. k < m + 1) (sym i.many) u));
    }
  where
    length-push : (xs : List Stage) (x : Stage) → length (xs ++ x ∷ []) ≡ length xs + 1
    length-push [] x = refl
    length-push (y ∷ ys) x = ap suc (length-push ys x) ∙ one-more (length ys)

    longer : (xs ys : List Stage) (n : ℕ) (x : Stage) → ys ≡ xs ++ x ∷ [] → length xs ≡ n → length ys ≡ n + 1
    longer xs ys n x is many = ap length is ∙ length-push xs x ∙ ap (λ m. m + 1) many
