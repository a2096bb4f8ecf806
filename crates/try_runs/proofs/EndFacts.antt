-- The causes that end a try: none stands before its first act.
use Rattle.std.proofs.Common.{◌≡◌, ◌≤◌, ◌<◌, ℕ, Bool, true, false, ◌&&◌, cond, eqb, [], refl, sym, ap, ◌∙◌, arith, ◌⊎◌, inl, inr, Option, Some, None, Result, Ok, Err}
use Rattle.std.proofs.lemmas.Bool.{ne_eqb, cases_lt, true≢false}
use Rattle.conda_base.specs.declared.Line.{Line}
use Rattle.rv32_hart.specs.declared.regs.Regs.{Regs}
use Rattle.rv32_hart.specs.declared.regs.Trap.{Trap}
use Rattle.rv32_hart.specs.declared.act.Planned.{Planned}
use Rattle.rv32_hart.specs.Code.{CodeView}
use Rattle.rv32_hart.specs.Act.{plan_of}
use Rattle.try_runs.specs.declared.limits.Limits.{Limits}
use Rattle.try_runs.specs.Ends.{first_cause, plan_causes, is_set_full, is_sign_full, end_of}
use Rattle.try_runs.specs.Fills.{Fills, try_run}
use Rattle.try_runs.specs.Limits.{IsLimits}
use Rattle.bloom_sig.specs.Images.{is_new}
use Rattle.try_runs.specs.Tries.{begun, try_over}

not_zero : (n : ℕ) → 1 ≤ n → eqb 0 n ≡ false
not_zero n some = ne_eqb 0 n (λ same. below same some)
  where
    below : 0 ≡ n → 1 ≤ n → ⊥
    below same some = absurd (omega arith)

and_no : (a b : Bool) → b ≡ false → (a && b) ≡ false
and_no true b off = off
and_no false b off = refl

no_sign_full : (bits limit : ℕ) → 1 ≤ limit → (o : Option Line) → is_sign_full bits limit [] o ≡ false
no_sign_full bits limit some None = refl
no_sign_full bits limit some (Some l) = and_no (is_new bits [] l) (eqb 0 limit) (not_zero limit some)

no_set_full : (sets ways : ℕ) → 1 ≤ ways → (o : Option Line) → is_set_full sets ways [] o ≡ false
no_set_full sets ways some None = refl
no_set_full sets ways some (Some l) = not_zero ways some

-- four causes of which none stands
no_cause : (a b c d : Bool) → a ≡ false → b ≡ false → c ≡ false → d ≡ false
    → ◌≡◌ {A = Option ℕ} (cond a (Some 4) (cond b (Some 5) (cond c (Some 6) (cond d (Some 7) None)))) None
no_cause false false false false x y z u = refl
no_cause true b c d x y z u = absurd (true≢false x)
no_cause false true c d x y z u = absurd (true≢false y)
no_cause false false true d x y z u = absurd (true≢false z)
no_cause false false false true x y z u = absurd (true≢false u)

no_cause_at_start : (limits : Limits) (r : Regs) (plan : Result Planned Trap) → IsLimits limits → first_cause (plan_causes limits (begun r) plan) ≡ None
no_cause_at_start limits r (Err trap) is = refl
no_cause_at_start limits r (Ok p) is =
    no_cause _ _ _ _ (no_set_full limits.core_sets limits.core_ways is.ways.0 _) (no_sign_full limits.sig_bits limits.read_limit is.reads.0 _)
    (no_sign_full limits.sig_bits limits.write_limit is.writes.0 _)
    (and_no _ (eqb 0 limits.out_max) (not_zero limits.out_max is.output.0))

-- a try without acts has no end
pub no_end_at_start : (code : CodeView) (limits : Limits) (r : Regs) → IsLimits limits → end_of code limits 0 (begun r) ≡ None
unfolding end_of
no_end_at_start code limits r is =
    ap (λ b. cond b (Some 3) (first_cause (plan_causes limits (begun r) (plan_of code r)))) (not_zero limits.portion_max is.acts.0)
    ∙ no_cause_at_start limits r (plan_of code r) is

pub ends_after_an_act : (code : CodeView) (limits : Limits) (r : Regs) (fills : Fills) (n cause : ℕ) → IsLimits limits
    → end_of code limits n (try_run code limits.line_bytes r fills n) ≡ Some cause → 1 ≤ n
unfolding try_over
ends_after_an_act code limits r fills n cause is ends = go (cases_lt 0 n)
  where
    none : n ≡ 0 → end_of code limits n (try_run code limits.line_bytes r fills n) ≡ None
    none zero_acts = ap (λ k. end_of code limits k (try_run code limits.line_bytes r fills k)) zero_acts ∙ no_end_at_start code limits r is

    go : (0 < n) ⊎ (n ≤ 0) → 1 ≤ n
    go (inl some) = omega arith
    go (inr empty) = let nothing : end_of code limits n (try_run code limits.line_bytes r fills n) ≡ None = none (omega arith) in absurd (let same : Some cause ≡ None = sym ends ∙ nothing in cc)
