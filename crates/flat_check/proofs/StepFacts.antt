-- One act more of a portion.
use Rattle.std.proofs.Common.{◌≡◌, ◌≢◌, ◌<◌, ◌≤◌, ◌+◌, add-zero, ◌/◌, ℕ, zero, suc, Bool, true, false, List, [], ◌∷◌, ◌++◌, length, refl, sym, ap, ◌∙◌, subst, arith, ◌||◌, ◌&&◌, not, cond, filter, Option, Some, None, Result, Ok, Err}
use Rattle.std.proofs.lemmas.Bool.{false≢true, cond_both, eq-eqb}
use Rattle.std.proofs.lemmas.List.{length-append, append-nil}
use Rattle.rv32_hart.specs.declared.regs.Regs.{Regs}
use Rattle.rv32_hart.specs.declared.regs.Trap.{Trap}
use Rattle.rv32_hart.specs.declared.act.Access.{Access}
use Rattle.rv32_hart.specs.declared.act.Access.TheVariants as Access_is
use Rattle.rv32_hart.specs.declared.act.Planned.{Planned}
use Rattle.rv32_hart.specs.Code.{CodeView}
use Rattle.rv32_hart.specs.Act.{AccessFits, plan_of, is_call_access}
use Rattle.rv32_hart.specs.Arithmetic.{amo_result}
use Rattle.offload_calls.specs.declared.status.Core.{Core}
use Rattle.offload_calls.specs.State.{Setup, State}
use Rattle.offload_calls.specs.Stores.{is_listed, addresses_from, bytes_from, stored_addresses, overlay}
use Rattle.offload_calls.specs.Effects.{loads_of, span_addresses, stores_of_access}
use Rattle.offload_calls.specs.CoreActs.{core_runs, KernelEffect, kernel_effect, kernel_call_effect, kernel_instr_effect, core_effect, core_does, core_act_of, core_act, core_acts, act_loads, act_stores, written, outside}
use Rattle.flat_check.specs.Acts.{access_of, effect_on, loaded_by, stored_by, count_of_put}
use Rattle.flat_check.specs.Marks.{Marked}
use Rattle.flat_check.specs.Walks.{lowest, lower}
use Rattle.flat_check.specs.Portions.{is_marked_at, lower_of, lowest_loaded, Unmarks, MarksStored, MarksToo, MarksBeside, marks_at, HasRun, HasActed}
use Rattle.flat_check.proofs.WalkFacts.{listed-append}

-- ---- lists

filter-both : (p : ℕ → Bool) (xs ys : List ℕ) → filter p (xs ++ ys) ≡ filter p xs ++ filter p ys
filter-both p [] ys = refl
filter-both p (x ∷ xs) ys = pick (p x) (filter-both p xs ys)
  where
    pick : (b : Bool) → filter p (xs ++ ys) ≡ filter p xs ++ filter p ys → cond b (x ∷ filter p (xs ++ ys)) (filter p (xs ++ ys)) ≡ cond b (x ∷ filter p xs) (filter p xs) ++ filter p ys
    pick true more = ap (λ t. x ∷ t) more
    pick false more = more

lower_both : (n : ℕ) (x y : Option ℕ) → Some (lower n (lower_of x y)) ≡ lower_of (Some (lower n x)) y
lower_both n None y = refl
lower_both n (Some m) None = refl
lower_both n (Some m) (Some k) = ap Some (omega arith)

lowest-both : (xs ys : List ℕ) → lowest (xs ++ ys) ≡ lower_of (lowest xs) (lowest ys)
lowest-both [] ys = refl
lowest-both (x ∷ xs) ys = ap (λ o. Some (lower x o)) (lowest-both xs ys) ∙ lower_both x (lowest xs) (lowest ys)

-- two tests one after another, over the addresses of a run
filter_run : (p q r : ℕ → Bool) (base addr size : ℕ) → base ≤ addr → ((a : ℕ) → base ≤ a → r a ≡ (p a && q a))
    → filter p (filter q (addresses_from addr size)) ≡ filter r (addresses_from addr size)
filter_run p q r base addr zero from same = refl
filter_run p q r base addr (suc size) from same =
    let rest : List ℕ = addresses_from (suc addr) size in
    two p addr (q addr) (p addr) refl (filter q rest)
    ∙ ap (cond (p addr && q addr) (addr ∷ filter p (filter q rest))) (filter_run p q r base (suc addr) size (omega arith) same)
    ∙ ap (λ xs. cond (p addr && q addr) (addr ∷ xs) (filter r rest)) (filter_run p q r base (suc addr) size (omega arith) same)
    ∙ ap (λ b. cond b (addr ∷ filter r rest) (filter r rest)) (sym (same addr from))
  where
    two : (p : ℕ → Bool) (addr : ℕ) (y x : Bool) → p addr ≡ x → (xs : List ℕ) → filter p (cond y (addr ∷ xs) xs) ≡ cond (x && y) (addr ∷ filter p xs) (filter p xs)
    two p addr true true h xs = ap (λ b. cond b (addr ∷ filter p xs) (filter p xs)) h
    two p addr true false h xs = ap (λ b. cond b (addr ∷ filter p xs) (filter p xs)) h
    two p addr false true h xs = refl
    two p addr false false h xs = refl

-- ---- what an act loads and stores

stored_run : (addr size value : ℕ) → stored_addresses (bytes_from addr size value) ≡ addresses_from addr size
stored_run addr zero value = refl
stored_run addr (suc size) value = ap (λ xs. addr ∷ xs) (stored_run (suc addr) size (value / 256))

pub stored_access : (v : ℕ) (a : Access) → stored_addresses (stores_of_access v a) ≡ stored_by a
stored_access v Access_is.Nothing = refl
stored_access v (Access_is.Load addr size signed rd) = refl
stored_access v (Access_is.Store addr size value) = stored_run addr size value
stored_access v (Access_is.Amo addr op rd value) = stored_run addr 4 (amo_result op v value)
stored_access v Access_is.Call = refl

pub call_stores : (a : Access) → is_call_access a ≡ true → [] ≡ stored_by a
call_stores Access_is.Nothing h = refl
call_stores (Access_is.Load addr size signed rd) h = refl
call_stores (Access_is.Store addr size value) h = absurd (false≢true h)
call_stores (Access_is.Amo addr op rd value) h = absurd (false≢true h)
call_stores Access_is.Call h = refl

effect_stores : (r : Regs) (p : Result Planned Trap) (v : ℕ) → stored_addresses (kernel_effect r p v).stores ≡ stored_by (access_of p)
unfolding kernel_effect
effect_stores r (Err t) v = refl
effect_stores r (Ok p) v =
    cond_both (is_call_access p.access) (kernel_call_effect r) (kernel_instr_effect r p.instr v (stores_of_access v p.access)) (λ (e : KernelEffect). stored_addresses e.stores ≡ stored_by p.access)
    (λ call. call_stores p.access call) (λ _. stored_access v p.access)

loads_are : (p : Result Planned Trap) → span_addresses (loads_of p) ≡ loaded_by (access_of p)
loads_are (Ok p) = refl
loads_are (Err t) = refl

-- ---- the step

-- the marks after the act
marks_more : (stored own more : Bool) → ((stored && not own) && not more) ≡ (stored && not (own || more))
marks_more true true more = refl
marks_more true false more = refl
marks_more false own more = refl

loaded_filter : (code : CodeView) (a : Access) (p q r : ℕ → Bool) → AccessFits code a → ((x : ℕ) → code.base ≤ x → r x ≡ (p x && q x))
    → filter p (filter q (loaded_by a)) ≡ filter r (loaded_by a)
loaded_filter code Access_is.Nothing p q r fits same = refl
loaded_filter code (Access_is.Load addr size signed rd) p q r fits same = filter_run p q r code.base addr size fits.0.from same
loaded_filter code (Access_is.Store addr size value) p q r fits same = refl
loaded_filter code (Access_is.Amo addr op rd value) p q r fits same = filter_run p q r code.base addr 4 fits.0.from same
loaded_filter code Access_is.Call p q r fits same = refl

-- ---- one act more

-- what one act of core j, which runs, makes of memory and the core
pub record Acted (code : CodeView) (memory : List ℕ) (core : Core) (memory2 : List ℕ) (core2 : Core) (access : Access) (put : Bool) : Type 0 where
  pub runs : core_runs core.status ≡ true
  pub core_is : core2 ≡ (effect_on code memory core.regs).core
  pub memory_is : memory2 ≡ overlay code.base memory (effect_on code memory core.regs).stores
  pub access_is : access ≡ access_of (plan_of code core.regs)
  pub puts_are : length (effect_on code memory core.regs).puts ≡ count_of_put put
  pub fits : AccessFits code access

-- the same where the code is known under another name
pub acted_as : (code : CodeView) (s : Setup) (memory : List ℕ) (core : Core) (memory2 : List ℕ) (core2 : Core) (access : Access) (put : Bool) → s.code ≡ code
    → Acted code memory core memory2 core2 access put → Acted s.code memory core memory2 core2 access put
acted_as code s memory core memory2 core2 access put same a = subst (λ (x : CodeView). Acted x memory core memory2 core2 access put) (sym same) a

module _ (s : Setup) (f : State) (j k : ℕ) (memory : List ℕ) (core : Core) (puts : ℕ) (memory2 : List ℕ) (core2 : Core) (access : Access) (put : Bool)
    (a : Acted s.code memory core memory2 core2 access put) (h : HasRun s f j k memory core puts) where
  step : core_act_of s (core_acts s f j k) j ((core_acts s f j k).cores j) ≡ core_does s (core_acts s f j k) j (effect_on s.code memory core.regs)
  step =
      ap (core_act_of s (core_acts s f j k) j) (sym h.core_is)
      ∙ ap (λ b. cond b (core_does s (core_acts s f j k) j (core_effect s (core_acts s f j k).memory core.regs)) (core_acts s f j k)) a.runs
      ∙ ap (λ m. core_does s (core_acts s f j k) j (effect_on s.code m core.regs)) (sym h.memory_is)

  stores_are : act_stores s (core_acts s f j k).memory ((core_acts s f j k).cores j) ≡ stored_by access
  stores_are =
      ap (act_stores s (core_acts s f j k).memory) (sym h.core_is)
      ∙ ap (λ b. cond b (stored_addresses (core_effect s (core_acts s f j k).memory core.regs).stores) []) a.runs
      ∙ effect_stores core.regs (plan_of s.code core.regs) _
      ∙ ap stored_by (sym a.access_is)

  loads_is : act_loads s ((core_acts s f j k).cores j) ≡ loaded_by access
  loads_is =
      ap (act_loads s) (sym h.core_is)
      ∙ ap (λ b. cond b (span_addresses (loads_of (plan_of s.code core.regs))) []) a.runs
      ∙ loads_are (plan_of s.code core.regs)
      ∙ ap loaded_by (sym a.access_is)

  pub run_more : HasRun s f j (suc k) memory2 core2 (puts + count_of_put put)
  unfolding core_acts core_act
  run_more = record {
    memory_is = a.memory_is ∙ ap (λ m. overlay s.code.base m (effect_on s.code memory core.regs).stores) h.memory_is ∙ ap (λ (x : State). x.memory) (sym step);
    core_is = a.core_is ∙ sym (ap (λ b. cond b (effect_on s.code memory core.regs).core ((core_acts s f j k).cores j)) (eq-eqb j j refl)) ∙ ap (λ (x : State). x.cores j) (sym step);
    puts_are =
        ap (λ (x : State). length x.output) step
        ∙ length-append (core_acts s f j k).output (effect_on s.code memory core.regs).puts
        ∙ ap (λ n. n + length (effect_on s.code memory core.regs).puts) h.puts_are ∙ ap (λ n. (length f.output + puts) + n) a.puts_are ∙ omega arith;
  }

  pub written_more : written s f j (suc k) ≡ written s f j k ++ stored_by access
  unfolding written
  written_more = ap (λ xs. written s f j k ++ xs) stores_are

  pub outside_more : outside s f j (suc k) ≡ outside s f j k ++ filter (λ x. not (is_listed (written s f j k) x)) (loaded_by access)
  unfolding outside
  outside_more = ap (λ xs. outside s f j k ++ filter (λ x. not (is_listed (written s f j k) x)) xs) loads_is

or_more : (marked own more : Bool) → ((marked || own) || more) ≡ (marked || (own || more))
or_more true own more = refl
or_more false own more = refl

-- an act of a portion: core j's marks lose what it stores, and every other core's get it
pub acted_more : (s : Setup) (f : State) (j k : ℕ) (stored : List ℕ) (before : List Marked) (memory : List ℕ) (core : Core) (marks : List Marked) (found : Option ℕ) (puts : ℕ)
    (memory2 : List ℕ) (core2 : Core) (marks1 marks2 : List Marked) (low all : Option ℕ) (access : Access) (put : Bool) (code : CodeView) → s.code ≡ code
    → Acted code memory core memory2 core2 access put → HasActed s f j k stored before memory core marks found puts
    → low ≡ lowest_loaded (marks_at marks j) code.base access → Unmarks (marks_at marks j) (marks_at marks1 j) code.base access
    → ((i : ℕ) → i ≢ j → marks_at marks1 i ≡ marks_at marks i) → length marks1 ≡ length before
    → MarksBeside marks1 marks2 code.base j access → all ≡ lower_of found low
    → HasActed s f j (suc k) stored before memory2 core2 marks2 all (puts + count_of_put put)
acted_more s f j k stored before memory core marks found puts memory2 core2 marks1 marks2 low all access put code same acted h low_is unmarks apart long beside all_is = record {
  run = run_more s f j k memory core puts memory2 core2 access put a h.run;
  own = λ x from.
      ap (λ (m : Marked). is_marked_at m s.code.base x) beside.own
      ∙ unmarked x from ∙ ap (λ b. b && not (is_listed (stored_by access) x)) (h.own x from)
      ∙ marks_more (is_listed stored x) (is_listed (written s f j k) x) (is_listed (stored_by access) x)
      ∙ ap (λ b. is_listed stored x && not b) (sym (listed-append (written s f j k) (stored_by access) x))
      ∙ ap (λ xs. is_listed stored x && not (is_listed xs x)) (sym more);
  others = λ i u ne x from.
      marked i (subst (λ n. i < n) (sym long) u) ne x from
      ∙ ap (λ (m : Marked). is_marked_at m s.code.base x || is_listed (stored_by access) x) (apart i ne)
      ∙ ap (λ b. b || is_listed (stored_by access) x) (h.others i u ne x from)
      ∙ or_more (is_marked_at (marks_at before i) s.code.base x) (is_listed (written s f j k) x) (is_listed (stored_by access) x)
      ∙ ap (λ b. is_marked_at (marks_at before i) s.code.base x || b) (sym (listed-append (written s f j k) (stored_by access) x))
      ∙ ap (λ xs. is_marked_at (marks_at before i) s.code.base x || is_listed xs x) (sym more);
  found_is =
      all_is
      ∙ ap (λ x. lower_of x low) h.found_is
      ∙ ap (lower_of (lowest (filter (is_listed stored) (outside s f j k)))) (subst (λ (c : CodeView). low ≡ lowest_loaded (marks_at marks j) c.base access) (sym same) low_is)
      ∙ ap (λ xs. lower_of (lowest (filter (is_listed stored) (outside s f j k))) (lowest xs)) (sym (loaded_filter s.code access (is_listed stored) (λ x. not (is_listed (written s f j k) x)) (is_marked_at (marks_at marks j) s.code.base) a.fits h.own))
      ∙ sym (lowest-both (filter (is_listed stored) (outside s f j k)) (filter (is_listed stored) (filter (λ x. not (is_listed (written s f j k) x)) (loaded_by access))))
      ∙ ap lowest (sym (filter-both (is_listed stored) (outside s f j k) (filter (λ x. not (is_listed (written s f j k) x)) (loaded_by access))))
      ∙ ap (λ xs. lowest (filter (is_listed stored) xs)) (sym (outside_more s f j k memory core puts memory2 core2 access put a h.run));
}
  where
    a : Acted s.code memory core memory2 core2 access put
    a = acted_as code s memory core memory2 core2 access put same acted

    more : written s f j (suc k) ≡ written s f j k ++ stored_by access
    more = written_more s f j k memory core puts memory2 core2 access put a h.run

    unmarked : Unmarks (marks_at marks j) (marks_at marks1 j) s.code.base access
    unmarked = subst (λ (c : CodeView). Unmarks (marks_at marks j) (marks_at marks1 j) c.base access) (sym same) unmarks

    marked : (i : ℕ) → i < length marks1 → i ≢ j → MarksToo (marks_at marks1 i) (marks_at marks2 i) s.code.base access
    marked i u ne = subst (λ (c : CodeView). MarksToo (marks_at marks1 i) (marks_at marks2 i) c.base access) (sym same) (beside.others i u ne)

-- ---- an act of a core that doesn't run is none

module _ (s : Setup) (f : State) (j k : ℕ) (memory : List ℕ) (core : Core) (puts : ℕ) (stops : core_runs core.status ≡ false) (h : HasRun s f j k memory core puts) where
  still : core_act_of s (core_acts s f j k) j ((core_acts s f j k).cores j) ≡ core_acts s f j k
  still = ap (core_act_of s (core_acts s f j k) j) (sym h.core_is)
      ∙ ap (λ b. cond b (core_does s (core_acts s f j k) j (core_effect s (core_acts s f j k).memory core.regs)) (core_acts s f j k)) stops

  no_stores : act_stores s (core_acts s f j k).memory ((core_acts s f j k).cores j) ≡ []
  no_stores = ap (act_stores s (core_acts s f j k).memory) (sym h.core_is) ∙ ap (λ b. cond b (stored_addresses (core_effect s (core_acts s f j k).memory core.regs).stores) []) stops

  no_loads : act_loads s ((core_acts s f j k).cores j) ≡ []
  no_loads = ap (act_loads s) (sym h.core_is) ∙ ap (λ b. cond b (span_addresses (loads_of (plan_of s.code core.regs))) []) stops

  pub run_still : HasRun s f j (suc k) memory core puts
  unfolding core_acts core_act
  run_still = record {
    memory_is = h.memory_is ∙ ap (λ (x : State). x.memory) (sym still);
    core_is = h.core_is ∙ ap (λ (x : State). x.cores j) (sym still);
    puts_are = ap (λ (x : State). length x.output) still ∙ h.puts_are;
  }

  pub written_still : written s f j (suc k) ≡ written s f j k
  unfolding written
  written_still = ap (λ xs. written s f j k ++ xs) no_stores ∙ append-nil (written s f j k)

  pub outside_still : outside s f j (suc k) ≡ outside s f j k
  unfolding outside
  outside_still = ap (λ xs. outside s f j k ++ filter (λ x. not (is_listed (written s f j k) x)) xs) no_loads ∙ append-nil (outside s f j k)

pub acted_none : (s : Setup) (f : State) (j k : ℕ) (stored : List ℕ) (before : List Marked) (memory : List ℕ) (core : Core) (marks : List Marked) (found : Option ℕ) (puts : ℕ)
    → core_runs core.status ≡ false → HasActed s f j k stored before memory core marks found puts → HasActed s f j (suc k) stored before memory core marks found puts
acted_none s f j k stored before memory core marks found puts stops h = record {
  run = run_still s f j k memory core puts stops h.run;
  own = λ x from. h.own x from ∙ ap (λ xs. is_listed stored x && not (is_listed xs x)) (sym same);
  others = λ i u ne x from. h.others i u ne x from ∙ ap (λ xs. is_marked_at (marks_at before i) s.code.base x || is_listed xs x) (sym same);
  found_is = h.found_is ∙ ap (λ xs. lowest (filter (is_listed stored) xs)) (sym (outside_still s f j k memory core puts stops h.run));
}
  where
    same : written s f j (suc k) ≡ written s f j k
    same = written_still s f j k memory core puts stops h.run

-- ---- before the first act

pub run_start : (s : Setup) (f : State) (j : ℕ) (memory : List ℕ) (core : Core) → memory ≡ f.memory → core ≡ f.cores j → HasRun s f j 0 memory core 0
unfolding core_acts
run_start s f j memory core memory_is core_is = record { memory_is = memory_is; core_is = core_is; puts_are = sym (add-zero (length f.output)) }

pub acted_start : (s : Setup) (f : State) (j : ℕ) (stored memory : List ℕ) (core : Core) (marks : List Marked) → memory ≡ f.memory → core ≡ f.cores j
    → MarksStored (marks_at marks j) s.code.base stored [] → HasActed s f j 0 stored marks memory core marks None 0
unfolding written outside
acted_start s f j stored memory core marks memory_is core_is own = record {
  run = run_start s f j memory core memory_is core_is;
  own = own;
  others = λ i u ne x from. or_none (is_marked_at (marks_at marks i) s.code.base x);
  found_is = refl;
}
  where
    or_none : (b : Bool) → b ≡ (b || false)
    or_none true = refl
    or_none false = refl
