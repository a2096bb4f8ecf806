-- Turns and acts, by the flat state that the parts show.
use Rattle.std.proofs.Common.{◌≡◌, ◌≢◌, ◌<◌, ◌⊎◌, inl, inr, ℕ, zero, suc, Bool, true, false, List, [], ◌∷◌, ◌++◌, set, cond, eqb, ltb, arith, refl, sym, ap, ◌∙◌, subst, Option, Some, None, Result, Ok, Err}
use Rattle.std.specs.Prelude.{slice_get, nat_lt, is_some}
use Rattle.std.proofs.lemmas.Bool.{false≢true, cond-true, cond-false, cond_both, ne_eqb, cases_eq, eq-eqb, ltb-true, lt-ltb, and_parts}
use Rattle.std.proofs.Math.Path.{fun_ext}
use Rattle.std.proofs.lemmas.Bool.Decides.{nat_tests}
use Rattle.rv32_hart.specs.declared.regs.Regs.{Regs}
use Rattle.rv32_hart.specs.declared.regs.Trap.{Trap}
use Rattle.rv32_hart.specs.declared.act.Planned.{Planned}
use Rattle.rv32_hart.specs.declared.act.Access.{Access}
use Rattle.rv32_hart.specs.declared.act.Access.TheVariants as Access_is
use Rattle.rv32_hart.specs.Code.{CodeView}
use Rattle.rv32_hart.specs.Act.{plan_of, after, is_call_access}
use Rattle.line_memory.specs.Backing.{IsBacking, shape_of}
use Rattle.line_memory.specs.Notes.{all_noted}
use Rattle.coherent_mem.specs.Steps.{StepsTo}
use Rattle.offload_calls.specs.declared.status.Hart.{Hart}
use Rattle.offload_calls.specs.declared.status.HartStatus.{HartStatus}
use Rattle.offload_calls.specs.declared.status.HartStatus.TheVariants as Hart_is
use Rattle.offload_calls.specs.declared.status.Core.{Core}
use Rattle.offload_calls.specs.declared.status.CoreStatus.{CoreStatus}
use Rattle.offload_calls.specs.declared.status.CoreStatus.TheVariants as Core_is
use Rattle.offload_calls.specs.Calls.{is_idle, launches, collects}
use Rattle.offload_calls.specs.Stores.{overlay, byte_at}
use Rattle.offload_calls.specs.Effects.{Span, span_of_access, stores_of_access, span_value, loads_of}
use Rattle.offload_calls.specs.State.{Setup, State, status_of, updated, launched_core}
use Rattle.offload_calls.specs.HartAct.{HartEffect, CoreChange, Stays, Starts, Rests, hart_runs, waits_next, plan_effect, change_of_call, cores_after, hart_does, hart_step}
use Rattle.offload_calls.specs.CoreActs.{KernelEffect, core_runs, kernel_effect, core_act, core_acts, core_does}
use Rattle.offload_calls.specs.LineUses.{LineUse, use_of_access, line_use}
use Rattle.chip_laws.specs.Uses.{after_use, use_notes}
use Rattle.hart_turns.specs.declared.calls.Launch.{Launch}
use Rattle.hart_turns.specs.Steps.{UsesLine, loaded_value, used_notes}
use Rattle.hart_turns.specs.Plans.{Beside, IsOver, IsToBeMade, HasKernelEffect, is_quiet, quiet_effect, changed_statuses, launch_of}
use Rattle.hart_turns.specs.Flat.{next_use, ShowsBytes, ShowsHart, next_change, regs_started, Traced, LeavesUse, HartStepped}
use Rattle.hart_turns.proofs.MemoryFacts.{unchanged}
use Rattle.hart_turns.proofs.PlanFacts.{waits-plain}

-- ---- lists with a member changed

ltb-zero : (i : ℕ) → ltb i 0 ≡ false
ltb-zero i = grind (arith, nat_tests)

zero-ltb : (n : ℕ) → ltb 0 (suc n) ≡ true
zero-ltb n = grind (arith, nat_tests)

ltb-suc : (i n : ℕ) → ltb (suc i) (suc n) ≡ ltb i n
ltb-suc i n = grind (arith, nat_tests)

pub slice_get-set_same : {A : Type 0} (xs : List A) (i : ℕ) (x y : A) → slice_get xs i ≡ Some y
    → slice_get (set xs i x) i ≡ Some x
slice_get-set_same {A} [] i x y at = absurd (let z : ◌≡◌ {A = Option A} None (Some y) = at in cc)
slice_get-set_same (z ∷ zs) zero x y at = refl
slice_get-set_same (z ∷ zs) (suc i) x y at = slice_get-set_same zs i x y at

pub slice_get-set_other : {A : Type 0} (xs : List A) (i k : ℕ) (x : A) → k ≢ i
    → slice_get (set xs i x) k ≡ slice_get xs k
slice_get-set_other [] i k x other = refl
slice_get-set_other (y ∷ ys) zero zero x other = absurd (other refl)
slice_get-set_other (y ∷ ys) zero (suc k) x other = refl
slice_get-set_other (y ∷ ys) (suc i) zero x other = refl
slice_get-set_other (y ∷ ys) (suc i) (suc k) x other = slice_get-set_other ys i k x (λ e. other (ap suc e))

pub updated-same : {A : Type 0} (f : ℕ → A) (j : ℕ) (x : A) → updated f j x j ≡ x
updated-same f j x = cond-true (eqb j j) x (f j) (eq-eqb j j refl)

pub updated-other : {A : Type 0} (f : ℕ → A) (j k : ℕ) (x : A) → k ≢ j → updated f j x k ≡ f k
updated-other f j k x ne = cond-false (eqb k j) x (f k) (ne_eqb k j ne)

-- statuses with one changed
pub statuses-set : (n : ℕ) (cores : ℕ → Core) (xs : List CoreStatus) (j : ℕ) (c : Core) → j < n
    → ((k : ℕ) → slice_get xs k ≡ status_of n cores k)
    → (k : ℕ) → slice_get (set xs j c.status) k ≡ status_of n (updated cores j c) k
statuses-set n cores xs j c below all k = go (cases_eq k j)
  where
    there : slice_get xs j ≡ Some (cores j).status
    there = all j ∙ cond-true (ltb j n) _ _ (lt-ltb j n below)

    go : ((k ≡ j) ⊎ (k ≡ j → ⊥)) → slice_get (set xs j c.status) k ≡ status_of n (updated cores j c) k
    go (inl e) = subst (λ i. slice_get (set xs j c.status) i ≡ status_of n (updated cores j c) i) (sym e)
        (slice_get-set_same xs j c.status (cores j).status there
        ∙ sym (cond-true (ltb j n) _ _ (lt-ltb j n below) ∙ ap (λ (x : Core). Some x.status) (updated-same cores j c)))
    go (inr ne) = slice_get-set_other xs j k c.status ne ∙ all k
        ∙ sym (ap (λ (x : Core). cond (ltb k n) (Some x.status) None) (updated-other cores j k c ne))

-- ---- plans that touch no memory

quiet-access : (a : Access) → is_call_access a ≡ true → span_of_access a ≡ None
quiet-access Access_is.Nothing h = refl
quiet-access (Access_is.Load addr size signed rd) h = absurd (false≢true h)
quiet-access (Access_is.Store addr size value) h = refl
quiet-access (Access_is.Amo addr op rd value) h = absurd (false≢true h)
quiet-access Access_is.Call h = refl

quiet-line : (n : ℕ) (a : Access) → is_call_access a ≡ true → use_of_access n a ≡ None
quiet-line n Access_is.Nothing h = refl
quiet-line n (Access_is.Load addr size signed rd) h = absurd (false≢true h)
quiet-line n (Access_is.Store addr size value) h = absurd (false≢true h)
quiet-line n (Access_is.Amo addr op rd value) h = absurd (false≢true h)
quiet-line n Access_is.Call h = refl

quiet-loads : (p : Result Planned Trap) → is_quiet p ≡ true → loads_of p ≡ None
quiet-loads (Err trap) h = refl
quiet-loads (Ok p) h = quiet-access p.access h

pub quiet-use : (n : ℕ) (p : Result Planned Trap) → is_quiet p ≡ true → line_use n p ≡ None
unfolding line_use
quiet-use n (Err trap) h = refl
quiet-use n (Ok p) h = quiet-line n p.access h

quiet-stores : (see : ℕ → Option CoreStatus) (r : Regs) (p : Result Planned Trap) → is_quiet p ≡ true
    → (plan_effect see r p 0).stores ≡ []
unfolding plan_effect
quiet-stores see r (Err trap) h = refl
quiet-stores see r (Ok p) h = rw h refl

quiet-kernel-stores : (r : Regs) (p : Result Planned Trap) → is_quiet p ≡ true → (kernel_effect r p 0).stores ≡ []
unfolding kernel_effect
quiet-kernel-stores r (Err trap) h = refl
quiet-kernel-stores r (Ok p) h = rw h refl

-- ---- what a step does to a core

-- a core that starts is idle, and one that rests is there
abbrev ChangeThere : (ℕ → Option CoreStatus) → CoreChange → Type 0
ChangeThere see Stays = Unit {0}
ChangeThere see (Starts j entry arg) = is_idle (see j) ≡ true
ChangeThere see (Rests j) = is_some (see j) ≡ true

call-there : (see : ℕ → Option CoreStatus) (r : Regs) → ChangeThere see (change_of_call see r)
call-there see r =
    cond_both (launches see r) _ _ (ChangeThere see) (λ l. (and_parts _ _ l).1)
    (λ _. cond_both (collects see r) _ _ (ChangeThere see) (λ c. (and_parts _ _ c).1) (λ _. tt))

plan-there : (see : ℕ → Option CoreStatus) (r : Regs) (p : Result Planned Trap)
    → ChangeThere see (plan_effect see r p 0).change
unfolding plan_effect
plan-there see r (Err trap) = tt
plan-there see r (Ok p) = cond_both (is_call_access p.access) _ _ (λ (e : HartEffect). ChangeThere see e.change)
    (λ _. call-there see r) (λ _. tt)

some-core : (n : ℕ) (cores : ℕ → Core) (j : ℕ) → is_some (status_of n cores j) ≡ true → j < n
some-core n cores j h = go (nat_lt j n) refl h
  where
    go : (b : Bool) → nat_lt j n ≡ b → is_some (cond b (Some (cores j).status) None) ≡ true → j < n
    go true e k = ltb-true j n e
    go false e k = absurd (false≢true k)

idle-some : (x : Option CoreStatus) → is_idle x ≡ true → is_some x ≡ true
idle-some None h = absurd (false≢true h)
idle-some (Some s) h = refl

change-statuses : (n : ℕ) (cores : ℕ → Core) (xs : List CoreStatus) (change : CoreChange)
    → ChangeThere (status_of n cores) change
    → ((k : ℕ) → slice_get xs k ≡ status_of n cores k) → (k : ℕ)
    → slice_get (changed_statuses change xs) k ≡ status_of n (cores_after change cores) k
change-statuses n cores xs Stays there all k = all k
change-statuses n cores xs (Starts j entry arg) there all k =
    statuses-set n cores xs j (launched_core entry arg) (some-core n cores j (idle-some _ there)) all k
change-statuses n cores xs (Rests j) there all k =
    statuses-set n cores xs j (record { regs = (cores j).regs; status = Core_is.Idle }) (some-core n cores j there) all
    k

change-regs : (cores : ℕ → Core) (change : CoreChange) (k : ℕ)
    → (cores_after change cores k).regs ≡ regs_started (launch_of change) (λ i. (cores i).regs) k
change-regs cores Stays k = refl
change-regs cores (Starts j entry arg) k = go (eqb k j)
  where
    go : (b : Bool) → (cond b (launched_core entry arg) (cores k)).regs
        ≡ cond b (launched_core entry arg).regs (cores k).regs
    go true = refl
    go false = refl
change-regs cores (Rests j) k = go (cases_eq k j)
  where
    go : ((k ≡ j) ⊎ (k ≡ j → ⊥)) → (updated cores j (record { regs = (cores j).regs; status = Core_is.Idle }) k).regs
        ≡ (cores k).regs
    go (inl e) = subst (λ i. (updated cores j (record { regs = (cores j).regs; status = Core_is.Idle }) i).regs
        ≡ (cores i).regs) (sym e)
        (ap (λ (x : Core). x.regs) (updated-same cores j (record { regs = (cores j).regs; status = Core_is.Idle })))
    go (inr ne) = ap (λ (x : Core). x.regs) (updated-other cores j k _ ne)

-- ---- a step of a hart

-- the effect of its next act
abbrev next_effect : Setup → State → ℕ → HartEffect
next_effect s f h =
    let see = status_of s.cores f.cores in
    let plan = plan_of s.code (f.harts h).regs in
    plan_effect see (f.harts h).regs plan (span_value (byte_at s.code.base f.memory) (loads_of plan))

flat-step : (s : Setup) (f : State) (h : ℕ) → hart_runs (f.harts h).status ≡ true
    → waits_next s.code (status_of s.cores f.cores) (f.harts h).regs ≡ false
    → hart_step s f h ≡ hart_does s f h (next_effect s f h)
unfolding hart_step
flat-step s f h runs goes_on = rw (runs, goes_on) refl

-- the effect of a plan that touches no memory
quiet-next : (s : Setup) (f : State) (h : ℕ) → is_quiet (plan_of s.code (f.harts h).regs) ≡ true
    → next_effect s f h ≡ plan_effect (status_of s.cores f.cores) (f.harts h).regs (plan_of s.code (f.harts h).regs) 0
quiet-next s f h quiet =
    ap (λ x. plan_effect (status_of s.cores f.cores) (f.harts h).regs (plan_of s.code (f.harts h).regs)
    (span_value (byte_at s.code.base f.memory) x))
    (quiet-loads (plan_of s.code (f.harts h).regs) quiet)

same-effect : {c k : CodeView} {f g : ℕ → Option CoreStatus} {r q : Regs} → c ≡ k → f ≡ g → r ≡ q
    → plan_effect f r (plan_of c r) 0 ≡ plan_effect g q (plan_of k q) 0
same-effect e f g = cc

pub same-waits : {c k : CodeView} {f g : ℕ → Option CoreStatus} {r q : Regs} → c ≡ k → f ≡ g → r ≡ q
    → waits_next c f r ≡ waits_next k g q
same-waits e f g = cc

pub same-plan : {c k : CodeView} {r q : Regs} → c ≡ k → r ≡ q → plan_of c r ≡ plan_of k q
same-plan e f = cc

regs-of : {x y : Hart} → x ≡ y → x.regs ≡ y.regs
regs-of e = ap (λ (x : Hart). x.regs) e

-- nothing of memory is used
unused-memory : (h : ℕ) (used : Option LineUse) (bytes : List ℕ) (x : Traced) → IsBacking x.memory → used ≡ None
    → bytes ≡ x.memory.view → LeavesUse h used bytes x x
unused-memory h used bytes x is none same = rw (none, same) (record { memory = unchanged x.memory is; log = refl })

pub hart-over : (s : Setup) (f : State) (h : ℕ) (code : CodeView) (x : Traced) (old new : Beside)
    (starts : Option Launch) (puts : List ℕ)
    → code ≡ s.code → ShowsBytes s f x.memory → ShowsHart s f h old → IsBacking x.memory
    → hart_runs old.hart.status ≡ true
    → IsOver code old new starts puts → HartStepped s f h x x new starts puts
hart-over s f h code x old new starts puts code_is bytes shows is runs o = record {
  goes_on = goes_on;
  hart = o.effect.hart_is ∙ ap (λ (e : HartEffect). e.hart) effect ∙ sym (updated-same f.harts h e.hart)
      ∙ ap (λ (g : State). g.harts h) (sym flat);
  statuses = λ k. ap (λ xs. slice_get xs k)
      (o.effect.statuses_are ∙ ap (λ (d : HartEffect). changed_statuses d.change old.statuses) effect)
      ∙ change-statuses s.cores f.cores old.statuses e.change
      (plan-there (status_of s.cores f.cores) (f.harts h).regs (plan_of s.code (f.harts h).regs)) shows.statuses k
      ∙ ap (λ (g : State). status_of s.cores g.cores k) (sym flat);
  cores = ap (λ (g : State). g.cores) flat
      ∙ ap (λ (d : HartEffect). cores_after d.change f.cores) (sym (quiet-next s f h quiet));
  starts_is = o.effect.starts_is ∙ ap (λ (d : HartEffect). launch_of d.change) (effect ∙ sym (quiet-next s f h quiet));
  memory = unused-memory h (next_use s (f.harts h).regs) (hart_step s f h).memory x is
      (quiet-use s.line_bytes (plan_of s.code (f.harts h).regs) quiet)
      (ap (λ (g : State). g.memory) flat
      ∙ ap (overlay s.code.base f.memory)
      (quiet-stores (status_of s.cores f.cores) (f.harts h).regs (plan_of s.code (f.harts h).regs) quiet)
      ∙ sym bytes.view);
  output = ap (λ (g : State). g.output) flat
      ∙ ap (λ p. f.output ++ p) (sym (o.effect.puts_are ∙ ap (λ (d : HartEffect). d.puts) effect));
}
  where
    e : HartEffect
    e = plan_effect (status_of s.cores f.cores) (f.harts h).regs (plan_of s.code (f.harts h).regs) 0

    see : slice_get old.statuses ≡ status_of s.cores f.cores
    see = fun_ext shows.statuses

    effect : quiet_effect code old
        ≡ plan_effect (status_of s.cores f.cores) (f.harts h).regs (plan_of s.code (f.harts h).regs) 0
    effect = same-effect code_is see (regs-of shows.hart)

    quiet : is_quiet (plan_of s.code (f.harts h).regs) ≡ true
    quiet = ap is_quiet (sym (same-plan code_is (regs-of shows.hart))) ∙ o.quiet

    goes_on : waits_next s.code (status_of s.cores f.cores) (f.harts h).regs ≡ false
    goes_on = sym (same-waits code_is see (regs-of shows.hart)) ∙ o.goes_on

    flat : hart_step s f h ≡ hart_does s f h
        (plan_effect (status_of s.cores f.cores) (f.harts h).regs (plan_of s.code (f.harts h).regs) 0)
    flat = flat-step s f h (ap (λ (y : Hart). hart_runs y.status) (sym shows.hart) ∙ runs) goes_on
        ∙ ap (hart_does s f h) (quiet-next s f h quiet)

-- registers of all cores after a step
pub regs-after : (s : Setup) (f : State) (h : ℕ) (old new : Traced) (after : Beside) (starts : Option Launch)
    (puts : List ℕ)
    → HartStepped s f h old new after starts puts
    → (k : ℕ) → ((hart_step s f h).cores k).regs ≡ regs_started starts (λ i. (f.cores i).regs) k
regs-after s f h old new after starts puts stepped k =
    ap (λ (cores : ℕ → Core). (cores k).regs) stepped.cores ∙ change-regs f.cores (next_change s f h) k
    ∙ ap (λ l. regs_started l (λ i. (f.cores i).regs) k) (sym stepped.starts_is)

-- ---- an act that is no call

effect-plain : (see : ℕ → Option CoreStatus) (r : Regs) (p : Planned) (value : ℕ) → is_call_access p.access ≡ false
    → plan_effect see r (Ok p) value
    ≡ record {
      hart = record { regs = after r p.instr value; status = Hart_is.Run };
      change = Stays;
      stores = stores_of_access value p.access;
      puts = [];
    }
unfolding plan_effect
effect-plain see r p value plain = rw plain refl

pub use-plain : (n : ℕ) (p : Planned) → line_use n (Ok p) ≡ use_of_access n p.access
unfolding line_use
use-plain n p = refl

run-of : (s : HartStatus) → hart_runs s ≡ true → s ≡ Hart_is.Run
run-of Hart_is.Run e = refl
run-of (Hart_is.Exit v) e = cc
run-of (Hart_is.Trapped t) e = cc

-- an access of memory that shows a flat state
pub record FlatAccess (s : Setup) (f : State) (h : ℕ) (a : Access) (old new : Traced) : Type 0 where
  pub value : loaded_value old.memory a ≡ span_value (byte_at s.code.base f.memory) (span_of_access a)
  pub leaves : LeavesUse h (use_of_access s.line_bytes a)
      (overlay s.code.base f.memory
      (stores_of_access (span_value (byte_at s.code.base f.memory) (span_of_access a)) a)) old new

same-loaded : {b c : ℕ} {m n : List ℕ} (x : Option Span) → b ≡ c → m ≡ n
    → span_value (byte_at b m) x ≡ span_value (byte_at c n) x
same-loaded x e f = cc

same-overlay : {b c : ℕ} {m n : List ℕ} {x y : List (ℕ × ℕ)} → b ≡ c → m ≡ n → x ≡ y → overlay b m x ≡ overlay c n y
same-overlay e f g = cc

pub flat-access : (s : Setup) (f : State) (h : ℕ) (a : Access) (old new : Traced) → ShowsBytes s f old.memory
    → UsesLine h (use_of_access old.memory.line_bytes a) (stores_of_access (loaded_value old.memory a) a) old.memory
    new.memory
    → new.log ≡ all_noted old.log (used_notes old.memory h (use_of_access old.memory.line_bytes a))
    → FlatAccess s f h a old new
flat-access s f h a old new bytes used noted = record {
  value = value;
  leaves = record {
    memory = subst (λ n. StepsTo (after_use (shape_of old.memory) old.memory.tags h (use_of_access n a))
        (overlay s.code.base f.memory (stores_of_access v a)) old.memory new.memory) bytes.lines
        (subst (λ x. StepsTo (after_use (shape_of old.memory) old.memory.tags h
        (use_of_access old.memory.line_bytes a)) x old.memory new.memory)
        (same-overlay bytes.base bytes.view (ap (λ y. stores_of_access y a) value)) used);
    log = noted ∙ ap (λ n. all_noted old.log (use_notes (shape_of old.memory) old.memory.tags h (use_of_access n a)))
        bytes.lines;
  };
}
  where
    v : ℕ
    v = span_value (byte_at s.code.base f.memory) (span_of_access a)

    value : loaded_value old.memory a ≡ span_value (byte_at s.code.base f.memory) (span_of_access a)
    value = same-loaded (span_of_access a) bytes.base bytes.view

pub hart-acts : (s : Setup) (f : State) (h : ℕ) (code : CodeView) (x y : Traced) (old : Beside) (left : Regs)
    (p : Planned)
    → code ≡ s.code → ShowsBytes s f x.memory → ShowsHart s f h old → hart_runs old.hart.status ≡ true
    → IsToBeMade code old.hart.regs p → left ≡ after old.hart.regs p.instr (loaded_value x.memory p.access)
    → UsesLine h (use_of_access x.memory.line_bytes p.access)
    (stores_of_access (loaded_value x.memory p.access) p.access) x.memory y.memory
    → y.log ≡ all_noted x.log (used_notes x.memory h (use_of_access x.memory.line_bytes p.access))
    → HartStepped s f h x y (record {
      hart = record { regs = left; status = old.hart.status };
      statuses = old.statuses;
    }) None []
hart-acts s f h code x y old left p code_is bytes shows runs made left_is used noted = record {
  goes_on = goes_on;
  hart = hart_is ∙ sym (updated-same f.harts h
      (record { regs = after (f.harts h).regs p.instr v; status = Hart_is.Run }))
      ∙ ap (λ (g : State). g.harts h) (sym flat);
  statuses = λ k. shows.statuses k ∙ ap (λ (g : State). status_of s.cores g.cores k) (sym flat);
  cores = ap (λ (g : State). g.cores) flat ∙ sym (ap (λ (d : HartEffect). cores_after d.change f.cores) effect);
  starts_is = sym (ap (λ (d : HartEffect). launch_of d.change) effect);
  memory = subst (λ u. LeavesUse h u (hart_step s f h).memory x y)
      (sym (ap (line_use s.line_bytes) plan ∙ use-plain s.line_bytes p))
      (subst (λ m. LeavesUse h (use_of_access s.line_bytes p.access) m x y) (ap (λ (g : State). g.memory) (sym flat))
      access.leaves);
  output = ap (λ (g : State). g.output) flat;
}
  where
    v : ℕ
    v = span_value (byte_at s.code.base f.memory) (span_of_access p.access)

    access : FlatAccess s f h p.access x y
    access = flat-access s f h p.access x y bytes used noted

    plan : plan_of s.code (f.harts h).regs ≡ Ok p
    plan = sym (same-plan code_is (regs-of shows.hart)) ∙ made.plan

    goes_on : waits_next s.code (status_of s.cores f.cores) (f.harts h).regs ≡ false
    goes_on = waits-plain s.code (status_of s.cores f.cores) (f.harts h).regs p plan made.plain

    effect : next_effect s f h
        ≡ (let u = span_value (byte_at s.code.base f.memory) (span_of_access p.access) in
        record {
          hart = record { regs = after (f.harts h).regs p.instr u; status = Hart_is.Run };
          change = Stays;
          stores = stores_of_access u p.access;
          puts = [];
        })
    effect = rw plan (effect-plain (status_of s.cores f.cores) (f.harts h).regs p
        (span_value (byte_at s.code.base f.memory) (span_of_access p.access)) made.plain)

    flat : hart_step s f h
        ≡ (let u = span_value (byte_at s.code.base f.memory) (span_of_access p.access) in
        record {
          memory = overlay s.code.base f.memory (stores_of_access u p.access);
          harts = updated f.harts h (record { regs = after (f.harts h).regs p.instr u; status = Hart_is.Run });
          cores = f.cores;
          output = f.output ++ [];
        })
    flat = flat-step s f h (ap (λ (z : Hart). hart_runs z.status) (sym shows.hart) ∙ runs) goes_on
        ∙ ap (hart_does s f h) effect

    hart_is : ◌≡◌ {A = Hart} (record { regs = left; status = old.hart.status })
        (record { regs = after (f.harts h).regs p.instr v; status = Hart_is.Run })
    hart_is = both (left_is ∙ ap (λ n. after old.hart.regs p.instr n) access.value
        ∙ ap (λ r. after r p.instr v) (regs-of shows.hart)) (run-of old.hart.status runs)
      where
        both : {r q : Regs} {t u : HartStatus} → r ≡ q → t ≡ u
            → ◌≡◌ {A = Hart} (record { regs = r; status = t }) (record { regs = q; status = u })
        both e g = cc

-- ---- an act of a kernel

-- the state after one act of core j that leaves it so, with these stores
pub record KernelStepped (s : Setup) (f : State) (j : ℕ) (left : Core) (stores : List (ℕ × ℕ))
    (puts : List ℕ) : Type 0 where
  pub state : core_acts s f j 1
      ≡ record {
        memory = overlay s.code.base f.memory stores;
        harts = f.harts;
        cores = updated f.cores j left;
        output = f.output ++ puts;
      }

kernel-flat : (s : Setup) (f : State) (j : ℕ) → core_runs (f.cores j).status ≡ true
    → core_acts s f j 1 ≡ core_does s f j
    (kernel_effect (f.cores j).regs (plan_of s.code (f.cores j).regs)
    (span_value (byte_at s.code.base f.memory) (loads_of (plan_of s.code (f.cores j).regs))))
unfolding core_acts core_act
kernel-flat s f j runs = rw runs refl

kernel-quiet : (s : Setup) (f : State) (j : ℕ) → is_quiet (plan_of s.code (f.cores j).regs) ≡ true
    → kernel_effect (f.cores j).regs (plan_of s.code (f.cores j).regs)
    (span_value (byte_at s.code.base f.memory) (loads_of (plan_of s.code (f.cores j).regs)))
    ≡ kernel_effect (f.cores j).regs (plan_of s.code (f.cores j).regs) 0
kernel-quiet s f j quiet =
    ap (λ x. kernel_effect (f.cores j).regs (plan_of s.code (f.cores j).regs)
    (span_value (byte_at s.code.base f.memory) x)) (quiet-loads (plan_of s.code (f.cores j).regs) quiet)

does : (s : Setup) (f : State) (j : ℕ) (e : KernelEffect) (left : Core) (stores : List (ℕ × ℕ)) (puts : List ℕ)
    → left ≡ e.core → stores ≡ e.stores → puts ≡ e.puts
    → core_does s f j e ≡ record {
      memory = overlay s.code.base f.memory stores;
      harts = f.harts;
      cores = updated f.cores j left;
      output = f.output ++ puts;
    }
does s f j e left stores puts a b c = rw (a, b, c) refl

pub kernel-over : (s : Setup) (f : State) (j : ℕ) (left : Core) (puts : List ℕ) → core_runs (f.cores j).status ≡ true
    → is_quiet (plan_of s.code (f.cores j).regs) ≡ true
    → HasKernelEffect (kernel_effect (f.cores j).regs (plan_of s.code (f.cores j).regs) 0) left puts
    → KernelStepped s f j left [] puts
kernel-over s f j left puts runs quiet e = record {
  state = kernel-flat s f j runs ∙ ap (core_does s f j) (kernel-quiet s f j quiet)
      ∙ does s f j (kernel_effect (f.cores j).regs (plan_of s.code (f.cores j).regs) 0) left [] puts e.core_is
      (sym (quiet-kernel-stores (f.cores j).regs (plan_of s.code (f.cores j).regs) quiet)) e.puts_are;
}

kernel-plain : (r : Regs) (p : Planned) (value : ℕ) → is_call_access p.access ≡ false
    → kernel_effect r (Ok p) value
    ≡ record {
      core = record { regs = after r p.instr value; status = Core_is.Run };
      stores = stores_of_access value p.access;
      puts = [];
    }
unfolding kernel_effect
kernel-plain r p value plain = rw plain refl

pub kernel-acts : (s : Setup) (f : State) (j : ℕ) (left : Regs) (p : Planned) (value : ℕ)
    → core_runs (f.cores j).status ≡ true
    → plan_of s.code (f.cores j).regs ≡ Ok p → is_call_access p.access ≡ false
    → value ≡ span_value (byte_at s.code.base f.memory) (span_of_access p.access)
    → left ≡ after (f.cores j).regs p.instr value
    → KernelStepped s f j (record { regs = left; status = Core_is.Run }) (stores_of_access value p.access) []
kernel-acts s f j left p value runs plan plain value_is left_is = record {
  state = kernel-flat s f j runs ∙ ap (core_does s f j) effect
      ∙ does s f j (record {
        core = record { regs = after (f.cores j).regs p.instr value; status = Core_is.Run };
        stores = stores_of_access value p.access;
        puts = [];
      })
      (record { regs = left; status = Core_is.Run }) (stores_of_access value p.access) []
      (ap (λ r. record { regs = r; status = Core_is.Run }) left_is) refl refl;
}
  where
    effect : kernel_effect (f.cores j).regs (plan_of s.code (f.cores j).regs)
        (span_value (byte_at s.code.base f.memory) (loads_of (plan_of s.code (f.cores j).regs)))
        ≡ record {
          core = record { regs = after (f.cores j).regs p.instr value; status = Core_is.Run };
          stores = stores_of_access value p.access;
          puts = [];
        }
    effect = rw plan (ap (kernel_effect (f.cores j).regs (Ok p)) (sym value_is)
        ∙ kernel-plain (f.cores j).regs p value plain)

pub core-run-of : (s : CoreStatus) → core_runs s ≡ true → s ≡ Core_is.Run
core-run-of Core_is.Idle e = cc
core-run-of Core_is.Run e = refl
core-run-of (Core_is.Done v) e = cc
core-run-of (Core_is.Trapped t) e = cc
