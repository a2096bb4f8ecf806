-- Events on the parts, put together.
use Rattle.std.proofs.Common.{◌≡◌, ◌≢◌, ◌<◌, ◌+◌, replicate, arith, ◌⊎◌, inl, inr, ℕ, zero, suc, Bool, true, false, not, List, [], ◌∷◌, ◌++◌, length, set, cond, eqb, ltb, refl, sym, ap, ◌∙◌, subst, append-nil, Option, Some, None, Ok, Err}
use Rattle.std.specs.Prelude.{slice_get, slice_index_or}
use Rattle.std.specs.List.{refill}
use Rattle.std.proofs.lemmas.Bool.{false≢true, cond-true, cond-false, cond_both, cases_eq, ne_eqb}
use Rattle.conda_base.specs.declared.actor.Actor.TheVariants as Actor_is
use Rattle.schedule_log.specs.declared.entry.Entry.{Entry}
use Rattle.schedule_log.specs.declared.entry.Entry.TheVariants.{Step, Waits, Idle, Held, Open, Lock, Spec, Commit, Back, Flush, Kern}
use Rattle.rv32_hart.specs.declared.regs.Regs.{Regs}
use Rattle.rv32_hart.specs.declared.act.Planned.{Planned}
use Rattle.rv32_hart.specs.Code.{CodeView}
use Rattle.rv32_hart.specs.Act.{plan_of, after}
use Rattle.line_memory.specs.Backing.{BackingView, IsBacking}
use Rattle.line_memory.specs.Notes.{all_noted}
use Rattle.offload_calls.specs.declared.status.Hart.{Hart}
use Rattle.offload_calls.specs.declared.status.Core.{Core}
use Rattle.offload_calls.specs.declared.status.CoreStatus.{CoreStatus}
use Rattle.offload_calls.specs.declared.status.CoreStatus.TheVariants as Core_is
use Rattle.offload_calls.specs.State.{Setup, State, status_of, updated, launched_core}
use Rattle.offload_calls.specs.HartAct.{hart_runs, waits_next, steps, hart_step}
use Rattle.offload_calls.specs.CoreActs.{core_runs, core_acts}
use Rattle.offload_calls.specs.Stores.{overlay, byte_at}
use Rattle.offload_calls.specs.Effects.{stores_of_access, span_value, span_of_access}
use Rattle.offload_calls.specs.LineUses.{use_of_access, line_use}
use Rattle.run_report.specs.Runs.{executed}
use Rattle.hart_turns.specs.declared.calls.Launch.{Launch}
use Rattle.hart_turns.specs.Steps.{UsesLine, loaded_value, used_notes}
use Rattle.hart_turns.specs.Plans.{Beside, IsOver, IsToBeMade, HasKernelEffect, core_with, is_quiet, waits_in}
use Rattle.offload_calls.specs.CoreActs.{kernel_effect}
use Rattle.hart_turns.specs.Flat.{ShowsBytes, ShowsHart, regs_started, Traced, LeavesUse, HartStepped, next_use}
use Rattle.std.proofs.Math.Path.{fun_ext}
use Rattle.hart_turns.proofs.FlatFacts.{FlatAccess, flat-access, use-plain, same-plan, same-waits, quiet-use, kernel-over, kernel-acts, core-run-of, slice_get-set_same, slice_get-set_other, updated-same, updated-other, regs-after, KernelStepped}
use Rattle.hart_turns.proofs.MemoryFacts.{unchanged}
use Rattle.baseline_laws.specs.Rules.{hart_entry}
use Rattle.plain_chip.specs.Events.{entry_use, ShowsRegs, IsHartEvent, IsKernelState, IsKernelEvent}

-- nothing of memory is used
pub still-memory : (h : ℕ) (bytes : List ℕ) (x : Traced) → IsBacking x.memory → bytes ≡ x.memory.view
    → LeavesUse h None bytes x x
still-memory h bytes x is same = rw same (record { memory = unchanged x.memory is; log = refl })

-- ---- entries that change nothing

abbrev pub IsStill : Entry → Type 0
IsStill (Idle a) = Unit {0}
IsStill (Held a) = Unit {0}
IsStill (Waits h) = Unit {0}
IsStill other = ⊥

pub still-state : (s : Setup) (f : State) (e : Entry) → IsStill e → executed s f e ≡ f
still-state s f (Idle a) u = refl
still-state s f (Held a) u = refl
still-state s f (Waits k) u = refl
still-state s f (Step k) u = absurd u
still-state s f (Open k) u = absurd u
still-state s f (Lock k) u = absurd u
still-state s f (Spec k) u = absurd u
still-state s f (Commit k n x) u = absurd u
still-state s f (Back k n x) u = absurd u
still-state s f (Flush k) u = absurd u
still-state s f (Kern k) u = absurd u

still-use : (s : Setup) (f : State) (e : Entry) → IsStill e → entry_use s f e ≡ None
still-use s f (Idle a) u = refl
still-use s f (Held a) u = refl
still-use s f (Waits k) u = refl
still-use s f (Step k) u = absurd u
still-use s f (Open k) u = absurd u
still-use s f (Lock k) u = absurd u
still-use s f (Spec k) u = absurd u
still-use s f (Commit k n x) u = absurd u
still-use s f (Back k n x) u = absurd u
still-use s f (Flush k) u = absurd u
still-use s f (Kern k) u = absurd u

pub still-event : (s : Setup) (f : State) (h : ℕ) (held : Bool) (x : Traced) (old : Beside) (regs : List Regs)
    (e : Entry) (puts : List ℕ)
    → IsBacking x.memory → ShowsBytes s f x.memory → ShowsHart s f h old → ShowsRegs s f regs → puts ≡ [] → IsStill e
    → e ≡ hart_entry s f h held
    → IsHartEvent s f h held x x old regs e puts
still-event s f h held x old regs e puts is bytes shows cores none still entry_is = record {
  entry_is = entry_is;
  hart = shows.hart ∙ ap (λ (g : State). g.harts h) same;
  others = λ k ne. ap (λ (g : State). g.harts k) (sym same);
  statuses = λ k. shows.statuses k ∙ ap (λ (g : State). status_of s.cores g.cores k) same;
  regs_are = subst (λ (g : State). ShowsRegs s g regs) same cores;
  memory = subst (λ u. LeavesUse h u (executed s f e).memory x x) (sym (still-use s f e still))
      (still-memory h (executed s f e).memory x is (ap (λ (g : State). g.memory) (sym same) ∙ sym bytes.view));
  output = ap (λ (g : State). g.output) (sym same) ∙ sym (append-nil f.output) ∙ ap (λ p. f.output ++ p) (sym none);
}
  where
    same : f ≡ executed s f e
    same = sym (still-state s f e still)

-- ---- the entry

pub entry-idle : (s : Setup) (f : State) (h : ℕ) (held : Bool) → hart_runs (f.harts h).status ≡ false
    → Idle (Actor_is.Hart h) ≡ hart_entry s f h held
entry-idle s f h held ended = rw ended refl

pub entry-held : (s : Setup) (f : State) (h : ℕ) (held : Bool) → hart_runs (f.harts h).status ≡ true → held ≡ true
    → Held (Actor_is.Hart h) ≡ hart_entry s f h held
entry-held s f h held runs is = rw (runs, is) refl

pub entry-waits : (s : Setup) (f : State) (h : ℕ) (held : Bool) → hart_runs (f.harts h).status ≡ true → held ≡ false
    → waits_next s.code (status_of s.cores f.cores) (f.harts h).regs ≡ true → Waits h ≡ hart_entry s f h held
entry-waits s f h held runs free waits = rw (runs, free, waits) refl

entry-step : (s : Setup) (f : State) (h : ℕ) (held : Bool) → hart_runs (f.harts h).status ≡ true → held ≡ false
    → waits_next s.code (status_of s.cores f.cores) (f.harts h).regs ≡ false → Step h ≡ hart_entry s f h held
entry-step s f h held runs free goes_on = rw (runs, free, goes_on) refl

-- ---- steps

step-others : (s : Setup) (f : State) (h k : ℕ) → k ≢ h → (hart_step s f h).harts k ≡ f.harts k
unfolding hart_step
step-others s f h k ne =
    cond_both (steps s.code (status_of s.cores f.cores) (f.harts h)) _ f (λ (g : State). g.harts k ≡ f.harts k)
    (λ _. cond-false (eqb k h) _ _ (ne_eqb k h ne)) (λ _. refl)

-- registers where a core may start
abbrev pub regs_after : Option Launch → List Regs → List Regs
regs_after None regs = regs
regs_after (Some l) regs = set regs l.core (launched_core l.entry l.arg).regs

started-shown : (s : Setup) (f g : State) (regs : List Regs) (starts : Option Launch) → ShowsRegs s f regs
    → ((k : ℕ) → (g.cores k).regs ≡ regs_started starts (λ i. (f.cores i).regs) k)
    → ShowsRegs s g (regs_after starts regs)
started-shown s f g regs None shows is j u = shows j u ∙ ap Some (sym (is j))
started-shown s f g regs (Some l) shows is j u = go (cases_eq j l.core)
  where
    go : ((j ≡ l.core) ⊎ (j ≡ l.core → ⊥))
        → slice_get (set regs l.core (launched_core l.entry l.arg).regs) j ≡ Some (g.cores j).regs
    go (inl e) = subst (λ i. slice_get (set regs l.core (launched_core l.entry l.arg).regs) i ≡ Some (g.cores i).regs)
        (sym e)
        (slice_get-set_same regs l.core (launched_core l.entry l.arg).regs (f.cores l.core).regs
        (shows l.core (subst (λ i. i < s.cores) e u))
        ∙ ap Some (sym (is l.core ∙ updated-same (λ i. (f.cores i).regs) l.core (launched_core l.entry l.arg).regs)))
    go (inr ne) = slice_get-set_other regs l.core j (launched_core l.entry l.arg).regs ne ∙ shows j u
        ∙ ap Some (sym (is j ∙ updated-other (λ i. (f.cores i).regs) l.core j (launched_core l.entry l.arg).regs ne))

pub step-event : (s : Setup) (f : State) (h : ℕ) (held : Bool) (x y : Traced) (after : Beside) (regs left : List Regs)
    (starts : Option Launch) (puts : List ℕ)
    → hart_runs (f.harts h).status ≡ true → held ≡ false → ShowsRegs s f regs → HartStepped s f h x y after starts puts
    → left ≡ regs_after starts regs
    → IsHartEvent s f h held x y after left (Step h) puts
step-event s f h held x y after regs left starts puts runs free cores t left_is = record {
  entry_is = entry-step s f h held runs free t.goes_on;
  hart = t.hart;
  others = λ k ne. step-others s f h k ne;
  statuses = t.statuses;
  regs_are = subst (ShowsRegs s (hart_step s f h)) (sym left_is)
      (started-shown s f (hart_step s f h) regs starts cores (regs-after s f h x y after starts puts t));
  memory = t.memory;
  output = t.output;
}

-- ---- kernels

pub kernel-state : (s : Setup) (f : State) (j : ℕ) (left : Core) (stores : List (ℕ × ℕ)) (puts : List ℕ)
    → KernelStepped s f j left stores puts → IsKernelState s f j left puts
kernel-state s f j left stores puts t = record {
  core = ap (λ (g : State). g.cores) t.state;
  harts = ap (λ (g : State). g.harts) t.state;
  output = ap (λ (g : State). g.output) t.state;
}

-- one act of a kernel that touches no memory
pub kernel-over-event : (s : Setup) (f : State) (j holder : ℕ) (code : CodeView) (x : Traced) (old left : Core)
    (puts : List ℕ)
    → IsBacking x.memory → code ≡ s.code → ShowsBytes s f x.memory → old ≡ f.cores j → core_runs old.status ≡ true
    → (is_quiet (plan_of code old.regs) ≡ true)
    × HasKernelEffect (kernel_effect old.regs (plan_of code old.regs) 0) left puts
    → IsKernelEvent s f j holder x x left puts
kernel-over-event s f j holder code x old left puts is code_is bytes at runs done = record {
  state = kernel-state s f j left [] puts stepped;
  memory = subst (λ u. LeavesUse holder u (core_acts s f j 1).memory x x)
      (sym (quiet-use s.line_bytes (plan_of s.code (f.cores j).regs) quiet))
      (still-memory holder (core_acts s f j 1).memory x is
      (ap (λ (g : State). g.memory) stepped.state ∙ sym bytes.view));
}
  where
    plan : plan_of code old.regs ≡ plan_of s.code (f.cores j).regs
    plan = same-plan code_is (ap (λ (c : Core). c.regs) at)

    quiet : is_quiet (plan_of s.code (f.cores j).regs) ≡ true
    quiet = ap is_quiet (sym plan) ∙ done.0

    effect : kernel_effect old.regs (plan_of code old.regs) 0
        ≡ kernel_effect (f.cores j).regs (plan_of s.code (f.cores j).regs) 0
    effect = ap (λ p. kernel_effect old.regs p 0) plan
        ∙ ap (λ (c : Core). kernel_effect c.regs (plan_of s.code (f.cores j).regs) 0) at

    stepped : KernelStepped s f j left [] puts
    stepped = kernel-over s f j left puts (ap (λ (c : Core). core_runs c.status) (sym at) ∙ runs) quiet
        (subst (λ e. HasKernelEffect e left puts) effect done.1)

-- one that does
pub kernel-acts-event : (s : Setup) (f : State) (j holder : ℕ) (code : CodeView) (x y : Traced) (old : Core)
    (left : Regs) (p : Planned) (puts : List ℕ)
    → code ≡ s.code → ShowsBytes s f x.memory → old ≡ f.cores j → core_runs old.status ≡ true
    → IsToBeMade code old.regs p
    → left ≡ after old.regs p.instr (loaded_value x.memory p.access)
    → UsesLine holder (use_of_access x.memory.line_bytes p.access)
    (stores_of_access (loaded_value x.memory p.access) p.access) x.memory y.memory
    → y.log ≡ all_noted x.log (used_notes x.memory holder (use_of_access x.memory.line_bytes p.access)) → puts ≡ []
    → IsKernelEvent s f j holder x y (core_with left old.status) puts
kernel-acts-event s f j holder code x y old left p puts code_is bytes at runs made left_is used noted none = record {
  state = subst (λ q. IsKernelState s f j (core_with left old.status) q) (sym none)
      (kernel-state s f j (core_with left old.status) (stores_of_access v p.access) [] stepped);
  memory = subst (λ u. LeavesUse holder u (core_acts s f j 1).memory x y)
      (sym (ap (λ q. line_use s.line_bytes q) plan ∙ use-plain s.line_bytes p))
      (subst (λ m. LeavesUse holder (use_of_access s.line_bytes p.access) m x y)
      (ap (λ (g : State). g.memory) (sym stepped.state)) access.leaves);
}
  where
    v : ℕ
    v = span_value (byte_at s.code.base f.memory) (span_of_access p.access)

    access : FlatAccess s f holder p.access x y
    access = flat-access s f holder p.access x y bytes used noted

    plan : plan_of s.code (f.cores j).regs ≡ Ok p
    plan = sym (same-plan code_is (ap (λ (c : Core). c.regs) at)) ∙ made.plan

    left_now : left ≡ after (f.cores j).regs p.instr v
    left_now = left_is ∙ ap (λ n. after old.regs p.instr n) access.value ∙ ap (λ (c : Core). after c.regs p.instr v) at

    stepped : KernelStepped s f j (core_with left old.status) (stores_of_access v p.access) []
    stepped = subst (λ t. KernelStepped s f j (core_with left t) (stores_of_access v p.access) [])
        (sym (core-run-of old.status runs))
        (kernel-acts s f j left p v (ap (λ (c : Core). core_runs c.status) (sym at) ∙ runs) plan made.plain refl
        left_now)

-- ---- what a flat state says of a hart's own facts

pub waits-at : (s : Setup) (f : State) (h : ℕ) (code : CodeView) (old : Beside) (answer : Bool) → code ≡ s.code
    → ShowsHart s f h old → waits_in code old ≡ answer
    → waits_next s.code (status_of s.cores f.cores) (f.harts h).regs ≡ answer
waits-at s f h code old answer code_is shows is =
    sym (same-waits code_is (fun_ext shows.statuses) (ap (λ (x : Hart). x.regs) shows.hart)) ∙ is

pub runs-at : (s : Setup) (f : State) (h : ℕ) (old : Beside) (answer : Bool) → ShowsHart s f h old
    → hart_runs old.hart.status ≡ answer → hart_runs (f.harts h).status ≡ answer
runs-at s f h old answer shows is = ap (λ (x : Hart). hart_runs x.status) (sym shows.hart) ∙ is

pub unmoved-shows : (s : Setup) (f : State) (h : ℕ) (old new : Beside) → new ≡ old → ShowsHart s f h old
    → ShowsHart s f h new
unmoved-shows s f h old new same shows = subst (ShowsHart s f h) (sym same) shows

-- ---- lists

one-more : (n : ℕ) → suc (n + 1) ≡ suc n + 1
one-more n = omega arith

pub replicate-more : {A : Type 0} (n : ℕ) (x : A) → replicate n x ++ x ∷ [] ≡ replicate (n + 1) x
replicate-more zero x = refl
replicate-more (suc n) x = ap (λ xs. x ∷ xs) (replicate-more n x) ∙ ap (λ k. replicate k x) (one-more n)

-- ---- one core's status and registers

pub read-at : {A : Type 0} (xs view : List A) (j : ℕ) (d x : A) → view ≡ xs → slice_get xs j ≡ Some x → slice_index_or view j d ≡ x
read-at {A} [] view j d x same at = absurd (let z : ◌≡◌ {A = Option A} None (Some x) = at in cc)
read-at {A} (y ∷ ys) view zero d x same at = ap (λ v. slice_index_or v 0 d) same ∙ (let z : ◌≡◌ {A = Option A} (Some y) (Some x) = at in cc)
read-at (y ∷ ys) view (suc j) d x same at = ap (λ v. slice_index_or v (suc j) d) same ∙ read-at ys ys j d x refl at

pub core-at : (c : Core) (regs : Regs) (status : CoreStatus) → regs ≡ c.regs → status ≡ c.status → ◌≡◌ {A = Core} (record { regs = regs; status = status }) c
core-at c regs status a b = rw (a, b) refl

-- as many members as before are all of them
pub refilled-same : {A : Type 0} (xs ys : List A) → length ys ≡ length xs → refill (length xs) xs ys ≡ ys
refilled-same [] [] same = refl
refilled-same [] (y ∷ ys) same = absurd (omega (arith, same))
refilled-same (x ∷ xs) [] same = absurd (omega (arith, same))
refilled-same (x ∷ xs) (y ∷ ys) same = ap (λ zs. y ∷ zs) (refilled-same xs ys (omega (arith, same)))
