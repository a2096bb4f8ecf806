-- Acts over the parts of a portion.
use Rattle.std.proofs.Common.{◌≡◌, ℕ, ◌+◌, true, false, ◌&&◌, cond, eqb, [], ◌++◌, length, refl, sym, ap, subst, ◌∙◌, arith, Option, Some, None, Result, Ok, Err}
use Rattle.std.specs.Prelude.{is_some}
use Rattle.std.proofs.lemmas.List.{append-nil}
use Rattle.rv32_decode.specs.declared.instr.Instr.{Instr}
use Rattle.rv32_hart.specs.declared.regs.Regs.{Regs}
use Rattle.rv32_hart.specs.declared.regs.Trap.{Trap}
use Rattle.rv32_hart.specs.declared.act.Access.{Access}
use Rattle.rv32_hart.specs.declared.act.Access.TheVariants as Access_is
use Rattle.rv32_hart.specs.declared.act.Planned.{Planned}
use Rattle.rv32_hart.specs.Code.{CodeView}
use Rattle.rv32_hart.specs.Act.{after, plan_of, value_of, is_call_access}
use Rattle.offload_calls.specs.declared.status.CoreStatus.TheVariants as Core_is
use Rattle.offload_calls.specs.Effects.{span_value, span_of_access, stores_of_access}
use Rattle.offload_calls.specs.CoreActs.{KernelEffect, core_runs, kernel_effect, kernel_call_effect, kernel_instr_effect}
use Rattle.line_memory.specs.Backing.{BackingView, copy_of}
use Rattle.line_memory.specs.Notes.{all_noted}
use Rattle.traffic_trace.specs.Notes.{Trace}
use Rattle.try_runs.specs.declared.limits.Limits.{Limits}
use Rattle.portion_ctl.specs.declared.body.Body.{Body}
use Rattle.try_runs.specs.Tries.{Try, acted_by, effect_by, byte_seen, stored_lines, try_act, with_effect}
use Rattle.try_runs.specs.Fills.{Fills, byte_of, corefill_notes, filled_by, fills_with, next_fill}
use Rattle.try_runs.specs.Ends.{end_of, is_done, is_out_full, is_trapped}
use Rattle.bloom_sig.specs.Images.{IsSignatureOf}
use Rattle.portion_ctl.specs.Stands.{Holds, HoldsLines}
use Rattle.portion_ctl.specs.Bodies.{ActsOn, ActsOrEnds, Calls, CallsOrEnds, ChangesLines, Exchanges, HasParts, Performs, PerformsOrEnds, cause_by, is_full_put, opened_of}

-- ---- a plan that lies in memory

-- ---- sizes

-- two bodies of the same limits have lines of one size
pub same-lines : (old new : Body) → HasParts old → HasParts new → new.limits ≡ old.limits → new.cache.line_bytes ≡ old.cache.line_bytes
same-lines old new was is same =
    ap (λ (x : Limits). x.line_bytes) (sym is.is) ∙ ap (λ (x : Limits). x.line_bytes) same ∙ ap (λ (x : Limits). x.line_bytes) was.is

-- ---- acts by a plan

effect-plain : (r : Regs) (p : Planned) (value : ℕ) → is_call_access p.access ≡ false
    → kernel_effect r (Ok p) value ≡ kernel_instr_effect r p.instr value (stores_of_access value p.access)
unfolding kernel_effect
effect-plain r p value plain =
    ap (λ b. cond b (kernel_call_effect r) (kernel_instr_effect r p.instr value (stores_of_access value p.access))) plain

effect-call : (r : Regs) (p : Planned) (value : ℕ) → is_call_access p.access ≡ true → kernel_effect r (Ok p) value ≡ kernel_call_effect r
unfolding kernel_effect
effect-call r p value call =
    ap (λ b. cond b (kernel_call_effect r) (kernel_instr_effect r p.instr value (stores_of_access value p.access))) call

effect-trap : (r : Regs) (trap : Trap) (value : ℕ)
    → kernel_effect r (Err trap) value ≡ record { core = record { regs = r; status = Core_is.Trapped trap }; stores = []; puts = [] }
unfolding kernel_effect
effect-trap r trap value = refl

-- an act that is no call
pub exchanged-performs : (memory : BackingView) (b middle : Body) (regs : Regs) (t : Try) (fills : Fills) (p : Planned) (value : ℕ) (before noted : Trace)
    → HasParts b → HasParts middle → ChangesLines b middle → b.status ≡ Core_is.Run → is_call_access p.access ≡ false → Holds (opened_of b) t fills
    → regs ≡ after middle.regs p.instr value
    → Exchanges memory (opened_of b) (opened_of middle) t fills p.access value before noted
    → Performs memory (opened_of b) (opened_of (record middle { regs = regs })) t fills (Ok p) before noted
exchanged-performs memory b middle regs t fills p value before noted parts mid changes run plain holds done ex =
    let n : ℕ = b.cache.line_bytes in
    let filled : Fills = fills_with fills (copy_of memory) (filled_by n t (Ok p)) in
    let same_n : middle.cache.line_bytes ≡ n = same-lines b middle parts mid (ap (λ (x : Body). x.limits) changes) in
    let effect : effect_by (byte_of n filled) t (Ok p) ≡ kernel_instr_effect t.core.regs p.instr value (stores_of_access value p.access) =
    effect-plain t.core.regs p (span_value (byte_seen (byte_of n filled) t.stored) (span_of_access p.access)) plain
    ∙ ap (λ v. kernel_instr_effect t.core.regs p.instr v (stores_of_access v p.access)) (sym ex.loads) in
    let now : Holds (opened_of (record middle { regs = regs })) (with_effect n t (Ok p) (kernel_instr_effect t.core.regs p.instr value (stores_of_access value p.access))) filled =
    record {
      regs = done ∙ ap (λ r. after r p.instr value) (ap (λ (x : Body). x.regs) changes ∙ holds.regs);
      status = ap (λ (x : Body). x.status) changes ∙ run;
      held = ap (λ (x : Body). x.held.items) changes ∙ holds.held ∙ sym (append-nil t.held);
      lines = ex.lines;
      reads = ex.reads;
      writes = subst (λ k. IsSignatureOf middle.write_set (stored_lines k (t.stored ++ stores_of_access value p.access))) (sym same_n) ex.writes;
      sizes = record { lines = refl; sets = refl; ways = refl; reads = refl; writes = mid.writes; foreign = mid.foreign };
    } in
    record {
      holds = subst (λ (e : KernelEffect). Holds (opened_of (record middle { regs = regs })) (with_effect n t (Ok p) e) filled) (sym effect) now;
      notes = ex.notes;
    }

-- a call
full-put : (b : Body) (t : Try) (fills : Fills) → Holds (opened_of b) t fills → is_out_full b.limits.out_max t Access_is.Call ≡ is_full_put b
full-put b t fills holds =
    ap (λ (r : Regs). eqb (value_of r 17) 1003 && eqb (length t.held) b.limits.out_max) (sym holds.regs)
    ∙ ap (λ hs. eqb (value_of b.regs 17) 1003 && eqb (length hs) b.limits.out_max) (sym holds.held)

call-made : (memory : BackingView) (b new : Body) (t : Try) (fills : Fills) (i : Instr) (trace : Trace) → HasParts b → Holds (opened_of b) t fills → Calls b new
    → Performs memory (opened_of b) (opened_of new) t fills (Ok (record { instr = i; access = Access_is.Call })) trace trace
call-made memory b new t fills i trace parts holds calls =
    let n : ℕ = b.cache.line_bytes in
    let plan : Result Planned Trap = Ok (record { instr = i; access = Access_is.Call }) in
    let effect : effect_by (byte_of n fills) t plan ≡ kernel_call_effect t.core.regs = effect-call t.core.regs (record { instr = i; access = Access_is.Call }) 0 refl in
    let to : (r : Regs) → b.regs ≡ r → Holds (opened_of new) (with_effect n t plan (kernel_call_effect r)) fills =
    λ r same.
    subst (λ (x : Body). Holds (opened_of x) (with_effect n t plan (kernel_call_effect r)) fills) (sym calls.rest)
    (record {
      regs = ap (λ x. (kernel_call_effect x).core.regs) same;
      status = ap (λ x. (kernel_call_effect x).core.status) same;
      held = calls.held ∙ ap (λ hs. hs ++ (kernel_call_effect b.regs).puts) holds.held ∙ ap (λ x. t.held ++ (kernel_call_effect x).puts) same;
      lines = subst (λ ws. HoldsLines b.cache ws t.reads fills) (sym (append-nil t.stored)) holds.lines;
      reads = holds.reads;
      writes = subst (λ ws. IsSignatureOf b.write_set (stored_lines b.cache.line_bytes ws)) (sym (append-nil t.stored)) holds.writes;
      sizes = record { lines = refl; sets = refl; ways = refl; reads = refl; writes = parts.writes; foreign = parts.foreign };
    }) in
    record {
      holds = subst (λ (e : KernelEffect). Holds (opened_of new) (with_effect n t plan e) fills) (sym effect) (to t.core.regs holds.regs);
      notes = refl;
    }

call-at : (memory : BackingView) (b new : Body) (t : Try) (fills : Fills) (i : Instr) (trace : Trace) (result : Option ℕ) → HasParts b → Holds (opened_of b) t fills → CallsOrEnds b result new
    → PerformsOrEnds memory b (Ok (record { instr = i; access = Access_is.Call })) trace result new trace t fills
call-at memory b new t fills i trace None parts holds calls =
    (ap (λ full. cond full (Some 7) None) (full-put b t fills holds ∙ calls.fits), call-made memory b new t fills i trace parts holds calls)
call-at memory b new t fills i trace (Some cause) parts holds ends =
    (ap (λ full. cond full (Some 7) None) (full-put b t fills holds ∙ ends.0) ∙ ap Some (sym ends.1), ends.2, refl)

pub call-performs : (memory : BackingView) (b new : Body) (t : Try) (fills : Fills) (p : Planned) (trace : Trace) (result : Option ℕ) → HasParts b → Holds (opened_of b) t fills
    → is_call_access p.access ≡ true → CallsOrEnds b result new → PerformsOrEnds memory b (Ok p) trace result new trace t fills
call-performs memory b new t fills p trace result parts holds call calls =
    let P : Access → Type 0 = λ x. PerformsOrEnds memory b (Ok (record { instr = p.instr; access = x })) trace result new trace t fills in
    subst P (sym (is_call p.access call)) (call-at memory b new t fills p.instr trace result parts holds calls)
  where
    is_call : (x : Access) → is_call_access x ≡ true → x ≡ Access_is.Call
    is_call Access_is.Nothing yes_call = absurd cc
    is_call (Access_is.Load addr size signed rd) yes_call = absurd cc
    is_call (Access_is.Store addr size value) yes_call = absurd cc
    is_call (Access_is.Amo addr op rd value) yes_call = absurd cc
    is_call Access_is.Call yes_call = refl

-- a trap
trap-performs : (memory : BackingView) (b : Body) (t : Try) (fills : Fills) (trap : Trap) (trace : Trace) → HasParts b → Holds (opened_of b) t fills
    → Performs memory (opened_of b) (opened_of (record b { status = Core_is.Trapped trap })) t fills (Err trap) trace trace
trap-performs memory b t fills trap trace parts holds =
    let n : ℕ = b.cache.line_bytes in
    let plan : Result Planned Trap = Err trap in
    let trapped : KernelEffect = record { core = record { regs = t.core.regs; status = Core_is.Trapped trap }; stores = []; puts = [] } in
    let now : Holds (opened_of (record b { status = Core_is.Trapped trap })) (with_effect n t plan trapped) fills =
    record {
      regs = holds.regs;
      status = refl;
      held = holds.held ∙ sym (append-nil t.held);
      lines = subst (λ ws. HoldsLines b.cache ws t.reads fills) (sym (append-nil t.stored)) holds.lines;
      reads = holds.reads;
      writes = subst (λ ws. IsSignatureOf b.write_set (stored_lines b.cache.line_bytes ws)) (sym (append-nil t.stored)) holds.writes;
      sizes = record { lines = refl; sets = refl; ways = refl; reads = refl; writes = parts.writes; foreign = parts.foreign };
    } in
    record {
      holds = subst (λ (e : KernelEffect). Holds (opened_of (record b { status = Core_is.Trapped trap })) (with_effect n t plan e) fills) (sym (effect-trap t.core.regs trap 0)) now;
      notes = refl;
    }

-- ---- one act

-- the status of a portion that runs is that of its try
runs : (b : Body) (t : Try) (fills : Fills) → Holds (opened_of b) t fills → b.status ≡ Core_is.Run → t.core.status ≡ Core_is.Run
runs b t fills holds run = sym holds.status ∙ run

try_act-run : (code : CodeView) (n : ℕ) (below : ℕ → ℕ) (t : Try) → t.core.status ≡ Core_is.Run → try_act code n below t ≡ acted_by n below t (plan_of code t.core.regs)
unfolding try_act
try_act-run code n below t run = ap (λ st. cond (core_runs st) (acted_by n below t (plan_of code t.core.regs)) t) run

end-run : (code : CodeView) (limits : Limits) (t : Try) (n : ℕ) → t.core.status ≡ Core_is.Run → eqb n limits.portion_max ≡ false
    → end_of code limits n t ≡ cause_by limits t (plan_of code t.core.regs)
unfolding end_of
end-run code limits t n run more =
    ap (λ st. cond (is_done st) (Some 1) (cond (is_trapped st) (Some 2) (cond (eqb n limits.portion_max) (Some 3) (cause_by limits t (plan_of code t.core.regs))))) run
    ∙ ap (λ x. cond x (Some 3) (cause_by limits t (plan_of code t.core.regs))) more

pub end-done : (limits : Limits) (code : CodeView) (t : Try) (n : ℕ) → is_done t.core.status ≡ true → end_of code limits n t ≡ Some 1
unfolding end_of
end-done limits code t n done =
    ap (λ x. cond x (Some 1) (cond (is_trapped t.core.status) (Some 2) (cond (eqb n limits.portion_max) (Some 3) (cause_by limits t (plan_of code t.core.regs))))) done

pub end-trapped : (limits : Limits) (code : CodeView) (t : Try) (n : ℕ) (trap : Trap) → t.core.status ≡ Core_is.Trapped trap → end_of code limits n t ≡ Some 2
unfolding end_of
end-trapped limits code t n trap is =
    ap (λ st. cond (is_done st) (Some 1) (cond (is_trapped st) (Some 2) (cond (eqb n limits.portion_max) (Some 3) (cause_by limits t (plan_of code t.core.regs))))) is

pub end-steps : (limits : Limits) (code : CodeView) (t : Try) (n : ℕ) → t.core.status ≡ Core_is.Run → eqb n limits.portion_max ≡ true → end_of code limits n t ≡ Some 3
unfolding end_of
end-steps limits code t n run last =
    ap (λ st. cond (is_done st) (Some 1) (cond (is_trapped st) (Some 2) (cond (eqb n limits.portion_max) (Some 3) (cause_by limits t (plan_of code t.core.regs))))) run
    ∙ ap (λ x. cond x (Some 3) (cause_by limits t (plan_of code t.core.regs))) last

-- what an act needs of the parts
pub record Running (code : CodeView) (b : Body) (t : Try) (fills : Fills) (n : ℕ) (plan : Result Planned Trap) : Type 0 where
  pub holds : Holds (opened_of b) t fills
  pub acts : b.acts ≡ n
  pub run : b.status ≡ Core_is.Run
  pub more : eqb b.acts b.limits.portion_max ≡ false
  pub plan_is : plan_of code b.regs ≡ plan

planned : (code : CodeView) (b : Body) (t : Try) (fills : Fills) (n : ℕ) (plan : Result Planned Trap) → Running code b t fills n plan → plan_of code t.core.regs ≡ plan
planned code b t fills n plan is = ap (plan_of code) (sym is.holds.regs) ∙ is.plan_is

cause-run : (code : CodeView) (b : Body) (t : Try) (fills : Fills) (n : ℕ) (plan : Result Planned Trap) → Running code b t fills n plan
    → end_of code (opened_of b).limits n t ≡ cause_by (opened_of b).limits t plan
cause-run code b t fills n plan is =
    end-run code (opened_of b).limits t n (runs b t fills is.holds is.run) (ap (λ k. eqb k b.limits.portion_max) (sym is.acts) ∙ is.more)
    ∙ ap (cause_by (opened_of b).limits t) (planned code b t fills n plan is)

-- an act that was made
acted : (code : CodeView) (memory : BackingView) (b new : Body) (acts : ℕ) (t : Try) (fills : Fills) (n : ℕ) (plan : Result Planned Trap) (before noted : Trace)
    → Running code b t fills n plan → acts ≡ b.acts + 1 → Performs memory (opened_of b) (opened_of new) t fills plan before noted
    → ActsOn code memory (opened_of b) (opened_of (record new { acts = acts })) t fills n before noted
acted code memory b new acts t fills n plan before noted is one done =
    let k : ℕ = b.cache.line_bytes in
    let by : plan_of code t.core.regs ≡ plan = planned code b t fills n plan is in
    let h = done.holds in
    let packed : Holds (opened_of (record new { acts = acts })) (acted_by k (byte_of k (fills_with fills (copy_of memory) (filled_by k t plan))) t plan) (fills_with fills (copy_of memory) (filled_by k t plan)) =
    record { regs = h.regs; status = h.status; held = h.held; lines = h.lines; reads = h.reads; writes = h.writes; sizes = record { lines = refl; sets = refl; ways = refl; reads = refl; writes = h.sizes.writes; foreign = h.sizes.foreign } } in
    let P : Result Planned Trap → Type 0 = λ q.
    Holds (opened_of (record new { acts = acts })) (acted_by k (byte_of k (fills_with fills (copy_of memory) (filled_by k t q))) t q) (fills_with fills (copy_of memory) (filled_by k t q)) in
    let at : P (plan_of code t.core.regs) = subst P (sym by) packed in
    let filled : Fills = fills_with fills (copy_of memory) (next_fill code k t) in
    record {
      acts = one ∙ ap (λ m. m + 1) is.acts ∙ omega arith;
      holds = subst (λ (u : Try). Holds (opened_of (record new { acts = acts })) u filled) (sym (try_act-run code k (byte_of k filled) t (runs b t fills is.holds is.run))) at;
      notes = done.notes ∙ ap (λ q. all_noted before (corefill_notes b.core (filled_by k t q))) (sym by);
    }

pub act-trapped : (code : CodeView) (memory : BackingView) (b : Body) (t : Try) (fills : Fills) (n : ℕ) (trap : Trap) (trace : Trace) → HasParts b
    → Running code b t fills n (Err trap)
    → ActsOrEnds code memory b trace None (record b { status = Core_is.Trapped trap; acts = b.acts + 1 }) trace t fills n
act-trapped code memory b t fills n trap trace parts is = (
  cause-run code b t fills n (Err trap) is,
  acted code memory b (record b { status = Core_is.Trapped trap }) (b.acts + 1) t fills n (Err trap) trace trace is refl (trap-performs memory b t fills trap trace parts is.holds),
)

pub act-ran : (code : CodeView) (memory : BackingView) (b new : Body) (t : Try) (fills : Fills) (n : ℕ) (p : Planned) (before noted : Trace) (result : Option ℕ)
    → is_some result ≡ false → new.acts ≡ b.acts → Running code b t fills n (Ok p) → PerformsOrEnds memory b (Ok p) before result new noted t fills
    → ActsOrEnds code memory b before result (record new { acts = new.acts + 1 }) noted t fills n
act-ran code memory b new t fills n p before noted None none same is done = (
  cause-run code b t fills n (Ok p) is ∙ done.0,
  acted code memory b new (new.acts + 1) t fills n (Ok p) before noted is (ap (λ m. m + 1) same) done.1,
)
act-ran code memory b new t fills n p before noted (Some cause) none same is done = absurd cc

pub act-ended : (code : CodeView) (memory : BackingView) (b new : Body) (t : Try) (fills : Fills) (n : ℕ) (p : Planned) (before noted : Trace) (result : Option ℕ)
    → is_some result ≡ true → Running code b t fills n (Ok p) → PerformsOrEnds memory b (Ok p) before result new noted t fills
    → ActsOrEnds code memory b before result new noted t fills n
act-ended code memory b new t fills n p before noted None none is done = absurd cc
act-ended code memory b new t fills n p before noted (Some cause) none is done =
    (cause-run code b t fills n (Ok p) is ∙ done.0, done.1, done.2)
