-- A portion's parts, and what its calls make of them.
use Rattle.std.specs.Prelude.{ℕ, suc, ◌≡◌, ◌+◌, ◌%◌, ◌≤◌, ◌==◌, ◌&&◌, Bool, true, false, List, ◌++◌, length, Option, Some, None, IsSome, unwrap_or, Result, Ok, Err}
use Rattle.conda_base.specs.Lines.{IsAccessSize, line_offset}
use Rattle.conda_base.specs.LineLists.{line_at}
use Rattle.conda_base.specs.declared.line.Line.{Line}
use Rattle.rv32_decode.specs.Ranges.{FieldsFit}
use Rattle.rv32_hart.specs.declared.regs.Trap.{Trap}
use Rattle.rv32_hart.specs.declared.act.Access.{Access}
use Rattle.rv32_hart.specs.declared.act.Access.TheVariants as Access_is
use Rattle.rv32_hart.specs.declared.act.Planned.{Planned}
use Rattle.rv32_hart.specs.Code.{CodeView}
use Rattle.rv32_hart.specs.Regs.{start_regs}
use Rattle.rv32_hart.specs.Act.{is_system, is_call_access, value_of}
use Rattle.offload_calls.specs.Effects.{span_value, span_of_access, stores_of_access}
use Rattle.offload_calls.specs.declared.status.CoreStatus.{CoreStatus}
use Rattle.offload_calls.specs.declared.status.CoreStatus.TheVariants as Core_is
use Rattle.offload_calls.specs.Calls.{kernel_served, regs_after_kernel_call}
use Rattle.offload_calls.specs.CoreActs.{status_after_kernel_call, puts_of_kernel_call}
use Rattle.nda_cache.specs.Tried.{Tried, IsTried, WritesLine, no_try_lines}
use Rattle.bloom_sig.specs.Images.{IsSignatureOf}
use Rattle.bloom_sig.specs.Signatures.{Sets, no_lines}
use Rattle.line_memory.specs.Backing.{BackingView, copy_of}
use Rattle.line_memory.specs.Notes.{all_noted}
use Rattle.traffic_trace.specs.Notes.{Trace}
use Rattle.try_runs.specs.declared.limits.Limits.{Limits}
use Rattle.try_runs.specs.Ends.{first_cause, access_causes, plan_causes, end_of}
use Rattle.try_runs.specs.Fills.{Fills, byte_of, new_line, filled_by, next_fill, fills_with, corefill_notes}
use Rattle.try_runs.specs.Limits.{IsLimits}
use Rattle.try_runs.specs.Tries.{Try, byte_seen, outside_line, with_some_line, stored_lines, acted_by, try_act}
use Rattle.portion_ctl.specs.declared.body.Body.{Body}
use Rattle.portion_ctl.specs.Stands.{HoldsLines, Holds}
use Rattle.portion_ctl.specs.Views.{ReadyView, OpenView, EndedView, FlushingView}

-- the limits that the parts were made with
abbrev pub limits_in : Limits → Tried → Sets → Limits
limits_in limits cache reads = record limits {
  line_bytes = cache.line_bytes;
  core_sets = cache.sets;
  core_ways = cache.ways;
  sig_bits = reads.bits;
}

-- the parts as an open try
abbrev pub opened_of : Body → OpenView
opened_of b = record {
  core = b.core;
  limits = limits_in b.limits b.cache b.read_set;
  opening = unwrap_or b.checkpoint (start_regs 0);
  regs = b.regs;
  status = b.status;
  acts = b.acts;
  cache = b.cache;
  read_set = b.read_set;
  write_set = b.write_set;
  foreign_set = b.foreign_set;
  held = b.held.items;
  locked = b.locked;
}

-- a try is never idle
abbrev pub is_begun : CoreStatus → Bool
is_begun Core_is.Idle = false
is_begun Core_is.Run = true
is_begun (Core_is.Done value) = true
is_begun (Core_is.Trapped trap) = true

-- every part has the size that the limits give, and a checkpoint is there
pub record HasParts (b : Body) : Type 0 where
  pub limits : IsLimits b.limits
  pub is : b.limits ≡ limits_in b.limits b.cache b.read_set
  pub writes : b.write_set.bits ≡ b.read_set.bits
  pub foreign : b.foreign_set.bits ≡ b.read_set.bits
  pub held : length b.held.items ≤ b.limits.out_max
  pub acts : b.acts ≤ b.limits.portion_max
  pub begun : is_begun b.status ≡ true
  pub checkpoint : IsSome b.checkpoint

-- an aligned access to a memory whose lines have this size
pub record IsAccessIn (memory : BackingView) (line_bytes addr size : ℕ) : Type 0 where
  pub sized : IsAccessSize size
  pub aligned : addr % size ≡ 0
  pub from : memory.base ≤ addr
  pub to : addr + size ≤ memory.base + length memory.view
  pub lines : memory.line_bytes ≡ line_bytes

abbrev pub AccessIn : BackingView → ℕ → Access → Type 0
AccessIn memory n Access_is.Nothing = Unit {0}
AccessIn memory n (Access_is.Load addr size signed rd) = IsAccessIn memory n addr size
AccessIn memory n (Access_is.Store addr size value) = IsAccessIn memory n addr size
AccessIn memory n (Access_is.Amo addr op rd value) = IsAccessIn memory n addr 4
AccessIn memory n Access_is.Call = Unit {0}

-- ---- accesses

-- the first cause that stands against an access, and against an act by a plan
abbrev pub cause_of_access : Limits → Try → Access → Option ℕ
cause_of_access limits t access = first_cause (access_causes limits t access)

abbrev pub cause_by : Limits → Try → Result Planned Trap → Option ℕ
cause_by limits t plan = first_cause (plan_causes limits t plan)

-- the line of the outside load of an access, and the line that it fills
abbrev pub outside_of : ℕ → Try → Access → Option Line
outside_of n t access = outside_line n t.stored (span_of_access access)

abbrev pub fill_of_access : ℕ → Try → Access → Option Line
fill_of_access n t access = new_line t.reads (outside_of n t access)

-- the fills with memory's copy of that line
abbrev pub fills_after : BackingView → ℕ → Try → Fills → Access → Fills
fills_after memory n t fills access =
    fills_with fills (copy_of memory) (fill_of_access n t access)

-- the lines read with the one of that load
abbrev pub reads_after : ℕ → Try → Access → List Line
reads_after n t access = with_some_line t.reads (outside_of n t access)

-- the stores with those of an access that loads this value
abbrev pub stores_after : Try → ℕ → Access → List (ℕ × ℕ)
stores_after t value access = t.stored ++ stores_of_access value access

-- What an access leaves of the parts, over the fills with the line that it fills.
pub record Exchanges
    (memory : BackingView) (o new : OpenView) (t : Try) (fills : Fills)
    (access : Access) (value : ℕ) (before after : Trace) : Type 0 where
  pub loads : value
      ≡ span_value
      (byte_seen
      (byte_of o.cache.line_bytes (fills_after memory o.cache.line_bytes t fills access))
      t.stored)
      (span_of_access access)
  pub lines : HoldsLines new.cache (stores_after t value access)
      (reads_after o.cache.line_bytes t access)
      (fills_after memory o.cache.line_bytes t fills access)
  pub reads : IsSignatureOf new.read_set (reads_after o.cache.line_bytes t access)
  pub writes : IsSignatureOf new.write_set
      (stored_lines o.cache.line_bytes (stores_after t value access))
  pub notes : after
      ≡ all_noted before (corefill_notes o.core (fill_of_access o.cache.line_bytes t access))

-- an access, or the first cause that stands against it with nothing done
abbrev pub ExchangesOrEnds
    : BackingView → Body → Access → Trace → Result ℕ ℕ → Body → Trace → Try → Fills → Type 0
ExchangesOrEnds memory b access before (Ok value) new after t fills =
    (cause_of_access (opened_of b).limits t access ≡ None)
    × Exchanges memory (opened_of b) (opened_of new) t fills access value before after
ExchangesOrEnds memory b access before (Err cause) new after t fills =
    (cause_of_access (opened_of b).limits t access ≡ Some cause)
    × (new ≡ b)
    × (after ≡ before)

-- the same for every try and fills that the parts have
abbrev pub ExchangesAll
    : BackingView → Body → Access → Trace → Result ℕ ℕ → Body → Trace → Type 0
ExchangesAll memory b access before result new after =
    (t : Try) (fills : Fills) → Holds (opened_of b) t fills
    → ExchangesOrEnds memory b access before result new after t fills

-- a store, which fills nothing and has no notes
abbrev pub StoresOrEnds
    : Body → Access → Option ℕ → Body → Trace → Try → Fills → BackingView → Type 0
StoresOrEnds b access None new trace t fills memory =
    (cause_of_access (opened_of b).limits t access ≡ None)
    × Exchanges memory (opened_of b) (opened_of new) t fills access 0 trace trace
StoresOrEnds b access (Some cause) new trace t fills memory =
    (cause_of_access (opened_of b).limits t access ≡ Some cause)
    × (new ≡ b)

abbrev pub StoresAll : Body → Access → Option ℕ → Body → Type 0
StoresAll b access result new =
    (t : Try) (fills : Fills) (trace : Trace) (memory : BackingView) → Holds (opened_of b) t fills
    → StoresOrEnds b access result new trace t fills memory

-- only the lines and their signatures change
abbrev pub ChangesLines : Body → Body → Type 0
ChangesLines old new =
    new ≡ record old { cache = new.cache; read_set = new.read_set; write_set = new.write_set }

-- ---- acts

-- What an act by this plan leaves, over the fills with the line that it fills.
pub record Performs
    (memory : BackingView) (o new : OpenView) (t : Try) (fills : Fills)
    (plan : Result Planned Trap) (before after : Trace) : Type 0 where
  pub holds :
      (let n = o.limits.line_bytes in
      let filled = fills_with fills (copy_of memory) (filled_by n t plan) in
      Holds new (acted_by n (byte_of n filled) t plan) filled)
  pub notes : after
      ≡ all_noted before (corefill_notes o.core (filled_by o.limits.line_bytes t plan))

abbrev pub PerformsOrEnds
    : BackingView → Body → Result Planned Trap → Trace → Option ℕ → Body → Trace → Try → Fills
    → Type 0
PerformsOrEnds memory b plan before None new after t fills =
    (cause_by (opened_of b).limits t plan ≡ None)
    × Performs memory (opened_of b) (opened_of new) t fills plan before after
PerformsOrEnds memory b plan before (Some cause) new after t fills =
    (cause_by (opened_of b).limits t plan ≡ Some cause)
    × (new ≡ b)
    × (after ≡ before)

abbrev pub PerformsAll
    : BackingView → Body → Result Planned Trap → Trace → Option ℕ → Body → Trace → Type 0
PerformsAll memory b plan before result new after =
    (t : Try) (fills : Fills) → Holds (opened_of b) t fills
    → PerformsOrEnds memory b plan before result new after t fills

-- what every act leaves as it is
pub record Keeps (old new : Body) : Type 0 where
  pub core : new.core ≡ old.core
  pub limits : new.limits ≡ old.limits
  pub checkpoint : new.checkpoint ≡ old.checkpoint
  pub foreign : new.foreign_set ≡ old.foreign_set
  pub locked : new.locked ≡ old.locked

-- what a store leaves of a cache
pub record PutsInCache (before after : Tried) (addr bytes word : ℕ) : Type 0 where
  pub is : IsTried before
  pub cache : WritesLine before after (line_at before.line_bytes addr)
      (line_offset addr before.line_bytes) bytes word

-- a plan whose access lies in this memory
pub record PlanIn (memory : BackingView) (n : ℕ) (p : Planned) : Type 0 where
  pub fields : FieldsFit p.instr
  pub access : AccessIn memory n p.access
  pub call : is_system p.instr ≡ is_call_access p.access

-- the next call is a put, and as many bytes are held as may be
abbrev pub is_full_put : Body → Bool
is_full_put b = (value_of b.regs 17 == 1003) && (length b.held.items == b.limits.out_max)

-- What a call does: nothing where it is a put and no more bytes may be held.
pub record Calls (old new : Body) : Type 0 where
  pub fits : is_full_put old ≡ false
  pub held : new.held.items ≡ old.held.items ++ puts_of_kernel_call (kernel_served old.regs)
  pub rest : new ≡ record old {
    regs = regs_after_kernel_call old.regs;
    status = status_after_kernel_call (kernel_served old.regs);
    held = new.held;
  }

abbrev pub CallsOrEnds : Body → Option ℕ → Body → Type 0
CallsOrEnds old None new = Calls old new
CallsOrEnds old (Some cause) new = (is_full_put old ≡ true) × (cause ≡ 7) × (new ≡ old)

-- What one act more leaves, over the fills with the line that it fills.
pub record ActsOn
    (code : CodeView) (memory : BackingView) (o new : OpenView) (t : Try) (fills : Fills)
    (n : ℕ) (before after : Trace) : Type 0 where
  pub acts : new.acts ≡ suc n
  pub holds :
      (let k = o.limits.line_bytes in
      let filled = fills_with fills (copy_of memory) (next_fill code k t) in
      Holds new (try_act code k (byte_of k filled) t) filled)
  pub notes : after
      ≡ all_noted before (corefill_notes o.core (next_fill code o.limits.line_bytes t))

abbrev pub ActsOrEnds
    : CodeView → BackingView → Body → Trace → Option ℕ → Body → Trace → Try → Fills → ℕ → Type 0
ActsOrEnds code memory b before None new after t fills n =
    (end_of code (opened_of b).limits n t ≡ None)
    × ActsOn code memory (opened_of b) (opened_of new) t fills n before after
ActsOrEnds code memory b before (Some cause) new after t fills n =
    (end_of code (opened_of b).limits n t ≡ Some cause)
    × (new ≡ b)
    × (after ≡ before)

abbrev pub ActsAll
    : CodeView → BackingView → Body → Trace → Option ℕ → Body → Trace → Type 0
ActsAll code memory b before result new after =
    (t : Try) (fills : Fills) (n : ℕ) → Holds (opened_of b) t fills → b.acts ≡ n
    → ActsOrEnds code memory b before result new after t fills n

-- ---- the other states

-- every part has the size that the limits give
pub record IsSized (b : Body) : Type 0 where
  pub limits : IsLimits b.limits
  pub is : b.limits ≡ limits_in b.limits b.cache b.read_set
  pub writes : b.write_set.bits ≡ b.read_set.bits
  pub foreign : b.foreign_set.bits ≡ b.read_set.bits

abbrev pub ready_of : Body → ReadyView
ready_of b =
    record { core = b.core; limits = limits_in b.limits b.cache b.read_set; regs = b.regs }

abbrev pub ended_of : Body → EndedView
ended_of b = record { try = opened_of b; cause = b.cause }

abbrev pub flushing_of : Body → FlushingView
flushing_of b = record {
  core = b.core;
  limits = limits_in b.limits b.cache b.read_set;
  regs = b.regs;
  read_set = b.read_set;
  due = b.due;
}

-- a try that starts, with empty parts
abbrev pub begun_from : Body → Bool → Body
begun_from b locked = record b {
  checkpoint = Some b.regs;
  status = Core_is.Run;
  acts = 0;
  cache = no_try_lines b.cache.line_bytes b.cache.sets b.cache.ways;
  read_set = no_lines b.read_set.bits;
  write_set = no_lines b.write_set.bits;
  foreign_set = no_lines b.foreign_set.bits;
  locked = locked;
}
