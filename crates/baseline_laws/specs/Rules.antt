-- The rules of the two baselines.
use Rattle.std.specs.Prelude.{ℕ, ◌+◌, ◌==◌, not, Bool, true, false, List, [], ◌∷◌, ◌++◌, is_some, Option, Some, None, if◌then◌else◌}
use Rattle.conda_base.specs.declared.Line.{Line}
use Rattle.conda_base.specs.declared.actor.Actor.{Actor}
use Rattle.conda_base.specs.declared.actor.Actor.TheVariants as Actor_is
use Rattle.schedule_log.specs.declared.entry.Entry.{Entry}
use Rattle.schedule_log.specs.declared.entry.Entry.TheVariants.{Step, Waits, Idle, Held, Lock, Kern}
use Rattle.rv32_hart.specs.Act.{plan_of}
use Rattle.rv32_hart.specs.declared.act.Access.{Access}
use Rattle.rv32_hart.specs.declared.act.Access.TheVariants as Access_is
use Rattle.rv32_hart.specs.declared.regs.Regs.{Regs}
use Rattle.traffic_trace.specs.declared.note.Kind.TheVariants.{CoreFill}
use Rattle.traffic_trace.specs.declared.note.Note.{Note}
use Rattle.line_memory.specs.Tags.{Tags, Shape, dirty_lines}
use Rattle.line_memory.specs.Access.{after_merge, after_lock}
use Rattle.line_memory.specs.Notes.{note_of, flushes_notes, merge_notes}
use Rattle.offload_calls.specs.State.{Setup, State, status_of}
use Rattle.offload_calls.specs.HartAct.{hart_runs, waits_next}
use Rattle.offload_calls.specs.CoreActs.{core_runs, core_acts}
use Rattle.offload_calls.specs.Effects.{Span, loads_of, span_of_access}
use Rattle.offload_calls.specs.LineUses.{LineUse, line_use, used_line, stored_line}
use Rattle.conda_base.specs.LineLists.{line_at}
use Rattle.chip_laws.specs.Design.{Design, setup_of, hart_shape}
use Rattle.chip_laws.specs.Uses.{after_use, use_notes}
use Rattle.baseline_laws.specs.Worlds.{World, Rules}

-- ---- what both have

-- the line that the next act of registers uses
abbrev pub use_of : Design → Regs → Option LineUse
use_of d r = line_use d.config.line_bytes (plan_of d.image.code r)

-- the entry of an event of hart h, which may be held
abbrev pub hart_entry : Setup → State → ℕ → Bool → Entry
hart_entry s f h held =
    if not (hart_runs (f.harts h).status) then Idle (Actor_is.Hart h)
    else if held then Held (Actor_is.Hart h)
    else if waits_next s.code (status_of s.cores f.cores) (f.harts h).regs then Waits h
    else Step h

-- ---- fine-grained: kernels act on the shared memory, each core with a cache as harts have

-- the caches of harts, and then of cores
abbrev pub fine_shape : Design → Shape
fine_shape d = record {
  holders = d.config.harts + d.config.cores;
  sets = d.config.hart_sets;
  ways = d.config.hart_ways;
}

-- the number of a core as a holder
abbrev pub holder_of : Design → ℕ → ℕ
holder_of d j = d.config.harts + j

unfoldable pub fine_next : Design → World → Actor → Entry
fine_next d w (Actor_is.Hart h) = hart_entry (setup_of d) w.flat h false
fine_next d w (Actor_is.Core j) =
    if not (core_runs (w.flat.cores j).status) then Idle (Actor_is.Core j)
    else Kern j

unfoldable pub fine_tags : Design → World → Entry → Tags
fine_tags d w (Step h) = after_use (fine_shape d) w.tags h (use_of d (w.flat.harts h).regs)
fine_tags d w (Kern j) =
    after_use (fine_shape d) w.tags (holder_of d j) (use_of d (w.flat.cores j).regs)
fine_tags d w other = w.tags

unfoldable pub fine_notes : Design → World → Entry → List Note
fine_notes d w (Step h) = use_notes (fine_shape d) w.tags h (use_of d (w.flat.harts h).regs)
fine_notes d w (Kern j) =
    use_notes (fine_shape d) w.tags (holder_of d j) (use_of d (w.flat.cores j).regs)
fine_notes d w other = []

abbrev pub fine_rules : Design → Rules
fine_rules d = record {
  setup = setup_of d;
  next = fine_next d;
  tags = fine_tags d;
  begun = λ w e. None;
  notes = fine_notes d;
}

-- ---- coarse-grained: a kernel that is begun holds all others, and acts on memory itself

-- the kernel of another core is begun
abbrev pub is_anothers : Option ℕ → ℕ → Bool
is_anothers None j = false
is_anothers (Some k) j = not (k == j)

unfoldable pub coarse_next : Design → World → Actor → Entry
coarse_next d w (Actor_is.Hart h) = hart_entry (setup_of d) w.flat h (is_some w.begun)
coarse_next d w (Actor_is.Core j) =
    if not (core_runs (w.flat.cores j).status) then Idle (Actor_is.Core j)
    else if is_anothers w.begun j then Held (Actor_is.Core j)
    else if is_some w.begun then Kern j
    else Lock j

-- the line that an access loads from; an atomic loads before it stores
abbrev pub loaded_from : ℕ → Option Span → Option Line
loaded_from line_bytes None = None
loaded_from line_bytes (Some span) = Some (line_at line_bytes span.addr)

-- the lines that a kernel's next act loads from and stores to
abbrev pub kernel_loads : Design → Regs → Option Line
kernel_loads d r = loaded_from d.config.line_bytes (loads_of (plan_of d.image.code r))

abbrev pub kernel_stores : Design → Regs → Option Line
kernel_stores d r = stored_line (use_of d r)

-- nobody has a line that was merged
abbrev pub merged_tags : Tags → Option Line → Tags
merged_tags tags None = tags
merged_tags tags (Some l) = after_merge tags l

abbrev pub load_note : ℕ → Option Line → List Note
load_note j None = []
load_note j (Some l) = note_of CoreFill j l ∷ []

abbrev pub merge_note : Shape → Tags → ℕ → Option Line → List Note
merge_note shape tags j None = []
merge_note shape tags j (Some l) = merge_notes shape tags j l

unfoldable pub coarse_tags : Design → World → Entry → Tags
coarse_tags d w (Step h) = after_use (hart_shape d) w.tags h (use_of d (w.flat.harts h).regs)
coarse_tags d w (Lock j) = after_lock w.tags
coarse_tags d w (Kern j) = merged_tags w.tags (kernel_stores d (w.flat.cores j).regs)
coarse_tags d w other = w.tags

-- a load is a fill of the core, and a store drops the line from all holders and is then merged
unfoldable pub coarse_notes : Design → World → Entry → List Note
coarse_notes d w (Step h) = use_notes (hart_shape d) w.tags h (use_of d (w.flat.harts h).regs)
coarse_notes d w (Lock j) = flushes_notes (hart_shape d) w.tags (dirty_lines (hart_shape d) w.tags)
coarse_notes d w (Kern j) =
    load_note j (kernel_loads d (w.flat.cores j).regs)
    ++ merge_note (hart_shape d) w.tags j (kernel_stores d (w.flat.cores j).regs)
coarse_notes d w other = []

-- A kernel is begun from its Lock until it is done or trapped.
unfoldable pub coarse_begun : Design → World → Entry → Option ℕ
coarse_begun d w (Lock j) = Some j
coarse_begun d w (Kern j) =
    if core_runs ((core_acts (setup_of d) w.flat j 1).cores j).status then w.begun else None
coarse_begun d w other = w.begun

abbrev pub coarse_rules : Design → Rules
coarse_rules d = record {
  setup = setup_of d;
  next = coarse_next d;
  tags = coarse_tags d;
  begun = coarse_begun d;
  notes = coarse_notes d;
}
