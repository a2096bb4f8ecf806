-- Events on the parts, by the world that these show.
use Rattle.std.proofs.Common.{◌≡◌, ◌≢◌, ◌<◌, ◌⊎◌, inl, inr, ℕ, zero, suc, Bool, true, false, List, [], ◌∷◌, ◌++◌, length, set, cond, eqb, ltb, refl, sym, ap, ◌∙◌, subst, append-nil, Option, Some, None}
use Rattle.std.specs.Prelude.{slice_get}
use Rattle.std.proofs.lemmas.Bool.{cases_eq, cond-true, lt-ltb}
use Rattle.std.proofs.lemmas.List.{length-set}
use Rattle.schedule_log.specs.declared.entry.Entry.{Entry}
use Rattle.rv32_hart.specs.declared.regs.Regs.{Regs}
use Rattle.rv32_hart.specs.Code.{CodeView}
use Rattle.line_memory.specs.Tags.{Shape, Tags}
use Rattle.line_memory.specs.Backing.{BackingView, shape_of}
use Rattle.line_memory.specs.Notes.{all_noted}
use Rattle.traffic_trace.specs.Notes.{Trace, no_notes, noted}
use Rattle.traffic_trace.specs.declared.note.Note.{Note}
use Rattle.coherent_mem.specs.Parts.{shown}
use Rattle.offload_calls.specs.declared.status.Hart.{Hart}
use Rattle.offload_calls.specs.declared.status.Core.{Core}
use Rattle.offload_calls.specs.declared.status.CoreStatus.{CoreStatus}
use Rattle.offload_calls.specs.State.{Setup, State, status_of, updated}
use Rattle.offload_calls.specs.declared.status.CoreStatus.TheVariants as Core_is
use Rattle.offload_calls.specs.CoreActs.{core_acts, core_runs}
use Rattle.offload_calls.specs.LineUses.{LineUse}
use Rattle.run_report.specs.Runs.{executed}
use Rattle.chip_laws.specs.Design.{Design, setup_of}
use Rattle.chip_laws.specs.Uses.{after_use, use_notes}
use Rattle.baseline_laws.specs.Worlds.{World}
use Rattle.hart_turns.specs.Plans.{Beside, beside}
use Rattle.hart_turns.specs.Flat.{ShowsBytes, ShowsHart, Traced, traced, LeavesUse, next_use}
use Rattle.hart_turns.proofs.FlatFacts.{slice_get-set_same, slice_get-set_other, updated-same, updated-other, statuses-set}
use Rattle.plain_chip.specs.Events.{entry_use, ShowsRegs, IsHartEvent, IsKernelEvent, IsCoreAct, cores_of}
use Rattle.plain_chip.specs.Turns.{HartHappened, KernelHappened}
use Rattle.plain_chip.specs.Views.{PlainView, runs_at}
use Rattle.plain_chip.proofs.ReportFacts.{get-at}
use Rattle.plain_chip.specs.Shows.{ShowsPlain}

-- ---- what the parts show of the flat state

pub bytes-of : (d : Design) (shape : Shape) (c : PlainView) (w : World) → ShowsPlain d shape c w
    → ShowsBytes (setup_of d) w.flat (shown c.memory)
bytes-of d shape c w s = record { base = s.base; lines = s.lines; view = s.view }

pub hart-of : (d : Design) (shape : Shape) (c : PlainView) (w : World) (h : ℕ) (hart : Hart) → ShowsPlain d shape c w
    → slice_get c.harts h ≡ Some hart → h < d.config.harts
    → ShowsHart (setup_of d) w.flat h (beside hart c.statuses)
hart-of d shape c w h hart s at below =
    record { hart = one-of hart (w.flat.harts h) (sym at ∙ s.harts h below); statuses = s.statuses }
  where
    one-of : (x y : Hart) → Some x ≡ Some y → x ≡ y
    one-of x y e = cc

-- ---- memory

noted_twice : (trace : Trace) (first second : List Note)
    → all_noted trace (first ++ second) ≡ all_noted (all_noted trace first) second
noted_twice trace [] second = refl
noted_twice trace (note ∷ first) second = noted_twice (noted trace note) first second

same-use : {c k : Shape} {t u : Tags} (h : ℕ) (x : Option LineUse) → c ≡ k → t ≡ u
    → after_use c t h x ≡ after_use k u h x
same-use h x e f = cc

same-notes : {c k : Shape} {t u : Tags} (h : ℕ) (x : Option LineUse) → c ≡ k → t ≡ u
    → use_notes c t h x ≡ use_notes k u h x
same-notes h x e f = cc

-- memory and notes after the use of a line
record MemoryNow (d : Design) (shape : Shape) (b : BackingView) (log : Trace) (v : World) : Type 0 where
  pub lines : b.line_bytes ≡ d.config.line_bytes
  pub base : b.base ≡ d.image.code.base
  pub shape_is : shape_of b ≡ shape
  pub view : b.view ≡ v.flat.memory
  pub tags : b.tags ≡ v.tags
  pub log_is : log ≡ all_noted (no_notes d.config.trace_last) v.notes

memory-now : (d : Design) (shape : Shape) (c : PlainView) (w v : World) (h : ℕ) (used : Option LineUse)
    (new : BackingView) (log : Trace) → ShowsPlain d shape c w
    → LeavesUse h used v.flat.memory (traced (shown c.memory) c.log) (traced new log)
    → v.tags ≡ after_use shape w.tags h used → v.notes ≡ w.notes ++ use_notes shape w.tags h used
    → MemoryNow d shape new log v
memory-now d shape c w v h used new log s m tags notes = record {
  lines = m.memory.numbers.line_bytes ∙ s.lines;
  base = m.memory.numbers.base ∙ s.base;
  shape_is = same-shape m.memory.numbers.holders m.memory.numbers.sets m.memory.numbers.ways ∙ s.shape_is;
  view = m.memory.view;
  tags = m.memory.tags ∙ same-use h used s.shape_is s.tags ∙ sym tags;
  log_is = m.log ∙ ap (all_noted c.log) (same-notes h used s.shape_is s.tags)
      ∙ ap (λ t. all_noted t (use_notes shape w.tags h used)) s.log
      ∙ sym (noted_twice (no_notes d.config.trace_last) w.notes (use_notes shape w.tags h used))
      ∙ ap (all_noted (no_notes d.config.trace_last)) (sym notes);
}
  where
    same-shape : {a b e f g i : ℕ} → a ≡ b → e ≡ f → g ≡ i
        → ◌≡◌ {A = Shape} (record { holders = a; sets = e; ways = g }) (record { holders = b; sets = f; ways = i })
    same-shape x y z = cc

-- ---- an event of a hart

pub hart-shows : (d : Design) (shape : Shape) (w v : World) (h : ℕ) (held : Bool) (c new : PlainView) (hart : Hart)
    (e : Entry) (puts : List ℕ)
    → v.flat ≡ executed (setup_of d) w.flat e → v.tags ≡ after_use shape w.tags h (entry_use (setup_of d) w.flat e)
    → v.notes ≡ w.notes ++ use_notes shape w.tags h (entry_use (setup_of d) w.flat e)
    → h < d.config.harts → new.config ≡ c.config → new.code ≡ c.code → new.harts ≡ set c.harts h hart
    → ShowsPlain d shape c w
    → IsHartEvent (setup_of d) w.flat h held (traced (shown c.memory) c.log) (traced (shown new.memory) new.log)
    (beside hart new.statuses) new.regs e puts
    → ShowsPlain d shape new v
hart-shows d shape w v h held c new hart e puts flat tags notes below config code harts s t = record {
  config = config ∙ s.config;
  code = code ∙ s.code;
  lines = m.lines;
  base = m.base;
  shape_is = m.shape_is;
  view = m.view;
  tags = m.tags;
  log = m.log_is;
  many = ap length harts ∙ length-set c.harts h hart ∙ s.many;
  harts = λ k u. ap (λ xs. slice_get xs k) harts ∙ go k u (cases_eq k h);
  statuses = λ k. t.statuses k ∙ ap (λ (g : State). status_of d.config.cores g.cores k) (sym flat);
  regs = λ j u. t.regs_are j u ∙ ap (λ (g : State). Some (g.cores j).regs) (sym flat);
}
  where
    m : MemoryNow d shape (shown new.memory) new.log v
    m = memory-now d shape c w v h (entry_use (setup_of d) w.flat e) (shown new.memory) new.log s
        (subst (λ (g : State). LeavesUse h (entry_use (setup_of d) w.flat e) g.memory (traced (shown c.memory) c.log)
        (traced (shown new.memory) new.log)) (sym flat) t.memory) tags notes

    go : (k : ℕ) → k < d.config.harts → ((k ≡ h) ⊎ (k ≡ h → ⊥))
        → slice_get (set c.harts h hart) k ≡ Some (v.flat.harts k)
    go k u (inl same) = subst (λ i. slice_get (set c.harts h hart) i ≡ Some (v.flat.harts i)) (sym same)
        (slice_get-set_same c.harts h hart (w.flat.harts h) (s.harts h below) ∙ ap Some t.hart
        ∙ ap (λ (g : State). Some (g.harts h)) (sym flat))
    go k u (inr ne) = slice_get-set_other c.harts h k hart ne ∙ s.harts k u ∙ ap Some (sym (t.others k ne))
        ∙ ap (λ (g : State). Some (g.harts k)) (sym flat)

-- ---- an act of a kernel

pub kernel-shows : (d : Design) (shape : Shape) (w v : World) (j holder : ℕ) (c new : PlainView) (left : Core)
    (puts : List ℕ)
    → v.flat ≡ core_acts (setup_of d) w.flat j 1
    → v.tags ≡ after_use shape w.tags holder (next_use (setup_of d) (w.flat.cores j).regs)
    → v.notes ≡ w.notes ++ use_notes shape w.tags holder (next_use (setup_of d) (w.flat.cores j).regs)
    → j < d.config.cores → new.config ≡ c.config → new.code ≡ c.code → new.harts ≡ c.harts
    → new.statuses ≡ set c.statuses j left.status → new.regs ≡ set c.regs j left.regs → ShowsPlain d shape c w
    → IsKernelEvent (setup_of d) w.flat j holder (traced (shown c.memory) c.log) (traced (shown new.memory) new.log)
    left puts
    → ShowsPlain d shape new v
kernel-shows d shape w v j holder c new left puts flat tags notes below config code harts stats regs s t = record {
  config = config ∙ s.config;
  code = code ∙ s.code;
  lines = m.lines;
  base = m.base;
  shape_is = m.shape_is;
  view = m.view;
  tags = m.tags;
  log = m.log_is;
  many = ap length harts ∙ s.many;
  harts = λ k u. ap (λ xs. slice_get xs k) harts ∙ s.harts k u
      ∙ ap (λ (f : ℕ → Hart). Some (f k)) (sym (ap (λ (g : State). g.harts) flat ∙ t.state.harts));
  statuses = λ k. ap (λ xs. slice_get xs k) stats
      ∙ statuses-set d.config.cores w.flat.cores c.statuses j left below s.statuses k
      ∙ ap (λ f. status_of d.config.cores f k) (sym cores);
  regs = λ k u. ap (λ xs. slice_get xs k) regs ∙ go k u (cases_eq k j)
      ∙ ap (λ (f : ℕ → Core). Some (f k).regs) (sym cores);
}
  where
    cores : v.flat.cores ≡ updated w.flat.cores j left
    cores = ap (λ (g : State). g.cores) flat ∙ t.state.core

    m : MemoryNow d shape (shown new.memory) new.log v
    m = memory-now d shape c w v holder (next_use (setup_of d) (w.flat.cores j).regs) (shown new.memory) new.log s
        (subst (λ (g : State). LeavesUse holder (next_use (setup_of d) (w.flat.cores j).regs) g.memory
        (traced (shown c.memory) c.log) (traced (shown new.memory) new.log)) (sym flat) t.memory) tags notes

    go : (k : ℕ) → k < d.config.cores → ((k ≡ j) ⊎ (k ≡ j → ⊥))
        → slice_get (set c.regs j left.regs) k ≡ Some (updated w.flat.cores j left k).regs
    go k u (inl same) = subst (λ i. slice_get (set c.regs j left.regs) i ≡ Some (updated w.flat.cores j left i).regs)
        (sym same)
        (slice_get-set_same c.regs j left.regs (w.flat.cores j).regs (s.regs j below)
        ∙ ap (λ (x : Core). Some x.regs) (sym (updated-same w.flat.cores j left)))
    go k u (inr ne) = slice_get-set_other c.regs j k left.regs ne ∙ s.regs k u
        ∙ ap (λ (x : Core). Some x.regs) (sym (updated-other w.flat.cores j k left ne))

-- ---- nothing happens

pub still-shows : (d : Design) (shape : Shape) (w v : World) (c : PlainView) → v.flat ≡ w.flat → v.tags ≡ w.tags
    → v.notes ≡ w.notes
    → ShowsPlain d shape c w → ShowsPlain d shape c v
still-shows d shape w v c flat tags notes s = record {
  config = s.config;
  code = s.code;
  lines = s.lines;
  base = s.base;
  shape_is = s.shape_is;
  view = s.view ∙ ap (λ (g : State). g.memory) (sym flat);
  tags = s.tags ∙ sym tags;
  log = s.log ∙ ap (all_noted (no_notes d.config.trace_last)) (sym notes);
  many = s.many;
  harts = λ h u. s.harts h u ∙ ap (λ (g : State). Some (g.harts h)) (sym flat);
  statuses = λ k. s.statuses k ∙ ap (λ (g : State). status_of d.config.cores g.cores k) (sym flat);
  regs = λ j u. s.regs j u ∙ ap (λ (g : State). Some (g.cores j).regs) (sym flat);
}

-- ---- on all parts

pub hart-happened : (d : Design) (shape : Shape) (w : World) (h : ℕ) (held : Bool) (c new : PlainView) (hart : Hart)
    (e : Entry) (puts : List ℕ)
    → h < d.config.harts → new.config ≡ c.config → new.code ≡ c.code → new.harts ≡ set c.harts h hart
    → ShowsPlain d shape c w
    → IsHartEvent (setup_of d) w.flat h held (traced (shown c.memory) c.log) (traced (shown new.memory) new.log)
    (beside hart new.statuses) new.regs e puts
    → HartHappened d shape w h held new e puts
hart-happened d shape w h held c new hart e puts below config code harts s t = record {
  entry_is = t.entry_is;
  shows = λ v u. hart-shows d shape w v h held c new hart e puts u.flat_is u.tags_are u.notes_are below config code harts s
      t;
  output = t.output;
}

-- the parts that no kernel touches are the same
pub record IsSameBut (c new : PlainView) : Type 0 where
  pub config : new.config ≡ c.config
  pub code : new.code ≡ c.code
  pub harts : new.harts ≡ c.harts

pub same-but : (c new : PlainView) → new.config ≡ c.config → new.code ≡ c.code → new.harts ≡ c.harts → IsSameBut c new
same-but c new a b e = record { config = a; code = b; harts = e }

pub kernel-happened : (d : Design) (shape : Shape) (w : World) (j holder : ℕ) (c new : PlainView) (puts : List ℕ)
    → j < d.config.cores → IsSameBut c new → ShowsPlain d shape c w
    → IsCoreAct (setup_of d) w.flat j holder (traced (shown c.memory) c.log) (traced (shown new.memory) new.log)
    (cores_of c.statuses c.regs) (cores_of new.statuses new.regs) puts
    → KernelHappened d shape w j holder new puts
kernel-happened d shape w j holder c new puts below same s act = record {
  shows = λ v u. kernel-shows d shape w v j holder c new act.left puts u.flat_is u.tags_are u.notes_are below same.config
      same.code same.harts act.statuses act.regs s act.event;
  output = act.event.state.output;
}

-- the status of a core that there is
pub status-there : (d : Design) (shape : Shape) (w : World) (c : PlainView) (j : ℕ) → ShowsPlain d shape c w
    → j < d.config.cores → slice_get c.statuses j ≡ Some (w.flat.cores j).status
status-there d shape w c j s below = s.statuses j ∙ cond-true (ltb j d.config.cores) _ _ (lt-ltb j d.config.cores below)

-- whether it runs a kernel
pub runs-there : (d : Design) (shape : Shape) (w : World) (c : PlainView) (j : ℕ) → ShowsPlain d shape c w
    → j < d.config.cores → runs_at c.statuses j ≡ core_runs (w.flat.cores j).status
runs-there d shape w c j s below =
    ap core_runs (get-at c.statuses j (w.flat.cores j).status Core_is.Idle (status-there d shape w c j s below))
