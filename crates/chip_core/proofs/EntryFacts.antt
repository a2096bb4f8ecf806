-- A commit and a rollback as entries.
use Rattle.std.proofs.Common.{◌≡◌, ℕ, List, length, sym, ap, subst, ◌∙◌, Some}
use Rattle.conda_base.specs.declared.Line.{Line}
use Rattle.bloom_sig.specs.Images.{IsSignatureOf, member_count}
use Rattle.line_memory.specs.Tags.{Tags, Shape, dirty_lines}
use Rattle.line_memory.specs.Access.{after_commit}
use Rattle.line_memory.specs.Backing.{BackingView, IsInRange, dirty_in, view_of, copy_of}
use Rattle.line_memory.specs.Copies.{copy_after}
use Rattle.line_memory.specs.Notes.{all_noted, commit_notes}
use Rattle.conda_base.specs.Bytes.{bytes_of_line}
use Rattle.schedule_log.specs.declared.entry.Entry.TheVariants.{Commit}
use Rattle.offload_calls.specs.State.{Setup, State}
use Rattle.offload_calls.specs.CoreActs.{core_acts}
use Rattle.try_runs.specs.declared.limits.Limits.{Limits}
use Rattle.try_runs.specs.Fills.{try_run}
use Rattle.try_runs.specs.Tries.{Try, writes}
use Rattle.try_runs.specs.Serial.{AreFresh, after_try, try_in}
use Rattle.try_runs.proofs.Serial.{serial}
use Rattle.chip_laws.specs.Design.{Design, setup_of, hart_shape}
use Rattle.chip_laws.specs.Rules.{World, Opening, try_of, reads_of, writes_of, dirty_of}
use Rattle.chip_laws.specs.Worlds.{flat_after, flat_line}
use Rattle.chip_laws.specs.Fresh.{IsFresh}
use Rattle.chip_laws.specs.Notes.{notes_of}
use Rattle.portion_ctl.specs.declared.portion.Kept.{Kept}
use Rattle.portion_ctl.specs.Views.{ReadyView, EndedView}
use Rattle.conflict_resolve.specs.Commits.{Change, Commits, state_kept}
use Rattle.chip_core.specs.Entries.{ShowsWorld, StandsInSeat, CommitsAreEntries, BacksAreEntries}
use Rattle.conflict_resolve.proofs.CommitFacts.{same-state}

-- the lines of the seat's try
lines-of-seat : (d : Design) (w : World) (j : ℕ) (o : Opening) (b : BackingView) → (w.seats j).opening ≡ Some o → b.line_bytes ≡ d.config.line_bytes
    → writes b.line_bytes (try_of d o) ≡ writes_of d (w.seats j).opening
lines-of-seat d w j o b seat lines = ap (λ n. writes n (try_of d o)) lines ∙ ap (writes_of d) (sym seat)

flat-of : (d : Design) (w : World) (j : ℕ) (o : Opening) (c : EndedView) (kept : Kept) (m : Change) → ShowsWorld d w m.old
    → IsFresh d w j o → Commits m c (try_of d o) kept → core_acts (setup_of d) w.flat j o.acts ≡ state_kept w.flat j kept m.new
flat-of d w j o c kept m shows fresh done =
    let s : Setup = setup_of d in
    let same : try_in s w.flat j o.fills o.acts ≡ try_of d o = ap (λ r. try_run d.image.code d.config.line_bytes r o.fills o.acts) fresh.regs in
    let long : length w.flat.memory ≡ length s.code.bytes = sym (ap length shows.view) ∙ shows.bytes in
    let law = serial s w.flat j o.acts o.fills shows.setup long fresh.runs (subst (λ (u : Try). AreFresh s w.flat o.fills u.reads) (sym same) fresh.lines) in
    law.state ∙ ap (after_try s w.flat j) same
    ∙ same-state m c (try_of d o) s w.flat j kept
    (record { setup = shows.setup; lines = sym shows.lines; base = sym shows.base; bytes = sym shows.bytes; memory = sym shows.view; runs = fresh.runs })
    done

-- a line of the view is that of flat memory
line-of-view : (d : Design) (b : BackingView) (view : List ℕ) (l : Line) → b.line_bytes ≡ d.config.line_bytes → b.base ≡ d.image.code.base
    → bytes_of_line b.base b.line_bytes view l.0 ≡ bytes_of_line d.image.code.base d.config.line_bytes view l.0
line-of-view d b view l lines base = ap (λ x. bytes_of_line x b.line_bytes view l.0) base ∙ ap (λ n. bytes_of_line d.image.code.base n view l.0) lines

module _ (d : Design) (w : World) (j : ℕ) (o : Opening) (c : EndedView) (kept : Kept) (m : Change)
    (shows : ShowsWorld d w m.old) (stands : StandsInSeat d w j o c) (fresh : IsFresh d w j o) (done : Commits m c (try_of d o) kept) where
  commit_flat : flat_after d w.flat (Commit j o.acts c.cause) ≡ state_kept w.flat j kept m.new
  commit_flat = flat-of d w j o c kept m shows fresh done

  lines : writes m.old.line_bytes (try_of d o) ≡ writes_of d (w.seats j).opening
  lines = lines-of-seat d w j o m.old stands.seat shows.lines

  pub commit_tags : m.new.tags ≡ after_commit w.tags (writes_of d (w.seats j).opening)
  commit_tags =
      done.tags ∙ ap (λ (ts : Tags). after_commit ts (writes m.old.line_bytes (try_of d o))) shows.tags
      ∙ ap (after_commit w.tags) lines

  -- the views of a line are those of flat memory, before and after
  before_line : (l : Line) → view_of m.old l ≡ flat_line d w.flat l
  before_line l =
      line-of-view d m.old m.old.view l shows.lines shows.base
      ∙ ap (λ xs. bytes_of_line d.image.code.base d.config.line_bytes xs l.0) shows.view

  after_line : (l : Line) → view_of m.new l ≡ flat_line d (flat_after d w.flat (Commit j o.acts c.cause)) l
  after_line l =
      line-of-view d m.new m.new.view l (done.numbers.line_bytes ∙ shows.lines) (done.numbers.base ∙ shows.base)
      ∙ ap (λ (f : State). flat_line d f l) (sym commit_flat)

  commit_copies : (l : Line) → IsInRange m.old l
      → copy_of m.new l
      ≡ copy_after (hart_shape d) w.tags (after_commit w.tags (writes_of d (w.seats j).opening)) l
      (w.copies l) (flat_line d w.flat l) (flat_line d (flat_after d w.flat (Commit j o.acts c.cause)) l)
  commit_copies l range =
      done.copies l range
      ∙ ap (λ (s : Shape). copy_after s m.old.tags m.new.tags l (copy_of m.old l) (view_of m.old l) (view_of m.new l)) shows.shape
      ∙ ap (λ (ts : Tags). copy_after (hart_shape d) ts m.new.tags l (copy_of m.old l) (view_of m.old l) (view_of m.new l)) shows.tags
      ∙ ap (λ (ts : Tags). copy_after (hart_shape d) w.tags ts l (copy_of m.old l) (view_of m.old l) (view_of m.new l)) commit_tags
      ∙ ap (λ xs. copy_after (hart_shape d) w.tags tags l xs (view_of m.old l) (view_of m.new l)) (shows.copies l range)
      ∙ ap (λ xs. copy_after (hart_shape d) w.tags tags l (w.copies l) xs (view_of m.new l)) (before_line l)
      ∙ ap (λ xs. copy_after (hart_shape d) w.tags tags l (w.copies l) (flat_line d w.flat l) xs) (after_line l)
    where
      tags : Tags
      tags = after_commit w.tags (writes_of d (w.seats j).opening)

pub commits_are_entries : CommitsAreEntries
unfolding notes_of
commits_are_entries d w j o c kept m shows stands fresh done is =
    let lines : writes m.old.line_bytes (try_of d o) ≡ writes_of d (w.seats j).opening = lines-of-seat d w j o m.old stands.seat shows.lines in
    record {
      flat = flat-of d w j o c kept m shows fresh done;
      tags = commit_tags d w j o c kept m shows stands fresh done;
      copies = commit_copies d w j o c kept m shows stands fresh done;
      notes =
          done.notes
          ∙ ap (λ (x : Shape). all_noted m.before (commit_notes x m.old.tags c.try.core (writes m.old.line_bytes (try_of d o)))) shows.shape
          ∙ ap (λ (ts : Tags). all_noted m.before (commit_notes (hart_shape d) ts c.try.core (writes m.old.line_bytes (try_of d o)))) shows.tags
          ∙ ap (λ k. all_noted m.before (commit_notes (hart_shape d) w.tags k (writes m.old.line_bytes (try_of d o)))) stands.core
          ∙ ap (λ ls. all_noted m.before (commit_notes (hart_shape d) w.tags j ls)) lines;
      core = ap (λ (x : ReadyView). x.core) is.ready ∙ stands.core;
      limits = ap (λ (x : ReadyView). x.limits) is.ready ∙ stands.limits;
      acts = is.n ∙ stands.stands.acts;
    }

dirty-shown : (d : Design) (w : World) (b : BackingView) → ShowsWorld d w b → dirty_in b ≡ dirty_of d w
dirty-shown d w b shows = ap (λ (x : Shape). dirty_lines x b.tags) shows.shape ∙ ap (λ (ts : Tags). dirty_lines (hart_shape d) ts) shows.tags

pub backs_are_entries : BacksAreEntries
backs_are_entries d w j o c b undone shows stands done =
    let reads : (try_of d o).reads ≡ reads_of d (w.seats j).opening = ap (reads_of d) (sym stands.seat) in
    record {
      core = done.core ∙ stands.core;
      limits = done.limits ∙ stands.limits;
      regs = done.regs;
      reads = subst (λ ls. IsSignatureOf undone.flushing.read_set ls) reads done.reads;
      due =
          done.due
          ∙ ap (λ (x : Limits). member_count x.sig_bits (try_of d o).reads (dirty_in b)) stands.limits
          ∙ ap (λ ls. member_count d.config.sig_bits ls (dirty_in b)) reads
          ∙ ap (member_count d.config.sig_bits (reads_of d (w.seats j).opening)) (dirty-shown d w b shows);
      acts = done.acts;
    }
