-- What each entry makes of the world, and what lists of events come to.
use Rattle.std.specs.Prelude.{ℕ, suc, ◌==◌, ◌+◌, ◌-◌, ◌&&◌, Bool, true, false, List, [], ◌∷◌, ◌++◌, Option, Some, None, if◌then◌else◌}
use Rattle.conda_base.specs.declared.Line.{Line}
use Rattle.conda_base.specs.declared.actor.Actor.{Actor}
use Rattle.conda_base.specs.Bytes.{bytes_of_line}
use Rattle.schedule_log.specs.declared.entry.Entry.{Entry}
use Rattle.schedule_log.specs.declared.entry.Entry.TheVariants.{Step, Open, Lock, Spec, Commit, Back, Flush}
use Rattle.line_memory.specs.Tags.{Tags, no_tags}
use Rattle.line_memory.specs.Access.{after_commit, after_lock}
use Rattle.line_memory.specs.Copies.{copy_after}
use Rattle.bloom_sig.specs.Images.{member_count}
use Rattle.offload_calls.specs.State.{State, start}
use Rattle.offload_calls.specs.Calls.{is_idle}
use Rattle.offload_calls.specs.CoreActs.{core_runs}
use Rattle.run_report.specs.Runs.{executed}
use Rattle.conda_base.specs.LineLists.{line_list}
use Rattle.offload_calls.specs.LineUses.{stored_line}
use Rattle.try_runs.specs.Fills.{fills_with}
use Rattle.chip_laws.specs.Design.{Design, setup_of, hart_shape}
use Rattle.chip_laws.specs.Rules.{World, Seat, Opening, reads_of, writes_of, dirty_of, flush_line, next}
use Rattle.chip_laws.specs.Notes.{hart_use, filled_line, notes_of}
use Rattle.chip_laws.specs.Uses.{after_use, flush_after}

-- ---- memory, tags and copies

-- flat memory executes the entry alone
abbrev pub flat_after : Design → State → Entry → State
flat_after d f e = executed (setup_of d) f e

-- the bytes of a line in flat memory
abbrev pub flat_line : Design → State → Line → List ℕ
flat_line d f l = bytes_of_line d.image.code.base d.config.line_bytes f.memory l.0

-- the lines that an entry changes: the one that a step stores to, or those of a committed try
abbrev pub changed : Design → World → Entry → List Line
changed d w (Step h) = line_list (stored_line (hart_use d w h))
changed d w (Commit j n cause) = writes_of d (w.seats j).opening
changed d w other = []

abbrev pub tags_after : Design → World → Entry → Tags
tags_after d w (Step h) = after_use (hart_shape d) w.tags h (hart_use d w h)
tags_after d w (Commit j n cause) = after_commit w.tags (writes_of d (w.seats j).opening)
tags_after d w (Lock j) = after_lock w.tags
tags_after d w (Flush j) = flush_after w.tags (flush_line d w j)
tags_after d w other = w.tags

-- memory's own copy of a line, by the flat state and the tags after
abbrev pub copies_after : Design → World → State → Tags → Line → List ℕ
copies_after d w flat tags l =
    copy_after (hart_shape d) w.tags tags l (w.copies l) (flat_line d w.flat l) (flat_line d flat l)

-- ---- cores

-- an open try is told of lines that others changed
abbrev pub told : List Line → Option Opening → Option Opening
told lines None = None
told lines (Some o) = Some (record o { foreign = o.foreign ++ lines })

-- a try that opens, with these lines foreign to it
abbrev pub opening_of : World → ℕ → Bool → List Line → Opening
opening_of w j locked foreign = record {
  locked = locked;
  regs = (w.flat.cores j).regs;
  acts = 0;
  fills = λ l. [];
  foreign = foreign;
}

-- a try with one act more, which may fill a line with memory's copy
abbrev pub one_more : Design → World → Option Opening → Option Opening
one_more d w None = None
one_more d w (Some o) =
    Some (record o { acts = suc o.acts; fills = fills_with o.fills w.copies (filled_line d o) })

abbrev pub seat_opened : World → ℕ → Bool → List Line → Seat
seat_opened w j locked foreign =
    record (w.seats j) { due = 0; opening = Some (opening_of w j locked foreign) }

abbrev pub seat_committed : World → ℕ → Seat
seat_committed w j = record (w.seats j) { backs = 0; opening = None }

-- the due flushes are as many as dirty lines are members of the lines that the try read
abbrev pub seat_back : Design → World → ℕ → Seat
seat_back d w j =
    let reads = reads_of d (w.seats j).opening in
    record {
      backs = (w.seats j).backs + 1;
      last = reads;
      due = member_count d.config.sig_bits reads (dirty_of d w);
      opening = None;
    }

-- a launch of core k: it was Idle before and runs after
abbrev pub is_launched : World → State → ℕ → Bool
is_launched w flat k = is_idle (Some (w.flat.cores k).status) && core_runs (flat.cores k).status

-- what stands of core k after an entry, `flat` being the flat state after it
abbrev pub seat_after : Design → World → State → Entry → ℕ → Seat
seat_after d w flat (Step h) k =
    record (w.seats k) {
      backs = if is_launched w flat k then 0 else (w.seats k).backs;
      opening = told (changed d w (Step h)) (w.seats k).opening;
    }
seat_after d w flat (Open j) k =
    if k == j then seat_opened w j false (dirty_of d w) else w.seats k
seat_after d w flat (Lock j) k =
    if k == j then seat_opened w j true [] else w.seats k
seat_after d w flat (Spec j) k =
    if k == j then record (w.seats j) { opening = one_more d w (w.seats j).opening } else w.seats k
seat_after d w flat (Commit j n cause) k =
    if k == j then seat_committed w j
    else record (w.seats k) { opening = told (changed d w (Commit j n cause)) (w.seats k).opening }
seat_after d w flat (Back j n cause) k =
    if k == j then seat_back d w j else w.seats k
seat_after d w flat (Flush j) k =
    if k == j then record (w.seats j) { due = (w.seats j).due - 1 } else w.seats k
seat_after d w flat other k = w.seats k

-- ---- the world

-- what stands after an entry
abbrev pub took : Design → World → Entry → World
took d w e =
    let flat = flat_after d w.flat e in
    let tags = tags_after d w e in
    record {
      flat = flat;
      tags = tags;
      copies = copies_after d w flat tags;
      seats = seat_after d w flat e;
      notes = w.notes ++ notes_of d w e;
    }

-- what stands after an event
unfoldable pub happens : Design → World → Actor → World
happens d w a = took d w (next d w a)

abbrev pub start_world : Design → World
start_world d = record {
  flat = start (setup_of d);
  tags = no_tags;
  copies = flat_line d (start (setup_of d));
  seats = λ k. record { backs = 0; last = []; due = 0; opening = None };
  notes = [];
}

-- what stands after these events
unfoldable pub world_from : Design → World → List Actor → World
world_from d w [] = w
world_from d w (a ∷ events) = world_from d (happens d w a) events

abbrev pub world : Design → List Actor → World
world d events = world_from d (start_world d) events

-- the entries of these events
unfoldable pub journal_from : Design → World → List Actor → List Entry
journal_from d w [] = []
journal_from d w (a ∷ events) = next d w a ∷ journal_from d (happens d w a) events

abbrev pub journal : Design → List Actor → List Entry
journal d events = journal_from d (start_world d) events

-- the bytes that these events put out
abbrev pub output_of : Design → List Actor → List ℕ
output_of d events = (world d events).flat.output
