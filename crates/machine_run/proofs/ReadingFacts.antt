-- A schedule is read, piece by piece.
use Rattle.std.proofs.Common.{◌≡◌, ℕ, ◌+◌, ◌-◌, ◌≤◌, ◌<◌, min, Bool, true, false, List, [], ◌++◌, take, length, IsTrue, Result, Ok, Err, refl, sym, ap, ◌∙◌, subst, arith, append-nil, length-append}
use Rattle.std.specs.Prelude.{Option, Some, None, unwrap_or, nat_lt}
use Rattle.std.proofs.Math.Seq.{take-append-add}
use Rattle.std.proofs.lemmas.Bool.{ltb-true, ltb-false}
use Rattle.std.proofs.lemmas.Bool.Decides.{nat_tests}
use Rattle.std.proofs.lemmas.List.{take-append-le, length-take}
use Rattle.std.proofs.lemmas.Grind.{common_steps}
use Rattle.conda_host.specs.declared.outside.Role.{Role}
use Rattle.schedule_log.specs.Findings.{Finding, Progress, at_start, finds, left_over}
use Rattle.schedule_log.specs.Verdict.{most_bytes, is_too_long, good, good_after, verdict_after, verdict_at_end, schedule_verdict}
use Rattle.schedule_log.proofs.WalkLemmas.{shows_nothing}
use Rattle.chip_laws.specs.Design.{Design}
use Rattle.streams.specs.declared.fault.Fault.{Fault}
use Rattle.streams.specs.Seen.{Seen, ShowsText, IsLeft, Takes}
use Rattle.machine_run.specs.declared.ending.Ending.{Ending}
use Rattle.machine_run.specs.declared.ending.Ending.TheVariants as Ending_is
use Rattle.machine_run.specs.declared.machine.Machine.{Ghosts}
use Rattle.machine_run.specs.declared.run.Run.{Run}
use Rattle.machine_run.specs.Going.{Point, point, CanGoOn, IsAt, IsGoing, IsEnded, IsBroken, GoesOn, Breaks}
use Rattle.machine_run.specs.Running.{IsRun}
use Rattle.machine_run.specs.Turning.{IsCut, IsMidway, RunsPiece, RunsWithin, RunsLast, RunsSchedule, RoundsOn}
use Rattle.machine_run.proofs.GoingFacts.{going_same, going_too_long}

-- ---- a piece within the limit

-- so much of a piece and all that follows
pub take_over : (room taken : ℕ) (piece rest : List ℕ) → taken ≡ min (length piece) room → take room (piece ++ rest) ≡ take taken piece ++ take (room - length piece) rest
take_over room taken piece rest is = go (nat_lt room (length piece)) refl
  where
    less : room < length piece → take room (piece ++ rest) ≡ take taken piece ++ take (room - length piece) rest
    less h =
        let e : taken ≡ room = omega arith in
        let z : room - length piece ≡ 0 = omega arith in
        rw (e, z) (take-append-le room piece rest (omega arith) ∙ sym (append-nil (take room piece)))

    more : length piece ≤ room → take room (piece ++ rest) ≡ take taken piece ++ take (room - length piece) rest
    more h =
        let e : taken ≡ length piece = omega arith in
        let all : length piece + (room - length piece) ≡ room = omega arith in
        let whole : take (length piece) piece ≡ piece = grind (arith, common_steps) in
        ap (λ m. take m (piece ++ rest)) (sym all) ∙ take-append-add piece rest (room - length piece)
        ∙ ap (λ x. x ++ take (room - length piece) rest) (sym whole ∙ ap (λ m. take m piece) (sym e))

    go : (b : Bool) → nat_lt room (length piece) ≡ b → take room (piece ++ rest) ≡ take taken piece ++ take (room - length piece) rest
    go true e = less (ltb-true room (length piece) e)
    go false e = more (ltb-false room (length piece) e)

-- what is ahead in a piece that is cut
cut_going : {A : Type 0} {m : Ghosts A} {d : Design} {bytes : List ℕ} {p : Point A} {piece rest : List ℕ} {room : ℕ} (taken : ℕ) → taken ≡ min (length piece) room → IsCut m d bytes p piece rest room
    → IsAt m d bytes p (is_too_long bytes) (take taken piece ++ take (room - length piece) rest)
cut_going {m = m} {d = d} {bytes = bytes} {p = p} {piece = piece} {rest = rest} {room = room} taken is cut =
    going_same m d bytes p.streams p.run _ _ (ap (finds (is_too_long bytes) p.reader) (take_over room taken piece rest is)) cut.going

pub within_failed : {A : Type 0} {m : Ghosts A} {p : Point A} {v : Seen} {piece : List ℕ} {room : ℕ} (taken : ℕ) → taken ≡ min (length piece) room → Breaks m p v (take taken piece)
    → (d : Design) (bytes rest : List ℕ) → IsCut m d bytes p piece rest room → IsBroken m d bytes v
within_failed {piece = piece} {room = room} taken is broken d bytes rest cut = broken.broken d bytes (take (room - length piece) rest) (is_too_long bytes) (cut_going taken is cut)

-- a piece that wasn't taken whole
pub within_cut : {A : Type 0} (m : Ghosts A) (p q : Point A) (piece : List ℕ) (room taken : ℕ) (stop : Option Ending) → taken ≡ min (length piece) room → taken < length piece
    → RunsPiece m p q (take taken piece) (Ok stop) → (d : Design) (bytes rest : List ℕ) → IsCut m d bytes p piece rest room → IsEnded m d bytes q.streams q.run (unwrap_or stop Ending_is.TooManyBytes)
within_cut m p q piece room taken (Some ending) is over runs d bytes rest cut = runs.ended d bytes (take (room - length piece) rest) (is_too_long bytes) (cut_going taken is cut)
within_cut m p q piece room taken None is over runs d bytes rest cut =
    going_too_long m d bytes q.streams q.run _ nothing long (runs.going d bytes (take (room - length piece) rest) (is_too_long bytes) (cut_going taken is cut))
  where
    long : is_too_long bytes ≡ true
    long = let more : most_bytes < length bytes = omega (arith, cut.size, is, over) in grind (arith, nat_tests, more)

    none : (k : ℕ) → k ≡ 0 → take k rest ≡ []
    none k e = grind (arith, common_steps)

    nothing : finds (is_too_long bytes) q.reader (take (room - length piece) rest) ≡ []
    nothing = ap (λ b. finds b q.reader (take (room - length piece) rest)) long ∙ ap (finds true q.reader) (none (room - length piece) (omega (arith, is, over))) ∙ shows_nothing q.reader runs.can.good_lines runs.can.begun

whole : (piece : List ℕ) (taken : ℕ) → length piece ≤ taken → take taken piece ≡ piece
whole piece taken h = grind (arith, common_steps)

-- and one that was
pub within_whole : {A : Type 0} (m : Ghosts A) (p q : Point A) (piece : List ℕ) (room taken : ℕ) (stop : Option Ending) → taken ≡ min (length piece) room → length piece ≤ taken
    → RunsPiece m p q (take taken piece) (Ok stop) → RunsWithin m p q piece room (Ok stop)
within_whole m p q piece room taken None is all runs = (omega (arith, is, all), subst (λ x. GoesOn m p q x []) (whole piece taken all) runs)
within_whole m p q piece room taken (Some ending) is all runs = λ d bytes rest cut. runs.ended d bytes (take (room - length piece) rest) (is_too_long bytes) (cut_going taken is cut)

-- ---- a piece that was read

text_reads : {v w : Seen} {role : Role} {text : List ℕ} → w ≡ record v { left = w.left } → ShowsText v role text → ShowsText w role text
text_reads {v = v} {w = w} {role = role} {text = text} rest h =
    let same : ShowsText (record v { left = w.left }) role text = record { same = h.same } in
    subst (λ x. ShowsText x role text) (sym rest) same

pub going_reads : {A : Type 0} {m : Ghosts A} {d : Design} {bytes : List ℕ} {v w : Seen} {run : Run A} {ahead : List Finding} → w ≡ record v { left = w.left }
    → IsGoing m d bytes v run ahead → IsGoing m d bytes w run ahead
going_reads rest g = record {
  events = g.events;
  run_is = record {
    stands = g.run_is.stands;
    order = text_reads rest g.run_is.order;
    output = text_reads rest g.run_is.output;
    count = g.run_is.count;
    bytes = g.run_is.bytes;
  };
  events_are = g.events_are;
  verdict_is = g.verdict_is;
}

pub read_cut : {A : Type 0} (m : Ghosts A) (v w : Seen) (run : Run A) (reader : Progress) (room n : ℕ) (before after : List ℕ) → Takes v w before after n
    → (d : Design) (bytes : List ℕ) → IsMidway m d bytes (point run v reader) room → IsCut m d bytes (point run w reader) (take n after) w.left room
read_cut m v w run reader room n before after t d bytes mid =
    let left : v.left ≡ take n after ++ w.left = t.bytes mid.told in
    record {
      size = mid.size ∙ ap (λ x. most_bytes + length x) left ∙ ap (λ k. most_bytes + k) (length-append (take n after) w.left);
      going = going_same m d bytes w run _ _ (ap (λ x. finds (is_too_long bytes) reader (take room x)) left) (going_reads t.rest mid.going);
    }

-- a round that ran all that was read
pub round_on : {A : Type 0} (m : Ghosts A) (v w : Seen) (run : Run A) (reader : Progress) (q : Point A) (room n : ℕ) (before after : List ℕ) → Takes v w before after n → 0 < length before
    → length after ≡ length before → RunsWithin m (point run w reader) q (take n after) room (Ok None) → RoundsOn m (point run v reader) q room n
round_on m v w run reader q room n before after t some same runs =
    let long : length (take n after) ≡ n = omega (arith, length-take n after, t.bound, same) in
    let fits : n ≤ room = omega (arith, long, runs.0) in
    record {
      within = fits;
      lines = omega (arith, runs.1.lines, long, fits);
      can = runs.1.can;
      midway = λ d bytes mid.
          let cut = read_cut m v w run reader room n before after t d bytes mid in
          record {
            told = subst IsTrue (sym (runs.1.source.tells ∙ ap (λ x. x.tells) t.rest)) mid.told;
            size = omega (arith, cut.size, long, fits, ap length runs.1.source.left);
            going = going_same m d bytes q.streams q.run _ _
                (ap (λ k. finds (is_too_long bytes) q.reader (take (room - k) w.left)) long ∙ ap (λ x. finds (is_too_long bytes) q.reader (take (room - n) x)) (sym runs.1.source.left))
                (runs.1.going d bytes (take (room - length (take n after)) w.left) (is_too_long bytes)
                (going_same m d bytes w run _ _
                (ap (finds (is_too_long bytes) reader) (take_over room (length (take n after)) (take n after) w.left (omega (arith, long, fits))
                ∙ ap (λ x. x ++ take (room - length (take n after)) w.left) (whole (take n after) (length (take n after)) (omega arith)))) cut.going));
          };
      ended = λ new zero.
          let told : IsTrue v.tells = subst IsTrue (runs.1.source.tells ∙ ap (λ x. x.tells) t.rest) new in
          runs.1.source.left ∙ second (take n after) w.left (sym (t.bytes told) ∙ (t.ended told some).0 zero);
    }
  where
    second : (xs ys : List ℕ) → xs ++ ys ≡ [] → ys ≡ []
    second xs ys e = let long : length xs + length ys ≡ 0 = sym (length-append xs ys) ∙ ap length e in grind (arith, common_steps)

-- ---- the schedule's start and end

pub start_can : {A : Type 0} (m : Ghosts A) (run : Run A) (v : Seen) → CanGoOn m (point run v (at_start (m.hart_count run.machine) (m.core_count run.machine)))
start_can m run v = record { good_lines = refl; begun = record { no_feed = refl; short = omega arith }; on_chip = λ a is. is }

pub start_midway : {A : Type 0} (m : Ghosts A) (d : Design) (bytes : List ℕ) (v : Seen) (run : Run A) → m.hart_count run.machine ≡ d.config.harts → m.core_count run.machine ≡ d.config.cores
    → IsLeft v bytes → IsRun m d v run [] → IsMidway m d bytes (point run v (at_start (m.hart_count run.machine) (m.core_count run.machine))) most_bytes
unfolding good schedule_verdict finds
start_midway m d bytes v run harts cores left r =
    rw (harts, cores)
    (record {
      told = left.told;
      size = omega (arith, ap length left.same);
      going = record {
        events = [];
        run_is = r;
        events_are = ap (λ x. good_after 0 (finds (is_too_long bytes) (at_start d.config.harts d.config.cores) (take most_bytes x))) (sym left.same);
        verdict_is = ap (λ x. verdict_after 0 (verdict_at_end bytes) (finds (is_too_long bytes) (at_start d.config.harts d.config.cores) (take most_bytes x))) (sym left.same);
      };
    })

pub record IsReadOut {A : Type 0} (m : Ghosts A) (d : Design) (bytes : List ℕ) (p : Point A) : Type 0 where
  pub short : is_too_long bytes ≡ false
  pub going : IsGoing m d bytes p.streams p.run (left_over p.reader)

pub read_out : {A : Type 0} (m : Ghosts A) (d : Design) (bytes : List ℕ) (p : Point A) (room : ℕ) → p.streams.left ≡ [] → IsMidway m d bytes p room → IsReadOut m d bytes p
read_out m d bytes p room none mid =
    let few : length bytes ≤ most_bytes = omega (arith, mid.size, ap length none) in
    let short : is_too_long bytes ≡ false = grind (arith, nat_tests, few) in
    record {
      short = short;
      going = going_same m d bytes p.streams p.run _ _
          (ap (λ b. finds b p.reader (take room p.streams.left)) short ∙ ap (λ x. finds false p.reader (take room x)) none ∙ ap (finds false p.reader) (nothing room)) mid.going;
    }
  where
    nothing : (k : ℕ) → take {A = ℕ} k [] ≡ []
    nothing k = grind (arith, common_steps)

-- the schedule's end
pub schedule_ends : {A : Type 0} (m : Ghosts A) (v w : Seen) (old new : Run A) (p : Point A) (room : ℕ) (result : Result Ending Fault)
    → ((d : Design) (bytes : List ℕ) → IsLeft v bytes → IsRun m d v old [] → IsMidway m d bytes p room) → (IsTrue p.streams.tells → p.streams.left ≡ [])
    → RunsLast m p w new result → RunsSchedule m v w old new result
schedule_ends m v w old new p room (Ok ending) midway ended runs = λ d bytes left r.
    let mid = midway d bytes left r in
    let out = read_out m d bytes p room (ended mid.told) mid in
    runs d bytes out.short out.going
schedule_ends m v w old new p room (Err fault) midway ended runs = λ d bytes left r.
    let mid = midway d bytes left r in
    runs d bytes (read_out m d bytes p room (ended mid.told) mid).going
