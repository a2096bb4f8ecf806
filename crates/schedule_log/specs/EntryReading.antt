-- How a line of an order is read.
use Rattle.std.specs.Prelude.{ℕ, ◌+◌, ◌-◌, ◌==◌, ◌&&◌, List, length, take, drop, Option, Some, None, option_map, option_and_then, slice_index, if◌then◌else◌, nat_le, nat_lt}
use Rattle.conda_base.specs.declared.actor.Actor.{Actor}
use Rattle.conda_base.specs.declared.actor.Actor.TheVariants.{Hart, Core}
use Rattle.schedule_log.specs.declared.entry.Entry.{Entry}
use Rattle.schedule_log.specs.declared.entry.Entry.TheVariants.{Step, Waits, Idle, Held, Open, Lock, Spec, Commit, Back, Flush, Kern}
use Rattle.schedule_log.specs.declared.entry_reading.TryEnd.{TryEnd}
use Rattle.schedule_log.specs.Schedule.{count_of}

-- one digit below a limit, and nothing else
abbrev pub digit_in : ℕ → List ℕ → Option ℕ
digit_in limit text =
    if (length text == 1) && nat_le 48 (slice_index text 0) && nat_lt (slice_index text 0 - 48) limit
    then Some (slice_index text 0 - 48)
    else None

-- h and one of eight harts, or n and one of four cores
abbrev pub actor_in : List ℕ → Option Actor
actor_in text =
    if slice_index text 0 == 104 then option_map Hart (digit_in 8 (drop 1 text))
    else (if slice_index text 0 == 110 then option_map Core (digit_in 4 (drop 1 text)) else None)

-- a number from 1 to 65536; `count_of` takes no 0
abbrev pub acts_in : List ℕ → Option ℕ
acts_in text = option_and_then (λ acts. if nat_le acts 65536 then Some acts else None) (count_of text)

-- a digit from 1 to 7
abbrev pub cause_in : List ℕ → Option ℕ
cause_in text = option_and_then (λ cause. if nat_le 1 cause then Some cause else None) (digit_in 8 text)

-- the place of the last two bytes
abbrev pub last_two : List ℕ → ℕ
last_two text = length text - 2

-- a core, and then acts, a space and a cause
abbrev pub end_after : ℕ → List ℕ → Option TryEnd
end_after core text =
    if nat_le 2 (length text) && (slice_index text (last_two text) == 32)
    then option_and_then
    (λ acts. option_map (λ cause. record { core = core; acts = acts; cause = cause })
    (cause_in (drop (last_two text + 1) text)))
    (acts_in (take (last_two text) text))
    else None

-- a core, a space, acts, a space and a cause
abbrev pub end_in : List ℕ → Option TryEnd
end_in text =
    if slice_index text 1 == 32
    then option_and_then (λ core. end_after core (drop 2 text)) (digit_in 4 (take 1 text))
    else None

abbrev pub commit_entry : TryEnd → Entry
commit_entry end = Commit end.core end.acts end.cause

abbrev pub taken_back : TryEnd → Entry
taken_back end = Back end.core end.acts end.cause

-- the entry of a letter and what follows it and a space
abbrev pub entry_by : ℕ → List ℕ → Option Entry
entry_by letter rest =
    if letter == 115 then option_map Step (digit_in 8 rest) else (
    if letter == 119 then option_map Waits (digit_in 8 rest) else (
    if letter == 45 then option_map Idle (actor_in rest) else (
    if letter == 120 then option_map Held (actor_in rest) else (
    if letter == 111 then option_map Open (digit_in 4 rest) else (
    if letter == 108 then option_map Lock (digit_in 4 rest) else (
    if letter == 112 then option_map Spec (digit_in 4 rest) else (
    if letter == 99 then option_map commit_entry (end_in rest) else (
    if letter == 114 then option_map taken_back (end_in rest) else (
    if letter == 102 then option_map Flush (digit_in 4 rest) else (
    if letter == 107 then option_map Kern (digit_in 4 rest) else None))))))))))

-- the entry of a line
abbrev pub entry_in : List ℕ → Option Entry
entry_in line = if slice_index line 1 == 32 then entry_by (slice_index line 0) (drop 2 line) else None
