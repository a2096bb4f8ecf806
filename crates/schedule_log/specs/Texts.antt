-- The texts of entries and of an order.
use Rattle.std.specs.Prelude.{ℕ, ◌<◌, ◌≤◌, List, [], ◌∷◌, ◌++◌, codes}
use Rattle.std.specs.List.{flat_map}
use Rattle.std.specs.Fmt.{decimal}
use Rattle.conda_base.specs.declared.actor.Actor.{Actor}
use Rattle.conda_base.specs.declared.actor.Actor.TheVariants.{Hart, Core}
use Rattle.schedule_log.specs.declared.entry.Entry.{Entry}
use Rattle.schedule_log.specs.declared.entry.Entry.TheVariants.{Step, Waits, Idle, Held, Open, Lock, Spec, Commit, Back, Flush, Kern}

-- h and the number of a hart, or n and the number of a core
abbrev pub actor_text : Actor → List ℕ
actor_text (Hart h) = codes "h" ++ decimal h
actor_text (Core n) = codes "n" ++ decimal n

-- a core, the number of acts of its try, and the cause of the try's end
abbrev pub end_text : ℕ → ℕ → ℕ → List ℕ
end_text core acts cause = decimal core ++ codes " " ++ decimal acts ++ codes " " ++ decimal cause

-- an entry's line, without its line feed
abbrev pub text_of : Entry → List ℕ
text_of (Step h) = codes "s " ++ decimal h
text_of (Waits h) = codes "w " ++ decimal h
text_of (Idle a) = codes "- " ++ actor_text a
text_of (Held a) = codes "x " ++ actor_text a
text_of (Open j) = codes "o " ++ decimal j
text_of (Lock j) = codes "l " ++ decimal j
text_of (Spec j) = codes "p " ++ decimal j
text_of (Commit j n e) = codes "c " ++ end_text j n e
text_of (Back j n e) = codes "r " ++ end_text j n e
text_of (Flush j) = codes "f " ++ decimal j
text_of (Kern j) = codes "k " ++ decimal j

-- an order: each entry's line, ended by a line feed
abbrev pub order_text : List Entry → List ℕ
order_text entries = flat_map (λ e. text_of e ++ 10 ∷ []) entries

-- one of at most eight harts, or of at most four cores
abbrev pub IsActor : Actor → Type 0
IsActor (Hart h) = h < 8
IsActor (Core n) = n < 4

-- a core, 1 to 65536 acts, and one of seven causes
pub record IsEnd (core acts cause : ℕ) : Type 0 where
  pub core_below : core < 4
  pub some_acts : 1 ≤ acts
  pub few_acts : acts ≤ 65536
  pub first_cause : 1 ≤ cause
  pub last_cause : cause ≤ 7

-- an entry whose numbers are those of a chip
abbrev pub IsEntry : Entry → Type 0
IsEntry (Step h) = h < 8
IsEntry (Waits h) = h < 8
IsEntry (Idle a) = IsActor a
IsEntry (Held a) = IsActor a
IsEntry (Open j) = j < 4
IsEntry (Lock j) = j < 4
IsEntry (Spec j) = j < 4
IsEntry (Commit j n e) = IsEnd j n e
IsEntry (Back j n e) = IsEnd j n e
IsEntry (Flush j) = j < 4
IsEntry (Kern j) = j < 4
