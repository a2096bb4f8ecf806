-- How long an entry's line is.
use Rattle.std.proofs.Common.{ℕ, ◌<◌, ◌≤◌, length, arith, length-append}
use Rattle.std.specs.Fmt.{decimal}
use Rattle.std.proofs.lemmas.Fmt.{length-decimal-le}
use Rattle.conda_base.specs.declared.actor.Actor.{Actor}
use Rattle.conda_base.specs.declared.actor.Actor.TheVariants.{Hart, Core}
use Rattle.schedule_log.specs.declared.entry.Entry.{Entry}
use Rattle.schedule_log.specs.declared.entry.Entry.TheVariants.{Step, Waits, Idle, Held, Open, Lock, Spec, Commit, Back, Flush, Kern}
use Rattle.schedule_log.specs.Texts.{actor_text, end_text, text_of, IsActor, IsEnd, IsEntry}
use Rattle.conda_base.proofs.DecimalLemmas.{length_decimal_digit}

one_digit : (n : ℕ) → n < 8 → length (decimal n) ≤ 1
one_digit n h = length_decimal_digit n (omega arith)

actor_short : (a : Actor) → IsActor a → length (actor_text a) ≤ 2
actor_short (Hart h) fits = omega (arith, one_digit h fits)
actor_short (Core n) fits = omega (arith, one_digit n (omega arith))

end_short : (core acts cause : ℕ) → IsEnd core acts cause → length (end_text core acts cause) ≤ 9
end_short core acts cause fits =
    let core_short = one_digit core (omega arith) in
    let acts_short = length-decimal-le 5 acts (omega arith) (omega arith) (omega arith) in
    let cause_short = one_digit cause (omega arith) in
    simp length-append (omega arith)

-- an entry whose numbers are those of a chip has at most 11 bytes
pub length_text_of : (e : Entry) → IsEntry e → length (text_of e) ≤ 11
length_text_of (Step h) fits = omega (arith, one_digit h fits)
length_text_of (Waits h) fits = omega (arith, one_digit h fits)
length_text_of (Idle a) fits = omega (arith, actor_short a fits)
length_text_of (Held a) fits = omega (arith, actor_short a fits)
length_text_of (Open j) fits = omega (arith, one_digit j (omega arith))
length_text_of (Lock j) fits = omega (arith, one_digit j (omega arith))
length_text_of (Spec j) fits = omega (arith, one_digit j (omega arith))
length_text_of (Commit j n e) fits = omega (arith, end_short j n e fits)
length_text_of (Back j n e) fits = omega (arith, end_short j n e fits)
length_text_of (Flush j) fits = omega (arith, one_digit j (omega arith))
length_text_of (Kern j) fits = omega (arith, one_digit j (omega arith))
