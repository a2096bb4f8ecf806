-- The end of a try and a whole line of an order are read back.
use Rattle.std.proofs.Common.{◌≡◌, ℕ, ◌+◌, ◌-◌, ◌<◌, ◌≤◌, ◌==◌, true, List, [], ◌∷◌, ◌++◌, length, take, drop, refl, sym, ◌∙◌, ap, subst, arith, length-append, length-drop, append_assoc, add-one, drop-cons, zero, suc}
use Rattle.std.specs.Prelude.{Option, Some, None, IfSome, option_map, slice_index, nat_le, ◌&&◌}
use Rattle.std.specs.Fmt.{decimal}
use Rattle.std.proofs.lemmas.Fmt.{decimal_digit}
use Rattle.std.proofs.lemmas.List.{take_all, take-append-drop}
use Rattle.std.proofs.Math.Seq.{drop-append-add, take-append_seam}
use Rattle.std.proofs.lemmas.Bool.{eqb-true}
use Rattle.std.proofs.lemmas.Bool.Decides.{nat_tests}
use Rattle.schedule_log.specs.declared.entry.Entry.{Entry}
use Rattle.schedule_log.specs.declared.entry.Entry.TheVariants.{Step, Waits, Idle, Held, Open, Lock, Spec, Commit, Back, Flush, Kern}
use Rattle.schedule_log.specs.declared.entry_reading.TryEnd.{TryEnd}
use Rattle.schedule_log.specs.Texts.{actor_text, end_text, text_of, IsEnd, IsEntry}
use Rattle.schedule_log.specs.EntryReading.{acts_in, actor_in, cause_in, commit_entry, digit_in, end_after, end_in, entry_in, entry_by, last_two, taken_back}
use Rattle.schedule_log.proofs.EntryReadingLemmas.{acts_read, acts_words, actor_read, actor_words, and_true, cause_read, cause_words, chained, digit_read, digit_text, mapped, pick}

-- the text after a core and a space
record IsTail (text : List ℕ) (end : TryEnd) : Type 0 where
  words : decimal end.acts ++ 32 ∷ decimal end.cause ≡ text
  some_acts : 1 ≤ end.acts
  few_acts : end.acts ≤ 65536
  first_cause : 1 ≤ end.cause
  last_cause : end.cause ≤ 7

-- a byte above 0 is inside its text
index_below : (text : List ℕ) (k : ℕ) → 0 < slice_index text k → k < length text
index_below [] k some = absurd (omega arith)
index_below (byte ∷ text) zero some = omega arith
index_below (byte ∷ text) (suc k) some = omega (arith, index_below text k some)

-- a byte inside a text, between what comes before it and after it
split_round : (text : List ℕ) (k byte : ℕ) → slice_index text k ≡ byte → 0 < byte → take k text ++ byte ∷ drop (k + 1) text ≡ text
split_round text k byte is some =
    let below : k < length text = index_below text k (omega arith) in
    rw add-one (let at : drop k text ≡ byte ∷ drop (suc k) text = drop-cons text k 0 below ∙ ap (λ b. b ∷ drop (suc k) text) is in
    ap (λ rest. take k text ++ rest) (sym at) ∙ take-append-drop k text)

tail_words : (core : ℕ) (text : List ℕ) (end : TryEnd) → end_after core text ≡ Some end → IsTail text end × (end.core ≡ core)
tail_words core text end h =
    pick (nat_le 2 (length text) && (slice_index text (last_two text) == 32)) h
    (λ is x. chained _ (acts_in (take (last_two text) text)) x (λ acts of_acts y. mapped _ (cause_in (drop (last_two text + 1) text)) y (λ cause of_cause same.
    let a = acts_words _ acts of_acts in
    let c = cause_words _ cause of_cause in
    let both = and_true (nat_le 2 (length text)) (slice_index text (last_two text) == 32) is in
    let parts = split_round text (last_two text) 32 (eqb-true _ 32 both.1) (omega arith) in
    subst (λ e. IsTail text e × (e.core ≡ core)) same (
      record {
        words = ap (λ front. front ++ 32 ∷ decimal cause) a.words ∙ ap (λ back. take (last_two text) text ++ 32 ∷ back) c.words ∙ parts;
        some_acts = a.some;
        few_acts = a.few;
        first_cause = c.some;
        last_cause = c.few;
      },
      refl,
    ))))
    (λ _ y. absurd (cc))

-- the end of a try, by its numbers
end_text_is : (core acts cause byte : ℕ) → decimal core ≡ byte ∷ [] → end_text core acts cause ≡ byte ∷ 32 ∷ (decimal acts ++ 32 ∷ decimal cause)
end_text_is core acts cause byte is = rw is (ap (λ rest. byte ∷ 32 ∷ rest) (append_assoc (decimal acts) (32 ∷ []) (decimal cause)))

record IsEndIn (text : List ℕ) (end : TryEnd) : Type 0 where
  words : end_text end.core end.acts end.cause ≡ text
  fits : IsEnd end.core end.acts end.cause

end_words : (text : List ℕ) (end : TryEnd) → end_in text ≡ Some end → IsEndIn text end
end_words [] end h = absurd (cc)
end_words (byte ∷ []) end h = absurd (cc)
end_words (byte ∷ space ∷ text) end h =
    pick (space == 32) h
    (λ is x. chained _ (digit_in 4 (byte ∷ [])) x (λ core of_core y.
    let d = digit_text 4 (byte ∷ []) core (omega arith) of_core in
    let t = tail_words core text end y in
    let core_is : decimal end.core ≡ byte ∷ [] = ap decimal t.1 ∙ d.digit in
    let space_is : space ≡ 32 = eqb-true space 32 is in
    record {
      words = end_text_is end.core end.acts end.cause byte core_is ∙ ap (λ rest. byte ∷ 32 ∷ rest) t.0.words ∙ ap (λ b. byte ∷ b ∷ text) (sym space_is);
      fits = record { core_below = omega (arith, t.1, d.below); some_acts = t.0.some_acts; few_acts = t.0.few_acts; first_cause = t.0.first_cause; last_cause = t.0.last_cause };
    }))
    (λ _ y. absurd (cc))

index_front : (front back : List ℕ) (byte : ℕ) → slice_index (front ++ byte ∷ back) (length front) ≡ byte
index_front [] back byte = refl
index_front (first ∷ front) back byte = index_front front back byte

-- acts and a cause, with a space between
tail_read : (core acts cause byte : ℕ) (front : List ℕ) → acts_in front ≡ Some acts → cause_in (byte ∷ []) ≡ Some cause → end_after core (front ++ 32 ∷ byte ∷ []) ≡ Some (record { core = core; acts = acts; cause = cause })
tail_read core acts cause byte front of_acts of_cause =
    let long : nat_le 2 (length (front ++ 32 ∷ byte ∷ [])) ≡ true = grind (arith, nat_tests, length-append front (32 ∷ byte ∷ [])) in
    let place : last_two (front ++ 32 ∷ byte ∷ []) ≡ length front = omega (arith, length-append front (32 ∷ byte ∷ [])) in
    rw (long, place) (rw (index_front front (byte ∷ []) 32) (rw (take-append_seam front (32 ∷ byte ∷ []), drop-append-add front (32 ∷ byte ∷ []) 1) (rw (of_acts, of_cause) refl)))

end_read : (core acts cause : ℕ) → IsEnd core acts cause → end_in (end_text core acts cause) ≡ Some (record { core = core; acts = acts; cause = cause })
end_read core acts cause fits =
    let core_is = decimal_digit core (omega (arith, fits.core_below)) in
    let cause_is = decimal_digit cause (omega (arith, fits.last_cause)) in
    let of_core : digit_in 4 ((48 + core) ∷ []) ≡ Some core = rw core_is at (digit_read 4 core (omega arith) fits.core_below) in
    let of_cause : cause_in ((48 + cause) ∷ []) ≡ Some cause = rw cause_is at (cause_read cause fits.first_cause fits.last_cause) in
    let tail = tail_read core acts cause (48 + cause) (decimal acts) (acts_read acts fits.some_acts fits.few_acts) of_cause in
    rw (end_text_is core acts cause (48 + core) core_is) (rw cause_is (rw of_core tail))

-- a line of a letter, a space and what follows
record IsLineOf (letter : ℕ) (rest : List ℕ) (entry : Entry) : Type 0 where
  words : text_of entry ≡ letter ∷ 32 ∷ rest
  fits : IsEntry entry

lettered : (letter is : ℕ) (rest text : List ℕ) → (letter == is) ≡ true → text ≡ rest → is ∷ 32 ∷ text ≡ letter ∷ 32 ∷ rest
lettered letter is rest text same words = ap (λ t. is ∷ 32 ∷ t) words ∙ ap (λ b. b ∷ 32 ∷ rest) (sym (eqb-true letter is same))

-- an entry with one number
numbered : (letter is limit : ℕ) (rest : List ℕ) (entry : Entry) (make : ℕ → Entry) → limit ≤ 10 → (letter == is) ≡ true → ((n : ℕ) → text_of (make n) ≡ is ∷ 32 ∷ decimal n) → ((n : ℕ) → n < limit → IsEntry (make n)) → option_map make (digit_in limit rest) ≡ Some entry → IsLineOf letter rest entry
numbered letter is limit rest entry make low same words fits h = mapped make (digit_in limit rest) h (λ n found made.
    let d = digit_text limit rest n low found in
    subst (IsLineOf letter rest) made (record { words = words n ∙ lettered letter is rest (decimal n) same d.digit; fits = fits n d.below }))

entry_words : (letter : ℕ) (rest : List ℕ) (entry : Entry) → entry_by letter rest ≡ Some entry → IsLineOf letter rest entry
entry_words letter rest entry h =
    pick (letter == 115) h (λ is x. numbered letter 115 8 rest entry Step (omega arith) is (λ n. refl) (λ n below. below) x) (λ _ h.
    pick (letter == 119) h (λ is x. numbered letter 119 8 rest entry Waits (omega arith) is (λ n. refl) (λ n below. below) x) (λ _ h.
    pick (letter == 45) h (λ is x. mapped Idle (actor_in rest) x (λ a found made.
    let w = actor_words rest a found in
    subst (IsLineOf letter rest) made (record { words = lettered letter 45 rest (actor_text a) is w.words; fits = w.fits }))) (λ _ h.
    pick (letter == 120) h (λ is x. mapped Held (actor_in rest) x (λ a found made.
    let w = actor_words rest a found in
    subst (IsLineOf letter rest) made (record { words = lettered letter 120 rest (actor_text a) is w.words; fits = w.fits }))) (λ _ h.
    pick (letter == 111) h (λ is x. numbered letter 111 4 rest entry Open (omega arith) is (λ n. refl) (λ n below. below) x) (λ _ h.
    pick (letter == 108) h (λ is x. numbered letter 108 4 rest entry Lock (omega arith) is (λ n. refl) (λ n below. below) x) (λ _ h.
    pick (letter == 112) h (λ is x. numbered letter 112 4 rest entry Spec (omega arith) is (λ n. refl) (λ n below. below) x) (λ _ h.
    pick (letter == 99) h (λ is x. mapped commit_entry (end_in rest) x (λ e found made.
    let w = end_words rest e found in
    subst (IsLineOf letter rest) made (record { words = lettered letter 99 rest (end_text e.core e.acts e.cause) is w.words; fits = w.fits }))) (λ _ h.
    pick (letter == 114) h (λ is x. mapped taken_back (end_in rest) x (λ e found made.
    let w = end_words rest e found in
    subst (IsLineOf letter rest) made (record { words = lettered letter 114 rest (end_text e.core e.acts e.cause) is w.words; fits = w.fits }))) (λ _ h.
    pick (letter == 102) h (λ is x. numbered letter 102 4 rest entry Flush (omega arith) is (λ n. refl) (λ n below. below) x) (λ _ h.
    pick (letter == 107) h (λ is x. numbered letter 107 4 rest entry Kern (omega arith) is (λ n. refl) (λ n below. below) x) (λ _ h. absurd (cc))))))))))))

-- an entry is read from its text
pub entry_read : (entry : Entry) → IsEntry entry → entry_in (text_of entry) ≡ Some entry
entry_read (Step h) fits = ap (option_map Step) (digit_read 8 h (omega arith) fits)
entry_read (Waits h) fits = ap (option_map Waits) (digit_read 8 h (omega arith) fits)
entry_read (Idle a) fits = ap (option_map Idle) (actor_read a fits)
entry_read (Held a) fits = ap (option_map Held) (actor_read a fits)
entry_read (Open j) fits = ap (option_map Open) (digit_read 4 j (omega arith) fits)
entry_read (Lock j) fits = ap (option_map Lock) (digit_read 4 j (omega arith) fits)
entry_read (Spec j) fits = ap (option_map Spec) (digit_read 4 j (omega arith) fits)
entry_read (Commit j n e) fits = ap (option_map commit_entry) (end_read j n e fits)
entry_read (Back j n e) fits = ap (option_map taken_back) (end_read j n e fits)
entry_read (Flush j) fits = ap (option_map Flush) (digit_read 4 j (omega arith) fits)
entry_read (Kern j) fits = ap (option_map Kern) (digit_read 4 j (omega arith) fits)

-- two entries never have one text
pub one_entry : (first second : Entry) → IsEntry first → IsEntry second → text_of first ≡ text_of second → first ≡ second
one_entry first second fits also same =
    let both : Some first ≡ Some second = sym (entry_read first fits) ∙ ap entry_in same ∙ entry_read second also in
    cc

if_some : (o : Option Entry) (P : Entry → Type 0) → ((e : Entry) → o ≡ Some e → P e) → IfSome o P
if_some None P each = tt
if_some (Some e) P each = each e refl

-- a line with a space in the second place
line_parts : (line : List ℕ) → 2 ≤ length line → slice_index line 1 ≡ 32 → slice_index line 0 ∷ 32 ∷ drop 2 line ≡ line
line_parts [] long space = absurd (omega arith)
line_parts (byte ∷ []) long space = absurd (omega arith)
line_parts (byte ∷ next ∷ line) long space = ap (λ b. byte ∷ b ∷ line) (sym space)

pub line_text : (line : List ℕ) (result : Option Entry) → 2 ≤ length line → slice_index line 1 ≡ 32 → result ≡ entry_by (slice_index line 0) (drop 2 line) → IfSome result (λ e. text_of e ≡ line)
line_text line result long space is = if_some result (λ e. text_of e ≡ line) (λ e found.
    (entry_words (slice_index line 0) (drop 2 line) e (sym is ∙ found)).words ∙ line_parts line long space)

pub line_fits : (line : List ℕ) (result : Option Entry) → result ≡ entry_by (slice_index line 0) (drop 2 line) → IfSome result IsEntry
line_fits line result is = if_some result IsEntry (λ e found. (entry_words (slice_index line 0) (drop 2 line) e (sym is ∙ found)).fits)

pub line_read : (line : List ℕ) (result : Option Entry) → slice_index line 1 ≡ 32 → result ≡ entry_by (slice_index line 0) (drop 2 line) → (e : Entry) → IsEntry e → text_of e ≡ line → result ≡ Some e
line_read line result space is e fits words =
    let same : (slice_index line 1 == 32) ≡ true = grind (arith, nat_tests) in
    let at : entry_in line ≡ Some e = ap entry_in (sym words) ∙ entry_read e fits in
    is ∙ rw same at at

-- what follows a place, as the code takes it
pub rest_of : (line : List ℕ) (k : ℕ) → take (length line - k) (drop k line) ≡ drop k line
rest_of line k = take_all (length line - k) (drop k line) (omega (arith, length-drop k line))
