-- An order file in which nothing is found wrong, and the text of an order in which nothing is.
use Rattle.std.proofs.Common.{◌≡◌, ◌≤◌, ◌+◌, ◌-◌, ◌*◌, ℕ, Bool, true, false, ◌||◌, cond, eqb, ltb, List, [], ◌∷◌, ◌++◌, length, map, take, drop, fold, refl, sym, ap, ◌∙◌, arith, append_assoc, length-append, Option, Some, None, Result, Ok, Err}
use Rattle.std.specs.Prelude.{codes, slice_index}
use Rattle.std.specs.List.{AllByRecursion, flat_map, list_any}
use Rattle.std.specs.Fmt.{decimal}
use Rattle.std.proofs.lemmas.Bool.{eqb-true, le-ltb}
use Rattle.std.proofs.lemmas.Bool.Decides.{nat_tests}
use Rattle.std.proofs.lemmas.List.{append-nil, take_all}
use Rattle.conda_base.specs.declared.actor.Actor.{Actor}
use Rattle.conda_base.specs.declared.actor.Actor.TheVariants as The
use Rattle.schedule_log.specs.declared.entry.Entry.{Entry}
use Rattle.schedule_log.specs.declared.entry.Entry.TheVariants.{Step, Waits, Idle, Held, Open, Lock, Spec, Commit, Back, Flush, Kern}
use Rattle.schedule_log.specs.EntryReading.{entry_by, entry_in}
use Rattle.schedule_log.specs.Schedule.{is_feed, onto_first_line, ended_lines, last_part, is_last_line}
use Rattle.schedule_log.specs.Texts.{actor_text, end_text, text_of, order_text, IsEntry}
use Rattle.schedule_log.specs.Verdict.{most_bytes, most_events, is_too_long}
use Rattle.schedule_log.proofs.EndReadingLemmas.{entry_read, line_fits, line_text}
use Rattle.schedule_log.proofs.EntryLemmas.{length_text_of}
use Rattle.schedule_log.proofs.ScheduleLemmas.{ended_lines_at, ended_lines_none, last_part_at}
use Rattle.offload_calls.specs.State.{Setup}
use Rattle.flat_check.specs.Accepting.{AllFine}
use Rattle.flat_check.specs.Orders.{is_there}
use Rattle.flat_check.specs.OrderTexts.{AcceptedTextsAreOrders, OrderTextsAreAccepted}
use Rattle.flat_check.specs.Verdict.{placed, order_lines, Sound_to, Bad, TooMany, Dirty, TooLong, verdict_at, verdict_from, order_verdict}
use Rattle.flat_check.specs.Walks.{Walk, Ruling, Fine, Unsound, Overwritten, ruled, walked, walk, walk_start}
use Rattle.flat_check.proofs.ConverseFacts.{sound_is_fine}
use Rattle.run_report.proofs.FlatFacts.{Flat, flat-both, flat-decimal}
use Rattle.flat_check.proofs.WalkFacts.{fine_is_sound}

-- ---- lines in which nothing is found wrong

record FineLines (s : Setup) (long : Bool) (w : Walk) (k : ℕ) (lines : List (Result Entry ℕ)) (v : Walk) (n : ℕ) : Type 0 where
  short : long ≡ false
  order : List Entry
  lines_are : lines ≡ map Ok order
  fine : AllFine s w order
  way : v ≡ fold (walked s) w order
  many : n ≡ (k - 1) + length order
  few : n ≤ most_events

same_end : (w v : Walk) (m n : ℕ) → Sound_to w m ≡ Sound_to v n → (v ≡ w) × (n ≡ m)
same_end w v m n h = (sym (cc), sym (cc))

fine_lines : (s : Setup) (long : Bool) (w : Walk) (k : ℕ) (lines : List (Result Entry ℕ)) (v : Walk) (n : ℕ) → 1 ≤ k → k - 1 ≤ most_events
    → verdict_from s long w k lines ≡ Sound_to v n → FineLines s long w k lines v n
fine_lines s true w k [] v n pos room h = absurd (let x : TooLong ≡ Sound_to v n = h in cc)
fine_lines s false w k [] v n pos room h =
    let e = same_end w v (k - 1) n h in
    record { short = refl; order = []; lines_are = refl; fine = tt; way = e.0; many = e.1 ∙ omega arith; few = let is : n ≡ k - 1 = e.1 in omega arith }
fine_lines s long w k (Err why ∷ later) v n pos room h = absurd (let x : Bad k why ≡ Sound_to v n = h in cc)
fine_lines s long w k (Ok e ∷ later) v n pos room h = go (ruled s w e) refl h (fine_lines s long (walked s w e) (k + 1) later v n (omega arith))
  where
    next : ruled s w e ≡ Fine → k ≤ most_events → FineLines s long (walked s w e) (k + 1) later v n → FineLines s long w k (Ok e ∷ later) v n
    next fine room f = record {
      short = f.short;
      order = e ∷ f.order;
      lines_are = ap (λ ls. Ok e ∷ ls) f.lines_are;
      fine = (fine, f.fine);
      way = f.way;
      many = let m : n ≡ ((k + 1) - 1) + length f.order = f.many in omega arith;
      few = f.few;
    }

    go : (r : Ruling) → ruled s w e ≡ r → verdict_at r k (verdict_from s long (walked s w e) (k + 1) later) ≡ Sound_to v n
        → ((k + 1) - 1 ≤ most_events → verdict_from s long (walked s w e) (k + 1) later ≡ Sound_to v n → FineLines s long (walked s w e) (k + 1) later v n)
        → FineLines s long w k (Ok e ∷ later) v n
    go Unsound is h rec = absurd (let x : Bad k 3 ≡ Sound_to v n = h in cc)
    go (Overwritten a) is h rec = absurd (over (ltb most_events k) h)
      where
        over : (b : Bool) → cond b TooMany (Dirty (k - 1) a) ≡ Sound_to v n → ⊥
        over true x = cc
        over false x = cc
    go Fine is h rec = pick (ltb most_events k) refl h
      where
        pick : (b : Bool) → ltb most_events k ≡ b → cond b TooMany (verdict_from s long (walked s w e) (k + 1) later) ≡ Sound_to v n → FineLines s long w k (Ok e ∷ later) v n
        pick true many x = absurd (cc)
        pick false few x = let room : k ≤ most_events = grind (arith, nat_tests) in next is room (rec (omega arith) x)

-- ---- lines that are entries' texts

long_enough : (line : List ℕ) → slice_index line 1 ≡ 32 → 2 ≤ length line
long_enough [] space = absurd (omega arith)
long_enough (x ∷ []) space = absurd (omega arith)
long_enough (x ∷ y ∷ line) space = omega arith

record IsRead (line : List ℕ) (e : Entry) : Type 0 where
  words : text_of e ≡ line
  fits : IsEntry e

read : (line : List ℕ) (e : Entry) → entry_in line ≡ Some e → IsRead line e
read line e h = go (eqb (slice_index line 1) 32) refl h
  where
    go : (b : Bool) → eqb (slice_index line 1) 32 ≡ b → cond b (entry_by (slice_index line 0) (drop 2 line)) None ≡ Some e → IsRead line e
    go false is x = absurd (let z : ◌≡◌ {A = Option Entry} None (Some e) = x in cc)
    go true is x =
        let space = eqb-true (slice_index line 1) 32 is in
        record { words = line_text line (Some e) (long_enough line space) space (sym x); fits = line_fits line (Some e) (sym x) }

is_placed : (harts cores : ℕ) (x : Option Entry) (e : Entry) → placed harts cores x ≡ Ok e → (x ≡ Some e) × (is_there harts cores e ≡ true)
is_placed harts cores None e h = absurd (let z : ◌≡◌ {A = Result Entry ℕ} (Err 1) (Ok e) = h in cc)
is_placed harts cores (Some y) e h = go (is_there harts cores y) refl h
  where
    go : (b : Bool) → is_there harts cores y ≡ b → cond {A = Result Entry ℕ} b (Ok y) (Err 2) ≡ Ok e → (Some y ≡ Some e) × (is_there harts cores e ≡ true)
    go false is x = absurd (let z : ◌≡◌ {A = Result Entry ℕ} (Err 2) (Ok e) = x in cc)
    go true is x = let same : y ≡ e = cc in (ap Some same, ap (is_there harts cores) (sym same) ∙ is)

abbrev said : ℕ → ℕ → List ℕ → Result Entry ℕ
said harts cores line = placed harts cores (entry_in line)

-- lines with their line feeds
abbrev joined_lines : List (List ℕ) → List ℕ
joined_lines lines = flat_map (λ line. line ++ 10 ∷ []) lines

record AreTexts (harts cores : ℕ) (lines : List (List ℕ)) (order : List Entry) : Type 0 where
  text : joined_lines lines ≡ order_text order
  entries : AllByRecursion IsEntry order
  there : AllByRecursion (λ e. is_there harts cores e ≡ true) order

texts : (harts cores : ℕ) (lines : List (List ℕ)) (order : List Entry) → map (said harts cores) lines ≡ map Ok order → AreTexts harts cores lines order
texts harts cores [] [] h = record { text = refl; entries = tt; there = tt }
texts harts cores [] (e ∷ order) h = absurd (cc)
texts harts cores (line ∷ lines) [] h = absurd (cc)
texts harts cores (line ∷ lines) (e ∷ order) h =
    let first : said harts cores line ≡ Ok e = cc in
    let rest : map (said harts cores) lines ≡ map Ok order = cc in
    let p = is_placed harts cores (entry_in line) e first in
    let r = read line e p.0 in
    let more = texts harts cores lines order rest in
    record {
      text = ap (λ l. (l ++ 10 ∷ []) ++ joined_lines lines) (sym r.words) ∙ ap (λ t. (text_of e ++ 10 ∷ []) ++ t) more.text;
      entries = (r.fits, more.entries);
      there = (p.1, more.there);
    }

-- ---- a text is its lines

no_lines : (text : List ℕ) → ended_lines text ≡ [] → list_any is_feed text ≡ false
no_lines [] h = refl
no_lines (b ∷ text) h = go (is_feed b) h (no_lines text)
  where
    none : (lines : List (List ℕ)) → onto_first_line b lines ≡ [] → lines ≡ []
    none [] x = refl
    none (l ∷ ls) x = absurd (let z : (b ∷ l) ∷ ls ≡ [] = x in cc)

    go : (f : Bool) → cond f ([] ∷ ended_lines text) (onto_first_line b (ended_lines text)) ≡ [] → (ended_lines text ≡ [] → list_any is_feed text ≡ false) → (f || list_any is_feed text) ≡ false
    go true x rec = absurd (let z : [] ∷ ended_lines text ≡ [] = x in cc)
    go false x rec = rec (none (ended_lines text) x)

whole : (text : List ℕ) → text ≡ joined_lines (ended_lines text) ++ last_part text
whole [] = refl
whole (b ∷ text) = go (is_feed b) refl (whole text)
  where
    later : (lines : List (List ℕ)) → ended_lines text ≡ lines → text ≡ joined_lines lines ++ last_part text
        → b ∷ text ≡ joined_lines (onto_first_line b lines) ++ cond (list_any is_feed text) (last_part text) (b ∷ text)
    later [] is rec = ap (λ f. cond f (last_part text) (b ∷ text)) (sym (no_lines text is))
    later (l ∷ ls) is rec =
        ap (λ t. b ∷ t) rec
        ∙ ap (λ f. joined_lines ((b ∷ l) ∷ ls) ++ cond f (last_part text) (b ∷ text)) (sym (some (list_any is_feed text) refl))
      where
        some : (f : Bool) → list_any is_feed text ≡ f → list_any is_feed text ≡ true
        some true e = e
        some false e = absurd (let z : l ∷ ls ≡ [] = sym is ∙ ended_lines_none text e in cc)

    go : (f : Bool) → is_feed b ≡ f → text ≡ joined_lines (ended_lines text) ++ last_part text
        → b ∷ text ≡ joined_lines (cond f ([] ∷ ended_lines text) (onto_first_line b (ended_lines text))) ++ cond (f || list_any is_feed text) (last_part text) (b ∷ text)
    go true is rec = ap (λ x. x ∷ text) (eqb-true b 10 is) ∙ ap (λ t. 10 ∷ t) rec
    go false is rec = later (ended_lines text) refl rec

no_rest : (part : List ℕ) → is_last_line false part ≡ false → part ≡ []
no_rest [] h = refl
no_rest (b ∷ part) h = absurd (grind (arith, nat_tests))

no_err : (xs : List (Result Entry ℕ)) (order : List Entry) → xs ++ Err 1 ∷ [] ≡ map Ok order → ⊥
no_err [] [] h = cc
no_err [] (e ∷ order) h = cc
no_err (x ∷ xs) [] h = cc
no_err (x ∷ xs) (e ∷ order) h = no_err xs order (cc)

ended : (lines : List (Result Entry ℕ)) (b : Bool) (order : List Entry) → lines ++ cond b (Err 1 ∷ []) [] ≡ map Ok order → (b ≡ false) × (lines ≡ map Ok order)
ended lines true order h = absurd (no_err lines order h)
ended lines false order h = (refl, sym (append-nil lines) ∙ h)

short_text : (bytes : List ℕ) → is_too_long bytes ≡ false → take most_bytes bytes ≡ bytes
short_text bytes h = let few : length bytes ≤ most_bytes = grind (arith, nat_tests) in take_all most_bytes bytes few

pub texts_are_orders : AcceptedTextsAreOrders
unfolding order_verdict
texts_are_orders s bytes v n h =
    let f = fine_lines s (is_too_long bytes) (walk_start s) 1 (order_lines s.harts s.cores (is_too_long bytes) (take most_bytes bytes)) v n (omega arith) (omega arith) h in
    let lines : order_lines s.harts s.cores false bytes ≡ map Ok f.order =
    ap (λ b. order_lines s.harts s.cores b bytes) (sym f.short) ∙ ap (order_lines s.harts s.cores (is_too_long bytes)) (sym (short_text bytes f.short)) ∙ f.lines_are in
    let parts = ended (map (said s.harts s.cores) (ended_lines bytes)) (is_last_line false (last_part bytes)) f.order lines in
    let t = texts s.harts s.cores (ended_lines bytes) f.order parts.1 in
    record {
      order = f.order;
      text = whole bytes ∙ ap (λ p. joined_lines (ended_lines bytes) ++ p) (no_rest (last_part bytes) parts.0) ∙ append-nil (joined_lines (ended_lines bytes)) ∙ t.text;
      within = record { entries = t.entries; few = let m : n ≡ (1 - 1) + length f.order = f.many in let g : n ≤ most_events = f.few in omega arith };
      accepted = fine_is_sound s f.order t.there f.fine;
      way = f.way;
      many = f.many ∙ omega arith;
    }

-- ---- the text of an order

flat-actor : (a : Actor) → Flat (actor_text a)
flat-actor (The.Hart h) = flat-both (codes "h") (decimal h) refl (flat-decimal h)
flat-actor (The.Core j) = flat-both (codes "n") (decimal j) refl (flat-decimal j)

flat-end : (j n c : ℕ) → Flat (end_text j n c)
flat-end j n c =
    flat-both (decimal j ++ codes " " ++ decimal n ++ codes " ") (decimal c)
    (flat-both (decimal j ++ codes " " ++ decimal n) (codes " ")
    (flat-both (decimal j ++ codes " ") (decimal n) (flat-both (decimal j) (codes " ") (flat-decimal j) refl) (flat-decimal n)) refl)
    (flat-decimal c)

flat-text : (e : Entry) → Flat (text_of e)
flat-text (Step h) = flat-both (codes "s ") (decimal h) refl (flat-decimal h)
flat-text (Waits h) = flat-both (codes "w ") (decimal h) refl (flat-decimal h)
flat-text (Idle a) = flat-both (codes "- ") (actor_text a) refl (flat-actor a)
flat-text (Held a) = flat-both (codes "x ") (actor_text a) refl (flat-actor a)
flat-text (Open j) = flat-both (codes "o ") (decimal j) refl (flat-decimal j)
flat-text (Lock j) = flat-both (codes "l ") (decimal j) refl (flat-decimal j)
flat-text (Spec j) = flat-both (codes "p ") (decimal j) refl (flat-decimal j)
flat-text (Commit j n c) = flat-both (codes "c ") (end_text j n c) refl (flat-end j n c)
flat-text (Back j n c) = flat-both (codes "r ") (end_text j n c) refl (flat-end j n c)
flat-text (Flush j) = flat-both (codes "f ") (decimal j) refl (flat-decimal j)
flat-text (Kern j) = flat-both (codes "k ") (decimal j) refl (flat-decimal j)

lines_of : (order : List Entry) → ended_lines (order_text order) ≡ map text_of order
lines_of [] = refl
lines_of (e ∷ order) =
    ap ended_lines (append_assoc (text_of e) (10 ∷ []) (order_text order)) ∙ ended_lines_at (text_of e) (order_text order) (flat-text e)
    ∙ ap (λ ls. text_of e ∷ ls) (lines_of order)

no_last : (order : List Entry) → last_part (order_text order) ≡ []
no_last [] = refl
no_last (e ∷ order) =
    ap last_part (append_assoc (text_of e) (10 ∷ []) (order_text order)) ∙ last_part_at (text_of e) (order_text order) ∙ no_last order

said_all : (harts cores : ℕ) (order : List Entry) → AllByRecursion IsEntry order → AllByRecursion (λ e. is_there harts cores e ≡ true) order
    → map (said harts cores) (map text_of order) ≡ map Ok order
said_all harts cores [] fits there = refl
said_all harts cores (e ∷ order) fits there =
    ap (λ x. placed harts cores x ∷ map (said harts cores) (map text_of order)) (entry_read e fits.0)
    ∙ ap (λ b. cond {A = Result Entry ℕ} b (Ok e) (Err 2) ∷ map (said harts cores) (map text_of order)) there.0
    ∙ ap (λ ls. Ok e ∷ ls) (said_all harts cores order fits.1 there.1)

text_short : (order : List Entry) → AllByRecursion IsEntry order → length (order_text order) ≤ 12 * length order
text_short [] fits = omega arith
text_short (e ∷ order) fits =
    let here = length_text_of e fits.0 in let later = text_short order fits.1 in simp length-append (omega arith)

verdict_fine : (s : Setup) (w : Walk) (k : ℕ) (order : List Entry) → 1 ≤ k → (k - 1) + length order ≤ most_events → AllFine s w order
    → verdict_from s false w k (map Ok order) ≡ Sound_to (fold (walked s) w order) ((k - 1) + length order)
verdict_fine s w k [] pos few fine = ap (Sound_to w) (omega arith)
verdict_fine s w k (e ∷ order) pos few fine =
    ap (λ r. verdict_at r k (verdict_from s false (walked s w e) (k + 1) (map Ok order))) fine.0
    ∙ ap (λ b. cond b TooMany (verdict_from s false (walked s w e) (k + 1) (map Ok order))) (le-ltb most_events k (omega arith))
    ∙ verdict_fine s (walked s w e) (k + 1) order (omega arith) (omega arith) fine.1
    ∙ ap (Sound_to (fold (walked s) (walked s w e) order)) (omega arith)

pub orders_are_accepted : OrderTextsAreAccepted
unfolding order_verdict
orders_are_accepted s order within sound =
    let text = order_text order in
    let few : length order ≤ most_events = within.few in
    let bytes = text_short order within.entries in
    let short : is_too_long (order_text order) ≡ false = le-ltb most_bytes (length (order_text order)) (omega arith) in
    ap (λ b. verdict_from s b (walk_start s) 1 (order_lines s.harts s.cores b (take most_bytes (order_text order)))) short
    ∙ ap (λ t. verdict_from s false (walk_start s) 1 (order_lines s.harts s.cores false t)) (short_text (order_text order) short)
    ∙ ap (λ ls. verdict_from s false (walk_start s) 1 (map (said s.harts s.cores) ls ++ cond (is_last_line false (last_part (order_text order))) (Err 1 ∷ []) [])) (lines_of order)
    ∙ ap (λ p. verdict_from s false (walk_start s) 1 (map (said s.harts s.cores) (map text_of order) ++ cond (is_last_line false p) (Err 1 ∷ []) [])) (no_last order)
    ∙ ap (verdict_from s false (walk_start s) 1) (append-nil (map (said s.harts s.cores) (map text_of order)) ∙ said_all s.harts s.cores order within.entries sound.sound.there)
    ∙ verdict_fine s (walk_start s) 1 order (omega arith) (omega arith) (sound_is_fine s order sound.sound sound.clean)
    ∙ ap (Sound_to (walk s order)) (omega arith)
