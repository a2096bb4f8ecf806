-- Lines in slots: what older tries left there is hidden.
use Rattle.std.proofs.Common.{◌≡◌, ℕ, ◌+◌, ◌-◌, ◌<◌, ◌≤◌, ◌⊎◌, ⊎_elim, Bool, true, false, eqb, cond, List, [], ◌∷◌, ◌++◌, length, get_or, set, take, drop, replicate, sym, ap, subst, ◌∙◌, refl, arith, rules}
use Rattle.std.specs.Prelude.{◌||◌}
use Rattle.std.specs.Prelude.{map}
use Rattle.std.specs.List.{All}
use Rattle.std.specs.Int.{to_le_bytes, w32}
use Rattle.std.proofs.lemmas.Bool.{cases_lt, cases_Bool}
use Rattle.std.proofs.lemmas.Bool.Decides.{nat_tests}
use Rattle.std.proofs.lemmas.Grind.{same_number_lists}
use Rattle.std.proofs.lemmas.List.{length-map, length-take-le, length-append, length-replicate, length-set, length-drop, get_or-map, get_or-take, get_or-drop, get_or-set_same, map-set, map-append, take_more_set, take_all, places}
use Rattle.std.proofs.lemmas.List.Elements.{All-set}
use Rattle.std.proofs.Math.Seq.{take-set-lt}
use Rattle.std.proofs.lemmas.Nat.Bits.{bit_at-zero}
use Rattle.conda_base.specs.Bytes.{number_of, stored, value_at}
use Rattle.conda_base.specs.Lines.{IsAccessSize, IsLineSize}
use Rattle.conda_base.specs.Marks.{is_marked, mixed}
use Rattle.conda_base.proofs.ByteLemmas.{length-low_bytes}
use Rattle.conda_base.proofs.LineLemmas.{line_size_bounds}
use Rattle.conda_base.proofs.MarkLemmas.{length-mixed, get_or-mixed}
use Rattle.conda_base.specs.declared.Line.{Line}
use Rattle.write_masks.specs.declared.Masked.{Masked}
use Rattle.write_masks.specs.Marks.{is_within, Covers}
use Rattle.write_masks.proofs.MarkLemmas.{mixed-zeros}
use Rattle.nda_cache.specs.declared.cache.Look.{Look}
use Rattle.nda_cache.specs.declared.cache.Look.TheVariants.{Known, Missing, Full}
use Rattle.nda_cache.specs.Looks.{LooksIn}
use Rattle.nda_cache.specs.Slots.{SlotLines, StoresIn, slot_entry, lines_used, without_older}
use Rattle.nda_cache.specs.Tried.{HaveSameMarked, IsLine, Stores, filled_from, unknown}
use Rattle.nda_cache.proofs.TriedFacts.{IsLine-filled, IsLine-stored, IsLine-unknown, all_push, same_unknown}

-- ---- one line

abbrev zeros : List ℕ
zeros = replicate 128 0

seen_filled : (m : Masked) → m.filled ≡ true → (without_older m).bytes ≡ m.bytes
seen_filled m on = rw on refl

seen_unfilled : (m : Masked) → m.filled ≡ false → (without_older m).bytes ≡ mixed m.mask m.bytes zeros
seen_unfilled m off = rw off refl

by_mark : {A : Type 0} (b : Bool) (x y : A) → b ≡ true → cond b x y ≡ x
by_mark b x y on = rw on refl

-- a marked byte is seen as it stands
pub seen_marked : (m : Masked) (k : ℕ) → length m.bytes ≡ 128 → is_marked m.mask k ≡ true → get_or m.bytes k 0 ≡ get_or (without_older m).bytes k 0
seen_marked m k room on =
    ⊎_elim
    (λ (filled : m.filled ≡ true). ap (λ bytes. get_or bytes k 0) (sym (seen_filled m filled)))
    (λ (off : m.filled ≡ false).
    sym (ap (λ bytes. get_or bytes k 0) (seen_unfilled m off) ∙
    get_or-mixed m.mask m.bytes zeros k (sym room) ∙ by_mark _ _ _ on))
    (cases_Bool m.filled)

-- so are all bytes of a line of which they are all known
seen_known : (m : Masked) (offset size k : ℕ) → length m.bytes ≡ 128 → ((m.filled ≡ true) ⊎ Covers m.mask offset size) → offset ≤ k → k < offset + size → get_or m.bytes k 0 ≡ get_or (without_older m).bytes k 0
seen_known m offset size k room known from below =
    ⊎_elim
    (λ (filled : m.filled ≡ true). ap (λ bytes. get_or bytes k 0) (sym (seen_filled m filled)))
    (λ (covers : Covers m.mask offset size). seen_marked m k room (covers k from below))
    known

length-seen : (m : Masked) → length m.bytes ≡ 128 → length (without_older m).bytes ≡ 128
length-seen m room =
    ⊎_elim
    (λ (filled : m.filled ≡ true). ap length (seen_filled m filled) ∙ room)
    (λ (off : m.filled ≡ false). ap length (seen_unfilled m off) ∙ length-mixed m.mask m.bytes zeros ∙ room)
    (cases_Bool m.filled)

-- the bytes of a run are those of another list
same_run : (xs ys : List ℕ) (offset size : ℕ) → length xs ≡ length ys → offset + size ≤ length xs → ((k : ℕ) → offset ≤ k → k < offset + size → get_or xs k 0 ≡ get_or ys k 0) → take size (drop offset xs) ≡ take size (drop offset ys)
same_run xs ys offset size len within same =
    let left = length-drop offset xs in
    let right = length-drop offset ys in
    let first = length-take-le size (drop offset xs) (omega arith) in
    let second = length-take-le size (drop offset ys) (omega arith) in
    same_number_lists _ _ (omega arith)
    (λ k below.
    get_or-take size (drop offset xs) k 0 (omega arith) ∙ get_or-drop offset xs k 0 ∙
    same (offset + k) (omega arith) (omega arith) ∙
    sym (get_or-take size (drop offset ys) k 0 (omega arith) ∙ get_or-drop offset ys k 0))

value-seen : (m : Masked) (offset size : ℕ) → length m.bytes ≡ 128 → offset + size ≤ 128 → ((m.filled ≡ true) ⊎ Covers m.mask offset size) → value_at m.bytes offset size ≡ value_at (without_older m).bytes offset size
value-seen m offset size room within known =
    let len = length-seen m room in
    ap number_of
    (same_run m.bytes (without_older m).bytes offset size (room ∙ sym len) (omega arith)
    (λ k from below. seen_known m offset size k room known from below))

looks-seen : (m : Masked) (offset size : ℕ) (look : Look) → length m.bytes ≡ 128 → offset + size ≤ 128 → LooksIn m offset size look → LooksIn (without_older m) offset size look
looks-seen m offset size (Known value) room within looks = (looks.0, looks.1 ∙ value-seen m offset size room within looks.0)
looks-seen m offset size Missing room within looks = looks
looks-seen m offset size Full room within looks = absurd looks

-- nothing is known of a slot that was taken over
pub taken_over : (m : Masked) → length m.bytes ≡ 128 → m.mask ≡ 0 → m.filled ≡ false → without_older m ≡ unknown
taken_over m room none off =
    same_unknown (without_older m)
    (seen_unfilled m off ∙ ap (λ mask. mixed mask m.bytes zeros) none ∙
    same_number_lists (mixed 0 m.bytes zeros) zeros (length-mixed 0 m.bytes zeros ∙ room)
    (λ k below. get_or-mixed 0 m.bytes zeros k (sym room) ∙ ap (λ bit. cond (eqb bit 1) (get_or m.bytes k 0) (get_or zeros k 0)) (bit_at-zero k)))
    none off

twice : {A : Type 0} (b : Bool) (x y z : A) → cond b (cond b x y) z ≡ cond b x z
twice true x y z = refl
twice false x y z = refl

mixed-over : (mask : ℕ) (front other back : List ℕ) → length other ≡ length front → length back ≡ length front → mixed mask (mixed mask front other) back ≡ mixed mask front back
mixed-over mask front other back same_other same_back =
    let inner = length-mixed mask front other in
    let outer = length-mixed mask (mixed mask front other) back in
    let plain = length-mixed mask front back in
    same_number_lists _ _ (omega arith)
    (λ k below.
    get_or-mixed mask (mixed mask front other) back k (omega arith) ∙
    ap (λ x. cond (is_marked mask k) x (get_or back k 0)) (get_or-mixed mask front other k same_other) ∙
    twice (is_marked mask k) (get_or front k 0) (get_or other k 0) (get_or back k 0) ∙
    sym (get_or-mixed mask front back k same_back))

same_masked : (a b : Masked) → a.bytes ≡ b.bytes → a.mask ≡ b.mask → a.filled ≡ b.filled → a ≡ b
same_masked a b bytes mask filled =
    ap (λ x. record { bytes = x; mask = a.mask; filled = a.filled }) bytes ∙
    ap (λ x. record { bytes = b.bytes; mask = x; filled = a.filled }) mask ∙
    ap (λ x. record { bytes = b.bytes; mask = b.mask; filled = x }) filled

-- a slot after a fill of its line
pub filled_raw : (n : ℕ) (old new : Masked) (from : List ℕ) → n ≤ 128 → length from ≡ 128 → IsLine n old → new.bytes ≡ mixed old.mask old.bytes (take n from) → new.mask ≡ old.mask → new.filled ≡ true → new ≡ filled_from n old from
filled_raw n old new from few long is bytes mask filled =
    let len : length (take n from) ≡ n = length-take-le n from (omega arith) in
    same_masked new (filled_from n old from)
    (bytes ∙ sym (mixed-zeros old.mask old.bytes (take n from) (128 - n) (λ k past. is.zeros k (omega arith))))
    mask filled

filled-seen : (n : ℕ) (old : Masked) (from : List ℕ) → n ≤ 128 → length from ≡ 128 → IsLine n old → old.filled ≡ false → without_older (filled_from n old from) ≡ filled_from n (without_older old) from
filled-seen n old from few long is off =
    let copy : List ℕ = take n from ++ replicate (128 - n) 0 in
    let len : length (take n from) ≡ n = length-take-le n from (omega arith) in
    let joined = length-append {A = ℕ} (take n from) (replicate (128 - n) 0) in
    let rest : length {A = ℕ} (replicate (128 - n) 0) ≡ 128 - n = length-replicate (128 - n) 0 in
    let room = is.room in
    ap (λ bytes. record { bytes = bytes; mask = old.mask; filled = true })
    (sym (mixed-over old.mask old.bytes zeros copy (sym room) (omega arith)) ∙ ap (λ bytes. mixed old.mask bytes copy) (sym (seen_unfilled old off)))

-- ---- a store

before_at : (offset size k : ℕ) (bytes low : List ℕ) → length low ≡ size → offset + size ≤ length bytes → k < offset → get_or (take offset bytes ++ low ++ drop (offset + size) bytes) k 0 ≡ get_or bytes k 0
before_at offset size k bytes low len within below = grind (arith, places)

inside_at : (offset size k : ℕ) (bytes low : List ℕ) → length low ≡ size → offset + size ≤ length bytes → offset ≤ k → k < offset + size → get_or (take offset bytes ++ low ++ drop (offset + size) bytes) k 0 ≡ get_or low (k - offset) 0
inside_at offset size k bytes low len within from below = grind (arith, places)

after_at : (offset size k : ℕ) (bytes low : List ℕ) → length low ≡ size → offset + size ≤ length bytes → offset + size ≤ k → get_or (take offset bytes ++ low ++ drop (offset + size) bytes) k 0 ≡ get_or bytes k 0
after_at offset size k bytes low len within past = grind (arith, places)

is_inside : (offset size k : ℕ) → offset ≤ k → k < offset + size → is_within offset size k ≡ true
is_inside offset size k from below = search (rules, nat_tests)

is_before : (offset size k : ℕ) → k < offset → is_within offset size k ≡ false
is_before offset size k below = search (rules, nat_tests)

is_after : (offset size k : ℕ) → offset + size ≤ k → is_within offset size k ≡ false
is_after offset size k past = search (rules, nat_tests)

or_on : (a b : Bool) → b ≡ true → (a || b) ≡ true
or_on true b on = refl
or_on false b on = on

or_off : (a b : Bool) → b ≡ false → (a || b) ≡ a
or_off true b off = refl
or_off false b off = off

-- outside of the store both sides have the byte that was seen before
stored_outside : (old new : Masked) (offset size value k : ℕ) → length old.bytes ≡ 128 → Stores old new offset size value → is_within offset size k ≡ false → get_or new.bytes k 0 ≡ get_or old.bytes k 0 → length new.bytes ≡ 128 → get_or (mixed new.mask new.bytes zeros) k 0 ≡ get_or (mixed old.mask old.bytes zeros) k 0
stored_outside old new offset size value k room stores off same long =
    get_or-mixed new.mask new.bytes zeros k (sym long) ∙
    ap (λ b. cond b (get_or new.bytes k 0) (get_or zeros k 0)) (stores.marks k ∙ or_off (is_marked old.mask k) _ off) ∙
    ap (λ x. cond (is_marked old.mask k) x (get_or zeros k 0)) same ∙
    sym (get_or-mixed old.mask old.bytes zeros k (sym room))

stored_inside : (old new : Masked) (offset size value k : ℕ) → Stores old new offset size value → is_within offset size k ≡ true → length new.bytes ≡ 128 → get_or (mixed new.mask new.bytes zeros) k 0 ≡ get_or new.bytes k 0
stored_inside old new offset size value k stores on long =
    get_or-mixed new.mask new.bytes zeros k (sym long) ∙ by_mark _ _ _ (stores.marks k ∙ or_on (is_marked old.mask k) _ on)

stored_bytes : (old new : Masked) (offset size value : ℕ) → IsAccessSize size → offset + size ≤ 128 → length old.bytes ≡ 128 → length new.bytes ≡ 128 → Stores old new offset size value → mixed new.mask new.bytes zeros ≡ stored (mixed old.mask old.bytes zeros) offset size value
stored_bytes old new offset size value access within room long stores =
    let low : List ℕ = take size (to_le_bytes w32 value) in
    let few : length low ≡ size = length-low_bytes size value access in
    let was : List ℕ = mixed old.mask old.bytes zeros in
    let was_len : length was ≡ 128 = length-mixed old.mask old.bytes zeros ∙ room in
    let now_len : length (mixed new.mask new.bytes zeros) ≡ 128 = length-mixed new.mask new.bytes zeros ∙ long in
    let new_len : length (stored was offset size value) ≡ 128 = length_stored was low few was_len in
    same_number_lists _ _ (now_len ∙ sym new_len)
    (λ k below.
    ⊎_elim
    (λ (before : k < offset).
    stored_outside old new offset size value k room stores (is_before offset size k before)
    (ap (λ bytes. get_or bytes k 0) stores.bytes ∙ before_at offset size k old.bytes low few (omega arith) before) long ∙
    sym (before_at offset size k was low few (omega arith) before))
    (λ (from : offset ≤ k).
    ⊎_elim
    (λ (inside : k < offset + size).
    stored_inside old new offset size value k stores (is_inside offset size k from inside) long ∙
    ap (λ bytes. get_or bytes k 0) stores.bytes ∙ inside_at offset size k old.bytes low few (omega arith) from inside ∙
    sym (inside_at offset size k was low few (omega arith) from inside))
    (λ (past : offset + size ≤ k).
    stored_outside old new offset size value k room stores (is_after offset size k past)
    (ap (λ bytes. get_or bytes k 0) stores.bytes ∙ after_at offset size k old.bytes low few (omega arith) past) long ∙
    sym (after_at offset size k was low few (omega arith) past))
    (cases_lt k (offset + size)))
    (cases_lt k offset))
  where
    length_stored : (bytes low : List ℕ) → length low ≡ size → length bytes ≡ 128 → length (take offset bytes ++ low ++ drop (offset + size) bytes) ≡ 128
    length_stored bytes low few len = search (rules, places)

-- a store is seen as a store
pub stores-seen : (n : ℕ) (old new : Masked) (offset size value : ℕ) → n ≤ 128 → IsAccessSize size → offset + size ≤ n → IsLine n old → Stores old new offset size value → Stores (without_older old) (without_older new) offset size value
stores-seen n old new offset size value few access within is stores = record {
  bytes = ⊎_elim
      (λ (filled : old.filled ≡ true).
      seen_filled new (stores.filled ∙ filled) ∙ stores.bytes ∙ ap (λ bytes. stored bytes offset size value) (sym (seen_filled old filled)))
      (λ (off : old.filled ≡ false).
      seen_unfilled new (stores.filled ∙ off) ∙
      stored_bytes old new offset size value access (omega arith) is.room (IsLine-stored n offset size value old new few access within is stores).room stores ∙
      ap (λ bytes. stored bytes offset size value) (sym (seen_unfilled old off)))
      (cases_Bool old.filled);
  marks = stores.marks;
  filled = stores.filled;
}

-- ---- the lines in use

abbrev pub seen : Line × Masked → Line × Masked
seen slot = (slot.0, without_older slot.1)

abbrev pub slot_lines : ℕ → List (Line × Masked) → ℕ → ℕ → SlotLines
slot_lines n slots used room = record { line_bytes = n; lines = lines_used slots used; room = room }

-- what every call keeps
abbrev pub AreSlots : ℕ → List (Line × Masked) → ℕ → Type 0
AreSlots n slots used = IsLineSize n × (used ≤ length slots) × All (λ (slot : Line × Masked). IsLine n slot.1) slots

pub length-lines : (slots : List (Line × Masked)) (used : ℕ) → used ≤ length slots → length (lines_used slots used) ≡ used
length-lines slots used few = length-map (take used slots) seen ∙ length-take-le used slots few

-- a slot in use, by what is seen of it
pub record IsSlot (s : SlotLines) (place : ℕ) (slot : Line × Masked) : Type 0 where
  pub seen_as : slot_entry s place ≡ seen slot
  pub few : s.line_bytes ≤ 128
  pub whole : IsLine s.line_bytes slot.1

slot_at : (n room used place : ℕ) (slots : List (Line × Masked)) (slot : Line × Masked) → AreSlots n slots used → place < length (lines_used slots used) → slot ≡ get_or slots place slot → IsSlot (slot_lines n slots used room) place slot
slot_at n room used place slots slot are there read =
    let len = length-lines slots used are.1 in
    let took : length (take used slots) ≡ used = length-take-le used slots are.1 in
    let bounds = line_size_bounds n are.0 in
    let inside : used ≤ length slots = are.1 in
    record {
      seen_as = get_or-map seen (take used slots) place slot (record { 0 = 0 }, unknown) (omega arith) ∙
          ap seen (get_or-take used slots place slot (omega arith) ∙ sym read);
      few = bounds.1;
      whole = subst (λ (e : Line × Masked). IsLine n e.1) (sym read) (are.2 place slot (omega arith));
    }

pub is_slot : (s : SlotLines) (n room used place : ℕ) (slots : List (Line × Masked)) (slot : Line × Masked) → slot_lines n slots used room ≡ s → AreSlots n slots used → place < length s.lines → slot ≡ get_or slots place slot → IsSlot s place slot
is_slot s n room used place slots slot view are there read =
    subst (λ t. IsSlot t place slot) view (slot_at n room used place slots slot are (rw (← view) at there) read)

pub looks_in-slot : (s : SlotLines) (place : ℕ) (slot : Line × Masked) (offset size : ℕ) (look : Look) → IsSlot s place slot → offset + size ≤ 128 → LooksIn slot.1 offset size look → LooksIn (slot_entry s place).1 offset size look
looks_in-slot s place slot offset size look is within looks =
    subst (λ (e : Line × Masked). LooksIn e.1 offset size look) (sym is.seen_as) (looks-seen slot.1 offset size look is.whole.room within looks)

pub value_in-slot : (s : SlotLines) (place : ℕ) (slot : Line × Masked) (offset size : ℕ) → IsSlot s place slot → offset + size ≤ 128 → (((slot_entry s place).1.filled ≡ true) ⊎ Covers (slot_entry s place).1.mask offset size) → value_at slot.1.bytes offset size ≡ value_at (slot_entry s place).1.bytes offset size
value_in-slot s place slot offset size is within known =
    let P : Line × Masked → Type 0 = λ e. (e.1.filled ≡ true) ⊎ Covers e.1.mask offset size in
    value-seen slot.1 offset size is.whole.room within (subst P is.seen_as known) ∙
    ap (λ (e : Line × Masked). value_at e.1.bytes offset size) (sym is.seen_as)

pub marked_in-slot : (s : SlotLines) (place : ℕ) (slot : Line × Masked) → IsSlot s place slot → HaveSameMarked slot.1 (slot_entry s place).1
marked_in-slot s place slot is =
    let same : HaveSameMarked slot.1 (without_older slot.1) = record {
      room = is.whole.room ∙ sym (length-seen slot.1 is.whole.room);
      marks = refl;
      bytes = λ k on. seen_marked slot.1 k is.whole.room on;
    } in
    subst (λ (e : Line × Masked). HaveSameMarked slot.1 e.1) (sym is.seen_as) same

-- ---- changes

lines-set : (slots : List (Line × Masked)) (used place : ℕ) (slot : Line × Masked) → place < used → lines_used (set slots place slot) used ≡ set (lines_used slots used) place (seen slot)
lines-set slots used place slot below = ap (map seen) (take-set-lt used slots place slot below) ∙ map-set seen (take used slots) place slot

pub AreSlots-set : (n used place : ℕ) (slots : List (Line × Masked)) (slot : Line × Masked) → AreSlots n slots used → IsLine n slot.1 → AreSlots n (set slots place slot) used
AreSlots-set n used place slots slot are fits =
    let len = length-set slots place slot in
    let few : used ≤ length slots = are.1 in
    (are.0, omega arith, All-set (λ (e : Line × Masked). IsLine n e.1) slots place slot fits are.2)

-- a fill
pub record IsFillSlot (s : SlotLines) (n room used place : ℕ) (slots : List (Line × Masked)) (slot : Line × Masked) (new : Masked) (from : List ℕ) : Type 0 where
  pub are : AreSlots n (set slots place (slot.0, new)) used
  pub lines : slot_lines n (set slots place (slot.0, new)) used room
      ≡ record s { lines = set s.lines place ((slot_entry s place).0, filled_from s.line_bytes (slot_entry s place).1 from) }

fills_slot : (n room used place : ℕ) (slots : List (Line × Masked)) (slot : Line × Masked) (new : Masked) (from : List ℕ) → AreSlots n slots used → place < used → IsSlot (slot_lines n slots used room) place slot → slot.1.filled ≡ false → length from ≡ 128 → new.bytes ≡ mixed slot.1.mask slot.1.bytes (take n from) → new.mask ≡ slot.1.mask → new.filled ≡ true → IsFillSlot (slot_lines n slots used room) n room used place slots slot new from
fills_slot n room used place slots slot new from are below is off long bytes mask filled =
    let new_is : new ≡ filled_from n slot.1 from = filled_raw n slot.1 new from is.few long is.whole bytes mask filled in
    let fits : IsLine n new = subst (IsLine n) (sym new_is) (IsLine-filled n slot.1 from is.few long is.whole) in
    let seen_new : seen (slot.0, new) ≡ (slot.0, filled_from n (without_older slot.1) from) =
    ap (λ m. (slot.0, without_older m)) new_is ∙ ap (λ m. (slot.0, m)) (filled-seen n slot.1 from is.few long is.whole off) in
    record {
      are = AreSlots-set n used place slots (slot.0, new) are fits;
      lines = ap (λ lines. record { line_bytes = n; lines = lines; room = room })
          (lines-set slots used place (slot.0, new) below ∙
          ap (set (lines_used slots used) place)
          (seen_new ∙ ap (λ (e : Line × Masked). (e.0, filled_from n e.1 from)) (sym is.seen_as)));
    }

pub is_filled : (s : SlotLines) (n room used place : ℕ) (slots : List (Line × Masked)) (slot : Line × Masked) (new : Masked) (from : List ℕ) → slot_lines n slots used room ≡ s → AreSlots n slots used → place < length s.lines → slot ≡ get_or slots place slot → (slot_entry s place).1.filled ≡ false → length from ≡ 128 → new.bytes ≡ mixed slot.1.mask slot.1.bytes (take n from) → new.mask ≡ slot.1.mask → new.filled ≡ true → IsFillSlot s n room used place slots slot new from
is_filled s n room used place slots slot new from view are there read off long bytes mask filled =
    let is : IsSlot s place slot = is_slot s n room used place slots slot view are there read in
    let raw_off : slot.1.filled ≡ false = ap (λ (e : Line × Masked). e.1.filled) (sym is.seen_as) ∙ off in
    let len = length-lines slots used are.1 in
    let below : place < length (lines_used slots used) = rw (← view) at there in
    subst (λ t. IsFillSlot t n room used place slots slot new from) view
    (fills_slot n room used place slots slot new from are (omega arith) (rw (← view) at is) raw_off long bytes mask filled)

-- a store
pub record IsStoreSlot (s : SlotLines) (n room used place offset size value : ℕ) (slots : List (Line × Masked)) (slot : Line × Masked) (new : Masked) : Type 0 where
  pub are : AreSlots n (set slots place (slot.0, new)) used
  pub stores : StoresIn s (slot_lines n (set slots place (slot.0, new)) used room) place offset size value

stores_slot : (n room used place offset size value : ℕ) (slots : List (Line × Masked)) (slot : Line × Masked) (new : Masked) → AreSlots n slots used → place < used → IsSlot (slot_lines n slots used room) place slot → IsAccessSize size → offset + size ≤ n → Stores slot.1 new offset size value → IsStoreSlot (slot_lines n slots used room) n room used place offset size value slots slot new
stores_slot n room used place offset size value slots slot new are below is access within stores =
    let fits : IsLine n new = IsLine-stored n offset size value slot.1 new is.few access within is.whole stores in
    let len = length-lines slots used are.1 in
    let lines : lines_used (set slots place (slot.0, new)) used ≡ set (lines_used slots used) place (seen (slot.0, new)) = lines-set slots used place (slot.0, new) below in
    let new_at : slot_entry (slot_lines n (set slots place (slot.0, new)) used room) place ≡ seen (slot.0, new) =
    ap (λ es. get_or es place (record { 0 = 0 }, unknown)) lines ∙ get_or-set_same (lines_used slots used) place (seen (slot.0, new)) (record { 0 = 0 }, unknown) (omega arith) in
    let seen_stores : Stores (without_older slot.1) (without_older new) offset size value = stores-seen n slot.1 new offset size value is.few access within is.whole stores in
    record {
      are = AreSlots-set n used place slots (slot.0, new) are fits;
      stores = record {
        line = ap (λ (e : Line × Masked). e.0) new_at ∙ ap (λ (e : Line × Masked). e.0) (sym is.seen_as);
        stores = subst (λ (e : Line × Masked). Stores (slot_entry (slot_lines n slots used room) place).1 e.1 offset size value) (sym new_at)
            (subst (λ (e : Line × Masked). Stores e.1 (without_older new) offset size value) (sym is.seen_as) seen_stores);
        others = ap (λ es. record { line_bytes = n; lines = es; room = room }) (lines ∙ ap (set (lines_used slots used) place) (sym new_at));
      };
    }

pub is_stored : (s : SlotLines) (n room used place offset size value : ℕ) (slots : List (Line × Masked)) (slot : Line × Masked) (new : Masked) → slot_lines n slots used room ≡ s → AreSlots n slots used → place < length s.lines → slot ≡ get_or slots place slot → IsAccessSize size → offset + size ≤ s.line_bytes → Stores slot.1 new offset size value → IsStoreSlot s n room used place offset size value slots slot new
is_stored s n room used place offset size value slots slot new view are there read access within stores =
    let is : IsSlot s place slot = is_slot s n room used place slots slot view are there read in
    let len = length-lines slots used are.1 in
    let below : place < length (lines_used slots used) = rw (← view) at there in
    subst (λ t. IsStoreSlot t n room used place offset size value slots slot new) view
    (stores_slot n room used place offset size value slots slot new are (omega arith) (rw (← view) at is) access (rw (← view) at within) stores)

-- a line behind the others
unmarked_none : (m : Masked) (n : ℕ) → m.mask ≡ 0 → (k : ℕ) → n ≤ k → is_marked m.mask k ≡ false
unmarked_none m n none k past = ap (λ mask. is_marked mask k) none ∙ ap (λ bit. eqb bit 1) (bit_at-zero k)

pub record IsAdded (s : SlotLines) (n room used : ℕ) (l : Line) (slots : List (Line × Masked)) : Type 0 where
  pub are : AreSlots n slots (used + 1)
  pub lines : slot_lines n slots (used + 1) room ≡ record s { lines = s.lines ++ (l, unknown) ∷ [] }

pub is_taken : (s : SlotLines) (n room used : ℕ) (l : Line) (slots : List (Line × Masked)) (slot : Line × Masked) → slot_lines n slots used room ≡ s → AreSlots n slots used → used < length slots → slot ≡ get_or slots used slot → IsAdded s n room used l (set slots used (l, record { bytes = slot.1.bytes; mask = 0; filled = false }))
is_taken s n room used l slots slot view are below read =
    let new : Masked = record { bytes = slot.1.bytes; mask = 0; filled = false } in
    let was : IsLine n slot.1 = subst (λ (e : Line × Masked). IsLine n e.1) (sym read) (are.2 used slot below) in
    let fits : IsLine n new = record { room = was.room; zeros = was.zeros; unmarked = unmarked_none new n refl } in
    let len = length-set slots used (l, new) in
    let done : IsAdded (slot_lines n slots used room) n room used l (set slots used (l, new)) = record {
      are = (are.0, omega arith, All-set (λ (e : Line × Masked). IsLine n e.1) slots used (l, new) fits are.2);
      lines = ap (λ es. record { line_bytes = n; lines = es; room = room })
          (ap (map seen) (take_more_set slots used (l, new) below) ∙ map-append seen (take used slots) ((l, new) ∷ []) ∙
          ap (λ m. lines_used slots used ++ (l, m) ∷ []) (taken_over new was.room refl refl));
    } in
    subst (λ t. IsAdded t n room used l (set slots used (l, new))) view done

pub is_pushed : (s : SlotLines) (n room used : ℕ) (l : Line) (slots : List (Line × Masked)) (empty : Masked) → slot_lines n slots used room ≡ s → AreSlots n slots used → length slots ≤ used → empty ≡ unknown → IsAdded s n room used l (slots ++ (l, empty) ∷ [])
is_pushed s n room used l slots empty view are full is =
    let bounds = line_size_bounds n are.0 in
    let long = length-append slots ((l, unknown) ∷ []) in
    let few : used ≤ length slots = are.1 in
    let done : IsAdded (slot_lines n slots used room) n room used l (slots ++ (l, unknown) ∷ []) = record {
      are = (are.0, omega arith, all_push (λ (e : Line × Masked). IsLine n e.1) slots (l, unknown) are.2 (IsLine-unknown n bounds.1));
      lines = ap (λ es. record { line_bytes = n; lines = es; room = room })
          (ap (map seen) (take_all (used + 1) (slots ++ (l, unknown) ∷ []) (omega arith)) ∙ map-append seen slots ((l, unknown) ∷ []) ∙
          ap (λ m. map seen slots ++ (l, m) ∷ []) (taken_over unknown (length-replicate {A = ℕ} 128 0) refl refl) ∙
          ap (λ es. map seen es ++ (l, unknown) ∷ []) (sym (take_all used slots full)));
    } in
    rw is (subst (λ t. IsAdded t n room used l (slots ++ (l, unknown) ∷ [])) view done)
