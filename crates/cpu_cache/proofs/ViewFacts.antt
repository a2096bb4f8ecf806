-- What is seen of a cache, and of its changes.
use Rattle.std.proofs.Common.{◌≡◌, ℕ, zero, suc, ◌+◌, ◌-◌, ◌%◌, ◌<◌, ◌≤◌, ◌⊎◌, ⊎_elim, List, [], ◌∷◌, ◌++◌, Option, Some, None, length, get_or, map, set, take, drop, replicate, sym, ap, ◌∙◌, refl, arith, rules}
use Rattle.std.specs.Option.{option_map, IsSome, IfSome}
use Rattle.std.specs.List.{slice_get}
use Rattle.std.proofs.lemmas.List.{length-set, length-map, get_or_default, get_or-set_same, places, same_lists, length-take-le, take_at, take-map}
use Rattle.std.proofs.Math.ListN.{get_or-map}
use Rattle.std.proofs.lemmas.Option.{slice_get-map}
use Rattle.std.specs.Int.{to_le_bytes, w32}
use Rattle.conda_base.specs.Bytes.{handed_out, stored, value_at, number_of}
use Rattle.conda_base.proofs.ByteLemmas.{length-low_bytes}
use Rattle.conda_base.specs.declared.Line.{Line}
use Rattle.conda_base.specs.declared.Mesi.{Mesi}
use Rattle.conda_base.specs.declared.Mesi.TheVariants.{M, E, S}
use Rattle.conda_base.specs.Lines.{IsAccessSize}
use Rattle.conda_base.proofs.LineLemmas.{line_size_bounds}
use Rattle.set_assoc.specs.Entries.{without, replaced, touched}
use Rattle.set_assoc.specs.Places.{ArePlacedSets, placed}
use Rattle.set_assoc.specs.declared.placed.Placed.{Placed}
use Rattle.set_assoc.specs.Seen.{seen_list, seen_through}
use Rattle.set_assoc.specs.SetLists.{SetLists, set_of, list_of, with_list, find, IsSets}
use Rattle.set_assoc.proofs.SetLemmas.{list_of-with_list}
use Rattle.set_assoc.proofs.SeenFacts.{IsSets-seen, changed-seen, find-seen, list_of-seen, replaced-seen_list, replicate-seen, touched-seen_list, with_list-seen, without-seen_list}
use Rattle.cpu_cache.specs.Contents.{Content, Contents, IsCache, bytes_in, bytes_of, content_bytes, content_of, filled, in_front, leaving, loaded, restated, set_list, state_of, stored_if_owned, tag_of, tags_of, with_set, written_back}
use Rattle.cpu_cache.specs.Slots.{IsSlot, IsSlotStore, content_in, contents_in, slot_of}
use Rattle.set_assoc.proofs.FindFacts.{set_below}
use Rattle.cpu_cache.proofs.PlaceFacts.{place_below, write_unseen}
use Rattle.cpu_cache.proofs.RoomFacts.{find_listed}
use Rattle.cpu_cache.proofs.StoreFacts.{IsSlot-written, slot_at, slot_handed_out}

-- a set that changes twice
set_twice : {A : Type 0} (xs : List A) (i : ℕ) (a b : A) → set (set xs i a) i b ≡ set xs i b
set_twice [] i a b = refl
set_twice (x ∷ xs) zero a b = refl
set_twice (x ∷ xs) (suc i) a b = ap (λ ys. x ∷ ys) (set_twice xs i a b)

pub with_list_twice : {T : Type 0} (sets : SetLists T) (l : Line) (first second : List (Line × T)) → with_list (with_list sets l first) l second ≡ with_list sets l second
with_list_twice sets l first second =
    ap (λ lists. record { ways = sets.ways; lists = lists })
    (ap (λ n. set (set sets.lists (set_of sets l) first) (l.0 % n) second) (length-set sets.lists (set_of sets l) first) ∙ set_twice sets.lists (set_of sets l) first second)

-- what each line is seen as
abbrev pub seen_as : ℕ → List (List ℕ) → SetLists (Placed Mesi) → Line → Placed Mesi → Content
seen_as n slots lines l kept = content_in n (length lines.lists) slots l kept

-- the slot of a held line
abbrev pub slot_in : SetLists (Placed Mesi) → Line → Placed Mesi → ℕ
slot_in lines l kept = slot_of (length lines.lists) l kept.place

pub list_seen : (n : ℕ) (slots : List (List ℕ)) (lines : SetLists (Placed Mesi)) (l : Line) → set_list (contents_in n slots lines) l ≡ seen_list (seen_as n slots lines) (list_of lines l)
list_seen n slots lines l = list_of-seen (seen_as n slots lines) lines l

pub content_seen : (n : ℕ) (slots : List (List ℕ)) (lines : SetLists (Placed Mesi)) (l : Line) → content_of (contents_in n slots lines) l ≡ option_map (seen_as n slots lines l) (find lines l)
content_seen n slots lines l = find-seen (seen_as n slots lines) lines l

pub found_seen : (n : ℕ) (slots : List (List ℕ)) (lines : SetLists (Placed Mesi)) (l : Line) (kept : Placed Mesi) → find lines l ≡ Some kept → content_of (contents_in n slots lines) l ≡ Some (seen_as n slots lines l kept)
found_seen n slots lines l kept there = content_seen n slots lines l ∙ ap (λ o. option_map (seen_as n slots lines l) o) there

pub bytes_seen : (n : ℕ) (slots : List (List ℕ)) (lines : SetLists (Placed Mesi)) (l : Line) (kept : Placed Mesi) → find lines l ≡ Some kept → bytes_of (contents_in n slots lines) l ≡ take n (get_or slots (slot_in lines l kept) [])
bytes_seen n slots lines l kept there = ap content_bytes (found_seen n slots lines l kept there)

some_of : {A B : Type 0} (f : A → B) (o : Option A) → IsSome (option_map f o) → IsSome o
some_of f None is = is
some_of f (Some x) is = is

none_of : {A B : Type 0} (f : A → B) (o : Option A) → option_map f o ≡ None → o ≡ None
none_of f None is = refl
none_of f (Some x) is = absurd cc

option_map_twice : {A B C : Type 0} (f : A → B) (g : B → C) (o : Option A) → option_map g (option_map f o) ≡ option_map (λ x. g (f x)) o
option_map_twice f g None = refl
option_map_twice f g (Some x) = refl

-- a line that is seen is held
pub held_from_seen : (n : ℕ) (slots : List (List ℕ)) (lines : SetLists (Placed Mesi)) (l : Line) → IsSome (content_of (contents_in n slots lines) l) → IsSome (find lines l)
held_from_seen n slots lines l is = some_of (seen_as n slots lines l) (find lines l) (rw (content_seen n slots lines l) at is)

pub absent_from_seen : (n : ℕ) (slots : List (List ℕ)) (lines : SetLists (Placed Mesi)) (l : Line) → content_of (contents_in n slots lines) l ≡ None → find lines l ≡ None
absent_from_seen n slots lines l is = none_of (seen_as n slots lines l) (find lines l) (sym (content_seen n slots lines l) ∙ is)

pub state_seen : (n : ℕ) (slots : List (List ℕ)) (lines : SetLists (Placed Mesi)) (l : Line) → option_map (λ (kept : Placed Mesi). kept.value) (find lines l) ≡ state_of (contents_in n slots lines) l
state_seen n slots lines l =
    sym (ap (λ o. option_map (λ content. content.state) o) (content_seen n slots lines l) ∙
    option_map_twice (seen_as n slots lines l) (λ content. content.state) (find lines l))

some_of_equal : {A B : Type 0} (f : A → B) (o : Option A) (y : B) → option_map f o ≡ Some y → IsSome o
some_of_equal f None y is = absurd cc
some_of_equal f (Some x) y is = refl

pub held_from_state : (n : ℕ) (slots : List (List ℕ)) (lines : SetLists (Placed Mesi)) (l : Line) (state : Mesi) → state_of (contents_in n slots lines) l ≡ Some state → IsSome (find lines l)
held_from_state n slots lines l state is = some_of_equal (λ kept. kept.value) (find lines l) state (state_seen n slots lines l ∙ is)

pub tag_seen : (n : ℕ) (slots : List (List ℕ)) (lines : SetLists (Placed Mesi)) (set way : ℕ) → option_map (λ (e : Line × Placed Mesi). (e.0, e.1.value)) (slice_get (get_or lines.lists set []) way) ≡ slice_get (tags_of (contents_in n slots lines) set) way
tag_seen n slots lines set way =
    let f : Line → Placed Mesi → Content = seen_as n slots lines in
    let list : get_or (map (seen_list f) lines.lists) set [] ≡ seen_list f (get_or lines.lists set []) = get_or-map (seen_list f) lines.lists set [] in
    sym (ap (λ es. slice_get (map tag_of es) way) list ∙
    slice_get-map tag_of (seen_list f (get_or lines.lists set [])) way ∙
    ap (λ o. option_map tag_of o) (slice_get-map (λ e. (e.0, f e.0 e.1)) (get_or lines.lists set []) way) ∙
    option_map_twice (λ e. (e.0, f e.0 e.1)) tag_of (slice_get (get_or lines.lists set []) way))

-- a slot is within the slots
pub slot_within : (n : ℕ) (lines : SetLists (Placed Mesi)) (slots : List (List ℕ)) (l : Line) (kept : Placed Mesi) → IsSlotStore n lines slots → find lines l ≡ Some kept → slot_in lines l kept < length slots
slot_within n lines slots l kept is there =
    let set = set_below lines l is.placed.sets in
    let place = place_below lines l kept is.placed there in
    omega (arith, is.total)

-- the rules of every cache
some_bytes : (n : ℕ) (f : Placed Mesi → Content) (o : Option (Placed Mesi)) → ((kept : Placed Mesi) → o ≡ Some kept → length (f kept).bytes ≡ n) → IfSome (option_map f o) (λ content. length content.bytes ≡ n)
some_bytes n f None long = tt
some_bytes n f (Some kept) long = long kept refl

pub IsCache-seen : (n : ℕ) (lines : SetLists (Placed Mesi)) (slots : List (List ℕ)) → IsSlotStore n lines slots → IsCache (contents_in n slots lines)
IsCache-seen n lines slots is = record {
  size = is.size;
  sets = IsSets-seen (seen_as n slots lines) lines is.placed.sets;
  bytes = λ l. rw (content_seen n slots lines l)
      (some_bytes n (seen_as n slots lines l) (find lines l)
      (λ kept there.
      let bounds = line_size_bounds n is.size in
      let room = (is.filled (slot_in lines l kept) [] (slot_within n lines slots l kept is there)).room in
      length-take-le n (get_or slots (slot_in lines l kept) []) (omega arith)));
}

-- the slot of a held line, as it is handed out
pub slot_seen : (n : ℕ) (lines : SetLists (Placed Mesi)) (slots : List (List ℕ)) (l : Line) (kept : Placed Mesi) (bytes : List ℕ) → IsSlotStore n lines slots → find lines l ≡ Some kept → bytes ≡ get_or slots (slot_in lines l kept) bytes → bytes ≡ handed_out (bytes_of (contents_in n slots lines) l)
slot_seen n lines slots l kept bytes is there read =
    let within = slot_within n lines slots l kept is there in
    let bounds = line_size_bounds n is.size in
    let fits : IsSlot n (get_or slots (slot_in lines l kept) bytes) = is.filled (slot_in lines l kept) bytes within in
    read ∙ slot_handed_out n (get_or slots (slot_in lines l kept) bytes) bounds.1 fits ∙
    ap (λ b. handed_out (take n b)) (get_or_default slots (slot_in lines l kept) bytes [] within) ∙
    ap handed_out (sym (bytes_seen n slots lines l kept there))

pub written_back_seen : (n : ℕ) (lines : SetLists (Placed Mesi)) (slots : List (List ℕ)) (l : Line) (kept : Placed Mesi) → IsSlotStore n lines slots → find lines l ≡ Some kept → bytes_in kept.value (get_or slots (slot_in lines l kept) []) ≡ written_back (content_of (contents_in n slots lines) l)
written_back_seen n lines slots l kept is there =
    let within = slot_within n lines slots l kept is there in
    let bounds = line_size_bounds n is.size in
    ap (λ b. bytes_in kept.value b) (slot_handed_out n (get_or slots (slot_in lines l kept) []) bounds.1 (is.filled (slot_in lines l kept) [] within)) ∙
    ap written_back (sym (found_seen n slots lines l kept there))

-- a change of one set is seen as that change
pub changed_seen : (n : ℕ) (slots : List (List ℕ)) (lines : SetLists (Placed Mesi)) (l : Line) (entries : List (Line × Placed Mesi)) (seen : List (Line × Content)) → seen ≡ seen_list (seen_as n slots lines) entries → contents_in n slots (with_list lines l entries) ≡ with_set (contents_in n slots lines) l seen
changed_seen n slots lines l entries seen is =
    ap (λ s. record { line_bytes = n; lines = seen_through (content_in n s slots) (with_list lines l entries) }) (length-set lines.lists (set_of lines l) entries) ∙
    ap (λ sets. record { line_bytes = n; lines = sets }) (changed-seen (seen_as n slots lines) lines l entries seen is)

pub touched_seen : (n : ℕ) (slots : List (List ℕ)) (lines : SetLists (Placed Mesi)) (l : Line) → contents_in n slots (with_list lines l (touched l (list_of lines l))) ≡ with_set (contents_in n slots lines) l (touched l (set_list (contents_in n slots lines) l))
touched_seen n slots lines l =
    changed_seen n slots lines l (touched l (list_of lines l)) (touched l (set_list (contents_in n slots lines) l))
    (ap (λ es. touched l es) (list_seen n slots lines l) ∙ touched-seen_list (seen_as n slots lines) l (list_of lines l))

pub dropped_seen : (n : ℕ) (slots : List (List ℕ)) (lines : SetLists (Placed Mesi)) (l : Line) → contents_in n slots (with_list lines l (without l (list_of lines l))) ≡ with_set (contents_in n slots lines) l (without l (set_list (contents_in n slots lines) l))
dropped_seen n slots lines l =
    changed_seen n slots lines l (without l (list_of lines l)) (without l (set_list (contents_in n slots lines) l))
    (ap (λ es. without l es) (list_seen n slots lines l) ∙ without-seen_list (seen_as n slots lines) l (list_of lines l))

pub restated_seen : (n : ℕ) (slots : List (List ℕ)) (lines : SetLists (Placed Mesi)) (l : Line) (kept : Placed Mesi) (state : Mesi) → find lines l ≡ Some kept → contents_in n slots (with_list lines l (replaced l (placed state kept.place) (list_of lines l))) ≡ with_set (contents_in n slots lines) l (restated (contents_in n slots lines) l state)
restated_seen n slots lines l kept state there =
    changed_seen n slots lines l (replaced l (placed state kept.place) (list_of lines l)) (restated (contents_in n slots lines) l state)
    (ap (λ bytes. replaced l (record { state = state; bytes = bytes }) (set_list (contents_in n slots lines) l)) (bytes_seen n slots lines l kept there) ∙
    ap (λ es. replaced l (seen_as n slots lines l (placed state kept.place)) es) (list_seen n slots lines l) ∙
    replaced-seen_list (seen_as n slots lines) l (placed state kept.place) (list_of lines l))

pub owned_seen : (n : ℕ) (slots : List (List ℕ)) (lines : SetLists (Placed Mesi)) (l : Line) (kept : Placed Mesi) (state : Mesi) → find lines l ≡ Some kept → contents_in n slots (with_list lines l ((l, placed state kept.place) ∷ without l (list_of lines l))) ≡ with_set (contents_in n slots lines) l (in_front (contents_in n slots lines) l (record { state = state; bytes = bytes_of (contents_in n slots lines) l }))
owned_seen n slots lines l kept state there =
    changed_seen n slots lines l ((l, placed state kept.place) ∷ without l (list_of lines l))
    (in_front (contents_in n slots lines) l (record { state = state; bytes = bytes_of (contents_in n slots lines) l }))
    (ap (λ bytes. in_front (contents_in n slots lines) l (record { state = state; bytes = bytes })) (bytes_seen n slots lines l kept there) ∙
    ap (λ es. (l, seen_as n slots lines l (placed state kept.place)) ∷ es)
    (ap (λ es. without l es) (list_seen n slots lines l) ∙ without-seen_list (seen_as n slots lines) l (list_of lines l)))

-- a line in front, whose slot has other bytes
pub written_seen : (n : ℕ) (slots : List (List ℕ)) (new : List ℕ) (lines : SetLists (Placed Mesi)) (l : Line) (kept : Placed Mesi) (rest : List (Line × Placed Mesi)) → IsSets lines → ArePlacedSets (with_list lines l ((l, kept) ∷ rest)) → slot_in lines l kept < length slots → contents_in n (set slots (slot_in lines l kept) new) (with_list lines l ((l, kept) ∷ rest)) ≡ with_set (contents_in n slots lines) l ((l, record { state = kept.value; bytes = take n new }) ∷ seen_list (seen_as n slots lines) rest)
written_seen n slots new lines l kept rest are now within =
    let now_slots : List (List ℕ) = set slots (slot_in lines l kept) new in
    let f : Line → Placed Mesi → Content = seen_as n (set slots (slot_in lines l kept) new) lines in
    let g : Line → Placed Mesi → Content = seen_as n slots lines in
    let front : Line × Content = (l, record { state = kept.value; bytes = take n new }) in
    let unseen : seen_through f (with_list lines l rest) ≡ seen_through g (with_list lines l rest) = write_unseen n slots new lines l kept rest are now in
    let here : f l kept ≡ front.1 =
    ap (λ bytes. record { state = kept.value; bytes = take n bytes }) (get_or-set_same slots (slot_in lines l kept) new [] within) in
    let rest_f : list_of (seen_through f (with_list lines l rest)) l ≡ seen_list f rest =
    ap (λ s. list_of s l) (with_list-seen f lines l rest) ∙ same_list f in
    let rest_g : list_of (seen_through g (with_list lines l rest)) l ≡ seen_list g rest =
    ap (λ s. list_of s l) (with_list-seen g lines l rest) ∙ same_list g in
    let same : seen_list f rest ≡ seen_list g rest = sym rest_f ∙ ap (λ s. list_of s l) unseen ∙ rest_g in
    let es : seen_list f ((l, kept) ∷ rest) ≡ front ∷ seen_list g rest =
    ap (λ c. (l, c) ∷ seen_list f rest) here ∙ ap (λ e. front ∷ e) same in
    changed_seen n now_slots lines l ((l, kept) ∷ rest) (front ∷ seen_list g rest) (sym es) ∙
    ap (λ sets. record { line_bytes = n; lines = sets })
    (sym (with_list_twice (seen_through f lines) l (seen_list f rest) (front ∷ seen_list g rest)) ∙
    ap (λ s. with_list s l (front ∷ seen_list g rest)) (sym (with_list-seen f lines l rest) ∙ unseen ∙ with_list-seen g lines l rest) ∙
    with_list_twice (seen_through g lines) l (seen_list g rest) (front ∷ seen_list g rest))
  where
    same_list : (f : Line → Placed Mesi → Content) → list_of (with_list (seen_through f lines) l (seen_list f rest)) l ≡ seen_list f rest
    same_list f =
        let some : 0 < length (map (seen_list f) lines.lists) = rw (length-map lines.lists (seen_list f)) are.some in
        list_of-with_list (seen_through f lines) l (seen_list f rest) some

-- an access within the line reads and writes the line's bytes
pub value_at_line : (n offset size : ℕ) (slot : List ℕ) → n ≤ length slot → offset + size ≤ n → value_at slot offset size ≡ value_at (take n slot) offset size
value_at_line n offset size slot room within = ap number_of (part n offset size slot room within)
  where
    part : (n offset size : ℕ) (slot : List ℕ) → n ≤ length slot → offset + size ≤ n → take size (drop offset slot) ≡ take size (drop offset (take n slot))
    part n offset size slot room within = same_lists _ _ (search (rules, places)) (λ k d below. grind (arith, places))

pub stored_line : (n offset size : ℕ) (slot new : List ℕ) → n ≤ length slot → offset + size ≤ n → length new ≡ size → take n (take offset slot ++ new ++ drop (offset + size) slot) ≡ take offset (take n slot) ++ new ++ drop (offset + size) (take n slot)
stored_line n offset size slot new room within len = same_lists _ _ (search (rules, places)) (λ k d below. grind (arith, places))

-- the number that an access of a held line reads
pub value_seen : (n : ℕ) (lines : SetLists (Placed Mesi)) (slots : List (List ℕ)) (l : Line) (kept : Placed Mesi) (bytes : List ℕ) (offset size : ℕ) → IsSlotStore n lines slots → find lines l ≡ Some kept → bytes ≡ get_or slots (slot_in lines l kept) bytes → offset + size ≤ n → Some (value_at bytes offset size) ≡ loaded offset size (content_of (contents_in n slots lines) l)
value_seen n lines slots l kept bytes offset size is there read within =
    let inside = slot_within n lines slots l kept is there in
    let bounds = line_size_bounds n is.size in
    let room = (is.filled (slot_in lines l kept) [] inside).room in
    ap (λ b. Some (value_at b offset size)) (read ∙ get_or_default slots (slot_in lines l kept) bytes [] inside) ∙
    ap (λ v. Some v) (value_at_line n offset size (get_or slots (slot_in lines l kept) []) (omega arith) within) ∙
    ap (λ o. loaded offset size o) (sym (found_seen n slots lines l kept there))

-- the bytes of a held line after a store
pub bytes_stored : (n : ℕ) (lines : SetLists (Placed Mesi)) (slots : List (List ℕ)) (l : Line) (kept : Placed Mesi) (bytes : List ℕ) (offset size value : ℕ) → IsSlotStore n lines slots → find lines l ≡ Some kept → bytes ≡ get_or slots (slot_in lines l kept) bytes → IsAccessSize size → offset + size ≤ n → take n (stored bytes offset size value) ≡ stored (bytes_of (contents_in n slots lines) l) offset size value
bytes_stored n lines slots l kept bytes offset size value is there read access within =
    let inside = slot_within n lines slots l kept is there in
    let bounds = line_size_bounds n is.size in
    let room = (is.filled (slot_in lines l kept) [] inside).room in
    ap (λ b. take n (stored b offset size value)) (read ∙ get_or_default slots (slot_in lines l kept) bytes [] inside) ∙
    stored_line n offset size (get_or slots (slot_in lines l kept) []) (take size (to_le_bytes w32 value)) (omega arith) within (length-low_bytes size value access) ∙
    ap (λ b. stored b offset size value) (sym (bytes_seen n slots lines l kept there))

pub slot_stored : (n : ℕ) (lines : SetLists (Placed Mesi)) (slots : List (List ℕ)) (l : Line) (kept : Placed Mesi) (bytes : List ℕ) (offset size value : ℕ) → IsSlotStore n lines slots → find lines l ≡ Some kept → bytes ≡ get_or slots (slot_in lines l kept) bytes → IsAccessSize size → offset + size ≤ n → IsSlot n (stored bytes offset size value)
slot_stored n lines slots l kept bytes offset size value is there read access within =
    let inside = slot_within n lines slots l kept is there in
    let bounds = line_size_bounds n is.size in
    IsSlot-written n offset size bytes (take size (to_le_bytes w32 value)) (slot_at n lines slots (slot_in lines l kept) bytes is inside read) bounds.1 within (length-low_bytes size value access)

-- a store into a held line, which comes to the front in M
pub stored_seen : (n : ℕ) (lines : SetLists (Placed Mesi)) (slots : List (List ℕ)) (l : Line) (kept : Placed Mesi) (bytes : List ℕ) (offset size value : ℕ) → IsSlotStore n lines slots → find lines l ≡ Some kept → bytes ≡ get_or slots (slot_in lines l kept) bytes → IsAccessSize size → offset + size ≤ n → ArePlacedSets (with_list lines l ((l, placed M kept.place) ∷ without l (list_of lines l))) → contents_in n (set slots (slot_in lines l kept) (stored bytes offset size value)) (with_list lines l ((l, placed M kept.place) ∷ without l (list_of lines l))) ≡ with_set (contents_in n slots lines) l (in_front (contents_in n slots lines) l (record { state = M; bytes = stored (bytes_of (contents_in n slots lines) l) offset size value }))
stored_seen n lines slots l kept bytes offset size value is there read access within now =
    written_seen n slots (stored bytes offset size value) lines l (placed M kept.place) (without l (list_of lines l)) is.placed.sets now (slot_within n lines slots l kept is there) ∙
    ap (λ b. with_set (contents_in n slots lines) l ((l, record { state = M; bytes = b }) ∷ seen_list (seen_as n slots lines) (without l (list_of lines l)))) (bytes_stored n lines slots l kept bytes offset size value is there read access within) ∙
    ap (λ es. with_set (contents_in n slots lines) l ((l, record { state = M; bytes = stored (bytes_of (contents_in n slots lines) l) offset size value }) ∷ es))
    (sym (ap (λ es. without l es) (list_seen n slots lines l) ∙ without-seen_list (seen_as n slots lines) l (list_of lines l)))

-- a store that owns its line, and one that doesn't
pub stored_is : (c : Contents) (l : Line) (content : Content) (offset size value : ℕ) → content_of c l ≡ Some content → (content.state ≡ M) ⊎ (content.state ≡ E) → with_set c l (in_front c l (record { state = M; bytes = stored (bytes_of c l) offset size value })) ≡ stored_if_owned c l offset size value
stored_is c l content offset size value there state = rw there (⊎_elim (λ (m : content.state ≡ M). rw m refl) (λ (e : content.state ≡ E). rw e refl) state)

pub not_stored : (c : Contents) (l : Line) (content : Content) (offset size value : ℕ) → content_of c l ≡ Some content → content.state ≡ S → c ≡ stored_if_owned c l offset size value
not_stored c l content offset size value there state = rw there (rw state refl)

pub nothing_stored : (c : Contents) (l : Line) (offset size value : ℕ) → content_of c l ≡ None → c ≡ stored_if_owned c l offset size value
nothing_stored c l offset size value absent = rw absent refl

-- a line that comes
take-cons : {A : Type 0} (w : ℕ) (x : A) (xs : List A) → 0 < w → take w (x ∷ xs) ≡ x ∷ take (w - 1) xs
take-cons zero x xs some = absurd (omega arith)
take-cons (suc w) x xs some = let less : w ≡ suc w - 1 = omega arith in ap (λ k. x ∷ take k xs) less

pub filled_seen : (n : ℕ) (lines : SetLists (Placed Mesi)) (slots : List (List ℕ)) (l : Line) (kept : Placed Mesi) (was from : List ℕ) → IsSlotStore n lines slots → length from ≡ 128 → ArePlacedSets (with_list lines l (take lines.ways ((l, kept) ∷ list_of lines l))) → slot_in lines l kept < length slots → contents_in n (set slots (slot_in lines l kept) (take n from ++ drop n was)) (with_list lines l (take lines.ways ((l, kept) ∷ list_of lines l))) ≡ with_set (contents_in n slots lines) l (take lines.ways (filled (contents_in n slots lines) l from kept.value))
filled_seen n lines slots l kept was from is len now within =
    let bounds = line_size_bounds n is.size in
    let some = is.placed.sets.some_ways in
    let f : Line → Placed Mesi → Content = seen_as n slots lines in
    let rest : List (Line × Placed Mesi) = take (lines.ways - 1) (list_of lines l) in
    let split : take lines.ways ((l, kept) ∷ list_of lines l) ≡ (l, kept) ∷ take (lines.ways - 1) (list_of lines l) = take-cons lines.ways (l, kept) (list_of lines l) some in
    let fits : ArePlacedSets (with_list lines l ((l, kept) ∷ take (lines.ways - 1) (list_of lines l))) = rw split at now in
    let first : Line × Content = (l, record { state = kept.value; bytes = take n from }) in
    let bytes : take n (take n from ++ drop n was) ≡ take n from = take_at (take n from) (drop n was) n (length-take-le n from (omega arith)) in
    ap (λ es. contents_in n (set slots (slot_in lines l kept) (take n from ++ drop n was)) (with_list lines l es)) split ∙
    written_seen n slots (take n from ++ drop n was) lines l kept rest is.placed.sets fits within ∙
    ap (λ b. with_set (contents_in n slots lines) l ((l, record { state = kept.value; bytes = b }) ∷ seen_list f rest)) bytes ∙
    ap (λ es. with_set (contents_in n slots lines) l (first ∷ es))
    (sym (take-map (λ e. (e.0, f e.0 e.1)) (lines.ways - 1) (list_of lines l)) ∙ ap (λ es. take (lines.ways - 1) es) (sym (list_seen n slots lines l))) ∙
    ap (λ es. with_set (contents_in n slots lines) l es) (sym (take-cons lines.ways first (set_list (contents_in n slots lines) l) some))

-- the last line, as it leaves
pub left_seen : (n : ℕ) (lines : SetLists (Placed Mesi)) (slots : List (List ℕ)) (l : Line) (i : ℕ) (entry : Line × Placed Mesi) (bytes : List ℕ) → IsSlotStore n lines slots → slice_get (list_of lines l) i ≡ Some entry → bytes ≡ get_or slots (slot_in lines entry.0 entry.1) bytes → Some (entry.0, entry.1.value, bytes) ≡ option_map leaving (slice_get (set_list (contents_in n slots lines) l) i)
left_seen n lines slots l i entry bytes is at read =
    let f : Line → Placed Mesi → Content = seen_as n slots lines in
    let there = (find_listed lines l i entry is.placed.sets at).0 in
    let handed : bytes ≡ handed_out (take n (get_or slots (slot_in lines entry.0 entry.1) [])) =
    slot_seen n lines slots entry.0 entry.1 bytes is there read ∙ ap handed_out (bytes_seen n slots lines entry.0 entry.1 there) in
    let seen : slice_get (set_list (contents_in n slots lines) l) i ≡ Some (entry.0, f entry.0 entry.1) =
    ap (λ es. slice_get es i) (list_seen n slots lines l) ∙ slice_get-map (λ e. (e.0, f e.0 e.1)) (list_of lines l) i ∙
    ap (λ o. option_map (λ (e : Line × Placed Mesi). (e.0, f e.0 e.1)) o) at in
    ap (λ b. Some (entry.0, entry.1.value, b)) handed ∙ sym (ap (λ o. option_map leaving o) seen)

pub nothing_left : (n : ℕ) (lines : SetLists (Placed Mesi)) (slots : List (List ℕ)) (l : Line) (i : ℕ) → slice_get (list_of lines l) i ≡ None → None ≡ option_map leaving (slice_get (set_list (contents_in n slots lines) l) i)
nothing_left n lines slots l i none =
    let f : Line → Placed Mesi → Content = seen_as n slots lines in
    sym (ap (λ o. option_map leaving o)
    (ap (λ es. slice_get es i) (list_seen n slots lines l) ∙ slice_get-map (λ e. (e.0, f e.0 e.1)) (list_of lines l) i ∙
    ap (λ o. option_map (λ (e : Line × Placed Mesi). (e.0, f e.0 e.1)) o) none))

-- an empty cache
pub empty_seen : (n sets ways : ℕ) (slots : List (List ℕ)) → contents_in n slots (record { ways = ways; lists = replicate sets [] }) ≡ record { line_bytes = n; lines = record { ways = ways; lists = replicate sets [] } }
empty_seen n sets ways slots =
    ap (λ lists. record { line_bytes = n; lines = record { ways = ways; lists = lists } })
    (replicate-seen (seen_as n slots (record { ways = ways; lists = replicate sets [] })) sets)

-- a number that is loaded
pub some_loaded : (offset size : ℕ) (o : Option Content) → IsSome o → IsSome (loaded offset size o)
some_loaded offset size None is = is
some_loaded offset size (Some content) is = refl

pub loaded_value : (offset size number : ℕ) (o : Option Content) → loaded offset size o ≡ Some number → number ≡ value_at (content_bytes o) offset size
loaded_value offset size number None is = absurd cc
loaded_value offset size number (Some content) is = cc
