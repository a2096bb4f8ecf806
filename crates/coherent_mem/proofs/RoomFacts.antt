-- The last line of a full set leaves.
use Rattle.std.specs.Prelude.{nat_le}
use Rattle.std.proofs.lemmas.Bool.Decides.{nat_tests}
use Rattle.std.proofs.lemmas.Bool.{cases_Bool}
use Rattle.std.proofs.Common.{⊎_elim, true, false, ◌∷◌, zero, ◌≡◌, ℕ, suc, ◌%◌, ◌-◌, ◌<◌, ◌≤◌, List, [], Option, Some, None, length, get_or, take, map, sym, ap, ◌∙◌, refl, arith}
use Rattle.std.specs.Option.{option_map, IsSome, is_some}
use Rattle.std.proofs.lemmas.List.{take-map, length-map}
use Rattle.std.specs.List.{slice_get}
use Rattle.std.proofs.lemmas.Option.{slice_get-map}
use Rattle.conda_base.specs.declared.Line.{Line}
use Rattle.conda_base.specs.declared.Mesi.{Mesi}
use Rattle.conda_base.specs.declared.Mesi.TheVariants.{M, E, S}
use Rattle.set_assoc.specs.Entries.{without, lookup}
use Rattle.cpu_cache.specs.Contents.{Content, Contents, set_list, tag_of, tags_of}
use Rattle.set_assoc.proofs.FindFacts.{list_entries, list_short}
use Rattle.cpu_cache.proofs.RoomFacts.{lookup_at, without_last}
use Rattle.traffic_trace.specs.Notes.{Trace, noted}
use Rattle.traffic_trace.specs.declared.note.Kind.TheVariants.{Evict}
use Rattle.line_memory.specs.Notes.{note_of, back_notes, evict_notes, room_notes, last_notes, all_noted}
use Rattle.line_memory.specs.Tags.{Tag, without_line, held_state}
use Rattle.line_memory.specs.Backing.{shape_of}
use Rattle.coherent_mem.specs.Moves.{gone_notes, IsMoved, list_at, flushed_copies, MakesRoom, relisted}
use Rattle.coherent_mem.specs.Parts.{Parts, AreParts, cache_at, held, shown}
use Rattle.coherent_mem.proofs.TagFacts.{without_line-map}
use Rattle.coherent_mem.proofs.MoveFacts.{list_entries_of, state_held, read_cache}

some_mapped_to : {A B : Type 0} (f : A → B) (o : Option A) (y : B) → option_map f o ≡ Some y → (x : A) × (o ≡ Some x) × (f x ≡ y)
some_mapped_to f None y is = absurd cc
some_mapped_to f (Some x) y is = (x, refl, cc)

-- the entry of a tag in the list of a line's set
pub record IsListed (p : Parts) (h : ℕ) (l : Line) (i : ℕ) (tag : Tag) : Type 0 where
  pub content : Content
  pub held : held p tag.0 h ≡ Some content
  pub state : content.state ≡ tag.1
  pub set : tag.0.0 % p.sets ≡ l.0 % p.sets
  pub last : length (list_at (shown p) h l) ≤ suc i → without_line tag.0 (list_at (shown p) h l) ≡ take i (list_at (shown p) h l)

pub listed : (p : Parts) → AreParts p → (h : ℕ) (l : Line) (i : ℕ) (tag : Tag) → h < length p.caches → slice_get (list_at (shown p) h l) i ≡ Some tag → IsListed p h l i tag
listed p are h l i tag inside at =
    let fits = are.fits h inside in
    let c = cache_at p h in
    let n : ℕ = length c.lines.lists in
    let same = list_entries_of p are h l inside in
    let entries = list_entries c.lines l fits.is.sets in
    let found : option_map tag_of (slice_get (set_list c l) i) ≡ Some tag =
    sym (slice_get-map tag_of (set_list c l) i) ∙ ap (λ ts. slice_get ts i) (sym same) ∙ at in
    let entry = some_mapped_to tag_of (slice_get (set_list c l) i) tag found in
    let told = lookup_at n (l.0 % n) i entry.0 (set_list c l) entries entry.1 in
    let line : entry.0.0 ≡ tag.0 = ap (λ (t : Tag). t.0) entry.2 in
    let there : held p entry.0.0 h ≡ Some entry.0.1 = ap (λ k. lookup entry.0.0 (get_or c.lines.lists k [])) told.1 ∙ told.0 in
    record {
      content = entry.0.1;
      held = ap (λ b. held p b h) (sym line) ∙ there;
      state = ap (λ (t : Tag). t.1) entry.2;
      set = rw fits.sets at (ap (λ (b : Line). b.0 % n) (sym line) ∙ told.1);
      last = λ short.
          let few : length (set_list c l) ≤ suc i = rw (ap length same ∙ length-map (set_list c l) tag_of) at short in
          ap (λ ts. without_line tag.0 ts) same ∙
          without_line-map n (l.0 % n) tag.0 (set_list c l) entries ∙
          ap (λ b. map tag_of (without b (set_list c l))) (sym line) ∙
          ap (λ es. map tag_of es) (without_last n (l.0 % n) i entry.0 (set_list c l) entries entry.1 few) ∙
          sym (take-map tag_of i (set_list c l)) ∙
          ap (λ ts. take i ts) (sym same);
    }

-- a line of a list has a state
pub listed_state : (p : Parts) → AreParts p → (h : ℕ) (l : Line) (i : ℕ) (tag : Tag) → h < length p.caches → slice_get (list_at (shown p) h l) i ≡ Some tag → held_state (shape_of (shown p)) (shown p).tags h tag.0 ≡ Some tag.1
listed_state p are h l i tag inside at =
    let is = listed p are h l i tag inside at in
    state_held p are tag.0 h is.content is.held ∙ ap (λ s. Some s) is.state

pub short_list : (p : Parts) → AreParts p → (h : ℕ) (l : Line) → h < length p.caches → length (list_at (shown p) h l) ≤ p.ways
short_list p are h l inside =
    let fits = are.fits h inside in
    let c = cache_at p h in
    let short = list_short c.lines l fits.is.sets in
    let same_ways = fits.ways in
    let size = ap length (list_entries_of p are h l inside) ∙ length-map (set_list c l) tag_of in
    omega arith

-- the line at the last way has left
pub room_made : (p q : Parts) (h : ℕ) (l : Line) (tag : Tag) → AreParts p → h < length p.caches → slice_get (list_at (shown p) h l) (p.ways - 1) ≡ Some tag
    → IsMoved (without_line tag.0 (list_at (shown p) h tag.0)) (flushed_copies (shown p) tag.0) h tag.0 p q → MakesRoom h l p q (Some tag)
room_made p q h l tag are inside at is =
    let there = listed p are h l (p.ways - 1) tag inside at in
    let short = short_list p are h l inside in
    let some = are.some_ways in
    let same_set : list_at (shown p) h tag.0 ≡ list_at (shown p) h l = ap (λ s. (shown p).tags h s) there.set in
    let list : without_line tag.0 (list_at (shown p) h tag.0) ≡ take (p.ways - 1) (list_at (shown p) h l) =
    ap (λ ts. without_line tag.0 ts) same_set ∙ there.last (omega arith) in
    record {
      edits = record {
        numbers = is.edits.numbers;
        view = is.edits.view;
        tags = λ k s. is.edits.tags k s ∙
            ap (λ (ts : List Tag). relisted (shown p).tags h (tag.0.0 % p.sets) ts k s) list ∙
            ap (λ (n : ℕ). relisted (shown p).tags h n (take (p.ways - 1) (list_at (shown p) h l)) k s) there.set;
        copies = is.edits.copies;
      };
      quiet = is.quiet;
      are = is.are;
    }

-- what the search of the last way tells
pub last_line : (p : Parts) (h : ℕ) (l : Line) (was : Contents) (found : Option Tag) (tag : Tag) → h < length p.caches → was ≡ get_or p.caches h was → found ≡ slice_get (tags_of was (l.0 % p.sets)) (p.ways - 1) → found ≡ Some tag → slice_get (list_at (shown p) h l) (p.ways - 1) ≡ Some tag
last_line p h l was found tag inside read told is =
    sym (ap (λ (c : Contents). slice_get (tags_of c (l.0 % p.sets)) (p.ways - 1)) (read_cache p h was inside read)) ∙ sym told ∙ is

pub last_state : (p : Parts) → AreParts p → (h : ℕ) (l : Line) (tag : Tag) → h < length p.caches → slice_get (list_at (shown p) h l) (p.ways - 1) ≡ Some tag → IsSome (held_state (shape_of (shown p)) (shown p).tags h tag.0)
last_state p are h l tag inside at = ap is_some (listed_state p are h l (p.ways - 1) tag inside at)

evict_noted : (trace : Trace) (h : ℕ) (l : Line) (state : Mesi) → noted (all_noted trace (back_notes l h (Some state))) (note_of Evict h l) ≡ all_noted trace (evict_notes h l state)
evict_noted trace h l M = refl
evict_noted trace h l E = refl
evict_noted trace h l S = refl

pub room_noted : (p : Parts) (h : ℕ) (l : Line) (tag : Tag) (old new : Trace) → AreParts p → h < length p.caches → slice_get (list_at (shown p) h l) (p.ways - 1) ≡ Some tag
    → new ≡ noted (all_noted old (back_notes tag.0 h (held_state (shape_of (shown p)) (shown p).tags h tag.0))) (note_of Evict h tag.0) → new ≡ all_noted old (gone_notes h (slice_get (list_at (shown p) h l) (p.ways - 1)))
room_noted p h l tag old new are inside at told =
    told ∙ ap (λ o. noted (all_noted old (back_notes tag.0 h o)) (note_of Evict h tag.0)) (listed_state p are h l (p.ways - 1) tag inside at) ∙
    evict_noted old h tag.0 tag.1 ∙
    ap (λ o. all_noted old (gone_notes h o)) (sym at)

-- ---- the notes of a full set

short_get : {A : Type 0} (xs : List A) (i : ℕ) → length xs ≤ i → slice_get xs i ≡ None
short_get [] i past = refl
short_get (x ∷ xs) zero past = absurd (omega arith)
short_get (x ∷ xs) (suc i) past = short_get xs i (omega arith)

last_is : (h : ℕ) (tag : Tag) (tags : List Tag) → gone_notes h (slice_get (tag ∷ tags) (length tags)) ≡ last_notes h (tag ∷ tags)
last_is h tag [] = refl
last_is h tag (next ∷ tags) = last_is h next tags

full_is : (ways h : ℕ) (tags : List Tag) → ways ≡ length tags → 0 < ways → gone_notes h (slice_get tags (ways - 1)) ≡ last_notes h tags
full_is ways h [] full some = absurd (omega arith)
full_is ways h (tag ∷ tags) full some = let place : ways - 1 ≡ length tags = omega arith in rw place (last_is h tag tags)

at_least : (a b : ℕ) → nat_le a b ≡ true → a ≤ b
at_least a b on = grind (arith, nat_tests)

not_least : (a b : ℕ) → nat_le a b ≡ false → b < a
not_least a b off = grind (arith, nat_tests)

-- the last line of a set that is full is the one at the last way
room_of : (ways h : ℕ) (tags : List Tag) → length tags ≤ ways → 0 < ways → gone_notes h (slice_get tags (ways - 1)) ≡ room_notes ways h tags
room_of ways h tags short some = ⊎_elim
    (λ (on : nat_le ways (length tags) ≡ true). let past = at_least _ _ on in rw on (full_is ways h tags (omega arith) some))
    (λ (off : nat_le ways (length tags) ≡ false). let below = not_least _ _ off in rw off (ap (λ o. gone_notes h o) (short_get tags (ways - 1) (omega arith))))
    (cases_Bool (nat_le ways (length tags)))

pub room_is : (p : Parts) (h : ℕ) (l : Line) → AreParts p → h < length p.caches → gone_notes h (slice_get (list_at (shown p) h l) (p.ways - 1)) ≡ room_notes p.ways h (list_at (shown p) h l)
room_is p h l are inside = room_of p.ways h (list_at (shown p) h l) (short_list p are h l inside) are.some_ways
