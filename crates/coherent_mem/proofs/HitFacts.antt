-- A load of a line that the holder has, and the number that a load gives.
use Rattle.std.proofs.Common.{◌≡◌, ◌≢◌, ℕ, ◌%◌, ◌+◌, ◌-◌, ◌*◌, ◌<◌, ◌≤◌, ⊎_elim, false, List, [], ◌∷◌, Option, Some, None, length, get_or, set, take, drop, replicate, map, sym, ap, ◌∙◌, refl, arith, rules}
use Rattle.std.specs.Option.{option_map}
use Rattle.std.proofs.lemmas.List.{take_at, take_all, length-map, places, same_lists, set-get_or, length-append}
use Rattle.std.proofs.lemmas.Bool.{cases_eq, eq-eqb}
use Rattle.std.proofs.Math.Path.{fun_ext}
use Rattle.conda_base.specs.declared.Line.{Line}
use Rattle.conda_base.specs.declared.Mesi.{Mesi}
use Rattle.conda_base.proofs.LineLemmas.{line_bytes_in_memory, access_in_line, line_in_memory, access_size_cases, line_split, line_by_number}
use Rattle.conda_base.specs.Bytes.{handed_out, value_at, number_of}
use Rattle.conda_base.specs.Lines.{line_number, line_offset}
use Rattle.conda_base.specs.LineLists.{line_at}
use Rattle.set_assoc.specs.Entries.{without, touched}
use Rattle.cpu_cache.specs.Contents.{loaded, Content, Contents, content_of, set_list, tag_of, with_set, filled, in_front}
use Rattle.set_assoc.proofs.FindFacts.{list_entries, list_short}
use Rattle.cpu_cache.proofs.ViewFacts.{value_at_line}
use Rattle.mesi_directory.specs.Rows.{row_of}
use Rattle.line_memory.specs.Notes.{access_notes, load_notes}
use Rattle.line_memory.specs.Memory.{Memory, IsIn, line_of}
use Rattle.line_memory.specs.Tags.{without_line, held_state}
use Rattle.line_memory.specs.Backing.{view_of, shape_of}
use Rattle.line_memory.proofs.MemoryLemmas.{bytes_of_line-in}
use Rattle.line_memory.specs.Access.{put_front, after_load}
use Rattle.coherent_mem.specs.Moves.{IsMoved, HasNoNewDirty, list_at}
use Rattle.coherent_mem.specs.Parts.{Parts, AreParts, cache_at, held, seen, seen_below, shown}
use Rattle.coherent_mem.specs.Steps.{StepsTo, IsAccessTo, value_seen}
use Rattle.coherent_mem.proofs.CacheFacts.{test_off, edit_front}
use Rattle.coherent_mem.proofs.LineFacts.{kept_same, seen_same}
use Rattle.coherent_mem.proofs.PartFacts.{IsPartEdit, written_none, held_here, held_beside, held_other, parts_edited, count_same}
use Rattle.coherent_mem.proofs.TagFacts.{state_of_content, state_shown, without_line-map}
use Rattle.coherent_mem.proofs.ViewFacts.{held_inside, content_length, view_of_shown, length_view, length_seen}
use Rattle.coherent_mem.proofs.CopyFacts.{copies_follow, range_new}
use Rattle.coherent_mem.proofs.DirtyFacts.{follows}
use Rattle.coherent_mem.proofs.CoherentFacts.{coherent}
use Rattle.coherent_mem.proofs.MoveFacts.{state_held, list_entries_of, edits_of, moved, read_cache, seen_content}
use Rattle.set_assoc.proofs.EntryLemmas.{length-without}

-- the line of an access is one of memory's, and the access stays in it
pub access_line : (p : Parts) → AreParts p → (addr size : ℕ) → IsAccessTo (shown p) addr size → IsIn p.memory (line_at (shown p).line_bytes addr)
access_line p are addr size is =
    let long = length_view p are in
    let from = is.from in
    let within = is.within in
    let sizes = access_size_cases size is.size in
    let some : 0 < size = grind arith in
    line_in_memory p.memory.base (length p.memory.bytes) p.memory.line_bytes addr are.memory.size are.memory.whole_base are.memory.whole_bytes from (omega arith)

part_of_part : (size offset n start : ℕ) (xs : List ℕ) → offset + size ≤ n → start + n ≤ length xs → take size (drop offset (take n (drop start xs))) ≡ take size (drop (start + offset) xs)
part_of_part size offset n start xs within inside = same_lists _ _ (search (rules, places)) (λ k d below. grind (arith, places))

-- a number in its line is the number that users see
pub value_of_line : (p : Parts) → AreParts p → (addr size : ℕ) → IsAccessTo (shown p) addr size → value_at (view_of (shown p) (line_at (shown p).line_bytes addr)) (line_offset addr p.memory.line_bytes) size ≡ value_seen (shown p) addr size
value_of_line p are addr size is =
    let m = p.memory in
    let n : ℕ = m.line_bytes in
    let l : Line = line_at (shown p).line_bytes addr in
    let there = access_line p are addr size is in
    let long = length_view p are in
    let span = line_bytes_in_memory m.base (length m.bytes) n l.0 are.memory.size are.memory.whole_base are.memory.whole_bytes there in
    let within = access_in_line addr size n are.memory.size is.size is.aligned in
    let split = line_split addr n in
    let place : l.0 * n - m.base + line_offset addr n ≡ addr - m.base = omega arith in
    ap (λ b. value_at b (line_offset addr n) size) (bytes_of_line-in m.base n l.0 (shown p).view span.0) ∙
    ap number_of (part_of_part size (line_offset addr n) n (l.0 * n - m.base) (shown p).view within (omega arith)) ∙
    ap (λ s. value_at (shown p).view s size) place

-- the same in a buffer of 128 bytes
pub value_of_buffer : (p : Parts) → AreParts p → (addr size : ℕ) (buffer : List ℕ) → IsAccessTo (shown p) addr size → buffer ≡ handed_out (view_of (shown p) (line_at (shown p).line_bytes addr)) → value_at buffer (line_offset addr p.memory.line_bytes) size ≡ value_seen (shown p) addr size
value_of_buffer p are addr size buffer is filled =
    let n : ℕ = p.memory.line_bytes in
    let l : Line = line_at (shown p).line_bytes addr in
    let there = access_line p are addr size is in
    let bytes : List ℕ = view_of (shown p) l in
    let long : length bytes ≡ n = ap length (view_of_shown p are l there) ∙ length_seen p are l there in
    let within = access_in_line addr size n are.memory.size is.size is.aligned in
    let room : n ≤ length (handed_out bytes) = omega (arith, length-append bytes (replicate (128 - length bytes) 0)) in
    ap (λ b. value_at b (line_offset addr n) size) filled ∙
    value_at_line n (line_offset addr n) size (handed_out bytes) room within ∙
    ap (λ b. value_at b (line_offset addr n) size) (take_at bytes (replicate (128 - length bytes) 0) n long) ∙
    value_of_line p are addr size is

-- a change that leaves what is held, and memory, is quiet
quiet_held : (p q : Parts) → AreParts p → AreParts q → ((a : Line) (k : ℕ) → held q a k ≡ held p a k) → q.memory ≡ p.memory → HasNoNewDirty (shown p) (shown q)
quiet_held p q are new same memory = record {
  dirty = λ a k m. state_shown p are a k ∙ ap (λ o. option_map state_of_content o) (sym (same a k)) ∙ sym (state_shown q new a k) ∙ m;
  copies = λ a k m. ap (λ (x : Memory). line_of x a) memory;
}

-- a line that is held comes to the front
pub hit : (p : Parts) (h : ℕ) (l : Line) (a : Content) (cache : Contents) → AreParts p → held p l h ≡ Some a → cache ≡ with_set (cache_at p h) l (touched l (set_list (cache_at p h) l))
    → IsMoved ((l, a.state) ∷ without_line l (list_at (shown p) h l)) p.memory.bytes h l p (moved p h cache p.memory p.rows)
hit p h l a cache are at touched_is =
    let inside = held_inside p l h a at in
    let there = are.range l h a at in
    let fits = are.fits h inside in
    let kept = are.kept l there in
    let c = cache_at p h in
    let q : Parts = moved p h cache p.memory p.rows in
    let front : touched l (set_list c l) ≡ in_front c l a = rw at refl in
    let put : cache ≡ with_set c l (in_front c l a) = touched_is ∙ ap (λ es. with_set c l es) front in
    let e : IsPartEdit p h l (Some a) q = record {
      sets = refl;
      ways = refl;
      memory = written_none p.memory l;
      rows = record { first = refl; count = refl; valid = are.rows; others = λ b is apart. refl };
      cache = cache;
      caches = refl;
      edited = rw put (edit_front c l a a fits.is at (content_length p are l h a at ∙ sym fits.line_bytes));
    } in
    let same_here : (k : ℕ) → held q l k ≡ held p l k =
    λ k. ⊎_elim
    (λ (here : k ≡ h). ap (λ i. held q l i) here ∙ held_here p q h l (Some a) inside e ∙ sym at ∙ ap (λ i. held p l i) (sym here))
    (λ (apart : k ≢ h). held_beside p q h k l l (Some a) e apart)
    (cases_eq k h) in
    let same : (b : Line) (k : ℕ) → held q b k ≡ held p b k =
    λ b k. ⊎_elim
    (λ (line : b.0 ≡ l.0). ap (λ i. held q i k) (line_by_number b l line) ∙ same_here k ∙ ap (λ i. held p i k) (sym (line_by_number b l line)))
    (λ (other : b.0 ≢ l.0). held_other p q h k l b (Some a) inside e other)
    (cases_eq b.0 l.0) in
    let parts : AreParts q = parts_edited p q h l (Some a) are inside there e (kept_same (held p l) (held q l) (row_of p.rows l) (line_of p.memory l) same_here kept) in
    let seen_is : seen q l ≡ seen p l =
    ap (λ n. seen_below n (held q l) (line_of p.memory l)) (count_same p q h l (Some a) e) ∙ seen_same (length p.caches) (held p l) (held q l) (line_of p.memory l) same_here in
    record {
      edits = edits_of p q h l (Some a) (in_front c l a) ((l, a.state) ∷ without_line l (list_at (shown p) h l)) p.memory.bytes are inside e put
          (ap (λ ts. (l, a.state) ∷ without_line l ts) (list_entries_of p are h l inside) ∙ ap (λ ts. (l, a.state) ∷ ts) (without_line-map _ _ l (set_list c l) (list_entries c.lines l fits.is.sets)))
          seen_is refl;
      quiet = quiet_held p q are parts same refl;
      are = parts;
    }

-- a list with a line of it in front is no longer than it was
pub front_whole : (p : Parts) → AreParts p → (h : ℕ) (l : Line) (a : Content) (state : Mesi) → held p l h ≡ Some a → take p.ways ((l, state) ∷ without_line l (list_at (shown p) h l)) ≡ (l, state) ∷ without_line l (list_at (shown p) h l)
front_whole p are h l a state at =
    let inside = held_inside p l h a at in
    let fits = are.fits h inside in
    let c = cache_at p h in
    let list : without_line l (list_at (shown p) h l) ≡ map tag_of (without l (set_list c l)) =
    ap (λ ts. without_line l ts) (list_entries_of p are h l inside) ∙ without_line-map _ _ l (set_list c l) (list_entries c.lines l fits.is.sets) in
    let size : length (without_line l (list_at (shown p) h l)) ≡ length (without l (set_list c l)) = ap length list ∙ length-map (without l (set_list c l)) tag_of in
    let one_less = length-without l a (set_list c l) at in
    let short = list_short c.lines l fits.is.sets in
    let ways = fits.ways in
    take_all p.ways ((l, state) ∷ without_line l (list_at (shown p) h l)) (omega arith)

pub hit_steps : (p q : Parts) (h : ℕ) (l : Line) (a : Content) → AreParts p → held p l h ≡ Some a → IsMoved ((l, a.state) ∷ without_line l (list_at (shown p) h l)) p.memory.bytes h l p q
    → StepsTo (after_load (shape_of (shown p)) (shown p).tags h l) (shown p).view (shown p) (shown q)
hit_steps p q h l a are at is =
    let n : ℕ = l.0 % p.sets in
    let state : held_state (shape_of (shown p)) (shown p).tags h l ≡ Some a.state = state_held p are l h a at in
    let front : put_front (shape_of (shown p)).ways l a.state (list_at (shown p) h l) ≡ (l, a.state) ∷ without_line l (list_at (shown p) h l) = front_whole p are h l a a.state at in
    let tags : (k s : ℕ) → (shown q).tags k s ≡ after_load (shape_of (shown p)) (shown p).tags h l k s =
    λ k s. is.edits.tags k s ∙ ⊎_elim
    (λ (here : s ≡ n). rw (eq-eqb s n here) (⊎_elim
    (λ (same : k ≡ h). rw (eq-eqb k h same) (rw state (sym (ap (λ i. put_front (shape_of (shown p)).ways l a.state ((shown p).tags k i)) here ∙ ap (λ i. put_front (shape_of (shown p)).ways l a.state ((shown p).tags i n)) same ∙ front))))
    (λ (apart : k ≢ h). rw (test_off k h apart) (rw state refl))
    (cases_eq k h)))
    (λ (other : s ≢ n). rw (test_off s n other) refl)
    (cases_eq s n) in
    record {
      numbers = is.edits.numbers;
      tags = fun_ext (λ k. fun_ext (λ s. tags k s));
      view = is.edits.view;
      copies = λ b there. follows (shown p) (shown q) b (coherent q is.are).backing
          (copies_follow p q are is.are is.edits.numbers is.quiet b (range_new p q are is.are is.edits.numbers b there));
    }

pub hit_notes : (p : Parts) (h : ℕ) (l : Line) (a : Content) → AreParts p → held p l h ≡ Some a → access_notes (shape_of (shown p)) (shown p).tags h l false ≡ []
hit_notes p h l a are at = ap (λ o. load_notes (shape_of (shown p)) (shown p).tags h l o) (state_held p are l h a at)

-- a touch of a line that isn't held changes nothing
pub untouched : (p : Parts) (h : ℕ) (l : Line) (was cache : Contents) → AreParts p → h < length p.caches → was ≡ get_or p.caches h was → content_of was l ≡ None → cache ≡ with_set was l (touched l (set_list was l)) → moved p h cache p.memory p.rows ≡ p
untouched p h l was cache are inside read absent touched_is =
    let is : was ≡ cache_at p h = read_cache p h was inside read in
    let none : touched l (set_list was l) ≡ set_list was l = rw absent refl in
    let back : cache ≡ was =
    touched_is ∙ ap (λ es. with_set was l es) none ∙
    ap (λ lists. record { line_bytes = was.line_bytes; lines = record { ways = was.lines.ways; lists = lists } }) (set-get_or was.lines.lists (l.0 % length was.lines.lists) []) in
    ap (λ (cs : List Contents). record { sets = p.sets; ways = p.ways; memory = p.memory; rows = p.rows; caches = cs })
    (ap (λ c. set p.caches h c) (back ∙ is) ∙ set-get_or p.caches h _)

-- what the search of a cache for a load ensures
pub record IsLoadTry (p : Parts) (h addr size : ℕ) (was : Contents) (found : Option ℕ) (cache : Contents) : Type 0 where
  pub read : was ≡ get_or p.caches h was
  pub value : found ≡ loaded (line_offset addr was.line_bytes) size (content_of was (line_at was.line_bytes addr))
  pub front : cache ≡ with_set was (line_at was.line_bytes addr) (touched (line_at was.line_bytes addr) (set_list was (line_at was.line_bytes addr)))

-- what follows where the line was found
pub record IsHit (p : Parts) (h addr size v : ℕ) (q : Parts) : Type 0 where
  pub are : AreParts q
  pub line_bytes : q.memory.line_bytes ≡ p.memory.line_bytes
  pub quiet : HasNoNewDirty (shown p) (shown q)
  pub value : v ≡ value_seen (shown p) addr size
  pub steps : StepsTo (after_load (shape_of (shown p)) (shown p).tags h (line_at (shown p).line_bytes addr)) (shown p).view (shown p) (shown q)
  pub notes : access_notes (shape_of (shown p)) (shown p).tags h (line_at (shown p).line_bytes addr) false ≡ []

some_value : (offset size : ℕ) (o : Option Content) (v : ℕ) → loaded offset size o ≡ Some v → (a : Content) × (o ≡ Some a) × (v ≡ value_at a.bytes offset size)
some_value offset size None v is = absurd cc
some_value offset size (Some a) v is = (a, refl, let both : Some (value_at a.bytes offset size) ≡ Some v = is in let same : value_at a.bytes offset size ≡ v = cc in sym same)

no_value : (offset size : ℕ) (o : Option Content) → loaded offset size o ≡ None → o ≡ None
no_value offset size None is = refl
no_value offset size (Some a) is = absurd cc

line_tried : (p : Parts) (h addr : ℕ) (was : Contents) → AreParts p → h < length p.caches → was ≡ get_or p.caches h was → (was ≡ cache_at p h) × (was.line_bytes ≡ p.memory.line_bytes)
line_tried p h addr was are inside read =
    let is : was ≡ cache_at p h = read_cache p h was inside read in
    (is, ap (λ (c : Contents). c.line_bytes) is ∙ (are.fits h inside).line_bytes)

pub hit_load : (p : Parts) (h addr size v : ℕ) (was : Contents) (found : Option ℕ) (cache : Contents) → AreParts p → h < length p.caches → IsAccessTo (shown p) addr size → IsLoadTry p h addr size was found cache → found ≡ Some v → IsHit p h addr size v (moved p h cache p.memory p.rows)
hit_load p h addr size v was found cache are inside access does is =
    let told = line_tried p h addr was are inside does.read in
    let l : Line = line_at (shown p).line_bytes addr in
    let line : line_at was.line_bytes addr ≡ l = ap (λ (n : ℕ). record { 0 = line_number addr n }) told.1 in
    let q : Parts = moved p h cache p.memory p.rows in
    let a = some_value (line_offset addr was.line_bytes) size (content_of was (line_at was.line_bytes addr)) v (sym does.value ∙ is) in
    let at : held p l h ≡ Some a.0 = ap (λ c. content_of c l) (sym told.0) ∙ ap (λ k. content_of was k) (sym line) ∙ a.1 in
    let front : cache ≡ with_set (cache_at p h) l (touched l (set_list (cache_at p h) l)) =
    does.front ∙ ap (λ k. with_set was k (touched k (set_list was k))) line ∙ ap (λ (c : Contents). with_set c l (touched l (set_list c l))) told.0 in
    let done = hit p h l a.0 cache are at front in
    let there = access_line p are addr size access in
    record {
      are = done.are;
      line_bytes = refl;
      quiet = done.quiet;
      value = a.2 ∙ ap (λ n. value_at a.0.bytes (line_offset addr n) size) told.1 ∙
          ap (λ b. value_at b (line_offset addr p.memory.line_bytes) size) (sym (view_of_shown p are l there ∙ seen_content p are l h a.0 at)) ∙
          value_of_line p are addr size access;
      steps = hit_steps p q h l a.0 are at done;
      notes = hit_notes p h l a.0 are at;
    }

-- what follows where it wasn't
pub record IsNoHit (p : Parts) (h addr : ℕ) (q : Parts) : Type 0 where
  pub same : q ≡ p
  pub absent : held p (line_at (shown p).line_bytes addr) h ≡ None

pub no_hit : (p : Parts) (h addr size : ℕ) (was : Contents) (found : Option ℕ) (cache : Contents) → AreParts p → h < length p.caches → IsLoadTry p h addr size was found cache → found ≡ None → IsNoHit p h addr (moved p h cache p.memory p.rows)
no_hit p h addr size was found cache are inside does is =
    let told = line_tried p h addr was are inside does.read in
    let l : Line = line_at (shown p).line_bytes addr in
    let line : line_at was.line_bytes addr ≡ l = ap (λ (n : ℕ). record { 0 = line_number addr n }) told.1 in
    let none : content_of was (line_at was.line_bytes addr) ≡ None = no_value (line_offset addr was.line_bytes) size (content_of was (line_at was.line_bytes addr)) (sym does.value ∙ is) in
    record {
      same = untouched p h (line_at was.line_bytes addr) was cache are inside does.read none does.front;
      absent = ap (λ c. content_of c l) (sym told.0) ∙ ap (λ k. content_of was k) (sym line) ∙ none;
    }
