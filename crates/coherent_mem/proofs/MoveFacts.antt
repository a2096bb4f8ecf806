-- The parts of a call: a holder leaves a line, shares it, or takes it.
use Rattle.std.proofs.Common.{◌≡◌, ◌≢◌, ℕ, ◌%◌, ◌-◌, ◌<◌, ⊎_elim, true, List, [], Option, Some, None, length, get_or, set, take, replicate, map, sym, ap, subst, ◌∙◌, refl}
use Rattle.std.specs.Option.{option_map, IsSome}
use Rattle.std.proofs.lemmas.List.{get_or_default, take_at}
use Rattle.std.proofs.lemmas.Bool.{cases_eq}
use Rattle.conda_base.specs.declared.Line.{Line}
use Rattle.conda_base.specs.declared.Mesi.{Mesi}
use Rattle.conda_base.specs.declared.Mesi.TheVariants.{M, E, S}
use Rattle.conda_base.proofs.LineLemmas.{line_bytes_in_memory, line_by_number}
use Rattle.conda_base.specs.Bytes.{handed_out}
use Rattle.set_assoc.specs.Entries.{without}
use Rattle.cpu_cache.specs.Contents.{Content, Contents, IsHeld, content_of, set_list, tag_of, with_set, bytes_in, written_back}
use Rattle.set_assoc.proofs.FindFacts.{list_entries}
use Rattle.mesi_directory.specs.declared.row.Row.{Row}
use Rattle.mesi_directory.specs.Rows.{Rows, IsRow, row_of, with_row, has_holder, without_holder, HasRow}
use Rattle.mesi_directory.proofs.RowLemmas.{IsRow-without, held_below, row_of-with_row_same}
use Rattle.line_memory.specs.Notes.{back_notes}
use Rattle.line_memory.specs.Memory.{Memory, IsIn, line_of, with_line, with_bytes}
use Rattle.line_memory.specs.Tags.{Tag, without_line, held_state}
use Rattle.line_memory.specs.Backing.{shape_of}
use Rattle.line_memory.proofs.MemoryLemmas.{with_line-same, bytes_of_line-with_line}
use Rattle.coherent_mem.specs.Moves.{IsMoved, Edits, HasNoNewDirty, list_at, flushed_copies, backed, backed_notes}
use Rattle.coherent_mem.specs.Parts.{Parts, AreParts, IsKept, cache_at, held, seen, shown}
use Rattle.coherent_mem.proofs.CacheFacts.{edit_dropped}
use Rattle.coherent_mem.proofs.LineFacts.{m_not_s, kept_left, sole, agree, seen_held, seen_all, some_test}
use Rattle.coherent_mem.proofs.PartFacts.{IsWritten, IsPartEdit, row_in, written_none, written_line, rowed_line, held_here, held_beside, held_other, parts_edited, view_same, count_same}
use Rattle.coherent_mem.proofs.TagFacts.{state_of_content, state_shown, some_state, tags_edited, without_line-map}
use Rattle.coherent_mem.proofs.ViewFacts.{held_inside, content_length, view_of_shown}

-- the parts with another cache of a holder, another memory and another directory
abbrev pub moved : Parts → ℕ → Contents → Memory → Rows → Parts
moved p h cache memory rows = record { sets = p.sets; ways = p.ways; memory = memory; rows = rows; caches = set p.caches h cache }

pub read_cache : (p : Parts) (h : ℕ) (c : Contents) → h < length p.caches → c ≡ get_or p.caches h c → c ≡ cache_at p h
read_cache p h c inside read = read ∙ get_or_default p.caches h c _ inside

some_mapped : {A B : Type 0} (f : A → B) (o : Option A) → IsSome (option_map f o) → (x : A) × (o ≡ Some x)
some_mapped f None is = absurd cc
some_mapped f (Some x) is = (x, refl)

-- what a holder of a line has
pub content_held : (p : Parts) → AreParts p → (l : Line) (h : ℕ) → IsSome (held_state (shape_of (shown p)) (shown p).tags h l) → (a : Content) × (held p l h ≡ Some a)
content_held p are l h is = some_mapped state_of_content (held p l h) (subst (λ (o : Option Mesi). IsSome o) (state_shown p are l h) is)

-- memory after the bytes of a holder came back, where it had them modified
pub record IsBack (m : Memory) (l : Line) (bytes : List ℕ) (new : Memory) : Type 0 where
  pub written : IsWritten m l new
  pub own : line_of new l ≡ bytes
  pub all : new.bytes ≡ with_line m.base m.line_bytes m.bytes l.0 bytes

back_clean : (p : Parts) → AreParts p → (l : Line) (h : ℕ) (a : Content) → held p l h ≡ Some a → a.state ≢ M → IsBack p.memory l a.bytes p.memory
back_clean p are l h a at apart =
    let m = p.memory in
    let inside = are.range l h a at in
    let same : a.bytes ≡ line_of m l = (are.kept l inside).clean h a at apart in
    let span = line_bytes_in_memory m.base (length m.bytes) m.line_bytes l.0 are.memory.size are.memory.whole_base are.memory.whole_bytes inside in
    record {
      written = written_none m l;
      own = sym same;
      all = sym (ap (λ b. with_line m.base m.line_bytes m.bytes l.0 b) same ∙ with_line-same m.base m.line_bytes l.0 m.bytes span.0);
    }

pub back_dirty : (p : Parts) → AreParts p → (l : Line) (h : ℕ) (a : Content) → held p l h ≡ Some a → IsBack p.memory l a.bytes (with_bytes p.memory l (take p.memory.line_bytes (handed_out a.bytes)))
back_dirty p are l h a at =
    let m = p.memory in
    let inside = are.range l h a at in
    let long = content_length p are l h a at in
    let bytes : take m.line_bytes (handed_out a.bytes) ≡ a.bytes = take_at a.bytes (replicate (128 - length a.bytes) 0) m.line_bytes long in
    let P : List ℕ → Type 0 = λ b. IsBack m l a.bytes (with_bytes m l b) in
    subst P (sym bytes) (record {
      written = written_line m l a.bytes are.memory inside long;
      own = bytes_of_line-with_line m.base m.line_bytes l.0 m.bytes a.bytes are.memory inside long;
      all = refl;
    })

pub back_content : (p : Parts) → AreParts p → (l : Line) (h : ℕ) (a : Content) → held p l h ≡ Some a → IsBack p.memory l a.bytes (backed p.memory l (written_back (Some a)))
back_content p are l h a at = go a.state refl (back_dirty p are l h a at) (back_clean p are l h a at)
  where
    go : (state : Mesi) → a.state ≡ state → IsBack p.memory l a.bytes (with_bytes p.memory l (take p.memory.line_bytes (handed_out a.bytes))) → (a.state ≢ M → IsBack p.memory l a.bytes p.memory) → IsBack p.memory l a.bytes (backed p.memory l (bytes_in state (handed_out a.bytes)))
    go M is dirty clean = dirty
    go E is dirty clean = clean (λ same. let both : E ≡ M = sym is ∙ same in cc)
    go S is dirty clean = clean (λ same. let both : S ≡ M = sym is ∙ same in cc)

-- an edit of the parts is one of what is shown
pub edits_of : (p q : Parts) (h : ℕ) (l : Line) (x : Option Content) (entries : List (Line × Content)) (list : List Tag) (own : List ℕ) → AreParts p → h < length p.caches → (e : IsPartEdit p h l x q) → e.cache ≡ with_set (cache_at p h) l entries → list ≡ map tag_of entries → seen q l ≡ seen p l → q.memory.bytes ≡ own → Edits list own h l (shown p) (shown q)
edits_of p q h l x entries list own are inside e cache listed same copies =
    let view = view_same p q h l x are inside e same in
    record {
      numbers = record {
        line_bytes = e.memory.line_bytes;
        base = e.memory.base;
        holders = count_same p q h l x e;
        sets = e.sets;
        ways = e.ways;
        size = ap length view;
      };
      view = view;
      tags = λ k s. rw listed (tags_edited p q h l x entries are inside e cache k s);
      copies = copies;
    }

some_of_state : (o : Option Content) → option_map state_of_content o ≡ Some M → (a : Content) × (o ≡ Some a)
some_of_state None is = absurd cc
some_of_state (Some a) is = (a, refl)

-- an edit that makes no line M is quiet
pub quiet_edit : (p q : Parts) (h : ℕ) (l : Line) (x : Option Content) → AreParts p → AreParts q → h < length p.caches → IsPartEdit p h l x q → option_map state_of_content x ≢ Some M → ((k : ℕ) → k ≢ h → option_map state_of_content (held p l k) ≡ Some M → line_of q.memory l ≡ line_of p.memory l) → HasNoNewDirty (shown p) (shown q)
quiet_edit p q h l x are new inside e clean own =
    let was : (a : Line) (k : ℕ) → held_state (shape_of (shown q)) (shown q).tags k a ≡ Some M → (held q a k ≡ held p a k) × ((a.0 ≡ l.0) → k ≢ h) =
    λ a k m.
    let now : option_map state_of_content (held q a k) ≡ Some M = sym (state_shown q new a k) ∙ m in
    ⊎_elim
    (λ (same : a.0 ≡ l.0). ⊎_elim
    (λ (here : k ≡ h). absurd (clean (ap (λ o. option_map state_of_content o)
    (sym (ap (λ b. held q b k) (line_by_number a l same) ∙ ap (λ i. held q l i) here ∙ held_here p q h l x inside e)) ∙ now)))
    (λ (apart : k ≢ h). (held_beside p q h k l a x e apart, λ s. apart)) (cases_eq k h))
    (λ (other : a.0 ≢ l.0). (held_other p q h k l a x inside e other, λ s. absurd (other s)))
    (cases_eq a.0 l.0) in
    record {
      dirty = λ a k m. state_shown p are a k ∙ ap (λ o. option_map state_of_content o) (sym (was a k m).0) ∙ sym (state_shown q new a k) ∙ m;
      copies = λ a k m.
          let now : option_map state_of_content (held q a k) ≡ Some M = sym (state_shown q new a k) ∙ m in
          let old : option_map state_of_content (held p a k) ≡ Some M = ap (λ o. option_map state_of_content o) (sym (was a k m).0) ∙ now in
          let content = some_of_state (held p a k) old in
          ⊎_elim
          (λ (same : a.0 ≡ l.0).
          let line : a ≡ l = line_by_number a l same in
          ap (λ b. line_of q.memory b) line ∙
          own k ((was a k m).1 same) (ap (λ b. option_map state_of_content (held p b k)) (sym line) ∙ old) ∙
          ap (λ b. line_of p.memory b) (sym line))
          (λ (other : a.0 ≢ l.0). e.memory.others a (are.range a k content.0 content.1) other)
          (cases_eq a.0 l.0);
    }

-- the line of a holder is one of memory's, and users see the holder's bytes
pub seen_content : (p : Parts) → AreParts p → (l : Line) (h : ℕ) (a : Content) → held p l h ≡ Some a → seen p l ≡ a.bytes
seen_content p are l h a at =
    seen_held (length p.caches) (held p l) (row_of p.rows l) (line_of p.memory l) (are.kept l (are.range l h a at)) h a (held_inside p l h a at) at

pub list_entries_of : (p : Parts) → AreParts p → (h : ℕ) (l : Line) → h < length p.caches → list_at (shown p) h l ≡ map tag_of (set_list (cache_at p h) l)
list_entries_of p are h l inside =
    let fits = are.fits h inside in
    ap (λ n. map tag_of (get_or (cache_at p h).lines.lists (l.0 % n) [])) (sym fits.sets)

pub left : (p : Parts) (h : ℕ) (l : Line) (a : Content) (cache : Contents) (memory : Memory) (rows : Rows) → AreParts p → held p l h ≡ Some a
    → cache ≡ with_set (cache_at p h) l (without l (set_list (cache_at p h) l)) → memory ≡ backed p.memory l (written_back (content_of (cache_at p h) l))
    → rows ≡ with_row p.rows l (without_holder (row_of p.rows l) h)
    → IsMoved (without_line l (list_at (shown p) h l)) (flushed_copies (shown p) l) h l p (moved p h cache memory rows)
left p h l a cache memory rows are at cached backed_is rowed =
    let inside = held_inside p l h a at in
    let fits = are.fits h inside in
    let there = are.range l h a at in
    let kept = are.kept l there in
    let q : Parts = moved p h cache memory rows in
    let back : IsBack p.memory l a.bytes memory =
    rw backed_is (rw at (back_content p are l h a at)) in
    let has_it : has_holder (row_of p.rows l) h ≡ true = kept.holders h ∙ some_test (held p l h) a at in
    let row_there = row_in p are l there in
    let row_is : IsRow (row_of p.rows l) = are.rows (l.0 - p.rows.first) in
    let new_row = IsRow-without (row_of p.rows l) h row_is (held_below (row_of p.rows l) h row_is has_it) in
    let e : IsPartEdit p h l None q = record {
      sets = refl;
      ways = refl;
      memory = back.written;
      rows = rw rowed (rowed_line p.rows l (without_holder (row_of p.rows l) h) are.rows row_there new_row);
      cache = cache;
      caches = refl;
      edited = rw cached (edit_dropped (cache_at p h) l a fits.is at);
    } in
    let row : row_of rows l ≡ without_holder (row_of p.rows l) h = ap (λ d. row_of d l) rowed ∙ row_of-with_row_same p.rows l (without_holder (row_of p.rows l) h) row_there in
    let left_kept : IsKept (held q l) (without_holder (row_of p.rows l) h) a.bytes =
    kept_left (held p l) (held q l) (row_of p.rows l) (line_of p.memory l) h a kept at (held_here p q h l None inside e) (λ k apart. held_beside p q h k l l None e apart) in
    let copied : IsKept (held q l) (without_holder (row_of p.rows l) h) (line_of memory l) = subst (λ (c : List ℕ). IsKept (held q l) (without_holder (row_of p.rows l) h) c) (sym back.own) left_kept in
    let all_kept : IsKept (held q l) (row_of rows l) (line_of memory l) = subst (λ (r : Row). IsKept (held q l) r (line_of memory l)) (sym row) copied in
    let parts : AreParts q = parts_edited p q h l None are inside there e all_kept in
    let was : seen p l ≡ a.bytes = seen_content p are l h a at in
    let now : seen q l ≡ a.bytes =
    seen_all (length q.caches) (held q l) (line_of memory l) a.bytes
    (λ k b held_b.
    ⊎_elim
    (λ (same : k ≡ h). let both : None ≡ Some b = sym (held_here p q h l None inside e) ∙ ap (λ i. held q l i) (sym same) ∙ held_b in absurd cc)
    (λ (apart : k ≢ h). agree (held p l) (row_of p.rows l) (line_of p.memory l) kept k h b a (sym (held_beside p q h k l l None e apart) ∙ held_b) at)
    (cases_eq k h))
    back.own in
    record {
      edits = edits_of p q h l None (without l (set_list (cache_at p h) l)) (without_line l (list_at (shown p) h l)) (flushed_copies (shown p) l) are inside e cached
          (ap (λ ts. without_line l ts) (list_entries_of p are h l inside) ∙ without_line-map _ _ l (set_list (cache_at p h) l) (list_entries (cache_at p h).lines l fits.is.sets))
          (now ∙ sym was)
          (back.all ∙ ap (λ b. with_line p.memory.base p.memory.line_bytes p.memory.bytes l.0 b) (sym (view_of_shown p are l there ∙ was)));
      quiet = quiet_edit p q h l None are parts inside e (λ same. cc)
          (λ k apart m.
          let other = some_of_state (held p l k) m in
          let is_m : other.0.state ≡ M = let both : Some other.0.state ≡ Some M = sym (ap (λ o. option_map state_of_content o) other.1) ∙ m in cc in
          absurd (apart (sym (sole (held p l) (row_of p.rows l) (line_of p.memory l) kept k h other.0 a other.1 (m_not_s other.0.state is_m) at))));
      are = parts;
    }

-- the state in which a holder has a line
pub state_held : (p : Parts) → AreParts p → (l : Line) (h : ℕ) (a : Content) → held p l h ≡ Some a → held_state (shape_of (shown p)) (shown p).tags h l ≡ Some a.state
state_held p are l h a at = state_shown p are l h ∙ some_state (held p l h) a at

-- the notes of the bytes of a line that came back
back_noted : (h : ℕ) (l : Line) (a : Content) → backed_notes h l (written_back (Some a)) ≡ back_notes l h (Some a.state)
back_noted h l a = go a.state a.bytes
  where
    go : (state : Mesi) (bytes : List ℕ) → backed_notes h l (bytes_in state (handed_out bytes)) ≡ back_notes l h (Some state)
    go M bytes = refl
    go E bytes = refl
    go S bytes = refl

-- a holder's cache, read twice
pub same_read : (p : Parts) (h : ℕ) (one other : Contents) → h < length p.caches → one ≡ get_or p.caches h one → other ≡ get_or p.caches h other → one ≡ other
same_read p h one other inside first second = read_cache p h one inside first ∙ sym (read_cache p h other inside second)

-- all that leaving a line does, from what the calls in it ensure
pub record IsLeaving (p : Parts) (h : ℕ) (l : Line) (was : Contents) (back : Option (List ℕ)) (cache : Contents) (memory : Memory) (rows : Rows) : Type 0 where
  pub read : was ≡ get_or p.caches h was
  pub bytes : back ≡ written_back (content_of was l)
  pub dropped : cache ≡ with_set was l (without l (set_list was l))
  pub written : memory ≡ backed p.memory l back
  pub rowed : rows ≡ with_row p.rows l (without_holder (row_of p.rows l) h)

pub leaving : (p : Parts) (h : ℕ) (l : Line) (was : Contents) (back : Option (List ℕ)) (cache : Contents) (memory : Memory) (rows : Rows) → AreParts p → IsSome (held_state (shape_of (shown p)) (shown p).tags h l) → IsLeaving p h l was back cache memory rows
    → IsMoved (without_line l (list_at (shown p) h l)) (flushed_copies (shown p) l) h l p (moved p h cache memory rows)
leaving p h l was back cache memory rows are is does =
    let a = content_held p are l h is in
    let inside = held_inside p l h a.0 a.1 in
    let read : was ≡ cache_at p h = read_cache p h was inside does.read in
    left p h l a.0 cache memory rows are a.1
    (does.dropped ∙ ap (λ (c : Contents). with_set c l (without l (set_list c l))) read)
    (does.written ∙ ap (λ b. backed p.memory l b) (does.bytes ∙ ap (λ (c : Contents). written_back (content_of c l)) read))
    does.rowed

pub leaving_noted : (p : Parts) (h : ℕ) (l : Line) (was : Contents) (back : Option (List ℕ)) → AreParts p → IsSome (held_state (shape_of (shown p)) (shown p).tags h l) → was ≡ get_or p.caches h was → back ≡ written_back (content_of was l)
    → backed_notes h l back ≡ back_notes l h (held_state (shape_of (shown p)) (shown p).tags h l)
leaving_noted p h l was back are is read bytes =
    let a = content_held p are l h is in
    let inside = held_inside p l h a.0 a.1 in
    let cache : was ≡ cache_at p h = read_cache p h was inside read in
    ap (λ b. backed_notes h l b) (bytes ∙ ap (λ (c : Contents). written_back (content_of c l)) cache ∙ ap written_back a.1) ∙
    back_noted h l a.0 ∙
    ap (λ o. back_notes l h o) (sym (state_held p are l h a.0 a.1))

-- what a holder of a line can be asked
pub record CanLeave (p : Parts) (h : ℕ) (l : Line) (was : Contents) : Type 0 where
  pub holder : h < length p.caches
  pub held : IsHeld was l
  pub inside : IsIn p.memory l
  pub row : HasRow p.rows l
  pub has : has_holder (row_of p.rows l) h ≡ true

pub can_leave : (p : Parts) (h : ℕ) (l : Line) (was : Contents) → AreParts p → IsSome (held_state (shape_of (shown p)) (shown p).tags h l) → was ≡ get_or p.caches h was → CanLeave p h l was
can_leave p h l was are is read =
    let a = content_held p are l h is in
    let inside = held_inside p l h a.0 a.1 in
    let cache : was ≡ cache_at p h = read_cache p h was inside read in
    let there = are.range l h a.0 a.1 in
    record {
      holder = inside;
      held = rw cache (rw a.1 refl);
      inside = there;
      row = row_in p are l there;
      has = (are.kept l there).holders h ∙ some_test (held p l h) a.0 a.1;
    }

-- a holder that has a line is one of the holders
pub holder_of : (p : Parts) (h : ℕ) (l : Line) → AreParts p → IsSome (held_state (shape_of (shown p)) (shown p).tags h l) → h < length p.caches
holder_of p h l are is = let a = content_held p are l h is in held_inside p l h a.0 a.1
