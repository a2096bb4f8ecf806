-- A dirty line is written back, and its owner keeps it exclusive.
use Rattle.std.proofs.Common.{◌≡◌, ◌≢◌, ℕ, ◌%◌, ⊎_elim, true, false, List, [], ◌∷◌, Option, Some, None, length, get_or, take, map, sym, ap, subst, ◌∙◌, refl, eqb}
use Rattle.std.specs.Option.{option_map}
use Rattle.std.proofs.lemmas.Bool.{cases_eq, cases_Bool, eqb-true, eq-eqb}
use Rattle.std.proofs.Math.Path.{fun_ext}
use Rattle.std.specs.List.{Contains}
use Rattle.conda_base.specs.declared.Line.{Line}
use Rattle.conda_base.specs.declared.Mesi.TheVariants.{M, E, S}
use Rattle.conda_base.specs.Bytes.{handed_out}
use Rattle.set_assoc.specs.Entries.{replaced, lookup, AreEntries}
use Rattle.cpu_cache.specs.Contents.{Content, Contents, set_list, tag_of, with_set, restated, state_of, content_of, bytes_in, written_back}
use Rattle.set_assoc.proofs.FindFacts.{list_entries}
use Rattle.mesi_directory.specs.declared.row.Row.{Row}
use Rattle.mesi_directory.specs.declared.row.Row.TheVariants.{Owner}
use Rattle.mesi_directory.specs.Rows.{row_of}
use Rattle.traffic_trace.specs.declared.note.Kind.TheVariants.{Back}
use Rattle.line_memory.specs.Backing.{shape_of, BackingView, IsDirty, flushed}
use Rattle.line_memory.specs.Notes.{note_of, flush_notes, back_notes}
use Rattle.line_memory.specs.Memory.{Memory, IsIn, line_of, with_line, with_bytes}
use Rattle.line_memory.specs.Tags.{Tag, Tags, held_state, cleaned_line, cleaned_state}
use Rattle.line_memory.proofs.MemberLemmas.{cons_here, cons_later}
use Rattle.coherent_mem.specs.Moves.{Edits, backed, list_at, flushed_copies}
use Rattle.coherent_mem.specs.Parts.{Parts, AreParts, IsKept, cache_at, held, seen, shown}
use Rattle.coherent_mem.proofs.CacheFacts.{edit_restated, test_off}
use Rattle.coherent_mem.proofs.LineFacts.{m_not_s, kept_owned, beside_owner}
use Rattle.coherent_mem.proofs.PartFacts.{IsPartEdit, held_here, held_beside, parts_edited}
use Rattle.coherent_mem.proofs.TagFacts.{state_of_content, state_shown}
use Rattle.coherent_mem.proofs.ViewFacts.{held_inside, view_of_shown}
use Rattle.line_memory.proofs.MemberLemmas.{each_one}
use Rattle.coherent_mem.proofs.MoveFacts.{IsBack, moved, read_cache, back_dirty, edits_of, seen_content, list_entries_of, state_held}
use Rattle.coherent_mem.proofs.CoherentFacts.{dirty_state, tag_told}
use Rattle.conda_base.proofs.LineLemmas.{line_by_number}

cleaned_line-none : (l : Line) (tags : List Tag) → lookup l tags ≡ None → cleaned_line l tags ≡ tags
cleaned_line-none l [] none = refl
cleaned_line-none l (tag ∷ tags) none =
    ⊎_elim
    (λ (on : eqb tag.0.0 l.0 ≡ true). let both : Some tag.1 ≡ None = rw on at none in absurd cc)
    (λ (off : eqb tag.0.0 l.0 ≡ false). rw off (ap (λ ts. tag ∷ ts) (cleaned_line-none l tags (rw off at none))))
    (cases_Bool (eqb tag.0.0 l.0))

cleaned_line-absent : (l : Line) (entries : List (Line × Content)) → lookup l entries ≡ None → cleaned_line l (map tag_of entries) ≡ map tag_of entries
cleaned_line-absent l [] absent = refl
cleaned_line-absent l (entry ∷ rest) absent =
    ⊎_elim
    (λ (yes : eqb entry.0.0 l.0 ≡ true). let found : Some entry.1 ≡ None = rw yes at absent in absurd cc)
    (λ (off : eqb entry.0.0 l.0 ≡ false). rw off (ap (λ ts. tag_of entry ∷ ts) (cleaned_line-absent l rest (rw off at absent))))
    (cases_Bool (eqb entry.0.0 l.0))

cleaned_line-map : (n k : ℕ) (l : Line) (a : Content) (bytes : List ℕ) (entries : List (Line × Content)) → AreEntries n k entries → lookup l entries ≡ Some a → a.state ≡ M → cleaned_line l (map tag_of entries) ≡ map tag_of (replaced l (record { state = E; bytes = bytes }) entries)
cleaned_line-map n k l a bytes [] are at m = refl
cleaned_line-map n k l a bytes (entry ∷ rest) are at m =
    ⊎_elim
    (λ (yes : eqb entry.0.0 l.0 ≡ true).
    let found : Some entry.1 ≡ Some a = rw yes at at in
    let content : entry.1 ≡ a = cc in
    let state : entry.1.state ≡ M = ap (λ (c : Content). c.state) content ∙ m in
    let line : entry.0 ≡ l = line_by_number entry.0 l (eqb-true _ _ yes) in
    let none : lookup l rest ≡ None = ap (λ b. lookup b rest) (sym line) ∙ are.1 in
    rw yes (ap (λ ts. (entry.0, cleaned_state entry.1.state) ∷ ts) (cleaned_line-absent l rest none) ∙ ap (λ s. (entry.0, cleaned_state s) ∷ map tag_of rest) state ∙ ap (λ b. (b, E) ∷ map tag_of rest) line))
    (λ (off : eqb entry.0.0 l.0 ≡ false). rw off (ap (λ ts. tag_of entry ∷ ts) (cleaned_line-map n k l a bytes rest are.2 (rw off at at) m)))
    (cases_Bool (eqb entry.0.0 l.0))

-- a line isn't in the list of another set
pub other_set_none : (p : Parts) → AreParts p → (l : Line) (h s : ℕ) → s ≢ l.0 % p.sets → lookup l ((shown p).tags h s) ≡ None
other_set_none p are l h s apart = go ((shown p).tags h s) (λ tag is. (tag_told p are h s tag is).set)
  where
    go : (tags : List Tag) → ((tag : Tag) → Contains tags tag → tag.0.0 % p.sets ≡ s) → lookup l tags ≡ None
    go [] placed = refl
    go (tag ∷ tags) placed =
        ⊎_elim
        (λ (on : eqb tag.0.0 l.0 ≡ true). absurd (apart (sym (placed tag (cons_here tag tags)) ∙ ap (λ n. n % p.sets) (eqb-true _ _ on))))
        (λ (off : eqb tag.0.0 l.0 ≡ false). rw off (go tags (λ other is. placed other (cons_later tag other tags is))))
        (cases_Bool (eqb tag.0.0 l.0))

-- views with equal parts are equal
pub same_backing : (a b : BackingView) → a.line_bytes ≡ b.line_bytes → a.base ≡ b.base → a.holders ≡ b.holders → a.sets ≡ b.sets → a.ways ≡ b.ways → a.view ≡ b.view → a.copies ≡ b.copies → a.tags ≡ b.tags → a ≡ b
same_backing a b line_bytes base holders sets ways view copies tags =
    ap (λ (x : ℕ). record a { line_bytes = x }) line_bytes ∙
    ap (λ (x : ℕ). record a { line_bytes = b.line_bytes; base = x }) base ∙
    ap (λ (x : ℕ). record a { line_bytes = b.line_bytes; base = b.base; holders = x }) holders ∙
    ap (λ (x : ℕ). record a { line_bytes = b.line_bytes; base = b.base; holders = b.holders; sets = x }) sets ∙
    ap (λ (x : ℕ). record a { line_bytes = b.line_bytes; base = b.base; holders = b.holders; sets = b.sets; ways = x }) ways ∙
    ap (λ (x : List ℕ). record a { line_bytes = b.line_bytes; base = b.base; holders = b.holders; sets = b.sets; ways = b.ways; view = x }) view ∙
    ap (λ (x : List ℕ). record a { line_bytes = b.line_bytes; base = b.base; holders = b.holders; sets = b.sets; ways = b.ways; view = b.view; copies = x }) copies ∙
    ap (λ (x : Tags). record a { line_bytes = b.line_bytes; base = b.base; holders = b.holders; sets = b.sets; ways = b.ways; view = b.view; copies = b.copies; tags = x }) tags

-- what is done to a dirty line
pub record IsFlush (p q : Parts) (o : ℕ) (l : Line) : Type 0 where
  pub are : AreParts q
  pub flushed : shown q ≡ flushed (shown p) l
  pub notes : flush_notes (shape_of (shown p)) (shown p).tags l ≡ note_of Back o l ∷ []

pub flush_line : (p : Parts) (o : ℕ) (l : Line) (a : Content) (cache : Contents) (memory : Memory) → AreParts p → held p l o ≡ Some a → a.state ≡ M
    → cache ≡ with_set (cache_at p o) l (restated (cache_at p o) l E) → memory ≡ with_bytes p.memory l (take p.memory.line_bytes (handed_out a.bytes))
    → IsFlush p (moved p o cache memory p.rows) o l
flush_line p o l a cache memory are at m cached back_is =
    let inside = held_inside p l o a at in
    let fits = are.fits o inside in
    let there = are.range l o a at in
    let kept = are.kept l there in
    let n : ℕ = l.0 % p.sets in
    let owns : a.state ≢ S = m_not_s a.state m in
    let q : Parts = moved p o cache memory p.rows in
    let new : Content = record { state = E; bytes = a.bytes } in
    let back : IsBack p.memory l a.bytes memory = rw back_is (back_dirty p are l o a at) in
    let owner : row_of p.rows l ≡ Owner o = kept.owner o a at owns in
    let e : IsPartEdit p o l (Some new) q = record {
      sets = refl;
      ways = refl;
      memory = back.written;
      rows = record { first = refl; count = refl; valid = are.rows; others = λ b is apart. refl };
      cache = cache;
      caches = refl;
      edited = rw cached (edit_restated (cache_at p o) l a E fits.is at);
    } in
    let here : held q l o ≡ Some new = held_here p q o l (Some new) inside e in
    let none : (k : ℕ) → k ≢ o → held p l k ≡ None = λ k apart. beside_owner (held p l) (row_of p.rows l) (line_of p.memory l) kept o k a at owns apart in
    let owned : IsKept (held q l) (Owner o) (line_of memory l) =
    kept_owned (held q l) (line_of memory l) o new here (λ same. cc) (λ k apart. held_beside p q o k l l (Some new) e apart ∙ none k apart) (λ apart. sym back.own) in
    let parts : AreParts q = parts_edited p q o l (Some new) are inside there e (subst (λ (r : Row). IsKept (held q l) r (line_of memory l)) (sym owner) owned) in
    let was : seen p l ≡ a.bytes = seen_content p are l o a at in
    let now : seen q l ≡ a.bytes = seen_content q parts l o new here in
    let list : cleaned_line l (list_at (shown p) o l) ≡ map tag_of (restated (cache_at p o) l E) =
    ap (λ ts. cleaned_line l ts) (list_entries_of p are o l inside) ∙ cleaned_line-map _ _ l a _ (set_list (cache_at p o) l) (list_entries (cache_at p o).lines l fits.is.sets) at m in
    let edits : Edits (cleaned_line l (list_at (shown p) o l)) (flushed_copies (shown p) l) o l (shown p) (shown q) =
    edits_of p q o l (Some new) (restated (cache_at p o) l E) (cleaned_line l (list_at (shown p) o l)) (flushed_copies (shown p) l) are inside e cached list (now ∙ sym was)
    (back.all ∙ ap (λ b. with_line p.memory.base p.memory.line_bytes p.memory.bytes l.0 b) (sym (view_of_shown p are l there ∙ was))) in
    let tags : (k s : ℕ) → (shown q).tags k s ≡ cleaned_line l ((shown p).tags k s) =
    λ k s. edits.tags k s ∙ ⊎_elim
    (λ (at_n : s ≡ n). rw (eq-eqb s n at_n) (⊎_elim
    (λ (same : k ≡ o). rw (eq-eqb k o same) (ap (λ i. cleaned_line l ((shown p).tags i n)) (sym same) ∙ ap (λ i. cleaned_line l ((shown p).tags k i)) (sym at_n)))
    (λ (apart : k ≢ o). rw (test_off k o apart)
    (ap (λ i. (shown p).tags k i) at_n ∙ sym (cleaned_line-none l ((shown p).tags k n) (state_shown p are l k ∙ ap (λ x. option_map state_of_content x) (none k apart))) ∙ ap (λ i. cleaned_line l ((shown p).tags k i)) (sym at_n)))
    (cases_eq k o)))
    (λ (other : s ≢ n). rw (test_off s n other) (sym (cleaned_line-none l ((shown p).tags k s) (other_set_none p are l k s other))))
    (cases_eq s n) in
    record {
      are = parts;
      flushed = same_backing (shown q) (flushed (shown p) l) edits.numbers.line_bytes edits.numbers.base edits.numbers.holders edits.numbers.sets edits.numbers.ways edits.view edits.copies (fun_ext (λ k. fun_ext (λ s. tags k s)));
      notes = each_one (length p.caches) o (λ h. back_notes l h (held_state (shape_of (shown p)) (shown p).tags h l)) inside
          (λ k below apart. ap (λ x. back_notes l k x) (state_shown p are l k ∙ ap (λ x. option_map state_of_content x) (none k apart))) ∙
          ap (λ x. back_notes l o x) (state_held p are l o a at ∙ ap (λ s. Some s) m);
    }

-- a dirty line has an owner, which has it in M
pub record IsDirtyAt (p : Parts) (l : Line) (o : ℕ) : Type 0 where
  pub content : Content
  pub held : held p l o ≡ Some content
  pub state : content.state ≡ M
  pub inside : IsIn p.memory l
  pub row : row_of p.rows l ≡ Owner o

pub dirty_at : (p : Parts) (l : Line) → AreParts p → IsDirty (shown p) l → (o : ℕ) × IsDirtyAt p l o
dirty_at p l are is =
    let found = dirty_state p are l is in
    let a = some_m (held p l found.0) (sym (state_shown p are l found.0) ∙ found.1) in
    let there = are.range l found.0 a.0 a.1 in
    (found.0, record { content = a.0; held = a.1; state = a.2; inside = there; row = (are.kept l there).owner found.0 a.0 a.1 (m_not_s a.0.state a.2) })
  where
    some_m : (o : Option Content) → option_map state_of_content o ≡ Some M → (a : Content) × (o ≡ Some a) × (a.state ≡ M)
    some_m None is = absurd cc
    some_m (Some a) is = (a, refl, let both : Some a.state ≡ Some M = is in cc)

pub dirty_owner : (p : Parts) (l : Line) (o : ℕ) → AreParts p → IsDirty (shown p) l → row_of p.rows l ≡ Owner o → IsDirtyAt p l o
dirty_owner p l o are is row =
    let found = dirty_at p l are is in
    let both : Owner found.0 ≡ Owner o = sym found.1.row ∙ row in
    let same : found.0 ≡ o = cc in
    subst (λ (k : ℕ). IsDirtyAt p l k) same found.1

pub can_clean : (p : Parts) (o : ℕ) (l : Line) (was : Contents) → AreParts p → IsDirtyAt p l o → was ≡ get_or p.caches o was → state_of was l ≡ Some M
can_clean p o l was are is read =
    let cache : was ≡ cache_at p o = read_cache p o was (held_inside p l o is.content is.held) read in
    ap (λ (c : Contents). state_of c l) cache ∙ ap (λ (x : Option Content). option_map (λ content. content.state) x) is.held ∙ ap (λ s. Some s) is.state

-- what is written back of a dirty line
pub back_of : (p : Parts) (o : ℕ) (l : Line) (was : Contents) (back : Option (List ℕ)) → AreParts p → (is : IsDirtyAt p l o) → was ≡ get_or p.caches o was → back ≡ written_back (content_of was l) → back ≡ Some (handed_out is.content.bytes)
back_of p o l was back are is read handed =
    let same : was ≡ cache_at p o = read_cache p o was (held_inside p l o is.content is.held) read in
    handed ∙ ap (λ (c : Contents). written_back (content_of c l)) same ∙ ap written_back is.held ∙ ap (λ s. bytes_in s (handed_out is.content.bytes)) is.state

pub flushing : (p : Parts) (o : ℕ) (l : Line) (was cache : Contents) (back : Option (List ℕ)) (memory : Memory) → AreParts p → (is : IsDirtyAt p l o) → was ≡ get_or p.caches o was → back ≡ Some (handed_out is.content.bytes) → cache ≡ with_set was l (restated was l E) → memory ≡ backed p.memory l back → IsFlush p (moved p o cache memory p.rows) o l
flushing p o l was cache back memory are is read handed cached back_is =
    let same : was ≡ cache_at p o = read_cache p o was (held_inside p l o is.content is.held) read in
    flush_line p o l is.content cache memory are is.held is.state
    (cached ∙ ap (λ (c : Contents). with_set c l (restated c l E)) same)
    (back_is ∙ ap (λ b. backed p.memory l b) handed)
