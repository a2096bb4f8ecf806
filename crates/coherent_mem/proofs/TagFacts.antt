-- The tags of the parts, before and after a change of one list.
use Rattle.std.proofs.Common.{◌≡◌, ◌≢◌, ℕ, ◌%◌, ◌<◌, ◌≤◌, ⊎_elim, Bool, true, false, eqb, cond, List, [], ◌∷◌, Option, Some, None, length, get_or, set, map, sym, ap, ◌∙◌, refl}
use Rattle.std.specs.Option.{is_some, option_map}
use Rattle.std.proofs.lemmas.List.{get_or-set_same, get_or-set_other, get_or_past}
use Rattle.std.proofs.lemmas.Bool.{cases_Bool, cases_eq, cases_lt, eqb-true, eq-eqb}
use Rattle.std.proofs.lemmas.Nat.{mod_below}
use Rattle.conda_base.specs.declared.Line.{Line}
use Rattle.conda_base.specs.declared.Mesi.{Mesi}
use Rattle.conda_base.specs.declared.Mesi.TheVariants.{S}
use Rattle.set_assoc.specs.Entries.{lookup, without, replaced, AreEntries}
use Rattle.cpu_cache.specs.Contents.{Content, Contents, content_of, set_list, tag_of, tags_of, with_set, no_contents}
use Rattle.line_memory.specs.Tags.{Tag, without_line, held_state}
use Rattle.line_memory.specs.Access.{shared_line}
use Rattle.line_memory.specs.Backing.{shape_of}
use Rattle.coherent_mem.specs.Parts.{Parts, AreParts, cache_at, held, shown}
use Rattle.coherent_mem.specs.Moves.{relisted}
use Rattle.coherent_mem.proofs.CacheFacts.{test_off}
use Rattle.coherent_mem.proofs.PartFacts.{IsPartEdit, cache_same, cache_beside}
use Rattle.conda_base.proofs.LineLemmas.{line_by_number}

-- the state that a content has
abbrev pub state_of_content : Content → Mesi
state_of_content content = content.state

pub lookup-map : (l : Line) (entries : List (Line × Content)) → lookup l (map tag_of entries) ≡ option_map state_of_content (lookup l entries)
lookup-map l [] = refl
lookup-map l (entry ∷ rest) =
    ⊎_elim (λ yes. rw yes refl) (λ no. rw no (lookup-map l rest)) (cases_Bool (eqb entry.0.0 l.0))

-- a tag's state is that of what the holder has
pub state_shown : (p : Parts) → AreParts p → (l : Line) (h : ℕ) → held_state (shape_of (shown p)) (shown p).tags h l ≡ option_map state_of_content (held p l h)
state_shown p are l h =
    ⊎_elim
    (λ (inside : h < length p.caches).
    let fits = are.fits h inside in
    ap (λ n. lookup l (tags_of (cache_at p h) (l.0 % n))) (sym fits.sets) ∙ lookup-map l (set_list (cache_at p h) l))
    (λ (past : length p.caches ≤ h).
    let none : cache_at p h ≡ no_contents 0 0 0 = get_or_past p.caches h (no_contents 0 0 0) past in
    ap (λ (c : Contents). lookup l (tags_of c (l.0 % p.sets))) none ∙ sym (ap (λ (c : Contents). option_map state_of_content (content_of c l)) none))
    (cases_lt h (length p.caches))

pub some_state : (o : Option Content) (content : Content) → o ≡ Some content → option_map state_of_content o ≡ Some content.state
some_state o content is = ap (λ x. option_map state_of_content x) is

-- the tags of a cache after a change of the list of a line's set
pub tags_with_set : (c : Contents) (l : Line) (entries : List (Line × Content)) (s : ℕ) → 0 < length c.lines.lists → tags_of (with_set c l entries) s ≡ cond (eqb s (l.0 % length c.lines.lists)) (map tag_of entries) (tags_of c s)
tags_with_set c l entries s some =
    let place : ℕ = l.0 % length c.lines.lists in
    let below : place < length c.lines.lists = mod_below l.0 (length c.lines.lists) some in
    ⊎_elim
    (λ (same : s ≡ place). rw (eq-eqb s place same)
    (ap (λ k. map tag_of (get_or (set c.lines.lists place entries) k [])) same ∙ ap (λ es. map tag_of es) (get_or-set_same c.lines.lists place entries [] below)))
    (λ (apart : s ≢ place). rw (test_off s place apart) (ap (λ es. map tag_of es) (get_or-set_other c.lines.lists place s entries [] apart)))
    (cases_eq s place)

-- the tags of the parts after a change of one holder's list
pub tags_edited : (p q : Parts) (h : ℕ) (l : Line) (x : Option Content) (entries : List (Line × Content)) → AreParts p → h < length p.caches → (e : IsPartEdit p h l x q) → e.cache ≡ with_set (cache_at p h) l entries → (k s : ℕ) → (shown q).tags k s ≡ relisted (shown p).tags h (l.0 % p.sets) (map tag_of entries) k s
tags_edited p q h l x entries are inside e is k s =
    let fits = are.fits h inside in
    let some : 0 < length (cache_at p h).lines.lists = rw fits.sets are.some_sets in
    ⊎_elim
    (λ (same : k ≡ h).
    let one : tags_of (cache_at q k) s ≡ cond (eqb s (l.0 % p.sets)) (map tag_of entries) (tags_of (cache_at p h) s) =
    ap (λ i. tags_of (cache_at q i) s) same ∙ ap (λ c. tags_of c s) (cache_same p q h l x inside e ∙ is) ∙
    tags_with_set (cache_at p h) l entries s some ∙ ap (λ n. cond (eqb s (l.0 % n)) (map tag_of entries) (tags_of (cache_at p h) s)) fits.sets in
    one ∙ ap (λ i. cond (eqb s (l.0 % p.sets)) (map tag_of entries) (tags_of (cache_at p i) s)) (sym same) ∙ rw (eq-eqb k h same) refl)
    (λ (apart : k ≢ h).
    ap (λ c. tags_of c s) (cache_beside p q h k l x e apart) ∙ rw (test_off k h apart) (sym (both (eqb s (l.0 % p.sets)) (tags_of (cache_at p k) s))))
    (cases_eq k h)
  where
    both : (b : Bool) (tags : List Tag) → cond b tags tags ≡ tags
    both true tags = refl
    both false tags = refl

-- what is done to a list of tags, and to the entries that they are of
pub without_line-absent : (l : Line) (entries : List (Line × Content)) → lookup l entries ≡ None → without_line l (map tag_of entries) ≡ map tag_of entries
without_line-absent l [] absent = refl
without_line-absent l (entry ∷ rest) absent =
    ⊎_elim
    (λ (yes : eqb entry.0.0 l.0 ≡ true). let found : Some entry.1 ≡ None = rw yes at absent in absurd cc)
    (λ (no : eqb entry.0.0 l.0 ≡ false). rw no (ap (λ ts. tag_of entry ∷ ts) (without_line-absent l rest (rw no at absent))))
    (cases_Bool (eqb entry.0.0 l.0))

pub without_line-map : (n k : ℕ) (l : Line) (entries : List (Line × Content)) → AreEntries n k entries → without_line l (map tag_of entries) ≡ map tag_of (without l entries)
without_line-map n k l [] are = refl
without_line-map n k l (entry ∷ rest) are =
    ⊎_elim
    (λ (yes : eqb entry.0.0 l.0 ≡ true).
    let none : lookup l rest ≡ None = ap (λ a. lookup a rest) (line_by_number l entry.0 (sym (eqb-true _ _ yes))) ∙ are.1 in
    rw yes (without_line-absent l rest none))
    (λ (no : eqb entry.0.0 l.0 ≡ false). rw no (ap (λ ts. tag_of entry ∷ ts) (without_line-map n k l rest are.2)))
    (cases_Bool (eqb entry.0.0 l.0))

pub shared_line-absent : (l : Line) (entries : List (Line × Content)) → lookup l entries ≡ None → shared_line l (map tag_of entries) ≡ map tag_of entries
shared_line-absent l [] absent = refl
shared_line-absent l (entry ∷ rest) absent =
    ⊎_elim
    (λ (yes : eqb entry.0.0 l.0 ≡ true). let found : Some entry.1 ≡ None = rw yes at absent in absurd cc)
    (λ (no : eqb entry.0.0 l.0 ≡ false). rw no (ap (λ ts. tag_of entry ∷ ts) (shared_line-absent l rest (rw no at absent))))
    (cases_Bool (eqb entry.0.0 l.0))

pub shared_line-map : (n k : ℕ) (l : Line) (bytes : List ℕ) (entries : List (Line × Content)) → AreEntries n k entries → shared_line l (map tag_of entries) ≡ map tag_of (replaced l (record { state = S; bytes = bytes }) entries)
shared_line-map n k l bytes [] are = refl
shared_line-map n k l bytes (entry ∷ rest) are =
    ⊎_elim
    (λ (yes : eqb entry.0.0 l.0 ≡ true).
    let line : entry.0 ≡ l = line_by_number entry.0 l (eqb-true _ _ yes) in
    let none : lookup l rest ≡ None = ap (λ a. lookup a rest) (sym line) ∙ are.1 in
    rw yes (ap (λ ts. (entry.0, S) ∷ ts) (shared_line-absent l rest none) ∙ ap (λ a. (a, S) ∷ map tag_of rest) line))
    (λ (no : eqb entry.0.0 l.0 ≡ false). rw no (ap (λ ts. tag_of entry ∷ ts) (shared_line-map n k l bytes rest are.2)))
    (cases_Bool (eqb entry.0.0 l.0))

pub is_some-mapped : (o : Option Content) → is_some (option_map state_of_content o) ≡ is_some o
is_some-mapped None = refl
is_some-mapped (Some a) = refl
