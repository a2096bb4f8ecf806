-- The parts are a coherent memory.
use Rattle.std.specs.List.{All, slice_get, AllPairs, Contains}
use Rattle.std.proofs.Common.{◌/◌, ◌≡◌, ◌≢◌, ℕ, zero, suc, ◌%◌, ◌+◌, ◌*◌, ◌<◌, ◌≤◌, ◌⊎◌, inl, inr, ⊎_elim, true, false, List, [], ◌∷◌, Option, Some, None, length, get_or, map, sym, ap, subst, ◌∙◌, refl, arith, eqb}
use Rattle.std.specs.Option.{option_map, IsSome, is_some}
use Rattle.std.proofs.lemmas.List.{get_or_past, length-map}
use Rattle.std.proofs.lemmas.Bool.{cases_Bool, cases_lt, eq-eqb}
use Rattle.std.proofs.lemmas.List.Elements.{Contains-get_or}
use Rattle.std.proofs.lemmas.Nat.{mod_below, mod-mul-add}
use Rattle.std.proofs.Math.Nat.{mul-le-mul_left}
use Rattle.conda_base.specs.declared.Line.{Line}
use Rattle.conda_base.specs.declared.Mesi.TheVariants.{M}
use Rattle.set_assoc.specs.Entries.{lookup, AreEntries}
use Rattle.cpu_cache.specs.Contents.{Content, Contents, IsHeld, content_of, tag_of, bytes_of, content_bytes, no_contents, tags_of}
use Rattle.mesi_directory.specs.declared.row.Row.TheVariants.{Owner}
use Rattle.mesi_directory.specs.Rows.{row_of, has_holder}
use Rattle.line_memory.specs.Owners.{is_owner}
use Rattle.line_memory.specs.Backing.{dirty_in, view_of, shape_of, IsInRange, IsDirty}
use Rattle.line_memory.specs.Memory.{IsMemory, IsIn, line_of}
use Rattle.line_memory.specs.Tags.{Tag, held_state, is_modified, modified, each_below}
use Rattle.line_memory.proofs.MemberLemmas.{cons_cases, none_in_nil, pairs_cons, pairs_nil, each_member, each_contains, pairs_each, modified_member, modified_contains}
use Rattle.coherent_mem.specs.Moves.{list_at}
use Rattle.coherent_mem.specs.HandedOut.{IsCacheOf, IsDirectoryOf}
use Rattle.coherent_mem.specs.Parts.{Parts, AreParts, cache_at, held, shown}
use Rattle.coherent_mem.specs.Steps.{IsCoherent}
use Rattle.coherent_mem.proofs.PartFacts.{row_in}
use Rattle.coherent_mem.proofs.ShareFacts.{owner_state}
use Rattle.coherent_mem.proofs.LineFacts.{sole, beside_owner}
use Rattle.coherent_mem.proofs.TagFacts.{is_some-mapped, state_of_content, state_shown}
use Rattle.coherent_mem.proofs.ViewFacts.{view_of_shown, length_view}
use Rattle.coherent_mem.proofs.MoveFacts.{read_cache, seen_content}
use Rattle.coherent_mem.proofs.DownFacts.{owner_held}
use Rattle.coherent_mem.proofs.RoomFacts.{listed, listed_state}
use Rattle.coherent_mem.proofs.CopyFacts.{clean_copy, range_in, range_of, state_inside}
use Rattle.conda_base.proofs.LineLemmas.{line_by_number}

small_mod : (s n : ℕ) → s < n → s % n ≡ s
small_mod s n below = let same : s ≡ 0 * n + s = omega arith in ap (λ k. k % n) same ∙ mod-mul-add 0 n s below

-- a list of tags is empty, or that of a set of a holder
tags_cases : (p : Parts) → AreParts p → (h s : ℕ) → ((shown p).tags h s ≡ []) ⊎ ((h < length p.caches) × (s < p.sets))
tags_cases p are h s =
    ⊎_elim
    (λ (inside : h < length p.caches). ⊎_elim
    (λ (below : s < p.sets). inr (inside, below))
    (λ (past : p.sets ≤ s). inl (let fits = are.fits h inside in ap (λ es. map tag_of es) (get_or_past (cache_at p h).lines.lists s [] (rw fits.sets past))))
    (cases_lt s p.sets))
    (λ (past : length p.caches ≤ h). inl (ap (λ (c : Contents). tags_of c s) (get_or_past p.caches h (no_contents 0 0 0) past)))
    (cases_lt h (length p.caches))

abbrev set_line : ℕ → Line
set_line s = record { 0 = s }

listed_in : (p : Parts) → AreParts p → (h s : ℕ) (tag : Tag) → h < length p.caches → s < p.sets → Contains ((shown p).tags h s) tag → (i : ℕ) × (slice_get (list_at (shown p) h (set_line s)) i ≡ Some tag)
listed_in p are h s tag inside below (k, within, is) =
    let same : s % p.sets ≡ s = small_mod s p.sets below in
    let at : slice_get ((shown p).tags h s) k ≡ Some tag = got ((shown p).tags h s) k tag within is in
    (k, ap (λ (n : ℕ). slice_get ((shown p).tags h n) k) same ∙ at)
  where
    got : (tags : List Tag) (k : ℕ) (tag : Tag) → k < length tags → get_or tags k tag ≡ tag → slice_get tags k ≡ Some tag
    got [] k tag within is = absurd (omega arith)
    got (first ∷ tags) zero tag within is = ap (λ t. Some t) is
    got (first ∷ tags) (suc k) tag within is = got tags k tag (omega arith) is

-- what a tag of a list tells
pub record IsTag (p : Parts) (h s : ℕ) (tag : Tag) : Type 0 where
  pub state : held_state (shape_of (shown p)) (shown p).tags h tag.0 ≡ Some tag.1
  pub set : tag.0.0 % p.sets ≡ s
  pub inside : IsIn p.memory tag.0

pub tag_told : (p : Parts) → AreParts p → (h s : ℕ) (tag : Tag) → Contains ((shown p).tags h s) tag → IsTag p h s tag
tag_told p are h s tag is =
    ⊎_elim
    (λ (none : (shown p).tags h s ≡ []). absurd (none_in_nil tag (subst (λ (ts : List Tag). Contains ts tag) none is)))
    (λ (there : (h < length p.caches) × (s < p.sets)).
    let found = listed_in p are h s tag there.0 there.1 is in
    let told = listed p are h (set_line s) found.0 tag there.0 found.1 in
    record {
      state = listed_state p are h (set_line s) found.0 tag there.0 found.1;
      set = told.set ∙ small_mod s p.sets there.1;
      inside = are.range tag.0 h told.content told.held;
    })
    (tags_cases p are h s)

-- a line is dirty exactly where some holder has it in M
pub dirty_state : (p : Parts) → AreParts p → (l : Line) → IsDirty (shown p) l → (h : ℕ) × (held_state (shape_of (shown p)) (shown p).tags h l ≡ Some M)
dirty_state p are l is =
    let holder = each_member (length p.caches) (λ h. each_below p.sets (λ s. modified ((shown p).tags h s))) l is in
    let set_of = each_member p.sets (λ s. modified ((shown p).tags holder.0 s)) l holder.2 in
    let found = modified_member l ((shown p).tags holder.0 set_of.0) set_of.2 in
    let told = tag_told p are holder.0 set_of.0 found.0 found.1 in
    (holder.0, ap (λ b. held_state (shape_of (shown p)) (shown p).tags holder.0 b) (sym found.2) ∙ told.state ∙ ap (λ m. Some m) found.3)

pub state_dirty : (p : Parts) → AreParts p → (l : Line) (h : ℕ) → held_state (shape_of (shown p)) (shown p).tags h l ≡ Some M → IsDirty (shown p) l
state_dirty p are l h is =
    let inside = state_inside p are l h M is in
    let below : l.0 % p.sets < p.sets = mod_below l.0 p.sets are.some_sets in
    each_contains (length p.caches) h (λ h. each_below p.sets (λ s. modified ((shown p).tags h s))) l inside
    (each_contains p.sets (l.0 % p.sets) (λ s. modified ((shown p).tags h s)) l below (modified_contains l ((shown p).tags h (l.0 % p.sets)) is))

-- a line that isn't looked up isn't in the list
none_tag : (l : Line) (entries : List (Line × Content)) (tag : Tag) → lookup l entries ≡ None → Contains (map tag_of entries) tag → l.0 ≢ tag.0.0
none_tag l [] tag none is same = none_in_nil tag is
none_tag l (entry ∷ rest) tag none is same =
    ⊎_elim
    (λ (on : eqb entry.0.0 l.0 ≡ true). let both : Some entry.1 ≡ None = rw on at none in absurd cc)
    (λ (off : eqb entry.0.0 l.0 ≡ false). ⊎_elim
    (λ (first : tag_of entry ≡ tag). let on : eqb entry.0.0 l.0 ≡ true = eq-eqb entry.0.0 l.0 (ap (λ (t : Tag). t.0.0) first ∙ sym same) in let both : true ≡ false = sym on ∙ off in absurd cc)
    (λ (later : Contains (map tag_of rest) tag). none_tag l rest tag (rw off at none) later same)
    (cons_cases (tag_of entry) tag (map tag_of rest) is))
    (cases_Bool (eqb entry.0.0 l.0))

abbrev Apart : Tag → Tag → Type 0
Apart one other = one.0.0 ≢ other.0.0

once_entries : (n k : ℕ) (entries : List (Line × Content)) → AreEntries n k entries → AllPairs Apart (map tag_of entries)
once_entries n k [] are = pairs_nil Apart
once_entries n k (entry ∷ rest) are =
    pairs_cons Apart (tag_of entry) (map tag_of rest) (once_entries n k rest are.2) (λ tag is. none_tag entry.0 rest tag are.1 is)

abbrev ApartLines : Line → Line → Type 0
ApartLines one other = one.0 ≢ other.0

single_list : (tags : List Tag) → AllPairs Apart tags → AllPairs ApartLines (modified tags)
single_list [] once = pairs_nil ApartLines
single_list (tag ∷ tags) once =
    let rest : AllPairs Apart tags = λ i j d order below. once (suc i) (suc j) d (omega arith) (omega arith) in
    let later = single_list tags rest in
    ⊎_elim
    (λ (on : is_modified tag.1 ≡ true). rw on (pairs_cons ApartLines tag.0 (modified tags) later
    (λ y is same.
    let found = modified_member y tags is in
    let place = found.1 in
    let apart : Apart tag (get_or tags place.0 found.0) = once 0 (suc place.0) found.0 (omega arith) (below_suc place.0 (length tags) place.1) in
    apart (same ∙ ap (λ (b : Line). b.0) (sym found.2) ∙ ap (λ (t : Tag). t.0.0) (sym place.2)))))
    (λ (off : is_modified tag.1 ≡ false). rw off later)
    (cases_Bool (is_modified tag.1))
  where
    below_suc : (k n : ℕ) → k < n → suc k < suc n
    below_suc k n below = omega arith

once_list : (p : Parts) → AreParts p → (h s : ℕ) → AllPairs Apart ((shown p).tags h s)
once_list p are h s =
    ⊎_elim
    (λ (none : (shown p).tags h s ≡ []). subst (λ (ts : List Tag). AllPairs Apart ts) (sym none) (pairs_nil Apart))
    (λ (there : (h < length p.caches) × (s < p.sets)).
    let fits = are.fits h there.0 in
    once_entries _ s (get_or (cache_at p h).lines.lists s []) (fits.is.sets.entries s (rw fits.sets there.1)))
    (tags_cases p are h s)

pub single_dirty : (p : Parts) → AreParts p → AllPairs ApartLines (dirty_in (shown p))
single_dirty p are =
    pairs_each ApartLines (length p.caches) (λ h. each_below p.sets (λ s. modified ((shown p).tags h s)))
    (λ h inside. pairs_each ApartLines p.sets (λ s. modified ((shown p).tags h s))
    (λ s below. single_list ((shown p).tags h s) (once_list p are h s))
    (λ i j x y order below first second same.
    let one = modified_member x ((shown p).tags h i) first in
    let two = modified_member y ((shown p).tags h j) second in
    let at_i = (tag_told p are h i one.0 one.1).set in
    let at_j = (tag_told p are h j two.0 two.1).set in
    let both : i ≡ j = sym at_i ∙ ap (λ (b : Line). b.0 % p.sets) one.2 ∙ ap (λ (n : ℕ). n % p.sets) same ∙ ap (λ (b : Line). b.0 % p.sets) (sym two.2) ∙ at_j in
    omega arith))
    (λ i j x y order below first second same.
    let in_i = each_member p.sets (λ s. modified ((shown p).tags i s)) x first in
    let in_j = each_member p.sets (λ s. modified ((shown p).tags j s)) y second in
    let one = modified_member x ((shown p).tags i in_i.0) in_i.2 in
    let two = modified_member y ((shown p).tags j in_j.0) in_j.2 in
    let told_one = tag_told p are i in_i.0 one.0 one.1 in
    let told_two = tag_told p are j in_j.0 two.0 two.1 in
    let x_m : held_state (shape_of (shown p)) (shown p).tags i x ≡ Some M = ap (λ b. held_state (shape_of (shown p)) (shown p).tags i b) (sym one.2) ∙ told_one.state ∙ ap (λ m. Some m) one.3 in
    let y_m : held_state (shape_of (shown p)) (shown p).tags j x ≡ Some M = ap (λ b. held_state (shape_of (shown p)) (shown p).tags j b) (line_by_number x y same ∙ sym two.2) ∙ told_two.state ∙ ap (λ m. Some m) two.3 in
    let a = owner_held p are x i (ap is_owner x_m) in
    let b = owner_held p are x j (ap is_owner y_m) in
    let there = are.range x i a.0 a.1 in
    let both : j ≡ i = sole (held p x) (row_of p.rows x) (line_of p.memory x) (are.kept x there) i j a.0 b.0 a.1 a.2 b.1 in
    omega arith)

placed_list : (p : Parts) → AreParts p → (h s : ℕ) → All (λ (tag : Tag). tag.0.0 % p.sets ≡ s) ((shown p).tags h s)
placed_list p are h s k d below =
    (tag_told p are h s (get_or ((shown p).tags h s) k d) (Contains-get_or ((shown p).tags h s) k d below)).set

-- what every coherent memory keeps
pub coherent : (p : Parts) → AreParts p → IsCoherent (shown p)
coherent p are =
    let long = length_view p are in
    let few = are.few in
    let few_sets = are.few_sets in
    let few_ways = are.few_ways in
    let first = mul-le-mul_left p.sets few in
    let second = mul-le-mul_left p.ways (few_places (length p.caches) p.sets first few_sets) in
    record {
      backing = record {
        memory = subst (λ (n : ℕ). IsMemory p.memory.line_bytes p.memory.base n) (sym long) are.memory;
        same = sym long;
        some_sets = are.some_sets;
        some_ways = are.some_ways;
        few = omega arith;
        short = λ h s. ⊎_elim
            (λ (none : (shown p).tags h s ≡ []). rw none (omega arith))
            (λ (there : (h < length p.caches) × (s < p.sets)).
            let fits = are.fits h there.0 in
            let short = fits.is.sets.short s [] (rw fits.sets there.1) in
            let ways = fits.ways in
            let size = length-map (get_or (cache_at p h).lines.lists s []) tag_of in omega arith)
            (tags_cases p are h s);
        outside = λ h s past. ⊎_elim (λ (none : (shown p).tags h s ≡ []). none)
            (λ (there : (h < length p.caches) × (s < p.sets)). absurd (grind arith)) (tags_cases p are h s);
        once = once_list p are;
        placed = placed_list p are;
        in_range = λ h s k d below.
            let tag : Tag = get_or ((shown p).tags h s) k d in
            range_of p are tag.0 (tag_told p are h s tag (Contains-get_or ((shown p).tags h s) k d below)).inside;
        single = single_dirty p are;
        clean = λ l there clean. clean_copy p are l (range_in p are l there) (λ k m. clean (state_dirty p are l k m));
      };
      few = are.few;
      owners = record {
        once = once_list p are;
        placed = placed_list p are;
        alone = λ l h k inside apart owner.
            let a = owner_held p are l h owner in
            let there = are.range l h a.0 a.1 in
            state_shown p are l k ∙ ap (λ o. option_map state_of_content o) (beside_owner (held p l) (row_of p.rows l) (line_of p.memory l) (are.kept l there) h k a.0 a.1 a.2 apart);
      };
    }
  where
    few_places : (holders sets : ℕ) → sets * holders ≤ sets * 12 → sets ≤ 256 → holders * sets ≤ 3072
    few_places holders sets first few = omega arith

-- a cache has the tags of its holder, and users' bytes of each line
cache_bytes : (p : Parts) (h : ℕ) → AreParts p → (l : Line) → IsHeld (cache_at p h) l → bytes_of (cache_at p h) l ≡ view_of (shown p) l
cache_bytes p h are l is =
    let a = some_content (content_of (cache_at p h) l) is in
    ap content_bytes a.1 ∙ sym (view_of_shown p are l (are.range l h a.0 a.1) ∙ seen_content p are l h a.0 a.1)
  where
    some_content : (o : Option Content) → IsSome o → (a : Content) × (o ≡ Some a)
    some_content None is = absurd cc
    some_content (Some a) is = (a, refl)

pub cache_of : (p : Parts) (h : ℕ) (was : Contents) → AreParts p → h < length p.caches → was ≡ get_or p.caches h was → IsCacheOf (shown p) h was
cache_of p h was are inside read =
    let fits = are.fits h inside in
    subst (λ (c : Contents). IsCacheOf (shown p) h c) (sym (read_cache p h was inside read)) (record {
      line_bytes = fits.line_bytes;
      sets = fits.sets;
      ways = fits.ways;
      tags = λ s. refl;
      states = λ l. sym (state_shown p are l h);
      bytes = cache_bytes p h are;
    })

-- the rows are the holders
row_holders : (p : Parts) → AreParts p → (l : Line) → IsInRange (shown p) l → (h : ℕ) → has_holder (row_of p.rows l) h ≡ is_some (held_state (shape_of (shown p)) (shown p).tags h l)
row_holders p are l there h =
    (are.kept l (range_in p are l there)).holders h ∙ sym (ap is_some (state_shown p are l h) ∙ is_some-mapped (held p l h))

row_owner_of : (p : Parts) → AreParts p → (l : Line) → IsInRange (shown p) l → (h : ℕ) → is_owner (held_state (shape_of (shown p)) (shown p).tags h l) ≡ true → row_of p.rows l ≡ Owner h
row_owner_of p are l there h owner =
    let a = owner_held p are l h owner in (are.kept l (range_in p are l there)).owner h a.0 a.1 a.2

pub directory_of : (p : Parts) → AreParts p → IsDirectoryOf (shown p) p.rows
directory_of p are = record {
  first = are.first;
  count = are.count ∙ ap (λ n. n / p.memory.line_bytes) (sym (length_view p are));
  range = λ l there. row_in p are l (range_in p are l there);
  holders = row_holders p are;
  owner = λ l there h. (λ row. owner_state p l h are (range_in p are l there) row, row_owner_of p are l there h);
}

pub owner_is_held : (p : Parts) (h : ℕ) (l : Line) (was : Contents) (a : Content) → h < length p.caches → was ≡ get_or p.caches h was → held p l h ≡ Some a → IsHeld was l
owner_is_held p h l was a inside read at =
    let same : was ≡ cache_at p h = read_cache p h was inside read in
    let here : content_of was l ≡ Some a = ap (λ (c : Contents). content_of c l) same ∙ at in
    rw here refl
