-- A walk over the dirty lines looks into the marked sets alone.
use Rattle.std.proofs.Common.{◌≡◌, ℕ, zero, suc, ◌%◌, ◌+◌, ◌-◌, ◌*◌, ◌/◌, ◌<◌, ◌≤◌, ⊎_elim, Bool, true, false, List, [], ◌∷◌, ◌++◌, Option, Some, None, length, get_or, sym, ap, subst, ◌∙◌, refl, arith}
use Rattle.std.specs.List.{slice_get, Contains}
use Rattle.std.proofs.lemmas.Bool.{cases_Bool}
use Rattle.std.proofs.lemmas.Nat.{mod_below, div_below, mul-add-lt, div-add-mod'}
use Rattle.std.proofs.Math.Nat.{mul-le-mul_left}
use Rattle.conda_base.specs.declared.Line.{Line}
use Rattle.conda_base.specs.declared.Mesi.{Mesi}
use Rattle.conda_base.specs.declared.Mesi.TheVariants.{M, E, S}
use Rattle.line_memory.specs.Tags.{Tag, is_modified}
use Rattle.line_memory.specs.Backing.{BackingView, IsFirstDirty, dirty_from, way_place}
use Rattle.line_memory.proofs.WalkLemmas.{each_empty, dirty_from-step, modified_at, modified_from-past}
use Rattle.line_memory.proofs.MemberLemmas.{cons_here, cons_later}
use Rattle.coherent_mem.specs.Marked.{AreMarked, IsCleanFrom, IsFirstModified, is_m_at}
use Rattle.coherent_mem.specs.Parts.{Parts, AreParts, shown}
use Rattle.coherent_mem.proofs.CoherentFacts.{coherent, state_dirty, tag_told}
use Rattle.coherent_mem.proofs.CopyFacts.{range_of}

nothing_at : (o : Option Tag) → is_m_at o ≡ false → modified_at o ≡ []
nothing_at None is = refl
nothing_at (Some tag) is = rw is refl

-- the walk along ways whose lines aren't in M
walk_ways : (b : BackingView) (h s from n : ℕ) → ((k i : ℕ) → length (b.tags k i) ≤ b.ways) → h < b.holders → s < b.sets → from + n ≤ b.ways → IsCleanFrom (b.tags h s) from (from + n) → dirty_from b (way_place b h s from) ≡ dirty_from b (way_place b h s (from + n))
walk_ways b h s from zero short inside below within clean = let same : from ≡ from + 0 = omega arith in ap (λ w. dirty_from b (way_place b h s w)) same
walk_ways b h s from (suc n) short inside below within clean =
    let next : way_place b h s (from + n) + 1 ≡ way_place b h s (from + suc n) = omega arith in
    walk_ways b h s from n short inside below (omega arith) (λ k after before. clean k after (omega arith)) ∙
    dirty_from-step b h s (from + n) short inside below (omega arith) ∙
    ap (λ ls. ls ++ dirty_from b (way_place b h s (from + n) + 1)) (nothing_at (slice_get (b.tags h s) (from + n)) (clean (from + n) (omega arith) (omega arith))) ∙
    ap (λ k. dirty_from b k) next

walk_to : (b : BackingView) (h s from end : ℕ) → ((k i : ℕ) → length (b.tags k i) ≤ b.ways) → h < b.holders → s < b.sets → from ≤ end → end ≤ b.ways → IsCleanFrom (b.tags h s) from end → dirty_from b (way_place b h s from) ≡ dirty_from b (way_place b h s end)
walk_to b h s from end short inside below order within clean =
    let gap : from + (end - from) ≡ end = omega arith in
    subst (λ (e : ℕ). dirty_from b (way_place b h s from) ≡ dirty_from b (way_place b h s e)) gap
    (walk_ways b h s from (end - from) short inside below (omega arith) (λ k after before. clean k after (omega arith)))

-- the set of a mark
pub record IsSetOf (b : BackingView) (mark : ℕ) : Type 0 where
  pub holder : mark / b.sets < b.holders
  pub set : mark % b.sets < b.sets
  pub place : (way : ℕ) → mark * b.ways + way ≡ way_place b (mark / b.sets) (mark % b.sets) way

pub set_of_mark : (b : BackingView) (mark : ℕ) → 0 < b.sets → mark < b.holders * b.sets → IsSetOf b mark
set_of_mark b mark some below = record {
  holder = div_below mark b.sets b.holders some below;
  set = mod_below mark b.sets some;
  place = λ way. ap (λ m. m * b.ways + way) (sym (div-add-mod' mark b.sets));
}

-- one set further
pub next_set : (p : Parts) (mark way : ℕ) → AreParts p → mark < length p.caches * p.sets → way < p.ways → IsCleanFrom ((shown p).tags (mark / p.sets) (mark % p.sets)) way p.ways → dirty_from (shown p) (mark * p.ways + way) ≡ dirty_from (shown p) ((mark + 1) * p.ways + 0)
next_set p mark way are below within clean =
    let at = set_of_mark (shown p) mark are.some_sets below in
    let next : mark * p.ways + p.ways ≡ (mark + 1) * p.ways + 0 = omega arith in
    ap (λ k. dirty_from (shown p) k) (at.place way) ∙
    walk_to (shown p) (mark / p.sets) (mark % p.sets) way p.ways (coherent p are).backing.short at.holder at.set (omega arith) (omega arith) clean ∙
    ap (λ k. dirty_from (shown p) k) (sym (at.place p.ways) ∙ next)

contains_at : (tags : List Tag) (k : ℕ) (tag : Tag) → slice_get tags k ≡ Some tag → Contains tags tag
contains_at [] k tag is = absurd cc
contains_at (first ∷ tags) zero tag is = let same : first ≡ tag = cc in subst (λ (t : Tag). Contains (t ∷ tags) tag) (sym same) (cons_here tag tags)
contains_at (first ∷ tags) (suc k) tag is = cons_later first tag tags (contains_at tags k tag is)

m_there : (o : Option Tag) → is_m_at o ≡ true → (tag : Tag) × (o ≡ Some tag) × (tag.1 ≡ M)
m_there None is = absurd cc
m_there (Some tag) is = (tag, refl, state tag.1 is)
  where
    state : (m : Mesi) → is_modified m ≡ true → m ≡ M
    state M is = refl
    state E is = absurd cc
    state S is = absurd cc

-- a set without a mark has no line in M
pub unmarked : (p : Parts) (mark way : ℕ) (marks : List Bool) → AreParts p → AreMarked (shown p) marks → get_or marks mark false ≡ false → IsCleanFrom ((shown p).tags (mark / p.sets) (mark % p.sets)) way p.ways
unmarked p mark way marks are is off k after below =
    let h : ℕ = mark / p.sets in
    let s : ℕ = mark % p.sets in
    ⊎_elim
    (λ (on : is_m_at (slice_get ((shown p).tags h s) k) ≡ true).
    let found = m_there (slice_get ((shown p).tags h s) k) on in
    let told = tag_told p are h s found.0 (contains_at ((shown p).tags h s) k found.0 found.1) in
    let marked : get_or marks (h * p.sets + found.0.0.0 % p.sets) false ≡ true = is.marked found.0.0 h (told.state ∙ ap (λ m. Some m) found.2) in
    let place : h * p.sets + found.0.0.0 % p.sets ≡ mark = ap (λ i. h * p.sets + i) told.set ∙ div-add-mod' mark p.sets in
    let both : true ≡ false = sym marked ∙ ap (λ i. get_or marks i false) place ∙ off in absurd cc)
    (λ none. none)
    (cases_Bool (is_m_at (slice_get ((shown p).tags h s) k)))

-- past all places
pub walk_past : (p : Parts) (from : ℕ) → AreParts p → length p.caches * p.sets * p.ways ≤ from → dirty_from (shown p) from ≡ []
walk_past p from are past =
    let short = (coherent p are).backing.short in
    each_empty (length p.caches) _ (λ h inside. each_empty p.sets _ (λ s below.
    let few = short h s in
    let order : h * p.sets + s < length p.caches * p.sets = omega (arith, mul-add-lt h p.sets s (length p.caches) inside below) in
    let gap = mul-le-mul_left p.ways order in
    modified_from-past from (way_place (shown p) h s 0) ((shown p).tags h s) (omega arith)))

-- the first dirty line
pub found_dirty : (p : Parts) (from mark start way : ℕ) (l : Line) → AreParts p → mark < length p.caches * p.sets → from ≤ mark * p.ways + start → dirty_from (shown p) from ≡ dirty_from (shown p) (mark * p.ways + start)
    → IsFirstModified ((shown p).tags (mark / p.sets) (mark % p.sets)) start p.ways way l → IsFirstDirty (shown p) from (mark * p.ways + way) l
found_dirty p from mark start way l are below after skipped is =
    let b = shown p in
    let h : ℕ = mark / p.sets in
    let s : ℕ = mark % p.sets in
    let at = set_of_mark b mark are.some_sets below in
    let backing = (coherent p are).backing in
    let order = is.after in
    let low = is.below in
    let told = tag_told p are h s (l, M) (contains_at ((shown p).tags h s) way (l, M) is.here) in
    record {
      after = omega arith;
      below = omega (arith, mul-add-lt mark p.ways way (length p.caches * p.sets) below low);
      skipped = skipped ∙ ap (λ k. dirty_from b k) (at.place start) ∙ walk_to b h s start way backing.short at.holder at.set order (omega arith) is.skipped ∙ ap (λ k. dirty_from b k) (sym (at.place way));
      first = ap (λ k. dirty_from b k) (at.place way) ∙ dirty_from-step b h s way backing.short at.holder at.set low ∙
          ap (λ (o : Option Tag). modified_at o ++ dirty_from b (way_place b h s way + 1)) is.here ∙
          ap (λ k. l ∷ dirty_from b (k + 1)) (sym (at.place way));
      is_dirty = state_dirty p are l h told.state;
      in_range = range_of p are l told.inside;
    }

-- where the walk is, with nothing found so far
pub record IsOnward (p : Parts) (from mark way : ℕ) : Type 0 where
  pub within : way < p.ways
  pub after : from ≤ mark * p.ways + way
  pub skipped : dirty_from (shown p) from ≡ dirty_from (shown p) (mark * p.ways + way)

pub onward : (p : Parts) (from mark way : ℕ) → AreParts p → mark < length p.caches * p.sets → way < p.ways → from ≤ mark * p.ways + way → dirty_from (shown p) from ≡ dirty_from (shown p) (mark * p.ways + way)
    → IsCleanFrom ((shown p).tags (mark / p.sets) (mark % p.sets)) way p.ways → IsOnward p from (mark + 1) 0
onward p from mark way are below within after skipped clean = record {
  within = are.some_ways;
  after = omega arith;
  skipped = skipped ∙ next_set p mark way are below within clean;
}
