-- What every list of events keeps, and that a line has one owner.
use Rattle.std.proofs.Common.{◌≡◌, ◌≢◌, ℕ, Bool, true, false, List, [], ◌∷◌, refl, sym, ap, ◌∙◌, cond, eqb, ◌⊎◌, inl, inr, Option, Some, None, is_some}
use Rattle.std.specs.List.{All, AllPairs}
use Rattle.std.proofs.lemmas.Bool.{false≢true, true≢false, cond-true, eq-eqb, ne_eqb, cases_eq}
use Rattle.std.proofs.lemmas.List.Elements.{All-nil, All-cons}
use Rattle.std.proofs.lemmas.List.Kept.{AllPairs-cons}
use Rattle.set_assoc.specs.Entries.{lookup}
use Rattle.conda_base.specs.declared.Line.{Line}
use Rattle.conda_base.specs.declared.Mesi.{Mesi}
use Rattle.conda_base.specs.declared.actor.Actor.{Actor}
use Rattle.line_memory.specs.Tags.{Tag, Tags, Shape, set_number, held_state}
use Rattle.line_memory.specs.Owners.{HasSingleOwners}
use Rattle.line_memory.proofs.MemberLemmas.{pairs_nil}
use Rattle.chip_laws.specs.Design.{Design, hart_shape}
use Rattle.chip_laws.specs.Rules.{World, next}
use Rattle.chip_laws.specs.Worlds.{happens, start_world, world_from, world}
use Rattle.chip_laws.specs.Owners.{AlwaysOwners}
use Rattle.chip_laws.specs.Sound.{AlwaysSound}
use Rattle.chip_laws.proofs.OwnerFacts.{is_held, AreOnce}
use Rattle.chip_laws.proofs.TagShapes.{TagsFit, took-fits, start-fits}
use Rattle.chip_laws.proofs.LockFacts.{start-sound}
use Rattle.chip_laws.proofs.BoundedFacts.{world-bounds}

-- ---- lists of tags, tag by tag

-- two tags of other lines
abbrev Differ : Tag → Tag → Type 0
Differ one other = one.0.0 ≢ other.0.0

-- a line that a list doesn't have differs from each of its lines
apart_from : (l : Line) (tags : List Tag) → is_held l tags ≡ false → All (λ (tag : Tag). l.0 ≢ tag.0.0) tags
apart_from l [] h = All-nil (λ (tag : Tag). l.0 ≢ tag.0.0)
apart_from l (tag ∷ tags) h = go (eqb tag.0.0 l.0) refl h (apart_from l tags)
  where
    go : (b : Bool) → eqb tag.0.0 l.0 ≡ b → is_some (cond b (Some tag.1) (lookup l tags)) ≡ false
        → (is_held l tags ≡ false → All (λ (tag : Tag). l.0 ≢ tag.0.0) tags) → All (λ (tag : Tag). l.0 ≢ tag.0.0) (tag ∷ tags)
    go true e h later = absurd (true≢false h)
    go false e h later =
        All-cons (λ (tag : Tag). l.0 ≢ tag.0.0) tag tags
        (λ same. false≢true (sym e ∙ eq-eqb tag.0.0 l.0 (sym same)))
        (later h)

once_pairs : (tags : List Tag) → AreOnce tags → AllPairs Differ tags
once_pairs [] once = pairs_nil Differ
once_pairs (tag ∷ tags) once = AllPairs-cons Differ tag tags (apart_from tag.0 tags once.0) (once_pairs tags once.1)

-- where lines of other sets are not there, each line is of this set
in_set : (shape : Shape) (set : ℕ) (tags : List Tag) → ((l : Line) → eqb set (set_number shape l) ≡ false → is_held l tags ≡ false)
    → All (λ (tag : Tag). set_number shape tag.0 ≡ set) tags
in_set shape set [] none = All-nil (λ (tag : Tag). set_number shape tag.0 ≡ set)
in_set shape set (tag ∷ tags) none =
    All-cons (λ (tag : Tag). set_number shape tag.0 ≡ set) tag tags (here (cases_eq set (set_number shape tag.0)))
    (in_set shape set tags (λ l out. rest l (none l out)))
  where
    here : ((set ≡ set_number shape tag.0) ⊎ (set ≡ set_number shape tag.0 → ⊥)) → set_number shape tag.0 ≡ set
    here (inl e) = sym e
    here (inr ne) =
        absurd (true≢false (sym (ap is_some (cond-true (eqb tag.0.0 tag.0.0) (Some tag.1) (lookup tag.0 tags) (eq-eqb tag.0.0 tag.0.0 refl)))
        ∙ none tag.0 (ne_eqb set (set_number shape tag.0) ne)))

    rest : (l : Line) → is_held l (tag ∷ tags) ≡ false → is_held l tags ≡ false
    rest l = go (eqb tag.0.0 l.0)
      where
        go : (b : Bool) → is_some (cond b (Some tag.1) (lookup l tags)) ≡ false → is_held l tags ≡ false
        go true h = absurd (true≢false h)
        go false h = h

none_is : (x : Option Mesi) → is_some x ≡ false → x ≡ None
none_is None h = refl
none_is (Some m) h = absurd (true≢false h)

pub single_owners : (shape : Shape) (tags : Tags) → TagsFit shape tags → HasSingleOwners shape tags
single_owners shape tags fit = record {
  once = λ h set. once_pairs (tags h set) (fit.owners.once h set);
  placed = λ h set. in_set shape set (tags h set) (λ l out. fit.placed h set l out);
  alone = λ l h k below other owned.
      none_is (held_state shape tags k l) (fit.owners.alone h k (set_number shape l) l below (λ same. other (sym same)) owned);
}

-- ---- every world that is reached

pub world-fits : (d : Design) (w : World) (events : List Actor) → TagsFit (hart_shape d) w.tags → TagsFit (hart_shape d) (world_from d w events).tags
unfolding world_from happens
world-fits d w [] fit = fit
world-fits d w (a ∷ events) fit = world-fits d (happens d w a) events (took-fits d w (next d w a) fit)

pub tags-fit : (d : Design) (events : List Actor) → TagsFit (hart_shape d) (world d events).tags
tags-fit d events = world-fits d (start_world d) events (start-fits d)

pub owners : AlwaysOwners
owners d events = single_owners (hart_shape d) (world d events).tags (tags-fit d events)

pub sound : AlwaysSound
sound d events is u = record {
  bounds = world-bounds d (start_world d) events (start-sound d is) u;
  owners = owners d events;
  short = (tags-fit d events).short;
}
