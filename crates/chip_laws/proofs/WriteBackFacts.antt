-- A flush of a dirty line is one write-back, by the one holder that has it in M.
use Rattle.std.proofs.Common.{◌≡◌, ◌<◌, ℕ, zero, suc, Bool, true, false, List, [], ◌∷◌, ◌++◌, refl, sym, ap, ◌∙◌, subst, arith, cond, eqb, ltb, not, ◌⊎◌, inl, inr, Option, Some, None, is_some}
use Rattle.std.specs.List.{find}
use Rattle.std.proofs.lemmas.Bool.{false≢true, true≢false, cond_both, eqb-true, eq-eqb, or_cases, or_left, or_right, and_parts, cases_Bool}
use Rattle.set_assoc.specs.Entries.{lookup}
use Rattle.conda_base.specs.declared.Line.{Line}
use Rattle.conda_base.specs.declared.Mesi.{Mesi}
use Rattle.conda_base.specs.declared.Mesi.TheVariants.{M, E, S}
use Rattle.conda_base.specs.declared.actor.Actor.{Actor}
use Rattle.conda_base.specs.declared.actor.Actor.TheVariants as The
use Rattle.conda_base.specs.LineLists.{names, same_line, line_list}
use Rattle.schedule_log.specs.declared.entry.Entry.{Entry}
use Rattle.schedule_log.specs.declared.entry.Entry.TheVariants.{Commit, Back, Flush}
use Rattle.traffic_trace.specs.declared.note.Kind.TheVariants as Kind_is
use Rattle.line_memory.specs.Tags.{Tag, Tags, Shape, set_number, held_state, modified, is_modified, each_below, dirty_lines}
use Rattle.line_memory.specs.Notes.{note_of, back_notes, flush_notes, flushes_notes}
use Rattle.line_memory.specs.Owners.{is_owner}
use Rattle.line_memory.proofs.MemberLemmas.{each_one}
use Rattle.offload_calls.specs.HartAct.{hart_runs}
use Rattle.offload_calls.specs.CoreActs.{core_runs}
use Rattle.bloom_sig.specs.Images.{is_member_of}
use Rattle.conda_base.proofs.LineListLemmas.{line_eq, names-append}
use Rattle.chip_laws.specs.Design.{Design, hart_shape}
use Rattle.chip_laws.specs.Rules.{World, Opening, opening_end, is_conflict, is_locked_below, dirty_of, flush_line, is_flushing, ruling, core_entry, next}
use Rattle.chip_laws.specs.Notes.{notes_of}
use Rattle.chip_laws.specs.Worlds.{world}
use Rattle.chip_laws.specs.Flushes.{AreWriteBacks, AlwaysWrittenBack}
use Rattle.chip_laws.proofs.WorldFacts.{waits_in}
use Rattle.chip_laws.proofs.OwnerFacts.{AreOnce, is_held}
use Rattle.chip_laws.proofs.TagShapes.{TagsFit}
use Rattle.chip_laws.proofs.SoundFacts.{tags-fit}

-- ---- a dirty line is in M somewhere

named_below : (n : ℕ) (lists : ℕ → List Line) (l : Line) → names (each_below n lists) l ≡ true → (k : ℕ) × (k < n) × (names (lists k) l ≡ true)
named_below zero lists l h = absurd (false≢true h)
named_below (suc n) lists l h =
    go (or_cases (names (each_below n lists) l) (names (lists n) l) (sym (names-append (each_below n lists) (lists n) l) ∙ h)) (named_below n lists l)
  where
    go : (names (each_below n lists) l ≡ true) ⊎ (names (lists n) l ≡ true)
        → (names (each_below n lists) l ≡ true → (k : ℕ) × (k < n) × (names (lists k) l ≡ true)) → (k : ℕ) × (k < suc n) × (names (lists k) l ≡ true)
    go (inl earlier) found = let at = found earlier in (at.0, omega (arith, at.1), at.2)
    go (inr here) found = (n, omega arith, here)

modified_held : (l : Line) (tags : List Tag) → names (modified tags) l ≡ true → is_held l tags ≡ true
modified_held l [] h = absurd (false≢true h)
modified_held l (tag ∷ tags) h = go (same_line tag.0 l) refl (modified_held l tags)
  where
    later : (b : Bool) → names (cond b (tag.0 ∷ modified tags) (modified tags)) l ≡ true → same_line tag.0 l ≡ false → names (modified tags) l ≡ true
    later true h other = there (or_cases (same_line tag.0 l) (names (modified tags) l) h)
      where
        there : (same_line tag.0 l ≡ true) ⊎ (names (modified tags) l ≡ true) → names (modified tags) l ≡ true
        there (inl same) = absurd (false≢true (sym other ∙ same))
        there (inr rest) = rest
    later false h other = h

    go : (b : Bool) → same_line tag.0 l ≡ b → (names (modified tags) l ≡ true → is_held l tags ≡ true) → is_some (cond b (Some tag.1) (lookup l tags)) ≡ true
    go true e rest = refl
    go false e rest = rest (later (is_modified tag.1) h e)

in_m : (m : Mesi) → is_modified m ≡ true → m ≡ M
in_m M h = refl
in_m E h = absurd (false≢true h)
in_m S h = absurd (false≢true h)

modified_state : (l : Line) (tags : List Tag) → AreOnce tags → names (modified tags) l ≡ true → lookup l tags ≡ Some M
modified_state l [] once h = absurd (false≢true h)
modified_state l (tag ∷ tags) once h = go (same_line tag.0 l) refl (is_modified tag.1) refl h (modified_state l tags once.1)
  where
    none_later : same_line tag.0 l ≡ true → names (modified tags) l ≡ true → ⊥
    none_later same rest = true≢false (sym (modified_held l tags rest) ∙ ap (λ k. is_held k tags) (sym (line_eq tag.0 l same)) ∙ once.0)

    apart : same_line tag.0 l ≡ false → (same_line tag.0 l ≡ true) ⊎ (names (modified tags) l ≡ true) → names (modified tags) l ≡ true
    apart other (inl same) = absurd (false≢true (sym other ∙ same))
    apart other (inr rest) = rest

    go : (b : Bool) → same_line tag.0 l ≡ b → (m : Bool) → is_modified tag.1 ≡ m → names (cond m (tag.0 ∷ modified tags) (modified tags)) l ≡ true
        → (names (modified tags) l ≡ true → lookup l tags ≡ Some M) → cond b (Some tag.1) (lookup l tags) ≡ Some M
    go true e true is_m h later = ap Some (in_m tag.1 is_m)
    go true e false is_m h later = absurd (none_later e h)
    go false e true is_m h later = later (apart e (or_cases (same_line tag.0 l) (names (modified tags) l) h))
    go false e false is_m h later = later h

-- the holder that has a dirty line in M
owner_of : (shape : Shape) (tags : Tags) (l : Line) → TagsFit shape tags → names (dirty_lines shape tags) l ≡ true
    → (h : ℕ) × (h < shape.holders) × (held_state shape tags h l ≡ Some M)
owner_of shape tags l fit dirty =
    let holder = named_below shape.holders (λ h. each_below shape.sets (λ s. modified (tags h s))) l dirty in
    let found = named_below shape.sets (λ s. modified (tags holder.0 s)) l holder.2 in
    (holder.0, holder.1, at_set holder.0 found.0 (modified_state l (tags holder.0 found.0) (fit.owners.once holder.0 found.0) found.2))
  where
    at_set : (h s : ℕ) → lookup l (tags h s) ≡ Some M → held_state shape tags h l ≡ Some M
    at_set h s e = go (cases_Bool (eqb s (set_number shape l)))
      where
        go : (eqb s (set_number shape l) ≡ true) ⊎ (eqb s (set_number shape l) ≡ false) → held_state shape tags h l ≡ Some M
        go (inl same) = ap (λ i. lookup l (tags h i)) (sym (eqb-true s (set_number shape l) same)) ∙ e
        go (inr other) = absurd (true≢false (sym (ap is_some e) ∙ fit.placed h s l other))

-- ---- the notes of a flush

none_back : (l : Line) (k : ℕ) (x : Option Mesi) → is_some x ≡ false → back_notes l k x ≡ []
none_back l k None h = refl
none_back l k (Some m) h = absurd (true≢false h)

one_back : (shape : Shape) (tags : Tags) (l : Line) (fit : TagsFit shape tags) (dirty : names (dirty_lines shape tags) l ≡ true)
    → flush_notes shape tags l ≡ note_of Kind_is.Back (owner_of shape tags l fit dirty).0 l ∷ []
one_back shape tags l fit dirty =
    each_one shape.holders h (λ k. back_notes l k (held_state shape tags k l)) below
    (λ k u other. none_back l k (held_state shape tags k l)
    (fit.owners.alone h k (set_number shape l) l u (λ same. other (sym same)) (ap is_owner owns)))
    ∙ ap (back_notes l h) owns
  where
    h : ℕ
    h = (owner_of shape tags l fit dirty).0

    below : h < shape.holders
    below = (owner_of shape tags l fit dirty).1

    owns : held_state shape tags h l ≡ Some M
    owns = (owner_of shape tags l fit dirty).2

-- one write-back for each of some dirty lines
all_back : (shape : Shape) (tags : Tags) (lines : List Line) → TagsFit shape tags
    → ((l : Line) → names lines l ≡ true → names (dirty_lines shape tags) l ≡ true)
    → AreWriteBacks shape tags lines (flushes_notes shape tags lines)
all_back shape tags [] fit dirty = tt
all_back shape tags (l ∷ lines) fit dirty =
    let here : names (dirty_lines shape tags) l ≡ true = dirty l (or_left _ _ (eq-eqb l.0 l.0 refl)) in
    let holder = owner_of shape tags l fit here in
    subst (λ notes. AreWriteBacks shape tags (l ∷ lines) (notes ++ flushes_notes shape tags lines)) (sym (one_back shape tags l fit here)) (
      record { kind = refl; line = refl; holder = holder.1; modified = holder.2 },
      all_back shape tags lines fit (λ k named. dirty k (or_right _ _ named)),
    )

-- ---- entries

find_named : (test : Line → Bool) (lines : List Line) (l : Line) → find test lines ≡ Some l → names lines l ≡ true
find_named test [] l e = absurd (let k : None ≡ Some l = e in cc)
find_named test (x ∷ lines) l e = go (test x) e (find_named test lines l)
  where
    go : (b : Bool) → cond b (Some x) (find test lines) ≡ Some l → (find test lines ≡ Some l → names lines l ≡ true) → names (x ∷ lines) l ≡ true
    go true e later = let same : x ≡ l = cc in or_left _ _ (eq-eqb x.0 l.0 (ap (λ (k : Line). k.0) same))
    go false e later = or_right _ _ (later e)

-- a Flush comes only where there is a line to flush
abbrev HasLine : Design → World → Entry → Type 0
HasLine d w (Flush j) = is_some (flush_line d w j) ≡ true
HasLine d w other = Unit {0}

core_entry-line : (d : Design) (w : World) (j : ℕ) (x : Option Opening) → HasLine d w (core_entry d w j x)
core_entry-line d w j None =
    cond_both (is_flushing d w j) _ _ (HasLine d w)
    (λ e. (and_parts (ltb 0 (w.seats j).due) (is_some (flush_line d w j)) e).1)
    (λ _. cond_both (eqb (w.seats j).backs d.config.retries) _ _ (HasLine d w) (λ _. tt) (λ _. tt))
core_entry-line d w j (Some o) = go (opening_end d o)
  where
    go : (cause : Option ℕ) → HasLine d w (ruling d j o cause)
    go None = tt
    go (Some c) = cond_both (is_conflict d o) (Back j o.acts c) (Commit j o.acts c) (HasLine d w) (λ _. tt) (λ _. tt)

next-line : (d : Design) (w : World) (a : Actor) → HasLine d w (next d w a)
unfolding next
next-line d w (The.Hart h) =
    cond_both (not (hart_runs (w.flat.harts h).status)) _ _ (HasLine d w) (λ _. tt)
    (λ _. cond_both (is_locked_below w (λ k. false) d.config.cores) _ _ (HasLine d w) (λ _. tt)
    (λ _. cond_both (waits_in d w h) _ _ (HasLine d w) (λ _. tt) (λ _. tt)))
next-line d w (The.Core j) =
    cond_both (not (core_runs (w.flat.cores j).status)) _ _ (HasLine d w) (λ _. tt)
    (λ _. cond_both (is_locked_below w (λ k. eqb k j) d.config.cores) _ _ (HasLine d w) (λ _. tt)
    (λ _. core_entry-line d w j (w.seats j).opening))

some_line : (x : Option Line) → is_some x ≡ true → (l : Line) × (x ≡ Some l)
some_line None h = absurd (false≢true h)
some_line (Some l) h = (l, refl)

pub written_back : AlwaysWrittenBack
unfolding notes_of
written_back d events a = record { lock = λ j e. all_back shape w.tags (dirty_of d w) fit (λ l h. h); flush = flush }
  where
    w : World
    w = world d events

    shape : Shape
    shape = hart_shape d

    fit : TagsFit shape w.tags
    fit = tags-fit d events

    flush : (j : ℕ) → next d w a ≡ Flush j
        → (l : Line) × (flush_line d w j ≡ Some l) × AreWriteBacks shape w.tags (l ∷ []) (notes_of d w (Flush j))
    flush j e =
        let has : is_some (flush_line d w j) ≡ true = subst (HasLine d w) e (next-line d w a) in
        let found = some_line (flush_line d w j) has in
        let dirty : names (dirty_of d w) found.0 ≡ true = find_named (is_member_of d.config.sig_bits (w.seats j).last) (dirty_of d w) found.0 found.1 in (
          found.0,
          found.1,
          subst (λ x. AreWriteBacks shape w.tags (found.0 ∷ []) (flushes_notes shape w.tags (line_list x))) (sym found.1)
              (all_back shape w.tags (found.0 ∷ []) fit (λ l named. only l found.0 dirty named)),
        )
      where
        only : (l k : Line) → names (dirty_of d w) k ≡ true → names (k ∷ []) l ≡ true → names (dirty_of d w) l ≡ true
        only l k dirty named = go (or_cases (same_line k l) false named)
          where
            go : (same_line k l ≡ true) ⊎ (false ≡ true) → names (dirty_of d w) l ≡ true
            go (inl same) = ap (names (dirty_of d w)) (sym (line_eq k l same)) ∙ dirty
            go (inr never) = absurd (false≢true never)
