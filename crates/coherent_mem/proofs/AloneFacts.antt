-- A holder becomes the only one of a line.
use Rattle.coherent_mem.proofs.DropFacts.{and_false}
use Rattle.std.proofs.Common.{◌≡◌, ◌≢◌, ℕ, ◌%◌, ◌-◌, ◌<◌, ◌≤◌, ⊎_elim, true, false, List, [], ◌∷◌, ◌++◌, Option, Some, None, length, get_or, take, sym, ap, subst, ◌∙◌, refl, Bool, ◌&&◌, cond, eqb, ltb}
use Rattle.std.specs.Option.{option_map, is_some}
use Rattle.std.proofs.lemmas.List.{get_or_past}
use Rattle.std.proofs.lemmas.Bool.{cases_eq, cases_Bool, cases_lt, eq-eqb, lt-ltb, le-ltb}
use Rattle.std.proofs.Math.Path.{fun_ext}
use Rattle.std.specs.List.{slice_get}
use Rattle.set_assoc.specs.Entries.{lookup}
use Rattle.conda_base.specs.declared.Line.{Line}
use Rattle.conda_base.specs.declared.Mesi.{Mesi}
use Rattle.conda_base.specs.declared.Mesi.TheVariants.{M, E, S}
use Rattle.conda_base.specs.Bytes.{bytes_of_line}
use Rattle.cpu_cache.specs.Contents.{Content, Contents, no_contents, state_of, tags_of}
use Rattle.mesi_directory.specs.Rows.{row_of}
use Rattle.traffic_trace.specs.Notes.{Trace, noted}
use Rattle.traffic_trace.specs.declared.note.Note.{Note}
use Rattle.traffic_trace.specs.declared.note.Kind.TheVariants.{Fill}
use Rattle.line_memory.specs.Notes.{note_of, all_noted, access_notes, store_notes}
use Rattle.line_memory.specs.Memory.{Memory, IsIn, line_of}
use Rattle.line_memory.specs.Tags.{Tag, without_line, held_state, is_in_m}
use Rattle.line_memory.specs.Backing.{view_of, HasSameNumbers, shape_of, copy_of}
use Rattle.line_memory.proofs.BelowLemmas.{none_found, some_exists, some_found}
use Rattle.line_memory.specs.Access.{put_front, after_store}
use Rattle.line_memory.specs.Copies.{has_same_owner}
use Rattle.coherent_mem.specs.Moves.{IsMoved, list_at, gone_notes, IsAlone, IsDropped, IsFree, dropped_notes, relisted}
use Rattle.coherent_mem.specs.Parts.{Parts, AreParts, cache_at, held, shown}
use Rattle.coherent_mem.specs.Steps.{StepsTo}
use Rattle.coherent_mem.proofs.CacheFacts.{test_off}
use Rattle.coherent_mem.proofs.LineFacts.{beside_owner, none_not_some}
use Rattle.coherent_mem.proofs.PartFacts.{held_here, held_beside, held_other, count_same}
use Rattle.coherent_mem.proofs.RoomFacts.{room_is}
use Rattle.coherent_mem.proofs.TagFacts.{state_of_content, state_shown}
use Rattle.coherent_mem.proofs.ViewFacts.{length_view}
use Rattle.coherent_mem.proofs.DirtyFacts.{copy_next, follows, is_dirty, is_m}
use Rattle.coherent_mem.proofs.CoherentFacts.{coherent}
use Rattle.coherent_mem.proofs.CopyFacts.{numbers_twice, quiet_twice, quiet_same, noted_twice, clean_copy, not_dirty, range_new, range_of}
use Rattle.coherent_mem.proofs.MissFacts.{cut, IsRoomy, room_states, no_content, lookup-take, without_line-none}
use Rattle.coherent_mem.proofs.HitFacts.{front_whole}
use Rattle.coherent_mem.proofs.PutFacts.{IsPut}
use Rattle.coherent_mem.proofs.MoveFacts.{state_held, read_cache}
use Rattle.conda_base.proofs.LineLemmas.{line_by_number}

same_numbers : (p : Parts) → HasSameNumbers (shown p) (shown p)
same_numbers p = record { line_bytes = refl; base = refl; holders = refl; sets = refl; ways = refl; size = refl }

state_none_of : (p : Parts) → AreParts p → (l : Line) (k : ℕ) → held p l k ≡ None → held_state (shape_of (shown p)) (shown p).tags k l ≡ None
state_none_of p are l k none = state_shown p are l k ∙ ap (λ o. option_map state_of_content o) none

-- an owner is alone already
pub alone_owner : (p : Parts) (h : ℕ) (l : Line) (a : Content) → AreParts p → held p l h ≡ Some a → a.state ≢ S → IsAlone h l p p
alone_owner p h l a are at owns =
    let kept = are.kept l (are.range l h a at) in
    let alone : (k : ℕ) → k ≢ h → held p l k ≡ None = λ k apart. beside_owner (held p l) (row_of p.rows l) (line_of p.memory l) kept h k a at owns apart in
    record {
      numbers = same_numbers p;
      view = refl;
      quiet = quiet_same (shown p);
      are = are;
      here = rw (state_held p are l h a at) refl;
      alone = alone;
      front = sym (front_whole p are h l a M at);
      rest = λ s other. refl;
      others = λ k s apart. ⊎_elim
          (λ (here : s ≡ l.0 % p.sets). rw (eq-eqb s (l.0 % p.sets) here)
          (ap (λ i. (shown p).tags k i) here ∙ sym (without_line-none l ((shown p).tags k (l.0 % p.sets)) (state_none_of p are l k (alone k apart))) ∙ ap (λ i. without_line l ((shown p).tags k i)) (sym here)))
          (λ (other : s ≢ l.0 % p.sets). rw (test_off s (l.0 % p.sets) other) refl)
          (cases_eq s (l.0 % p.sets));
      same = λ m. refl;
    }

pub tags_past : (p : Parts) (k s : ℕ) → length p.caches ≤ k → (shown p).tags k s ≡ []
tags_past p k s past = ap (λ (c : Contents). tags_of c s) (get_or_past p.caches k (no_contents 0 0 0) past)

pub lookup-without_line : (l : Line) (tags : List Tag) → lookup l (without_line l tags) ≡ None
lookup-without_line l [] = refl
lookup-without_line l (tag ∷ tags) =
    ⊎_elim
    (λ (on : eqb tag.0.0 l.0 ≡ true). rw on (lookup-without_line l tags))
    (λ (off : eqb tag.0.0 l.0 ≡ false). rw off (rw off (lookup-without_line l tags)))
    (cases_Bool (eqb tag.0.0 l.0))

-- the tags of the others, once all of them have lost the line
pub dropped_others : (p q : Parts) (h : ℕ) (l : Line) → IsDropped h l (length p.caches) p q → (k s : ℕ) → k ≢ h → (shown q).tags k s ≡ cond (eqb s (l.0 % p.sets)) (without_line l ((shown p).tags k s)) ((shown p).tags k s)
dropped_others p q h l is k s apart =
    is.tags k s ∙ ⊎_elim
    (λ (here : s ≡ l.0 % p.sets). rw (eq-eqb s (l.0 % p.sets) here, test_off k h apart) (⊎_elim
    (λ (inside : k < length p.caches). rw (lt-ltb k (length p.caches) inside) refl)
    (λ (past : length p.caches ≤ k). rw (le-ltb k (length p.caches) past) (tags_past p k s past ∙ sym (ap (λ ts. without_line l ts) (tags_past p k s past))))
    (cases_lt k (length p.caches))))
    (λ (other : s ≢ l.0 % p.sets). rw (test_off s (l.0 % p.sets) other) refl)
    (cases_eq s (l.0 % p.sets))

pub dropped_own : (p q : Parts) (h : ℕ) (l : Line) (n : ℕ) → IsDropped h l n p q → (s : ℕ) → (shown q).tags h s ≡ (shown p).tags h s
dropped_own p q h l n is s =
    is.tags h s ∙ rw (eq-eqb h h refl) (off (eqb s (l.0 % p.sets)) (ltb h n) (without_line l ((shown p).tags h s)) ((shown p).tags h s))
  where
    off : (a b : Bool) (x y : List Tag) → cond (a && (b && false)) x y ≡ y
    off true true x y = refl
    off true false x y = refl
    off false b x y = refl

pub dropped_states : (p q : Parts) (h : ℕ) (l : Line) → IsDropped h l (length p.caches) p q → (k : ℕ) → k ≢ h → held_state (shape_of (shown q)) (shown q).tags k l ≡ None
dropped_states p q h l is k apart =
    let n : ℕ = l.0 % p.sets in
    let list : (shown q).tags k n ≡ without_line l ((shown p).tags k n) = dropped_others p q h l is k n apart ∙ rw (eq-eqb n n refl) refl in
    ap (λ (m : ℕ). lookup l ((shown q).tags k (l.0 % m))) is.numbers.sets ∙ ap (λ (ts : List Tag). lookup l ts) list ∙ lookup-without_line l ((shown p).tags k n)

pub dropped_held : (p q : Parts) (h : ℕ) (l : Line) → IsDropped h l (length p.caches) p q → (k : ℕ) → k ≢ h → held q l k ≡ None
dropped_held p q h l is k apart = no_content (held q l k) (sym (state_shown q is.are l k) ∙ dropped_states p q h l is k apart)

pub dropped_state : (p q : Parts) (h : ℕ) (l : Line) (n : ℕ) → IsDropped h l n p q → held_state (shape_of (shown q)) (shown q).tags h l ≡ held_state (shape_of (shown p)) (shown p).tags h l
dropped_state p q h l n is =
    ap (λ (m : ℕ). lookup l ((shown q).tags h (l.0 % m))) is.numbers.sets ∙ ap (λ (ts : List Tag). lookup l ts) (dropped_own p q h l n is (l.0 % p.sets))

-- a sharer is alone once all others have lost the line
pub alone_sharer : (p q : Parts) (h : ℕ) (l : Line) (a : Content) → AreParts p → held p l h ≡ Some a → a.state ≡ S → IsDropped h l (length p.caches) p q → IsAlone h l p q
alone_sharer p q h l a are at shares is =
    let state : held_state (shape_of (shown p)) (shown p).tags h l ≡ Some a.state = state_held p are l h a at in
    let list : list_at (shown q) h l ≡ list_at (shown p) h l = ap (λ (m : ℕ). (shown q).tags h (l.0 % m)) is.numbers.sets ∙ dropped_own p q h l (length p.caches) is (l.0 % p.sets) in
    record {
      numbers = is.numbers;
      view = is.view;
      quiet = is.quiet;
      are = is.are;
      here = rw (dropped_state p q h l (length p.caches) is ∙ state) refl;
      alone = dropped_held p q h l is;
      front = ap (λ (ts : List Tag). (l, M) ∷ without_line l ts) list ∙ sym (front_whole p are h l a M at);
      rest = λ s other. dropped_own p q h l (length p.caches) is s;
      others = dropped_others p q h l is;
      same = λ m. let both : Some S ≡ Some M = sym (state ∙ ap (λ s. Some s) shares) ∙ m in absurd cc;
    }

-- the line may come to the holder, in E, once all others have lost it and there is room
pub free_to_store : (p q r : Parts) (h : ℕ) (l : Line) → AreParts p → held p l h ≡ None → IsDropped h l (length p.caches) p q → IsRoomy h l q r → (k : ℕ) → held r l k ≡ None
free_to_store p q r h l are absent dropped room k =
    let none : held_state (shape_of (shown q)) (shown q).tags h l ≡ None = dropped_state p q h l (length p.caches) dropped ∙ state_none_of p are l h absent in
    let states : held_state (shape_of (shown q)) (shown q).tags k l ≡ None =
    ⊎_elim (λ (same : k ≡ h). ap (λ i. held_state (shape_of (shown q)) (shown q).tags i l) same ∙ none) (λ (apart : k ≢ h). dropped_states p q h l dropped k apart) (cases_eq k h) in
    no_content (held r l k) (sym (state_shown r room.are l k) ∙ room_states q r h l room none k ∙ states)

pub is_free : (r : Parts) (h : ℕ) (l : Line) → ((k : ℕ) → held r l k ≡ None) → IsFree r l h E
is_free r h l none = record {
  absent = none h;
  shared = λ k a at. absurd (none_not_some (held r l k) a (none k) at);
  alone = λ apart. none;
}

-- a holder that has just got the line is alone
pub alone_filled : (p q r u : Parts) (h : ℕ) (l : Line) → AreParts p → held p l h ≡ None → IsDropped h l (length p.caches) p q → IsRoomy h l q r → IsMoved ((l, E) ∷ list_at (shown r) h l) (shown r).copies h l r u → IsAlone h l p u
alone_filled p q r u h l are absent dropped room is =
    let n : ℕ = l.0 % p.sets in
    let none : held_state (shape_of (shown p)) (shown p).tags h l ≡ None = state_none_of p are l h absent in
    let q_sets : q.sets ≡ p.sets = dropped.numbers.sets in
    let r_sets : r.sets ≡ p.sets = room.numbers.sets ∙ q_sets in
    let u_sets : u.sets ≡ p.sets = is.edits.numbers.sets ∙ r_sets in
    let q_ways : q.ways ≡ p.ways = dropped.numbers.ways in
    let some = are.some_ways in
    let self_n : eqb n n ≡ true = eq-eqb n n refl in
    let self_h : eqb h h ≡ true = eq-eqb h h refl in
    let q_list : list_at (shown q) h l ≡ list_at (shown p) h l = ap (λ (m : ℕ). (shown q).tags h (l.0 % m)) q_sets ∙ dropped_own p q h l (length p.caches) dropped n in
    let r_tags : (k s : ℕ) → (shown r).tags k s ≡ relisted (shown q).tags h n (take (p.ways - 1) (list_at (shown p) h l)) k s =
    λ k s. room.tags k s ∙
    ap (λ (m : ℕ). relisted (shown q).tags h (l.0 % m) (take (q.ways - 1) (list_at (shown q) h l)) k s) q_sets ∙
    ap (λ (w : ℕ). relisted (shown q).tags h n (take (w - 1) (list_at (shown q) h l)) k s) q_ways ∙
    ap (λ (ts : List Tag). relisted (shown q).tags h n (take (p.ways - 1) ts) k s) q_list in
    let r_list : list_at (shown r) h l ≡ take (p.ways - 1) (list_at (shown p) h l) =
    ap (λ (m : ℕ). (shown r).tags h (l.0 % m)) r_sets ∙ (rw self_h at (rw self_n at (r_tags h n))) in
    let u_tags : (k s : ℕ) → (shown u).tags k s ≡ relisted (shown r).tags h n ((l, E) ∷ take (p.ways - 1) (list_at (shown p) h l)) k s =
    λ k s. is.edits.tags k s ∙
    ap (λ (m : ℕ). relisted (shown r).tags h (l.0 % m) ((l, E) ∷ list_at (shown r) h l) k s) r_sets ∙
    ap (λ (ts : List Tag). relisted (shown r).tags h n ((l, E) ∷ ts) k s) r_list in
    let u_list : list_at (shown u) h l ≡ (l, E) ∷ take (p.ways - 1) (list_at (shown p) h l) =
    ap (λ (m : ℕ). (shown u).tags h (l.0 % m)) u_sets ∙ (rw self_h at (rw self_n at (u_tags h n))) in
    let cut_none : without_line l (take (p.ways - 1) (list_at (shown p) h l)) ≡ take (p.ways - 1) (list_at (shown p) h l) =
    without_line-none l (take (p.ways - 1) (list_at (shown p) h l)) (lookup-take l (p.ways - 1) (list_at (shown p) h l) none) in
    let on : eqb l.0 l.0 ≡ true = eq-eqb l.0 l.0 refl in
    let u_states : (k : ℕ) → k ≢ h → held_state (shape_of (shown u)) (shown u).tags k l ≡ None =
    λ k apart.
    let none_q : held_state (shape_of (shown q)) (shown q).tags h l ≡ None = dropped_state p q h l (length p.caches) dropped ∙ none in
    let in_r : held_state (shape_of (shown r)) (shown r).tags k l ≡ None = room_states q r h l room none_q k ∙ dropped_states p q h l dropped k apart in
    let list : (shown u).tags k n ≡ (shown r).tags k n = u_tags k n ∙ rw (self_n, test_off k h apart) refl in
    ap (λ (m : ℕ). lookup l ((shown u).tags k (l.0 % m))) u_sets ∙ ap (λ (ts : List Tag). lookup l ts) list ∙
    ap (λ (m : ℕ). lookup l ((shown r).tags k (l.0 % m))) (sym r_sets) ∙ in_r in
    record {
      numbers = numbers_twice (shown p) (shown r) (shown u) (numbers_twice (shown p) (shown q) (shown r) dropped.numbers room.numbers) is.edits.numbers;
      view = is.edits.view ∙ room.view ∙ dropped.view;
      quiet = quiet_twice (shown p) (shown r) (shown u) (quiet_twice (shown p) (shown q) (shown r) dropped.quiet room.quiet) is.quiet;
      are = is.are;
      here = ap (λ (ts : List Tag). is_some (lookup l ts)) u_list ∙ rw on refl;
      alone = λ k apart. no_content (held u l k) (sym (state_shown u is.are l k) ∙ u_states k apart);
      front = ap (λ (ts : List Tag). (l, M) ∷ without_line l ts) u_list ∙ rw on (ap (λ (ts : List Tag). (l, M) ∷ ts) cut_none) ∙
          sym (ap (λ (ts : List Tag). take p.ways ((l, M) ∷ ts)) (without_line-none l (list_at (shown p) h l) none) ∙ cut p.ways some (l, M) (list_at (shown p) h l));
      rest = λ s other. u_tags h s ∙ rw (test_off s n other) (r_tags h s ∙ rw (test_off s n other) (dropped_own p q h l (length p.caches) dropped s));
      others = λ k s apart. u_tags k s ∙ ⊎_elim
          (λ (here : s ≡ n). rw (eq-eqb s n here, test_off k h apart) (r_tags k s ∙ rw (eq-eqb s n here, test_off k h apart) (dropped_others p q h l dropped k s apart ∙ rw (eq-eqb s n here) refl)))
          (λ (other : s ≢ n). rw (test_off s n other) (r_tags k s ∙ rw (test_off s n other) (dropped_others p q h l dropped k s apart ∙ rw (test_off s n other) refl)))
          (cases_eq s n);
      same = λ m. let both : None ≡ Some M = sym none ∙ m in absurd cc;
    }

-- the tags after the line has become modified in the cache of its only holder
alone_tags : (p u t : Parts) (h : ℕ) (l : Line) (bytes : List ℕ) → IsAlone h l p u → IsPut u t h l bytes → (k s : ℕ) → (shown t).tags k s ≡ after_store (shape_of (shown p)) (shown p).tags h l k s
alone_tags p u t h l bytes alone put k s =
    let n : ℕ = l.0 % p.sets in
    put.tags k s ∙
    ap (λ (m : ℕ). relisted (shown u).tags h (l.0 % m) ((l, M) ∷ without_line l (list_at (shown u) h l)) k s) alone.numbers.sets ∙
    ap (λ (ts : List Tag). relisted (shown u).tags h n ts k s) alone.front ∙
    ⊎_elim
    (λ (here : s ≡ n). rw (eq-eqb s n here) (⊎_elim
    (λ (same : k ≡ h). rw (eq-eqb k h same) (ap (λ i. put_front (shape_of (shown p)).ways l M ((shown p).tags i n)) (sym same) ∙ ap (λ i. put_front (shape_of (shown p)).ways l M ((shown p).tags k i)) (sym here)))
    (λ (apart : k ≢ h). rw (test_off k h apart) (alone.others k s apart ∙ rw (eq-eqb s n here) refl))
    (cases_eq k h)))
    (λ (other : s ≢ n). rw (test_off s n other) (⊎_elim
    (λ (same : k ≡ h). ap (λ i. (shown u).tags i s) same ∙ alone.rest s other ∙ ap (λ i. (shown p).tags i s) (sym same))
    (λ (apart : k ≢ h). alone.others k s apart ∙ rw (test_off s n other) refl)
    (cases_eq k h)))
    (cases_eq s n)

pub put_numbers : (u t : Parts) (h : ℕ) (l : Line) (bytes : List ℕ) → AreParts u → IsPut u t h l bytes → HasSameNumbers (shown u) (shown t)
put_numbers u t h l bytes are put = record {
  line_bytes = ap (λ (m : Memory). m.line_bytes) put.memory;
  base = ap (λ (m : Memory). m.base) put.memory;
  holders = count_same u t h l _ put.edit;
  sets = put.edit.sets;
  ways = put.edit.ways;
  size = length_view t put.are ∙ ap (λ (m : Memory). length m.bytes) put.memory ∙ sym (length_view u are);
}

pub view_same_line : (p u : Parts) (l : Line) → HasSameNumbers (shown p) (shown u) → (shown u).view ≡ (shown p).view → view_of (shown u) l ≡ view_of (shown p) l
view_same_line p u l same view =
    ap (λ (b : ℕ). bytes_of_line b u.memory.line_bytes (shown u).view l.0) same.base ∙
    ap (λ (n : ℕ). bytes_of_line p.memory.base n (shown u).view l.0) same.line_bytes ∙
    ap (λ (v : List ℕ). bytes_of_line p.memory.base p.memory.line_bytes v l.0) view

-- memory's copies after the line has become modified
alone_copies : (p u t : Parts) (h : ℕ) (l : Line) (bytes : List ℕ) → AreParts p → h < length p.caches → IsIn p.memory l → IsAlone h l p u → IsPut u t h l bytes → (a : Line) → IsIn t.memory a → copy_of (shown t) a ≡ copy_next (shown p) (shown t) a
alone_copies p u t h l bytes are inside there alone put a within =
    let holders : length t.caches ≡ length p.caches = count_same u t h l _ put.edit ∙ alone.numbers.holders in
    let inside_u : h < length u.caches = rw alone.numbers.holders inside in
    let inside_t : h < length t.caches = rw holders inside in
    let sets : t.sets ≡ p.sets = put.edit.sets ∙ alone.numbers.sets in
    let memory : (b : Line) → copy_of (shown t) b ≡ copy_of (shown u) b = λ b. ap (λ (m : Memory). line_of m b) put.memory in
    let tested : ℕ → Line → Bool = λ k b. is_in_m (held_state (shape_of (shown t)) (shown p).tags k b) && is_in_m (held_state (shape_of (shown t)) (shown t).tags k b) in
    let at_p : (b : Line) (k : ℕ) → held_state (shape_of (shown t)) (shown p).tags k b ≡ held_state (shape_of (shown p)) (shown p).tags k b =
    λ b k. ap (λ (n : ℕ). lookup b ((shown p).tags k (b.0 % n))) sets in
    let dirty_case : is_dirty (shape_of (shown t)) (shown t).tags a ≡ true → a.0 ≢ l.0 → copy_of (shown t) a ≡ copy_next (shown p) (shown t) a =
    λ dirty other.
    let found = some_exists (length t.caches) (λ k. is_in_m (held_state (shape_of (shown t)) (shown t).tags k a)) dirty in
    let k : ℕ = found.0 in
    let now : held_state (shape_of (shown t)) (shown t).tags k a ≡ Some M = is_m _ found.2 in
    let in_u : held_state (shape_of (shown u)) (shown u).tags k a ≡ Some M =
    state_shown u alone.are a k ∙ ap (λ o. option_map state_of_content o) (sym (held_other u t h k l a _ inside_u put.edit other)) ∙ sym (state_shown t put.are a k) ∙ now in
    let was : held_state (shape_of (shown p)) (shown p).tags k a ≡ Some M = alone.quiet.dirty a k in_u in
    let both : tested k a ≡ true = rw (at_p a k ∙ was, now) refl in
    let stays : has_same_owner (shape_of (shown t)) (shown p).tags (shown t).tags a ≡ true = some_found (length t.caches) k (λ i. tested i a) found.1 both in
    rw (dirty, stays) (memory a ∙ alone.quiet.copies a k in_u) in
    ⊎_elim
    (λ (same : a.0 ≡ l.0).
    let line : a ≡ l = line_by_number a l same in
    let now : held_state (shape_of (shown t)) (shown t).tags h l ≡ Some M = state_held t put.are l h _ (held_here u t h l _ inside_u put.edit) in
    let dirty : is_dirty (shape_of (shown t)) (shown t).tags l ≡ true = some_found (length t.caches) h (λ k. is_in_m (held_state (shape_of (shown t)) (shown t).tags k l)) inside_t (ap is_in_m now) in
    let none : (k : ℕ) → k ≢ h → held_state (shape_of (shown t)) (shown t).tags k l ≡ None =
    λ k apart. state_none_of t put.are l k (held_beside u t h k l l _ put.edit apart ∙ alone.alone k apart) in
    let done : copy_of (shown t) l ≡ copy_next (shown p) (shown t) l =
    ⊎_elim
    (λ (was_m : is_in_m (held_state (shape_of (shown p)) (shown p).tags h l) ≡ true).
    let was : held_state (shape_of (shown p)) (shown p).tags h l ≡ Some M = is_m _ was_m in
    let both : tested h l ≡ true = rw (at_p l h ∙ was, now) refl in
    let stays : has_same_owner (shape_of (shown t)) (shown p).tags (shown t).tags l ≡ true = some_found (length t.caches) h (λ i. tested i l) inside_t both in
    rw (dirty, stays) (memory l ∙ alone.same was))
    (λ (not_m : is_in_m (held_state (shape_of (shown p)) (shown p).tags h l) ≡ false).
    let off : (k : ℕ) → tested k l ≡ false =
    λ k. ⊎_elim
    (λ (here : k ≡ h). ap (λ b. b && is_in_m (held_state (shape_of (shown t)) (shown t).tags k l)) (ap is_in_m (at_p l k) ∙ ap (λ i. is_in_m (held_state (shape_of (shown p)) (shown p).tags i l)) here ∙ not_m))
    (λ (apart : k ≢ h). ap (λ o. is_in_m (held_state (shape_of (shown t)) (shown p).tags k l) && is_in_m o) (none k apart) ∙ and_false (is_in_m (held_state (shape_of (shown t)) (shown p).tags k l)))
    (cases_eq k h) in
    let gone : has_same_owner (shape_of (shown t)) (shown p).tags (shown t).tags l ≡ false = none_found (length t.caches) (λ i. tested i l) (λ k below. off k) in
    let clean : (k : ℕ) → held_state (shape_of (shown u)) (shown u).tags k l ≢ Some M =
    λ k m.
    let was : held_state (shape_of (shown p)) (shown p).tags k l ≡ Some M = alone.quiet.dirty l k m in
    ⊎_elim
    (λ (here : k ≡ h). let both : true ≡ false = sym (ap is_in_m (ap (λ i. held_state (shape_of (shown p)) (shown p).tags i l) (sym here) ∙ was)) ∙ not_m in cc)
    (λ (apart : k ≢ h). let both : None ≡ Some M = sym (state_none_of u alone.are l k (alone.alone k apart)) ∙ m in cc)
    (cases_eq k h) in
    let in_u : IsIn u.memory l = range_new p u are alone.are alone.numbers l (range_of p are l there) in
    rw (dirty, gone) (memory l ∙ clean_copy u alone.are l in_u clean ∙ view_same_line p u l alone.numbers alone.view))
    (cases_Bool (is_in_m (held_state (shape_of (shown p)) (shown p).tags h l))) in
    subst (λ (b : Line). copy_of (shown t) b ≡ copy_next (shown p) (shown t) b) (sym line) done)
    (λ (other : a.0 ≢ l.0). ⊎_elim
    (λ (dirty : is_dirty (shape_of (shown t)) (shown t).tags a ≡ true). dirty_case dirty other)
    (λ (clean : is_dirty (shape_of (shown t)) (shown t).tags a ≡ false). rw clean (clean_copy t put.are a within (not_dirty t put.are a clean)))
    (cases_Bool (is_dirty (shape_of (shown t)) (shown t).tags a)))
    (cases_eq a.0 l.0)

-- a line is the holder's alone, and then modified: the step of a store
pub alone_steps : (p u t : Parts) (h : ℕ) (l : Line) (bytes view : List ℕ) → AreParts p → h < length p.caches → IsIn p.memory l → IsAlone h l p u → IsPut u t h l bytes → (shown t).view ≡ view → StepsTo (after_store (shape_of (shown p)) (shown p).tags h l) view (shown p) (shown t)
alone_steps p u t h l bytes view are inside there alone put seen_is =
    let numbers = numbers_twice (shown p) (shown u) (shown t) alone.numbers (put_numbers u t h l bytes alone.are put) in
    record {
      numbers = numbers;
      tags = fun_ext (λ k. fun_ext (λ s. alone_tags p u t h l bytes alone put k s));
      view = seen_is;
      copies = λ a within. follows (shown p) (shown t) a (coherent t put.are).backing
          (alone_copies p u t h l bytes are inside there alone put a (range_new p t are put.are numbers a within));
    }

-- the notes of a store to a line that the holder hasn't got
pub brought_notes : (p q : Parts) (h : ℕ) (l : Line) (trace : Trace) → AreParts p → h < length p.caches → held p l h ≡ None → IsDropped h l (length p.caches) p q
    → noted (all_noted (all_noted trace (dropped_notes (shown p) h l (length p.caches))) (gone_notes h (slice_get (list_at (shown q) h l) (q.ways - 1)))) (note_of Fill h l) ≡ all_noted trace (access_notes (shape_of (shown p)) (shown p).tags h l true)
brought_notes p q h l trace are inside absent dropped =
    let list : list_at (shown q) h l ≡ list_at (shown p) h l = ap (λ (m : ℕ). (shown q).tags h (l.0 % m)) dropped.numbers.sets ∙ dropped_own p q h l (length p.caches) dropped (l.0 % p.sets) in
    let ways : q.ways ≡ p.ways = dropped.numbers.ways in
    let evicted : List Note = gone_notes h (slice_get (list_at (shown p) h l) (p.ways - 1)) in
    let beside : List Note = dropped_notes (shown p) h l (length p.caches) in
    ap (λ (ts : List Tag). noted (all_noted (all_noted trace beside) (gone_notes h (slice_get ts (q.ways - 1)))) (note_of Fill h l)) list ∙
    ap (λ (w : ℕ). noted (all_noted (all_noted trace beside) (gone_notes h (slice_get (list_at (shown p) h l) (w - 1)))) (note_of Fill h l)) ways ∙
    sym (noted_twice (all_noted trace beside) evicted (note_of Fill h l ∷ [])) ∙
    sym (noted_twice trace beside (evicted ++ note_of Fill h l ∷ [])) ∙
    ap (λ (ns : List Note). all_noted trace (beside ++ (ns ++ note_of Fill h l ∷ []))) (room_is p h l are inside) ∙
    ap (λ (o : Option Mesi). all_noted trace (store_notes (shape_of (shown p)) (shown p).tags h l o)) (sym (state_none_of p are l h absent))

-- the notes of a store, by what the holder has of the line
pub owned_notes : (p : Parts) (h : ℕ) (l : Line) (a : Content) → AreParts p → held p l h ≡ Some a → a.state ≢ S → access_notes (shape_of (shown p)) (shown p).tags h l true ≡ []
owned_notes p h l a are at owns = ap (λ (o : Option Mesi). store_notes (shape_of (shown p)) (shown p).tags h l o) (state_held p are l h a at) ∙ go a.state owns
  where
    go : (state : Mesi) → state ≢ S → store_notes (shape_of (shown p)) (shown p).tags h l (Some state) ≡ []
    go M is = refl
    go E is = refl
    go S is = absurd (is refl)

pub shared_notes : (p : Parts) (h : ℕ) (l : Line) (a : Content) → AreParts p → held p l h ≡ Some a → a.state ≡ S → access_notes (shape_of (shown p)) (shown p).tags h l true ≡ dropped_notes (shown p) h l (length p.caches)
shared_notes p h l a are at shares = ap (λ (o : Option Mesi). store_notes (shape_of (shown p)) (shown p).tags h l o) (state_held p are l h a at ∙ ap (λ s. Some s) shares)

pub state_content : (p : Parts) (h : ℕ) (l : Line) (was : Contents) (state : Mesi) → h < length p.caches → was ≡ get_or p.caches h was → state_of was l ≡ Some state → (a : Content) × (held p l h ≡ Some a) × (a.state ≡ state)
state_content p h l was state inside read is =
    let same : was ≡ cache_at p h = read_cache p h was inside read in
    go (held p l h) refl (ap (λ (c : Contents). state_of c l) (sym same) ∙ is)
  where
    go : (o : Option Content) → held p l h ≡ o → option_map (λ content. content.state) o ≡ Some state → (a : Content) × (held p l h ≡ Some a) × (a.state ≡ state)
    go None at is = absurd cc
    go (Some a) at is = (a, at, let both : Some a.state ≡ Some state = is in cc)

pub state_absent : (p : Parts) (h : ℕ) (l : Line) (was : Contents) → h < length p.caches → was ≡ get_or p.caches h was → state_of was l ≡ None → held p l h ≡ None
state_absent p h l was inside read is =
    let same : was ≡ cache_at p h = read_cache p h was inside read in
    no_content (held p l h) (ap (λ (c : Contents). state_of c l) (sym same) ∙ is)

pub e_not_s : (m : Mesi) → m ≡ E → m ≢ S
e_not_s m is same = let both : E ≡ S = sym is ∙ same in cc
