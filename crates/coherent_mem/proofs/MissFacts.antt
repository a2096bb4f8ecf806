-- A load of a line that the holder hasn't got, from its parts.
use Rattle.std.proofs.Common.{◌≡◌, ◌≢◌, ℕ, zero, suc, ◌%◌, ◌-◌, ◌<◌, ◌≤◌, ⊎_elim, true, false, List, [], ◌∷◌, ◌++◌, Option, Some, None, length, take, sym, ap, subst, ◌∙◌, refl, arith, Bool, not, ◌&&◌, cond, eqb}
use Rattle.std.specs.Option.{option_map, is_some}
use Rattle.std.proofs.lemmas.List.{take_all, length-take}
use Rattle.std.proofs.lemmas.Bool.{cases_eq, cases_Bool, eq-eqb}
use Rattle.std.proofs.Math.Path.{fun_ext}
use Rattle.std.specs.List.{slice_get}
use Rattle.set_assoc.specs.Entries.{lookup}
use Rattle.conda_base.specs.declared.Line.{Line}
use Rattle.conda_base.specs.declared.Mesi.{Mesi}
use Rattle.conda_base.specs.declared.Mesi.TheVariants.{M, E, S}
use Rattle.conda_base.specs.Bytes.{bytes_of_line}
use Rattle.conda_base.specs.Lines.{line_number}
use Rattle.conda_base.specs.LineLists.{line_at}
use Rattle.cpu_cache.specs.Contents.{Content}
use Rattle.traffic_trace.specs.Notes.{Trace, noted}
use Rattle.traffic_trace.specs.declared.note.Note.{Note}
use Rattle.traffic_trace.specs.declared.note.Kind.TheVariants.{Fill}
use Rattle.line_memory.specs.Notes.{all_notes, note_of, all_noted, others_notes, down_notes, access_notes, load_notes}
use Rattle.line_memory.specs.Memory.{IsIn}
use Rattle.line_memory.specs.Tags.{Tag, Tags, without_line, held_state, some_below}
use Rattle.line_memory.specs.Backing.{view_of, HasSameNumbers, shape_of}
use Rattle.line_memory.proofs.BelowLemmas.{some_same}
use Rattle.line_memory.specs.Access.{loaded_state, shared_line, is_held_elsewhere, put_front, after_load}
use Rattle.line_memory.proofs.WalkLemmas.{each_same}
use Rattle.coherent_mem.specs.Moves.{IsMoved, HasNoNewDirty, list_at, gone_notes, IsFree, IsShared, MakesRoom, relisted}
use Rattle.coherent_mem.specs.Parts.{Parts, AreParts, held, shown}
use Rattle.coherent_mem.specs.Steps.{StepsTo}
use Rattle.coherent_mem.proofs.CacheFacts.{test_off}
use Rattle.coherent_mem.proofs.RoomFacts.{room_is}
use Rattle.coherent_mem.proofs.TagFacts.{is_some-mapped, state_of_content, state_shown}
use Rattle.coherent_mem.proofs.DirtyFacts.{follows}
use Rattle.coherent_mem.proofs.CoherentFacts.{coherent}
use Rattle.coherent_mem.proofs.CopyFacts.{numbers_twice, quiet_twice, quiet_same, copies_follow, noted_twice, range_new, range_of}
use Rattle.conda_base.proofs.LineLemmas.{line_by_number}

-- the parts where a holder's set has room
pub record IsRoomy (h : ℕ) (l : Line) (p q : Parts) : Type 0 where
  pub numbers : HasSameNumbers (shown p) (shown q)
  pub view : (shown q).view ≡ (shown p).view
  pub tags : (k s : ℕ) → (shown q).tags k s ≡ relisted (shown p).tags h (l.0 % p.sets) (take (p.ways - 1) (list_at (shown p) h l)) k s
  pub quiet : HasNoNewDirty (shown p) (shown q)
  pub are : AreParts q

get_past : {A : Type 0} (xs : List A) (i : ℕ) → slice_get xs i ≡ None → length xs ≤ i
get_past [] i none = omega arith
get_past (x ∷ xs) zero none = absurd cc
get_past (x ∷ xs) (suc i) none = let rest = get_past xs i none in omega arith

relisted_same : (tags : Tags) (h n : ℕ) (k s : ℕ) → relisted tags h n (tags h n) k s ≡ tags k s
relisted_same tags h n k s =
    ⊎_elim
    (λ (here : s ≡ n). rw (eq-eqb s n here) (⊎_elim
    (λ (same : k ≡ h). rw (eq-eqb k h same) (ap (λ i. tags i n) (sym same) ∙ ap (λ i. tags k i) (sym here)))
    (λ (apart : k ≢ h). rw (test_off k h apart) refl)
    (cases_eq k h)))
    (λ (other : s ≢ n). rw (test_off s n other) refl)
    (cases_eq s n)

roomy_by : (p q : Parts) (h : ℕ) (l : Line) (last : Option Tag) → AreParts p → h < length p.caches → slice_get (list_at (shown p) h l) (p.ways - 1) ≡ last → MakesRoom h l p q last → IsRoomy h l p q
roomy_by p q h l None are inside at same =
    let past : length (list_at (shown p) h l) ≤ p.ways - 1 = get_past (list_at (shown p) h l) (p.ways - 1) at in
    let whole : take (p.ways - 1) (list_at (shown p) h l) ≡ list_at (shown p) h l = take_all (p.ways - 1) (list_at (shown p) h l) past in
    let P : Parts → Type 0 = λ r. IsRoomy h l p r in
    subst P (sym same) (record {
      numbers = record { line_bytes = refl; base = refl; holders = refl; sets = refl; ways = refl; size = refl };
      view = refl;
      tags = λ k s. sym (ap (λ (ts : List Tag). relisted (shown p).tags h (l.0 % p.sets) ts k s) whole ∙ relisted_same (shown p).tags h (l.0 % p.sets) k s);
      quiet = quiet_same (shown p);
      are = are;
    })
roomy_by p q h l (Some tag) are inside at is = record {
  numbers = is.edits.numbers;
  view = is.edits.view;
  tags = is.edits.tags;
  quiet = is.quiet;
  are = is.are;
}

pub roomy : (p q : Parts) (h : ℕ) (l : Line) → AreParts p → h < length p.caches → MakesRoom h l p q (slice_get (list_at (shown p) h l) (p.ways - 1)) → IsRoomy h l p q
roomy p q h l are inside is = roomy_by p q h l (slice_get (list_at (shown p) h l) (p.ways - 1)) are inside refl is

-- a list in which a line isn't there
pub lookup-take : (l : Line) (n : ℕ) (tags : List Tag) → lookup l tags ≡ None → lookup l (take n tags) ≡ None
lookup-take l zero tags none = refl
lookup-take l (suc n) [] none = refl
lookup-take l (suc n) (tag ∷ tags) none =
    ⊎_elim
    (λ (on : eqb tag.0.0 l.0 ≡ true). let both : Some tag.1 ≡ None = rw on at none in absurd cc)
    (λ (off : eqb tag.0.0 l.0 ≡ false). rw off (lookup-take l n tags (rw off at none)))
    (cases_Bool (eqb tag.0.0 l.0))

pub without_line-none : (l : Line) (tags : List Tag) → lookup l tags ≡ None → without_line l tags ≡ tags
without_line-none l [] none = refl
without_line-none l (tag ∷ tags) none =
    ⊎_elim
    (λ (on : eqb tag.0.0 l.0 ≡ true). let both : Some tag.1 ≡ None = rw on at none in absurd cc)
    (λ (off : eqb tag.0.0 l.0 ≡ false). rw off (ap (λ ts. tag ∷ ts) (without_line-none l tags (rw off at none))))
    (cases_Bool (eqb tag.0.0 l.0))

pub shared_line-none : (l : Line) (tags : List Tag) → lookup l tags ≡ None → shared_line l tags ≡ tags
shared_line-none l [] none = refl
shared_line-none l (tag ∷ tags) none =
    ⊎_elim
    (λ (on : eqb tag.0.0 l.0 ≡ true). let both : Some tag.1 ≡ None = rw on at none in absurd cc)
    (λ (off : eqb tag.0.0 l.0 ≡ false). rw off (ap (λ ts. tag ∷ ts) (shared_line-none l tags (rw off at none))))
    (cases_Bool (eqb tag.0.0 l.0))

-- room leaves what holders have of a line that the holder hasn't got
pub room_states : (p q : Parts) (h : ℕ) (l : Line) → IsRoomy h l p q → held_state (shape_of (shown p)) (shown p).tags h l ≡ None → (k : ℕ) → held_state (shape_of (shown q)) (shown q).tags k l ≡ held_state (shape_of (shown p)) (shown p).tags k l
room_states p q h l is none k =
    let n : ℕ = l.0 % p.sets in
    let at : lookup l ((shown q).tags k (l.0 % q.sets)) ≡ lookup l ((shown q).tags k n) = ap (λ (m : ℕ). lookup l ((shown q).tags k (l.0 % m))) is.numbers.sets in
    let same : eqb n n ≡ true = eq-eqb n n refl in
    let list : (shown q).tags k n ≡ cond (eqb k h) (take (p.ways - 1) (list_at (shown p) h l)) ((shown p).tags k n) = rw same at (is.tags k n) in
    at ∙ ap (λ (ts : List Tag). lookup l ts) list ∙
    ⊎_elim
    (λ (here : k ≡ h). rw (eq-eqb k h here) (lookup-take l (p.ways - 1) (list_at (shown p) h l) none ∙ sym none ∙ ap (λ i. lookup l ((shown p).tags i n)) (sym here)))
    (λ (apart : k ≢ h). rw (test_off k h apart) refl)
    (cases_eq k h)

content_state : (p q : Parts) → AreParts p → AreParts q → (l : Line) (k : ℕ) → held_state (shape_of (shown q)) (shown q).tags k l ≡ held_state (shape_of (shown p)) (shown p).tags k l → option_map state_of_content (held q l k) ≡ option_map state_of_content (held p l k)
content_state p q are new l k same = sym (state_shown q new l k) ∙ same ∙ state_shown p are l k

pub no_content : (o : Option Content) → option_map state_of_content o ≡ None → o ≡ None
no_content None is = refl
no_content (Some a) is = absurd cc

same_content : (o : Option Content) (a : Content) (w : Option Content) → o ≡ Some a → option_map state_of_content o ≡ option_map state_of_content w → ((b : Content) → w ≡ Some b → b.state ≡ S) → a.state ≡ S
same_content o a None at same shared = let both : Some a.state ≡ None = sym (ap (λ x. option_map state_of_content x) at) ∙ same in absurd cc
same_content o a (Some b) at same shared =
    let both : Some a.state ≡ Some b.state = sym (ap (λ x. option_map state_of_content x) at) ∙ same in
    let state : a.state ≡ b.state = cc in
    state ∙ shared b refl

-- the line may come to the holder once every other has it in S and there is room
pub free_to_load : (p q r : Parts) (h : ℕ) (l : Line) (state : Mesi) → AreParts p → held p l h ≡ None → IsShared l state p q → IsRoomy h l q r → IsFree r l h state
free_to_load p q r h l state are absent sharing room =
    let none : held q l h ≡ None = sharing.absent h absent in
    let none_state : held_state (shape_of (shown q)) (shown q).tags h l ≡ None = state_shown q sharing.are l h ∙ ap (λ x. option_map state_of_content x) none in
    let same : (k : ℕ) → option_map state_of_content (held r l k) ≡ option_map state_of_content (held q l k) =
    λ k. content_state q r sharing.are room.are l k (room_states q r h l room none_state k) in
    record {
      absent = no_content (held r l h) (same h ∙ ap (λ x. option_map state_of_content x) none);
      shared = λ k a at. same_content (held r l k) a (held q l k) at (same k) (λ b there. sharing.shared k b there);
      alone = λ apart k. no_content (held r l k) (same k ∙ ap (λ x. option_map state_of_content x) (sharing.alone apart k));
    }

pub room_size : (p q : Parts) (h : ℕ) (l : Line) → AreParts p → IsRoomy h l p q → length (list_at (shown q) h l) < q.ways
room_size p q h l are is =
    let n : ℕ = l.0 % p.sets in
    let some = are.some_ways in
    let same : eqb n n ≡ true = eq-eqb n n refl in
    let this : eqb h h ≡ true = eq-eqb h h refl in
    let list : (shown q).tags h n ≡ take (p.ways - 1) (list_at (shown p) h l) = rw this at (rw same at (is.tags h n)) in
    let size : length (list_at (shown q) h l) ≡ length (take (p.ways - 1) (list_at (shown p) h l)) =
    ap (λ (m : ℕ). length ((shown q).tags h (l.0 % m))) is.numbers.sets ∙ ap length list in
    let cut = length-take (p.ways - 1) (list_at (shown p) h l) in
    let ways = is.numbers.ways in
    omega arith

and_true : (b : Bool) → (true && b) ≡ b
and_true true = refl
and_true false = refl

elsewhere_is : (p : Parts) → AreParts p → (h : ℕ) (l : Line) → held p l h ≡ None → is_held_elsewhere (shape_of (shown p)) (shown p).tags h l ≡ some_below (length p.caches) (λ k. is_some (held p l k))
elsewhere_is p are h l none =
    some_same (length p.caches) _ _
    (λ k. ap (λ o. not (eqb k h) && is_some o) (state_shown p are l k) ∙
    ap (λ b. not (eqb k h) && b) (is_some-mapped (held p l k)) ∙
    ⊎_elim
    (λ (same : k ≡ h). rw (eq-eqb k h same) (sym (ap is_some (ap (λ i. held p l i) same ∙ none))))
    (λ (apart : k ≢ h). rw (test_off k h apart) (and_true (is_some (held p l k))))
    (cases_eq k h))

pub cut : (ways : ℕ) → 0 < ways → (tag : Tag) (tags : List Tag) → take ways (tag ∷ tags) ≡ tag ∷ take (ways - 1) tags
cut zero some tag tags = absurd (omega arith)
cut (suc n) some tag tags = ap (λ m. tag ∷ take m tags) (omega arith)

-- all that a load of a line that isn't held does
pub missed : (p q r t : Parts) (h : ℕ) (l : Line) (state : Mesi) → AreParts p → h < length p.caches → held p l h ≡ None → IsShared l state p q → IsRoomy h l q r → IsMoved ((l, state) ∷ list_at (shown r) h l) (shown r).copies h l r t
    → StepsTo (after_load (shape_of (shown p)) (shown p).tags h l) (shown p).view (shown p) (shown t)
missed p q r t h l state are inside absent sharing room is =
    let n : ℕ = l.0 % p.sets in
    let none_state : held_state (shape_of (shown p)) (shown p).tags h l ≡ None = state_shown p are l h ∙ ap (λ x. option_map state_of_content x) absent in
    let list_none : lookup l (list_at (shown p) h l) ≡ None = none_state in
    let q_sets : q.sets ≡ p.sets = sharing.numbers.sets in
    let r_sets : r.sets ≡ p.sets = room.numbers.sets ∙ q_sets in
    let q_ways : q.ways ≡ p.ways = sharing.numbers.ways in
    let self_n : eqb n n ≡ true = eq-eqb n n refl in
    let self_h : eqb h h ≡ true = eq-eqb h h refl in
    let some = are.some_ways in
    let q_list : list_at (shown q) h l ≡ list_at (shown p) h l =
    ap (λ (m : ℕ). (shown q).tags h (l.0 % m)) q_sets ∙ (rw self_n at (sharing.tags h n)) ∙ shared_line-none l (list_at (shown p) h l) list_none in
    let r_tags : (k s : ℕ) → (shown r).tags k s ≡ relisted (shown q).tags h n (take (p.ways - 1) (list_at (shown p) h l)) k s =
    λ k s. room.tags k s ∙
    ap (λ (m : ℕ). relisted (shown q).tags h (l.0 % m) (take (q.ways - 1) (list_at (shown q) h l)) k s) q_sets ∙
    ap (λ (w : ℕ). relisted (shown q).tags h n (take (w - 1) (list_at (shown q) h l)) k s) q_ways ∙
    ap (λ (ts : List Tag). relisted (shown q).tags h n (take (p.ways - 1) ts) k s) q_list in
    let r_list : list_at (shown r) h l ≡ take (p.ways - 1) (list_at (shown p) h l) =
    ap (λ (m : ℕ). (shown r).tags h (l.0 % m)) r_sets ∙ (rw self_h at (rw self_n at (r_tags h n))) in
    let t_tags : (k s : ℕ) → (shown t).tags k s ≡ relisted (shown r).tags h n ((l, state) ∷ take (p.ways - 1) (list_at (shown p) h l)) k s =
    λ k s. is.edits.tags k s ∙
    ap (λ (m : ℕ). relisted (shown r).tags h (l.0 % m) ((l, state) ∷ list_at (shown r) h l) k s) r_sets ∙
    ap (λ (ts : List Tag). relisted (shown r).tags h n ((l, state) ∷ ts) k s) r_list in
    let loads : loaded_state (shape_of (shown p)) (shown p).tags h l None ≡ state =
    ap (λ b. cond b S E) (elsewhere_is p are h l absent) ∙ sym sharing.loads in
    let front : put_front (shape_of (shown p)).ways l (loaded_state (shape_of (shown p)) (shown p).tags h l None) (list_at (shown p) h l) ≡ (l, state) ∷ take (p.ways - 1) (list_at (shown p) h l) =
    ap (λ m. put_front (shape_of (shown p)).ways l m (list_at (shown p) h l)) loads ∙
    ap (λ (ts : List Tag). take p.ways ((l, state) ∷ ts)) (without_line-none l (list_at (shown p) h l) list_none) ∙
    cut p.ways some (l, state) (list_at (shown p) h l) in
    let tags : (k s : ℕ) → (shown t).tags k s ≡ after_load (shape_of (shown p)) (shown p).tags h l k s =
    λ k s. t_tags k s ∙ ⊎_elim
    (λ (here : s ≡ n). rw (eq-eqb s n here) (⊎_elim
    (λ (same : k ≡ h). rw (eq-eqb k h same) (rw none_state (sym (ap (λ i. put_front (shape_of (shown p)).ways l (loaded_state (shape_of (shown p)) (shown p).tags h l None) ((shown p).tags k i)) here ∙ ap (λ i. put_front (shape_of (shown p)).ways l (loaded_state (shape_of (shown p)) (shown p).tags h l None) ((shown p).tags i n)) same ∙ front))))
    (λ (apart : k ≢ h). rw (test_off k h apart) (r_tags k s ∙ rw (eq-eqb s n here, test_off k h apart) (sharing.tags k s ∙ rw (eq-eqb s n here) (rw none_state refl))))
    (cases_eq k h)))
    (λ (other : s ≢ n). rw (test_off s n other) (r_tags k s ∙ rw (test_off s n other) (sharing.tags k s ∙ rw (test_off s n other) refl)))
    (cases_eq s n) in
    let numbers = numbers_twice (shown p) (shown r) (shown t) (numbers_twice (shown p) (shown q) (shown r) sharing.numbers room.numbers) is.edits.numbers in
    let quiet = quiet_twice (shown p) (shown r) (shown t) (quiet_twice (shown p) (shown q) (shown r) sharing.quiet room.quiet) is.quiet in
    record {
      numbers = numbers;
      tags = fun_ext (λ k. fun_ext (λ s. tags k s));
      view = is.edits.view ∙ room.view ∙ sharing.view;
      copies = λ a there. follows (shown p) (shown t) a (coherent t is.are).backing
          (copies_follow p t are is.are numbers quiet a (range_new p t are is.are numbers a there));
    }

-- the list of the holder is as it was, once every other entry of the line is S
pub shared_list_same : (p q : Parts) (h : ℕ) (l : Line) (state : Mesi) → AreParts p → held p l h ≡ None → IsShared l state p q → list_at (shown q) h l ≡ list_at (shown p) h l
shared_list_same p q h l state are absent sharing =
    let n : ℕ = l.0 % p.sets in
    let none : lookup l (list_at (shown p) h l) ≡ None = state_shown p are l h ∙ ap (λ x. option_map state_of_content x) absent in
    let self_n : eqb n n ≡ true = eq-eqb n n refl in
    ap (λ (m : ℕ). (shown q).tags h (l.0 % m)) sharing.numbers.sets ∙ (rw self_n at (sharing.tags h n)) ∙ shared_line-none l (list_at (shown p) h l) none

beside_is : (p : Parts) → AreParts p → (h : ℕ) (l : Line) → held p l h ≡ None → all_notes down_notes (shape_of (shown p)) (shown p).tags l ≡ others_notes down_notes (shape_of (shown p)) (shown p).tags h l
beside_is p are h l absent =
    each_same (length p.caches) _ _
    (λ k below. ⊎_elim
    (λ (same : k ≡ h). rw (eq-eqb k h same)
    (ap (λ o. down_notes l k o) (state_shown p are l k ∙ ap (λ x. option_map state_of_content x) (ap (λ i. held p l i) same ∙ absent))))
    (λ (apart : k ≢ h). rw (test_off k h apart) refl)
    (cases_eq k h))

-- the notes of a load of a line that isn't held
pub missed_notes : (p q : Parts) (h : ℕ) (l : Line) (state : Mesi) (trace : Trace) → AreParts p → h < length p.caches → held p l h ≡ None → IsShared l state p q
    → noted (all_noted (all_noted trace (all_notes down_notes (shape_of (shown p)) (shown p).tags l)) (gone_notes h (slice_get (list_at (shown q) h l) (q.ways - 1)))) (note_of Fill h l) ≡ all_noted trace (access_notes (shape_of (shown p)) (shown p).tags h l false)
missed_notes p q h l state trace are inside absent sharing =
    let list = shared_list_same p q h l state are absent sharing in
    let ways : q.ways ≡ p.ways = sharing.numbers.ways in
    let evicted : List Note = gone_notes h (slice_get (list_at (shown p) h l) (p.ways - 1)) in
    let beside : List Note = others_notes down_notes (shape_of (shown p)) (shown p).tags h l in
    let none : held_state (shape_of (shown p)) (shown p).tags h l ≡ None = state_shown p are l h ∙ ap (λ x. option_map state_of_content x) absent in
    ap (λ ts. noted (all_noted (all_noted trace (all_notes down_notes (shape_of (shown p)) (shown p).tags l)) (gone_notes h (slice_get ts (q.ways - 1)))) (note_of Fill h l)) list ∙
    ap (λ w. noted (all_noted (all_noted trace (all_notes down_notes (shape_of (shown p)) (shown p).tags l)) (gone_notes h (slice_get (list_at (shown p) h l) (w - 1)))) (note_of Fill h l)) ways ∙
    ap (λ ns. noted (all_noted (all_noted trace ns) evicted) (note_of Fill h l)) (beside_is p are h l absent) ∙
    sym (noted_twice (all_noted trace beside) evicted (note_of Fill h l ∷ [])) ∙
    sym (noted_twice trace beside (evicted ++ note_of Fill h l ∷ [])) ∙
    ap (λ ns. all_noted trace (beside ++ (ns ++ note_of Fill h l ∷ []))) (room_is p h l are inside) ∙
    ap (λ o. all_noted trace (load_notes (shape_of (shown p)) (shown p).tags h l o)) (sym none)

pub loads_clean : (l : Line) (state : Mesi) (p q : Parts) → IsShared l state p q → state ≢ M
loads_clean l state p q sharing same = go (some_below (length p.caches) (λ k. is_some (held p l k))) (sym same ∙ sharing.loads)
  where
    go : (b : Bool) → M ≡ cond b S E → ⊥
    go true is = cc
    go false is = cc

pub line_is : (p : Parts) (addr n m : ℕ) (l : Line) → n ≡ m → m ≡ p.memory.line_bytes → l.0 ≡ line_number addr n → l ≡ line_at (shown p).line_bytes addr
line_is p addr n m l first second is = line_by_number l (line_at (shown p).line_bytes addr) (is ∙ ap (λ k. line_number addr k) (first ∙ second))

pub absent_line : (p : Parts) (h : ℕ) (l k : Line) → l ≡ k → held p k h ≡ None → held p l h ≡ None
absent_line p h l k same none = ap (λ b. held p b h) same ∙ none

-- the line is in range of the parts along the way
pub range_along : (p q r : Parts) (h : ℕ) (l : Line) (state : Mesi) → AreParts p → IsIn p.memory l → IsShared l state p q → IsRoomy h l q r → IsIn r.memory l
range_along p q r h l state are there sharing room =
    range_new p r are room.are (numbers_twice (shown p) (shown q) (shown r) sharing.numbers room.numbers) l (range_of p are l there)

-- all that a load of a line that isn't held does, with the line of its address
pub missed_steps : (p q r t : Parts) (h : ℕ) (l k : Line) (state : Mesi) → l ≡ k → AreParts p → h < length p.caches → held p l h ≡ None → IsShared l state p q → IsRoomy h l q r → IsMoved ((l, state) ∷ list_at (shown r) h l) (shown r).copies h l r t
    → StepsTo (after_load (shape_of (shown p)) (shown p).tags h k) (shown p).view (shown p) (shown t)
missed_steps p q r t h l k state same are inside absent sharing room is =
    subst (λ (b : Line). StepsTo (after_load (shape_of (shown p)) (shown p).tags h b) (shown p).view (shown p) (shown t)) same (missed p q r t h l state are inside absent sharing room is)

-- the bytes that the fill hands out are those that users saw of the line
pub filled_bytes : (p q r : Parts) (h : ℕ) (l : Line) (state : Mesi) → IsShared l state p q → IsRoomy h l q r → view_of (shown r) l ≡ view_of (shown p) l
filled_bytes p q r h l state sharing room =
    ap (λ (b : ℕ). bytes_of_line b r.memory.line_bytes (shown r).view l.0) (room.numbers.base ∙ sharing.numbers.base) ∙
    ap (λ (n : ℕ). bytes_of_line p.memory.base n (shown r).view l.0) (room.numbers.line_bytes ∙ sharing.numbers.line_bytes) ∙
    ap (λ (v : List ℕ). bytes_of_line p.memory.base p.memory.line_bytes v l.0) (room.view ∙ sharing.view)
