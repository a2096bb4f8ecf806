-- How many notes of an access, a flush or a commit there are of a kind.
use Rattle.std.proofs.Common.{◌≡◌, ◌≢◌, ◌+◌, ◌<◌, ℕ, zero, suc, Bool, false, List, [], ◌∷◌, ◌++◌, length, refl, sym, ap, ◌∙◌, arith, cond, eqb, leb, ◌⊎◌, inl, inr, Option, Some, None}
use Rattle.std.proofs.lemmas.Bool.{cond_both, cases_eq}
use Rattle.conda_base.specs.declared.Line.{Line}
use Rattle.conda_base.specs.declared.Mesi.{Mesi}
use Rattle.conda_base.specs.declared.Mesi.TheVariants.{M, E, S}
use Rattle.line_memory.specs.Tags.{Tag, Tags, Shape, set_number, held_state, each_below}
use Rattle.offload_calls.specs.LineUses.{LineUse}
use Rattle.traffic_trace.specs.declared.note.Kind.{Kind}
use Rattle.traffic_trace.specs.declared.note.Kind.TheVariants as Kind_is
use Rattle.traffic_trace.specs.declared.note.Note.{Note}
use Rattle.line_memory.specs.Notes.{note_of, back_notes, leave_notes, down_notes, others_notes, all_notes, evict_notes, last_notes, room_notes, fill_notes, load_notes, store_notes, flushes_notes}
use Rattle.chip_laws.specs.Balance.{notes_that}
use Rattle.chip_laws.specs.Uses.{use_notes}

pub that-append : (q : Note → Bool) (xs ys : List Note) → notes_that q (xs ++ ys) ≡ notes_that q xs + notes_that q ys
that-append q [] ys = omega arith
that-append q (x ∷ xs) ys = let later = that-append q xs ys in omega arith

pub that-each : (q : Note → Bool) (n : ℕ) (f : ℕ → List Note) → ((k : ℕ) → k < n → notes_that q (f k) ≡ 0) → notes_that q (each_below n f) ≡ 0
that-each q zero f h = refl
that-each q (suc n) f h =
    let before : notes_that q (each_below n f) ≡ 0 = that-each q n f (λ k u. h k (omega arith)) in
    let here : notes_that q (f n) ≡ 0 = h n (omega arith) in
    let both = that-append q (each_below n f) (f n) in omega arith

-- where only one list counts
pub that-one : (q : Note → Bool) (n : ℕ) (f : ℕ → List Note) (h : ℕ) → h < n → ((k : ℕ) → k ≢ h → notes_that q (f k) ≡ 0) → notes_that q (each_below n f) ≡ notes_that q (f h)
that-one q zero f h u other = absurd (omega arith)
that-one q (suc n) f h u other = go (cases_eq h n) (λ v. that-one q n f h v other)
  where
    both : notes_that q (each_below (suc n) f) ≡ notes_that q (each_below n f) + notes_that q (f n)
    both = that-append q (each_below n f) (f n)

    go : (h ≡ n) ⊎ (h ≡ n → ⊥) → (h < n → notes_that q (each_below n f) ≡ notes_that q (f h)) → notes_that q (each_below (suc n) f) ≡ notes_that q (f h)
    go (inl e) later =
        let before : notes_that q (each_below n f) ≡ 0 = that-each q n f (λ k v. other k (λ same. below k v (same ∙ e))) in
        let here : notes_that q (f n) ≡ notes_that q (f h) = ap (λ i. notes_that q (f i)) (sym e) in omega (arith, both)
      where
        below : (k : ℕ) → k < n → k ≡ n → ⊥
        below k v same = absurd (omega arith)
    go (inr ne) later =
        let before : notes_that q (each_below n f) ≡ notes_that q (f h) = later (omega arith) in
        let here : notes_that q (f n) ≡ 0 = other n (λ same. ne (sym same)) in omega (arith, both)

-- ---- kinds that a test passes over

-- a test passes over the notes of the kinds that a flush, a commit or an access may have
pub record Skips (q : Note → Bool) (kind : Kind) : Type 0 where
  pub skips : (k : ℕ) (l : Line) → q (note_of kind k l) ≡ false

pub skip-one : (q : Note → Bool) (kind : Kind) (k : ℕ) (l : Line) → Skips q kind → notes_that q (note_of kind k l ∷ []) ≡ 0
skip-one q kind k l s = ap (λ b. cond b 1 0 + 0) (s.skips k l)

skip-two : (q : Note → Bool) (one two : Kind) (k : ℕ) (l : Line) → Skips q one → Skips q two → notes_that q (note_of one k l ∷ note_of two k l ∷ []) ≡ 0
skip-two q one two k l s t = ap (λ b. cond b 1 0 + (cond (q (note_of two k l)) 1 0 + 0)) (s.skips k l) ∙ ap (λ b. 0 + (cond b 1 0 + 0)) (t.skips k l)

pub back-none : (q : Note → Bool) → Skips q Kind_is.Back → (l : Line) (k : ℕ) (x : Option Mesi) → notes_that q (back_notes l k x) ≡ 0
back-none q s l k None = refl
back-none q s l k (Some M) = skip-one q Kind_is.Back k l s
back-none q s l k (Some E) = refl
back-none q s l k (Some S) = refl

pub down-none : (q : Note → Bool) → Skips q Kind_is.Back → Skips q Kind_is.Down → (l : Line) (k : ℕ) (x : Option Mesi) → notes_that q (down_notes l k x) ≡ 0
down-none q s t l k None = refl
down-none q s t l k (Some M) = skip-two q Kind_is.Back Kind_is.Down k l s t
down-none q s t l k (Some E) = skip-one q Kind_is.Down k l t
down-none q s t l k (Some S) = refl

pub leave-none : (q : Note → Bool) → Skips q Kind_is.Back → Skips q Kind_is.Drop → (l : Line) (k : ℕ) (x : Option Mesi) → notes_that q (leave_notes l k x) ≡ 0
leave-none q s t l k None = refl
leave-none q s t l k (Some M) = skip-two q Kind_is.Back Kind_is.Drop k l s t
leave-none q s t l k (Some E) = skip-one q Kind_is.Drop k l t
leave-none q s t l k (Some S) = skip-one q Kind_is.Drop k l t

pub evict-none : (q : Note → Bool) → Skips q Kind_is.Back → Skips q Kind_is.Evict → (h : ℕ) (l : Line) (m : Mesi) → notes_that q (evict_notes h l m) ≡ 0
evict-none q s t h l M = skip-two q Kind_is.Back Kind_is.Evict h l s t
evict-none q s t h l E = skip-one q Kind_is.Evict h l t
evict-none q s t h l S = skip-one q Kind_is.Evict h l t

pub last-none : (q : Note → Bool) → Skips q Kind_is.Back → Skips q Kind_is.Evict → (h : ℕ) (ts : List Tag) → notes_that q (last_notes h ts) ≡ 0
last-none q s t h [] = refl
last-none q s t h (x ∷ []) = evict-none q s t h x.0 x.1
last-none q s t h (x ∷ y ∷ ts) = last-none q s t h (y ∷ ts)

pub room-none : (q : Note → Bool) → Skips q Kind_is.Back → Skips q Kind_is.Evict → (ways h : ℕ) (ts : List Tag) → notes_that q (room_notes ways h ts) ≡ 0
room-none q s t ways h ts =
    cond_both (leb ways (length ts)) (last_notes h ts) [] (λ ns. notes_that q ns ≡ 0) (λ _. last-none q s t h ts) (λ _. refl)

pub others-none : (q : Note → Bool) (notes : Line → ℕ → Option Mesi → List Note) → ((l : Line) (k : ℕ) (x : Option Mesi) → notes_that q (notes l k x) ≡ 0)
    → (c : Shape) (tags : Tags) (h : ℕ) (l : Line) → notes_that q (others_notes notes c tags h l) ≡ 0
others-none q notes none c tags h l =
    that-each q c.holders _ (λ k u. cond_both (eqb k h) [] (notes l k (held_state c tags k l)) (λ ns. notes_that q ns ≡ 0) (λ _. refl) (λ _. none l k (held_state c tags k l)))

pub all-none : (q : Note → Bool) (notes : Line → ℕ → Option Mesi → List Note) → ((l : Line) (k : ℕ) (x : Option Mesi) → notes_that q (notes l k x) ≡ 0)
    → (c : Shape) (tags : Tags) (l : Line) → notes_that q (all_notes notes c tags l) ≡ 0
all-none q notes none c tags l = that-each q c.holders _ (λ k u. none l k (held_state c tags k l))

pub flush-none : (q : Note → Bool) → Skips q Kind_is.Back → (c : Shape) (tags : Tags) (lines : List Line) → notes_that q (flushes_notes c tags lines) ≡ 0
flush-none q s c tags [] = refl
flush-none q s c tags (l ∷ lines) =
    let here : notes_that q (all_notes back_notes c tags l) ≡ 0 = all-none q back_notes (back-none q s) c tags l in
    let later : notes_that q (flushes_notes c tags lines) ≡ 0 = flush-none q s c tags lines in
    let both = that-append q (all_notes back_notes c tags l) (flushes_notes c tags lines) in omega arith

-- the notes of caches
pub record SkipsHarts (q : Note → Bool) : Type 0 where
  pub back : Skips q Kind_is.Back
  pub down : Skips q Kind_is.Down
  pub drop : Skips q Kind_is.Drop
  pub evict : Skips q Kind_is.Evict
  pub fill : Skips q Kind_is.Fill

fill-none : (q : Note → Bool) → SkipsHarts q → (c : Shape) (tags : Tags) (h : ℕ) (l : Line) → notes_that q (fill_notes c tags h l) ≡ 0
fill-none q s c tags h l =
    let room : notes_that q (room_notes c.ways h (tags h (set_number c l))) ≡ 0 = room-none q s.back s.evict c.ways h (tags h (set_number c l)) in
    let fill : notes_that q (note_of Kind_is.Fill h l ∷ []) ≡ 0 = skip-one q Kind_is.Fill h l s.fill in
    let both = that-append q (room_notes c.ways h (tags h (set_number c l))) (note_of Kind_is.Fill h l ∷ []) in omega arith

then-none : (q : Note → Bool) (xs ys : List Note) → notes_that q xs ≡ 0 → notes_that q ys ≡ 0 → notes_that q (xs ++ ys) ≡ 0
then-none q xs ys x y = let both = that-append q xs ys in omega arith

load-none : (q : Note → Bool) → SkipsHarts q → (c : Shape) (tags : Tags) (h : ℕ) (l : Line) (x : Option Mesi) → notes_that q (load_notes c tags h l x) ≡ 0
load-none q s c tags h l (Some m) = refl
load-none q s c tags h l None =
    then-none q (others_notes down_notes c tags h l) (fill_notes c tags h l) (others-none q down_notes (down-none q s.back s.down) c tags h l) (fill-none q s c tags h l)

store-none : (q : Note → Bool) → SkipsHarts q → (c : Shape) (tags : Tags) (h : ℕ) (l : Line) (x : Option Mesi) → notes_that q (store_notes c tags h l x) ≡ 0
store-none q s c tags h l (Some M) = refl
store-none q s c tags h l (Some E) = refl
store-none q s c tags h l (Some S) = others-none q leave_notes (leave-none q s.back s.drop) c tags h l
store-none q s c tags h l None =
    then-none q (others_notes leave_notes c tags h l) (fill_notes c tags h l) (others-none q leave_notes (leave-none q s.back s.drop) c tags h l) (fill-none q s c tags h l)

pub use-none : (q : Note → Bool) → SkipsHarts q → (c : Shape) (tags : Tags) (h : ℕ) (u : Option LineUse) → notes_that q (use_notes c tags h u) ≡ 0
use-none q s c tags h None = refl
use-none q s c tags h (Some u) =
    cond_both u.stores _ _ (λ ns. notes_that q ns ≡ 0)
    (λ _. store-none q s c tags h u.line (held_state c tags h u.line)) (λ _. load-none q s c tags h u.line (held_state c tags h u.line))
