-- Pieces of the report, one after another.
use Rattle.std.proofs.Common.{◌≡◌, ℕ, ◌+◌, ◌-◌, ◌*◌, ◌/◌, ◌<◌, ◌≤◌, ◌^◌, List, [], ◌++◌, length, take, replicate, refl, sym, ◌∙◌, ap, subst, arith, append_assoc, add-one, suc, zero, true, false, nat_eq, Bool, ◌∷◌, ⊎_elim, get_or}
use Rattle.std.specs.Prelude.{Result, Ok, Err, OnErr, Some, None}
use Rattle.std.specs.List.{flat_map, slice_get, All}
use Rattle.std.proofs.Math.Seq.{take-suc}
use Rattle.std.proofs.lemmas.List.{append-nil}
use Rattle.std.proofs.lemmas.Grind.{flat_map-append}
use Rattle.std.proofs.lemmas.Option.{slice_get_cases, slice_get_within, get_or_from_slice_get}
use Rattle.rv32_hart.specs.declared.regs.Regs.{Regs}
use Rattle.offload_calls.specs.declared.status.HartStatus.{HartStatus}
use Rattle.offload_calls.specs.declared.status.CoreStatus.{CoreStatus}
use Rattle.std.specs.Cmp.Lexicographic.{pointwise}
use Rattle.std.proofs.lemmas.Bool.Decides.{nat_tests}
use Rattle.std.proofs.lemmas.Grind.{common_steps}
use Rattle.conda_base.specs.Lines.{IsLineOf}
use Rattle.conda_base.proofs.LineLemmas.{line_bytes_in_memory, line_size_cases}
use Rattle.conda_base.specs.Bytes.{handed_out}
use Rattle.run_report.specs.View.{View, IsShown, line_bytes_at}
use Rattle.run_report.specs.Texts.{changed_line_text, texts_below, register_text, registers_text, hart_line_text, core_line_text, hart_text, core_text, harts_text, cores_text, changed_text, changes_text, text_if_some, tag_text, slot_text, set_text, cache_text, caches_text, note_text, note_at_text, notes_text}
use Rattle.run_report.specs.Writes.{IsWriting, Writes}

-- what holds on Err, and where a call failed, whatever it is
pub on_err : {T E P : Type 0} (r : Result T E) → P → OnErr r P
on_err (Ok x) p = tt
on_err (Err e) p = p

-- the same text by another name
pub same_text : {A E : Type 0} {wrote : A → A → List ℕ → Type 0} {stopped : A → A → E → List ℕ → Type 0} → IsWriting wrote stopped → (r : Result (Unit {0}) E) (a b : A) {s t : List ℕ} → s ≡ t → Writes wrote stopped a b s r → Writes wrote stopped a b t r
same_text {wrote = wrote} {stopped = stopped} laws r a b is w = subst (λ text. Writes wrote stopped a b text r) is w

-- two pieces, of which the second is the last call
pub then_last : {A E : Type 0} {wrote : A → A → List ℕ → Type 0} {stopped : A → A → E → List ℕ → Type 0} → IsWriting wrote stopped → (r : Result (Unit {0}) E) (a b c : A) (s t : List ℕ) {whole : List ℕ} → whole ≡ s ++ t → wrote a b s → Writes wrote stopped b c t r → Writes wrote stopped a c whole r
then_last {wrote = wrote} {stopped = stopped} laws (Ok done) a b c s t is p q = subst (λ text. wrote a c text) (sym is) (laws.both a b c s t p q)
then_last {wrote = wrote} {stopped = stopped} laws (Err stop) a b c s t is p q = subst (λ text. stopped a c stop text) (sym is) (laws.after a b c stop s t p q)

-- a piece that stopped, and others that would have followed
pub stops_first : {A E : Type 0} {wrote : A → A → List ℕ → Type 0} {stopped : A → A → E → List ℕ → Type 0} → IsWriting wrote stopped → (a b : A) (stop : E) (s t : List ℕ) {whole : List ℕ} → whole ≡ s ++ t → stopped a b stop s → stopped a b stop whole
stops_first {stopped = stopped} laws a b stop s t is p = subst (λ text. stopped a b stop text) (sym is) (laws.early a b stop s t p)

-- a loop over pieces: none, one more, and all
pub loop_none : {A E : Type 0} {wrote : A → A → List ℕ → Type 0} {stopped : A → A → E → List ℕ → Type 0} → IsWriting wrote stopped → (a : A) (text : ℕ → List ℕ) → wrote a a (texts_below text 0)
unfolding texts_below
loop_none laws a text = laws.nothing a

texts_next : (text : ℕ → List ℕ) (n : ℕ) → texts_below text (n + 1) ≡ texts_below text n ++ text n
unfolding texts_below
texts_next text n = rw (add-one) refl

pub loop_next : {A E : Type 0} {wrote : A → A → List ℕ → Type 0} {stopped : A → A → E → List ℕ → Type 0} → IsWriting wrote stopped → (a b c : A) (text : ℕ → List ℕ) (n : ℕ) → wrote a b (texts_below text n) → wrote b c (text n) → wrote a c (texts_below text (n + 1))
loop_next {wrote = wrote} laws a b c text n p q = subst (λ t. wrote a c t) (sym (texts_next text n)) (laws.both a b c (texts_below text n) (text n) p q)

pub loop_all : {A E : Type 0} {wrote : A → A → List ℕ → Type 0} {stopped : A → A → E → List ℕ → Type 0} → IsWriting wrote stopped → (a b : A) {whole : List ℕ} (text : ℕ → List ℕ) (n all : ℕ) → whole ≡ texts_below text all → n ≡ all → wrote a b (texts_below text n) → wrote a b whole
loop_all {wrote = wrote} laws a b text n all is end p = subst (λ t. wrote a b t) (ap (texts_below text) end ∙ sym is) p

-- what the pieces that are left add
texts_left : (text : ℕ → List ℕ) (n k : ℕ) → (rest : List ℕ) × (texts_below text (n + k) ≡ texts_below text n ++ rest)
unfolding texts_below
texts_left text n zero = let none : n + 0 ≡ n = omega arith in ([], ap (texts_below text) none ∙ sym (append-nil (texts_below text n)))
texts_left text n (suc k) =
    let left = texts_left text n k in
    let more : n + suc k ≡ suc (n + k) = omega arith in
    (left.0 ++ text (n + k), ap (texts_below text) more ∙ ap (λ t. t ++ text (n + k)) left.1 ∙ append_assoc (texts_below text n) left.0 (text (n + k)))

-- a loop stops in its piece n
pub loop_stops : {A E : Type 0} {wrote : A → A → List ℕ → Type 0} {stopped : A → A → E → List ℕ → Type 0} → IsWriting wrote stopped → (a b c : A) (stop : E) {whole : List ℕ} (text : ℕ → List ℕ) (n all : ℕ) → whole ≡ texts_below text all → n < all → wrote a b (texts_below text n) → stopped b c stop (text n) → stopped a c stop whole
loop_stops laws a b c stop text n all is below p q =
    let left = texts_left text (n + 1) (all - (n + 1)) in
    let sum : n + 1 + (all - (n + 1)) ≡ all = omega arith in
    stops_first laws a c stop (texts_below text n ++ text n) left.0
    (is ∙ ap (texts_below text) (sym sum) ∙ left.1 ∙ ap (λ t. t ++ left.0) (texts_next text n))
    (laws.after a b c stop (texts_below text n) (text n) p q)

-- the loops of the report
pub registers_are : (x : List ℕ) → registers_text x ≡ texts_below (register_text x) 32
unfolding registers_text
registers_are x = refl

pub harts_are : (v : View) → harts_text v ≡ texts_below (hart_text v) v.harts
unfolding harts_text
harts_are v = refl

pub cores_are : (v : View) → cores_text v ≡ texts_below (core_text v) v.cores
unfolding cores_text
cores_are v = refl

pub changes_are : (v : View) → changes_text v ≡ texts_below (λ place. changed_text v (v.base / v.line_bytes + place)) (length v.memory / v.line_bytes)
unfolding changes_text
changes_are v = refl

pub sets_are : (v : View) (i : ℕ) → cache_text v i ≡ texts_below (set_text v i) v.sets
unfolding cache_text
sets_are v i = refl

pub caches_are : (v : View) → caches_text v ≡ texts_below (cache_text v) v.harts
unfolding caches_text
caches_are v = refl

-- the texts of a list's elements by their places
texts_of_places : {A : Type 0} (text : A → List ℕ) (xs : List A) (n : ℕ) → texts_below (λ i. text_if_some text (slice_get xs i)) n ≡ flat_map text (take n xs)
unfolding texts_below
texts_of_places text xs zero = refl
texts_of_places text xs (suc n) =
    ⊎_elim
    (λ (found : (x : _) × (n < length xs) × (slice_get xs n ≡ Some x) × (get_or xs n x ≡ x)).
    ap (λ front. front ++ text_if_some text (slice_get xs n)) (texts_of_places text xs n)
    ∙ ap (λ o. flat_map text (take n xs) ++ text_if_some text o) found.2
    ∙ ap (λ last. flat_map text (take n xs) ++ last) (sym (append-nil (text found.0)))
    ∙ sym (flat_map-append text (take n xs) (found.0 ∷ []))
    ∙ ap (λ x. flat_map text (take n xs ++ x ∷ [])) (sym found.3)
    ∙ ap (flat_map text) (sym (take-suc xs n found.0 found.1)))
    (λ (past : (length xs ≤ n) × (slice_get xs n ≡ None)).
    ap (λ front. front ++ text_if_some text (slice_get xs n)) (texts_of_places text xs n)
    ∙ ap (λ o. flat_map text (take n xs) ++ text_if_some text o) past.1
    ∙ append-nil (flat_map text (take n xs))
    ∙ ap (flat_map text) (take_all n past.0 ∙ sym (take_all (suc n) (omega arith))))
    (slice_get_cases xs n).1
  where
    take_all : (k : ℕ) → length xs ≤ k → take k xs ≡ xs
    take_all k long = grind (arith, common_steps)

-- and of all of them
texts_of_all : {A : Type 0} (text : A → List ℕ) (xs : List A) (n : ℕ) → length xs ≤ n → texts_below (λ i. text_if_some text (slice_get xs i)) n ≡ flat_map text xs
texts_of_all text xs n long = texts_of_places text xs n ∙ ap (flat_map text) (take_all long)
  where
    take_all : length xs ≤ n → take n xs ≡ xs
    take_all long = grind (arith, common_steps)

pub slots_are : (v : View) → IsShown v → (i set : ℕ) → set_text v i set ≡ texts_below (slot_text v i set) 8
unfolding set_text slot_text
slots_are v kept i set = sym (texts_of_all (tag_text v i) (v.tags i set) 8 (kept.short i set))

pub notes_are : (v : View) → notes_text v ≡ texts_below (note_at_text v) (length v.trace.notes)
unfolding notes_text note_at_text
notes_are v = sym (texts_of_all (note_text v) v.trace.notes (length v.trace.notes) (omega arith))

-- what holds of all elements holds of the one at a place
at_place : {A : Type 0} (P : A → Type 0) (xs : List A) (i : ℕ) (x : A) → All P xs → slice_get xs i ≡ Some x → P x
at_place P xs i x all is = subst P (get_or_from_slice_get xs i x x is) (all i x (slice_get_within xs i x is))

-- a hart and a core: the line, and then the registers
pub hart_pieces : (v : View) (i : ℕ) (regs : Regs) (status : HartStatus) (line : List ℕ) → regs ≡ (v.hart i).regs → status ≡ (v.hart i).status → line ≡ hart_line_text i status regs.pc → hart_text v i ≡ line ++ registers_text regs.x
unfolding hart_text
hart_pieces v i regs status line r s l =
    sym (ap (λ text. text ++ registers_text regs.x) l ∙ ap (λ now. hart_line_text i now regs.pc ++ registers_text regs.x) s ∙ ap (λ now. hart_line_text i (v.hart i).status now.pc ++ registers_text now.x) r)

pub core_pieces : (v : View) (j : ℕ) (regs : Regs) (status : CoreStatus) (line : List ℕ) → regs ≡ (v.core j).regs → status ≡ (v.core j).status → line ≡ core_line_text j status regs.pc → core_text v j ≡ line ++ registers_text regs.x
unfolding core_text
core_pieces v j regs status line r s l =
    sym (ap (λ text. text ++ registers_text regs.x) l ∙ ap (λ now. core_line_text j now regs.pc ++ registers_text regs.x) s ∙ ap (λ now. core_line_text j (v.core j).status now.pc ++ registers_text now.x) r)

-- memory's lines have numbers below 2^32
pub lines_bound : (v : View) → IsShown v → v.base / v.line_bytes + length v.memory / v.line_bytes ≤ 2 ^ 32
lines_bound v kept =
    let sizes = line_size_cases v.line_bytes kept.size in
    let bound = kept.bound in
    grind arith

-- a line of memory has as many bytes as a line, now and as loaded
length_line : (v : View) → IsShown v → (bytes : List ℕ) → length bytes ≡ length v.memory → (l : ℕ) → IsLineOf v.base (length v.memory) v.line_bytes l → length (line_bytes_at v bytes l) ≡ v.line_bytes
length_line v kept bytes same l line =
    let within = line_bytes_in_memory v.base (length v.memory) v.line_bytes l kept.size kept.whole_base kept.whole_bytes line in
    let low = within.0 in
    let high = within.1 in
    grind (arith, nat_tests, common_steps)

-- the front of a buffer that a line was handed out to
pub front_of : (v : View) → IsShown v → (bytes : List ℕ) → length bytes ≡ length v.memory → (l : ℕ) → IsLineOf v.base (length v.memory) v.line_bytes l → (buffer : List ℕ) → buffer ≡ handed_out (line_bytes_at v bytes l) → (n : ℕ) → n ≡ v.line_bytes → take n buffer ≡ line_bytes_at v bytes l
front_of v kept bytes same l line buffer is n size =
    let long = length_line v kept bytes same l line in
    ap (take n) is ∙ ap (λ k. take k (handed_out (line_bytes_at v bytes l))) (size ∙ sym long) ∙ take_front (line_bytes_at v bytes l) (replicate (128 - length (line_bytes_at v bytes l)) 0)
  where
    take_front : (xs ys : List ℕ) → take (length xs) (xs ++ ys) ≡ xs
    take_front xs ys = grind (arith, common_steps)

-- whether line l is shown
pub changed_none : (v : View) (l : ℕ) → pointwise nat_eq (line_bytes_at v v.memory l) (line_bytes_at v v.loaded l) ≡ true → changed_text v l ≡ []
unfolding changed_text
changed_none v l same = rw same refl

pub changed_some : (v : View) (l : ℕ) → pointwise nat_eq (line_bytes_at v v.memory l) (line_bytes_at v v.loaded l) ≡ false → changed_text v l ≡ changed_line_text (l * v.line_bytes) (line_bytes_at v v.memory l)
unfolding changed_text
changed_some v l same = rw same refl

-- the two buffers' fronts compare as the line's bytes do
pub fronts_compare : (v : View) → IsShown v → (l : ℕ) → IsLineOf v.base (length v.memory) v.line_bytes l → (now loaded : List ℕ) → now ≡ handed_out (line_bytes_at v v.memory l) → loaded ≡ handed_out (line_bytes_at v v.loaded l) → (n : ℕ) → n ≡ v.line_bytes → (same : Bool) → same ≡ pointwise nat_eq (take n now) (take n loaded) → pointwise nat_eq (line_bytes_at v v.memory l) (line_bytes_at v v.loaded l) ≡ same
fronts_compare v kept l line now loaded is_now is_loaded n size same is =
    sym (is
    ∙ ap (λ x. pointwise nat_eq x (take n loaded)) (front_of v kept v.memory refl l line now is_now n size)
    ∙ ap (λ y. pointwise nat_eq (line_bytes_at v v.memory l) y) (front_of v kept v.loaded kept.same l line loaded is_loaded n size))

-- the text of a line that changed
pub change_is : (v : View) → IsShown v → (l : ℕ) → IsLineOf v.base (length v.memory) v.line_bytes l → (now : List ℕ) → now ≡ handed_out (line_bytes_at v v.memory l) → (n : ℕ) → n ≡ v.line_bytes → pointwise nat_eq (line_bytes_at v v.memory l) (line_bytes_at v v.loaded l) ≡ false → (text : List ℕ) → text ≡ changed_line_text (l * n) (take n now) → text ≡ changed_text v l
change_is v kept l line now is_now n size differs text is =
    is
    ∙ ap (λ bytes. changed_line_text (l * n) bytes) (front_of v kept v.memory refl l line now is_now n size)
    ∙ ap (λ k. changed_line_text (l * k) (line_bytes_at v v.memory l)) size
    ∙ sym (changed_some v l differs)
