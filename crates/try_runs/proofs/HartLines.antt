-- What a step of a hart leaves: lines and addresses on no line that it stores to.
use Rattle.std.proofs.Common.{◌≡◌, ℕ, true, false, List, [], ◌∷◌, refl, sym, ap, ◌∙◌, subst}
use Rattle.std.specs.Prelude.{All}
use Rattle.std.proofs.lemmas.Bool.{false≢true, or_from, eqb-true, false_from_ne_true}
use Rattle.std.proofs.lemmas.List.Elements.{All-nil, All-cons, All-head, All-tail}
use Rattle.conda_base.specs.declared.Line.{Line}
use Rattle.conda_base.specs.LineLists.{line_at, names}
use Rattle.offload_calls.specs.Stores.{is_listed, stored_addresses}
use Rattle.offload_calls.specs.State.{Setup, State}
use Rattle.offload_calls.specs.HartAct.{hart_step, hart_stores}
use Rattle.offload_calls.proofs.StepFacts.{OnLines, hart_lines, step_stores-on, step-memory}
use Rattle.try_runs.specs.Serial.{IsSetup, line_bytes_of}
use Rattle.conda_base.proofs.LineListLemmas.{line_eq}
use Rattle.try_runs.proofs.LineBytes.{Elsewhere, bytes_of_line-overlay}

-- stores on lines that don't name this one lie elsewhere
elsewhere : (base n : ℕ) (lines : List Line) (l : Line) (stores : List (ℕ × ℕ)) → names lines l ≡ false
    → All (OnLines base n lines) stores → All (Elsewhere base n l) stores
elsewhere base n lines l [] out on = All-nil (Elsewhere base n l)
elsewhere base n lines l (store ∷ stores) out on =
    let here : OnLines base n lines store = All-head (OnLines base n lines) store stores on in
    All-cons (Elsewhere base n l) store stores
    (here.0, false_from_ne_true _ (λ same. false≢true (sym out ∙ subst (λ k. names lines k ≡ true) (line_eq (line_at n store.0) l same) here.1)))
    (elsewhere base n lines l stores out (All-tail (OnLines base n lines) store stores on))

pub step_lines : (s : Setup) (f : State) (h : ℕ) (l : Line) → IsSetup s → names (hart_lines s f h) l ≡ false
    → line_bytes_of s (hart_step s f h) l ≡ line_bytes_of s f l
step_lines s f h l is out =
    subst (λ m. line_bytes_of s (record f { memory = m }) l ≡ line_bytes_of s f l) (sym (step-memory s f h))
    (bytes_of_line-overlay s.code.base s.line_bytes f.memory (hart_stores s f h) l is.size
    (elsewhere s.code.base s.line_bytes (hart_lines s f h) l (hart_stores s f h) out (step_stores-on s f h is.code is.size)))

-- an address on no line that a step stores to isn't stored to
off_lines : (base n : ℕ) (lines : List Line) (a : ℕ) (stores : List (ℕ × ℕ)) → names lines (line_at n a) ≡ false
    → All (OnLines base n lines) stores → is_listed (stored_addresses stores) a ≡ false
off_lines base n lines a [] out on = refl
off_lines base n lines a (store ∷ stores) out on =
    let here : OnLines base n lines store = All-head (OnLines base n lines) store stores on in
    or_from _ _
    (false_from_ne_true _ (λ same. false≢true (sym out ∙ (ap (λ x. names lines (line_at n x)) (sym (eqb-true store.0 a same)) ∙ here.1))))
    (off_lines base n lines a stores out (All-tail (OnLines base n lines) store stores on))

pub step_addresses : (s : Setup) (f : State) (h a : ℕ) → IsSetup s → names (hart_lines s f h) (line_at s.line_bytes a) ≡ false
    → is_listed (stored_addresses (hart_stores s f h)) a ≡ false
step_addresses s f h a is out =
    off_lines s.code.base s.line_bytes (hart_lines s f h) a (hart_stores s f h) out (step_stores-on s f h is.code is.size)
