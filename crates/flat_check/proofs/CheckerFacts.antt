-- The order that a checker has walked.
use Rattle.std.proofs.Common.{◌≡◌, ◌<◌, ◌+◌, ◌++◌, ◌∷◌, [], ℕ, zero, suc, cond, ltb, true, false, length, replicate, List, refl, sym, ap, ◌∙◌, subst, arith, Result, Ok, Err, Some, None}
use Rattle.std.specs.Prelude.{slice_get}
use Rattle.std.specs.Result.{IfOk}
use Rattle.std.proofs.lemmas.Bool.{cond-true, lt-ltb}
use Rattle.std.proofs.lemmas.Bool.Decides.{nat_tests}
use Rattle.std.proofs.lemmas.List.{length-replicate, length_push}
use Rattle.std.proofs.lemmas.List.Sums.{fold-append}
use Rattle.rv32_hart.specs.Regs.{start_regs}
use Rattle.schedule_log.specs.declared.entry.Entry.{Entry}
use Rattle.offload_calls.specs.State.{Setup, start_hart}
use Rattle.offload_calls.specs.declared.status.CoreStatus.TheVariants as Core_is
use Rattle.chip_laws.specs.Design.{Design, setup_of}
use Rattle.flat_check.specs.Checkers.{CheckerView, HasWalked}
use Rattle.flat_check.specs.Walkers.{WalkerParts, ShowsWalk}
use Rattle.flat_check.specs.Walks.{walk, walk_start, walked}

-- ---- the next entry

pub walk-next : (s : Setup) (order : List Entry) (e : Entry) → walk s (order ++ e ∷ []) ≡ walked s (walk s order) e
walk-next s order e = fold-append (walked s) (walk_start s) order (e ∷ [])

pub next-walked : (d : Design) (c new : CheckerView) (order : List Entry) (e : Entry) → HasWalked d c order → new.code ≡ c.code → new.line_bytes ≡ c.line_bytes
    → new.entries ≡ c.entries + 1 → ShowsWalk (setup_of d) new.walker (walked (setup_of d) (walk (setup_of d) order) e) → HasWalked d new (order ++ e ∷ [])
next-walked d c new order e h code line_bytes entries shows = record {
  code = code ∙ h.code;
  line_bytes = line_bytes ∙ h.line_bytes;
  shows = subst (ShowsWalk (setup_of d) new.walker) (sym (walk-next (setup_of d) order e)) shows;
  entries = entries ∙ ap (λ n. n + 1) h.entries ∙ sym (length_push order e);
}

pub if_ok-map : {A E : Type 0} (r : Result A E) (P Q : Type 0) → (P → Q) → IfOk r (λ x. P) → IfOk r (λ x. Q)
if_ok-map (Ok x) P Q f h = f h
if_ok-map (Err e) P Q f h = tt

-- ---- before the first entry

ltb-zero : (i : ℕ) → ltb i 0 ≡ false
ltb-zero i = grind (arith, nat_tests)

zero-ltb : (n : ℕ) → ltb 0 (suc n) ≡ true
zero-ltb n = grind (arith, nat_tests)

ltb-suc : (i n : ℕ) → ltb (suc i) (suc n) ≡ ltb i n
ltb-suc i n = grind (arith, nat_tests)

get-replicate : {A : Type 0} (n k : ℕ) (x : A) → slice_get (replicate n x) k ≡ cond (ltb k n) (Some x) None
get-replicate zero k x = rw ltb-zero refl
get-replicate (suc n) zero x = rw zero-ltb refl
get-replicate (suc n) (suc k) x = rw ltb-suc (get-replicate n k x)

get-below : {A : Type 0} (n k : ℕ) (x : A) → k < n → slice_get (replicate n x) k ≡ Some x
get-below n k x u = get-replicate n k x ∙ cond-true (ltb k n) (Some x) None (lt-ltb k n u)

pub started : (s : Setup) (p : WalkerParts) → p.flat.memory ≡ s.code.bytes → length p.flat.harts ≡ s.harts
    → ((h : ℕ) → h < s.harts → slice_get p.flat.harts h ≡ Some (start_hart s.entry s.harts h)) → p.flat.statuses ≡ replicate s.cores Core_is.Idle
    → p.flat.regs ≡ replicate s.cores (start_regs 0) → p.flat.output ≡ 0 → p.tries.acts ≡ replicate s.cores None → length p.tries.marks ≡ s.cores → ShowsWalk s p (walk_start s)
started s p memory many harts statuses regs output acts marks = record {
  flat = record {
    memory = memory;
    many_harts = many;
    harts = harts;
    many_statuses = ap length statuses ∙ length-replicate s.cores Core_is.Idle;
    statuses = λ k. ap (λ xs. slice_get xs k) statuses ∙ get-replicate s.cores k Core_is.Idle;
    many_cores = ap length regs ∙ length-replicate s.cores (start_regs 0);
    regs = λ j u. ap (λ xs. slice_get xs j) regs ∙ get-below s.cores j (start_regs 0) u;
    output = output;
  };
  tries = record {
    many_acts = ap length acts ∙ length-replicate s.cores None;
    many_marks = marks;
    acts = λ j u. ap (λ xs. slice_get xs j) acts ∙ get-below s.cores j None u;
    marks = λ j u. tt;
  };
}
