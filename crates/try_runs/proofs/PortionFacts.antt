-- What a committed portion leaves: lines that it doesn't store to, and other cores.
use Rattle.std.proofs.Common.{◌≡◌, ℕ, false, List, [], ◌∷◌, length, sym, ap, ◌∙◌, subst, eqb, map, cond}
use Rattle.std.specs.Prelude.{All}
use Rattle.std.proofs.lemmas.Bool.{or_parts}
use Rattle.std.proofs.lemmas.List.Elements.{All-nil, All-cons, All-head, All-tail}
use Rattle.conda_base.specs.declared.Line.{Line}
use Rattle.offload_calls.specs.declared.status.CoreStatus.TheVariants as Core_is
use Rattle.offload_calls.specs.Stores.{Inside, stored_addresses}
use Rattle.offload_calls.specs.State.{Setup, State}
use Rattle.offload_calls.specs.CoreActs.{core_acts}
use Rattle.offload_calls.proofs.StoreLemmas.{length-overlay}
use Rattle.conda_base.specs.LineLists.{line_at, same_line, names}
use Rattle.try_runs.specs.Tries.{Try, writes}
use Rattle.try_runs.specs.Fills.{byte_of}
use Rattle.try_runs.specs.Serial.{IsSetup, IsLong, line_bytes_of, AreFresh, try_in, IsSerial}
use Rattle.conda_base.proofs.LineListLemmas.{names-with_all_new}
use Rattle.try_runs.proofs.LineBytes.{Elsewhere, bytes_of_line-overlay}
use Rattle.try_runs.proofs.TryFacts.{try_over-inside}
use Rattle.try_runs.proofs.Serial.{serial}

not_stored : (base room n : ℕ) (stores : List (ℕ × ℕ)) (l : Line) → All (Inside base room) stores
    → names (map (line_at n) (stored_addresses stores)) l ≡ false → All (Elsewhere base n l) stores
not_stored base room n [] l inside out = All-nil (Elsewhere base n l)
not_stored base room n (store ∷ stores) l inside out =
    let parts = or_parts (same_line (line_at n store.0) l) (names (map (line_at n) (stored_addresses stores)) l) out in
    All-cons (Elsewhere base n l) store stores ((All-head (Inside base room) store stores inside).0, parts.0)
    (not_stored base room n stores l (All-tail (Inside base room) store stores inside) parts.1)

pub record PortionFits (s : Setup) (f g : State) (j : ℕ) (lines : List Line) : Type 0 where
  pub long : length g.memory ≡ length f.memory
  pub same : (l : Line) → names lines l ≡ false → line_bytes_of s g l ≡ line_bytes_of s f l
  pub others : (k : ℕ) → eqb k j ≡ false → g.cores k ≡ f.cores k

pub portion-fits : (s : Setup) (f : State) (j n : ℕ) (fills : Line → List ℕ) → IsSetup s → IsLong s f → (f.cores j).status ≡ Core_is.Run
    → AreFresh s f fills (try_in s f j fills n).reads
    → PortionFits s f (core_acts s f j n) j (writes s.line_bytes (try_in s f j fills n))
portion-fits s f j n fills is long run fresh =
    let t : Try = try_in s f j fills n in
    let serial_is : IsSerial s f j n t = serial s f j n fills is long run fresh in
    subst (λ (g : State). PortionFits s f g j (writes s.line_bytes t)) (sym serial_is.state)
    (record {
      long = length-overlay s.code.base f.memory t.stored;
      same = λ l out.
          bytes_of_line-overlay s.code.base s.line_bytes f.memory t.stored l is.size
          (not_stored s.code.base (length s.code.bytes) s.line_bytes t.stored l (try_over-inside s.code s.line_bytes (byte_of s.line_bytes fills) (f.cores j).regs n is.code)
          (sym (names-with_all_new [] (map (line_at s.line_bytes) (stored_addresses t.stored)) l) ∙ out));
      others = λ k ne. ap (λ b. cond b t.core (f.cores k)) ne;
    })
