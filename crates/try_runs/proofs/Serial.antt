-- The Serial law.
use Rattle.std.proofs.Common.{◌≡◌, ◌+◌, ◌-◌, ◌*◌, ◌≤◌, ◌<◌, ℕ, List, [], get_or, take, drop, cond, sym, ap, ◌∙◌, map, arith}
use Rattle.std.proofs.lemmas.Bool.{le-leb}
use Rattle.std.proofs.lemmas.List.{get_or-take, get_or-drop}
use Rattle.conda_base.specs.declared.Line.{Line}
use Rattle.conda_base.specs.Lines.{IsLineSize, IsWhole, line_number, line_offset}
use Rattle.conda_base.proofs.LineLemmas.{line_split, offset_below, line_size_cases}
use Rattle.offload_calls.specs.Stores.{byte_at, stored_addresses}
use Rattle.offload_calls.specs.State.{Setup, State}
use Rattle.conda_base.specs.LineLists.{line_at, names}
use Rattle.try_runs.specs.Tries.{Try, try_over, writes}
use Rattle.try_runs.specs.Fills.{byte_of}
use Rattle.try_runs.specs.Serial.{IsSetup, line_bytes_of, AreFresh, after_try, try_in, Serial}
use Rattle.conda_base.proofs.LineListLemmas.{names-with_all_new}
use Rattle.try_runs.proofs.TryFacts.{Agree, try_over-agree}
use Rattle.try_runs.proofs.SerialLemmas.{core_acts-sim}
use Rattle.try_runs.proofs.SerialLines.{written-sim, outside-sim}

-- memory begins at a line's first byte
line_start : (base n a : ℕ) → IsLineSize n → IsWhole base n → base ≤ a → base ≤ line_number a n * n
line_start base n a size whole low = let sizes = line_size_cases n size in grind arith

-- the byte at an address, in its line of memory
byte_in_line : (s : Setup) (f : State) (a : ℕ) → IsSetup s → s.code.base ≤ a
    → get_or (line_bytes_of s f (line_at s.line_bytes a)) (line_offset a s.line_bytes) 0 ≡ byte_at s.code.base f.memory a
byte_in_line s f a is low =
    let n : ℕ = s.line_bytes in
    let start : ℕ = line_number a n * n in
    let small : line_offset a n < n = offset_below a n is.size in
    let split : start + line_offset a n ≡ a = line_split a n in
    let above : s.code.base ≤ start = line_start s.code.base n a is.size is.base low in
    let place : start - s.code.base + line_offset a n ≡ a - s.code.base = omega arith in
    ap (λ b. get_or (cond b (take n (drop (start - s.code.base) f.memory)) []) (line_offset a n) 0) (le-leb s.code.base start above)
    ∙ rw (get_or-take, get_or-drop) (ap (λ k. get_or f.memory k 0) place)

fresh_agree : (s : Setup) (f : State) (fills : Line → List ℕ) (lines : List Line) → IsSetup s → AreFresh s f fills lines
    → Agree s.code.base s.line_bytes (byte_of s.line_bytes fills) (byte_at s.code.base f.memory) lines
fresh_agree s f fills lines is fresh =
    record {
      at = λ a low h.
          ap (λ xs. get_or xs (line_offset a s.line_bytes) 0) (fresh (line_at s.line_bytes a) h) ∙ byte_in_line s f a is low;
    }

pub serial : Serial
serial s f j n fills is long run fresh =
    let t : Try = try_in s f j fills n in
    let u : Try = try_over s.code s.line_bytes (byte_at s.code.base f.memory) (f.cores j).regs n in
    let same : t ≡ u =
    try_over-agree s.code s.line_bytes (byte_of s.line_bytes fills) (byte_at s.code.base f.memory) (f.cores j).regs n is.code is.size (fresh_agree s f fills t.reads is fresh) in
    record {
      state = core_acts-sim s f j n is long run ∙ ap (after_try s f j) (sym same);
      reads = λ l. outside-sim s f j n l is long run ∙ ap (λ (x : Try). names x.reads l) (sym same);
      writes = λ l.
          ap (λ xs. names (map (line_at s.line_bytes) xs) l) (written-sim s f j n is long run)
          ∙ sym (names-with_all_new [] (map (line_at s.line_bytes) (stored_addresses u.stored)) l)
          ∙ ap (λ (x : Try). names (writes s.line_bytes x) l) (sym same);
    }
