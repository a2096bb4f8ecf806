-- The causes that end a try.
use Rattle.std.specs.Prelude.{ℕ, ◌==◌, ◌%◌, ◌&&◌, not, Bool, true, false, List, [], ◌∷◌, ◌++◌, length, filter, Option, Some, None, Result, Ok, Err, if◌then◌else◌}
use Rattle.conda_base.specs.declared.Line.{Line}
use Rattle.conda_base.specs.LineLists.{names}
use Rattle.rv32_hart.specs.declared.regs.Trap.{Trap}
use Rattle.rv32_hart.specs.declared.act.Access.{Access}
use Rattle.rv32_hart.specs.declared.act.Planned.{Planned}
use Rattle.rv32_hart.specs.Code.{CodeView}
use Rattle.rv32_hart.specs.Act.{value_of, is_call_access}
use Rattle.offload_calls.specs.declared.status.CoreStatus.{CoreStatus}
use Rattle.offload_calls.specs.declared.status.CoreStatus.TheVariants as Core_is
use Rattle.offload_calls.specs.Effects.{span_of_access}
use Rattle.offload_calls.specs.LineUses.{use_of_access, used_line, stored_line}
use Rattle.try_runs.specs.declared.limits.Limits.{Limits}
use Rattle.bloom_sig.specs.Images.{is_new, fill_of}
use Rattle.try_runs.specs.Tries.{Try, writes, outside_line, next_plan}

abbrev pub is_done : CoreStatus → Bool
is_done Core_is.Idle = false
is_done Core_is.Run = false
is_done (Core_is.Done value) = true
is_done (Core_is.Trapped trap) = false

abbrev pub is_trapped : CoreStatus → Bool
is_trapped Core_is.Idle = false
is_trapped Core_is.Run = false
is_trapped (Core_is.Done value) = false
is_trapped (Core_is.Trapped trap) = true

-- the lines in the near-data cache: those read, and the others stored to
abbrev pub cached : List Line → List Line → List Line
cached reads writes = reads ++ filter (λ l. not (names reads l)) writes

-- those in the set of a line
abbrev pub in_set : ℕ → Line → List Line → List Line
in_set sets l lines = filter (λ (k : Line). k.0 % sets == l.0 % sets) lines

-- the line isn't in the near-data cache, and its set holds as many lines as there are ways
abbrev pub is_set_full : ℕ → ℕ → List Line → Option Line → Bool
is_set_full sets ways lines None = false
is_set_full sets ways lines (Some l) = not (names lines l) && (length (in_set sets l lines) == ways)

-- the line would set a new bit of a signature that holds as many as may be
abbrev pub is_sign_full : ℕ → ℕ → List Line → Option Line → Bool
is_sign_full bits limit lines None = false
is_sign_full bits limit lines (Some l) = is_new bits lines l && (fill_of bits lines == limit)

-- the access is a put, and the try holds as many bytes as may be
abbrev pub is_out_full : ℕ → Try → Access → Bool
is_out_full most t access =
    is_call_access access && (value_of t.core.regs 17 == 1003) && (length t.held == most)

-- what stands against an access, and the number of each: SetFull, ReadFull, WriteFull, OutFull
abbrev pub access_causes : Limits → Try → Access → List (Bool × ℕ)
access_causes limits t access =
    let n = limits.line_bytes in
    let used = use_of_access n access in
    let near = cached t.reads (writes n t) in
    let outside = outside_line n t.stored (span_of_access access) in
    (is_set_full limits.core_sets limits.core_ways near (used_line used), 4)
    ∷ (is_sign_full limits.sig_bits limits.read_limit t.reads outside, 5)
    ∷ (is_sign_full limits.sig_bits limits.write_limit (writes n t) (stored_line used), 6)
    ∷ (is_out_full limits.out_max t access, 7)
    ∷ []

-- nothing of that stands against an act that traps
abbrev pub plan_causes : Limits → Try → Result Planned Trap → List (Bool × ℕ)
plan_causes limits t (Ok p) = access_causes limits t p.access
plan_causes limits t (Err trap) = []

-- the number of the first cause that stands
abbrev pub first_cause : List (Bool × ℕ) → Option ℕ
first_cause [] = None
first_cause (cause ∷ causes) = if cause.0 then Some cause.1 else first_cause causes

-- the first cause that ends a try of n acts: Done, Trapped, Steps, then those against its next act
unfoldable pub end_of : CodeView → Limits → ℕ → Try → Option ℕ
end_of code limits n t =
    let causes =
    (is_done t.core.status, 1)
    ∷ (is_trapped t.core.status, 2)
    ∷ (n == limits.portion_max, 3)
    ∷ plan_causes limits t (next_plan code t) in
    first_cause causes
