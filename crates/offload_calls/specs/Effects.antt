-- What an act loads and stores.
use Rattle.std.specs.Prelude.{ℕ, Bool, false, List, [], Option, Some, None, Result, Ok, Err}
use Rattle.rv32_hart.specs.declared.regs.Trap.{Trap}
use Rattle.rv32_hart.specs.declared.act.Access.{Access}
use Rattle.rv32_hart.specs.declared.act.Access.TheVariants as Access_is
use Rattle.rv32_hart.specs.declared.act.Planned.{Planned}
use Rattle.rv32_hart.specs.Arithmetic.{amo_result}
use Rattle.rv32_hart.specs.Act.{is_call_access}
use Rattle.offload_calls.specs.Stores.{bytes_from, number_at, addresses_from}

-- some bytes in a row
pub record Span : Type 0 where
  pub addr : ℕ
  pub size : ℕ

-- an atomic loads the word that it then changes
abbrev pub span_of_access : Access → Option Span
span_of_access Access_is.Nothing = None
span_of_access (Access_is.Load addr size signed rd) = Some (record { addr = addr; size = size })
span_of_access (Access_is.Store addr size value) = None
span_of_access (Access_is.Amo addr op rd value) = Some (record { addr = addr; size = 4 })
span_of_access Access_is.Call = None

abbrev pub loads_of : Result Planned Trap → Option Span
loads_of (Err trap) = None
loads_of (Ok p) = span_of_access p.access

-- what an access stores, `value` being what it loads
abbrev pub stores_of_access : ℕ → Access → List (ℕ × ℕ)
stores_of_access value Access_is.Nothing = []
stores_of_access value (Access_is.Load addr size signed rd) = []
stores_of_access value (Access_is.Store addr size word) = bytes_from addr size word
stores_of_access value (Access_is.Amo addr op rd word) = bytes_from addr 4 (amo_result op value word)
stores_of_access value Access_is.Call = []

-- the zero-extended value that a span holds, by the byte at each address
abbrev pub span_value : (ℕ → ℕ) → Option Span → ℕ
span_value byte None = 0
span_value byte (Some span) = number_at byte span.addr span.size

abbrev pub span_addresses : Option Span → List ℕ
span_addresses None = []
span_addresses (Some span) = addresses_from span.addr span.size

abbrev pub is_call : Result Planned Trap → Bool
is_call (Err trap) = false
is_call (Ok p) = is_call_access p.access
