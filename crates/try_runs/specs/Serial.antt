-- A portion that read lines as memory has them is one atomic step of flat memory.
use Rattle.std.specs.Prelude.{ℕ, ◌≡◌, ◌++◌, true, List, length, map}
use Rattle.conda_base.specs.declared.Line.{Line}
use Rattle.conda_base.specs.Lines.{IsLineSize, IsWhole}
use Rattle.conda_base.specs.LineLists.{line_at, names}
use Rattle.conda_base.specs.Bytes.{bytes_of_line}
use Rattle.rv32_hart.specs.Code.{IsCode}
use Rattle.offload_calls.specs.declared.status.CoreStatus.TheVariants as Core_is
use Rattle.offload_calls.specs.Stores.{overlay}
use Rattle.offload_calls.specs.State.{Setup, State, updated}
use Rattle.offload_calls.specs.CoreActs.{core_acts, outside, written}
use Rattle.try_runs.specs.Tries.{Try, writes}
use Rattle.try_runs.specs.Fills.{Fills, try_run}

-- memory lies below 2 ^ 32, and begins and ends at whole lines
pub record IsSetup (s : Setup) : Type 0 where
  pub code : IsCode s.code
  pub size : IsLineSize s.line_bytes
  pub base : IsWhole s.code.base s.line_bytes
  pub bytes : IsWhole (length s.code.bytes) s.line_bytes

-- a state's memory is as long as the image's
abbrev pub IsLong : Setup → State → Type 0
IsLong s f = length f.memory ≡ length s.code.bytes

-- the bytes of a line in the memory of a state
abbrev pub line_bytes_of : Setup → State → Line → List ℕ
line_bytes_of s f l = bytes_of_line s.code.base s.line_bytes f.memory l.0

-- each of these lines was filled with the bytes that memory has
abbrev pub AreFresh : Setup → State → Fills → List Line → Type 0
AreFresh s f fills lines = (l : Line) → names lines l ≡ true → fills l ≡ line_bytes_of s f l

-- two lists name the same lines
abbrev pub SameLines : List Line → List Line → Type 0
SameLines lines others = (l : Line) → names lines l ≡ names others l

-- the state with a try's effects: its core, its stored bytes laid over memory, its held bytes put
abbrev pub after_try : Setup → State → ℕ → Try → State
after_try s f j t = record {
  memory = overlay s.code.base f.memory t.stored;
  harts = f.harts;
  cores = updated f.cores j t.core;
  output = f.output ++ t.held;
}

-- n acts of core j, with nothing between, are the try
pub record IsSerial (s : Setup) (f : State) (j n : ℕ) (t : Try) : Type 0 where
  pub state : core_acts s f j n ≡ after_try s f j t
  pub reads : SameLines (map (line_at s.line_bytes) (outside s f j n)) t.reads
  pub writes : SameLines (map (line_at s.line_bytes) (written s f j n)) (writes s.line_bytes t)

-- the try of core j over these fills
abbrev pub try_in : Setup → State → ℕ → Fills → ℕ → Try
try_in s f j fills n = try_run s.code s.line_bytes (f.cores j).regs fills n

-- acts after the kernel's end change nothing on either side, so nothing is asked of them
abbrev pub Serial : Type 0
Serial =
    (s : Setup) (f : State) (j n : ℕ) (fills : Fills)
    → IsSetup s → IsLong s f → (f.cores j).status ≡ Core_is.Run
    → AreFresh s f fills (try_in s f j fills n).reads
    → IsSerial s f j n (try_in s f j fills n)
