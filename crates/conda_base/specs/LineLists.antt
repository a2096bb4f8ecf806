-- Lists of lines.
use Rattle.std.specs.Prelude.{ℕ, ◌≢◌, ◌==◌, ◌||◌, Bool, false, List, [], ◌∷◌, ◌++◌, map, AllPairs, Option, Some, None, if◌then◌else◌}
use Rattle.conda_base.specs.declared.line.Line.{Line}
use Rattle.conda_base.specs.Lines.{line_number}

-- the line of an address
abbrev pub line_at : ℕ → ℕ → Line
line_at line_bytes addr = record { 0 = line_number addr line_bytes }

abbrev pub same_line : Line → Line → Bool
same_line a b = a.0 == b.0

-- a list names the line
abbrev pub names : List Line → Line → Bool
names [] l = false
names (line ∷ lines) l = same_line line l || names lines l

-- a list names no line twice
abbrev pub NamesOnce : List Line → Type 0
NamesOnce lines = AllPairs (λ (a : Line) (b : Line). a.0 ≢ b.0) lines

-- the list with a line at its end, where it doesn't name it
abbrev pub with_new : List Line → Line → List Line
with_new lines l = if names lines l then lines else lines ++ l ∷ []

-- the list with these lines, each at its end where it isn't named yet
abbrev pub with_all_new : List Line → List Line → List Line
with_all_new lines [] = lines
with_all_new lines (l ∷ more) = with_all_new (with_new lines l) more

-- the lines of these addresses, each once, in the order of the first address
abbrev pub lines_of : ℕ → List ℕ → List Line
lines_of line_bytes addrs = with_all_new [] (map (line_at line_bytes) addrs)

-- a line, if there is one
abbrev pub line_list : Option Line → List Line
line_list None = []
line_list (Some l) = l ∷ []
