-- Walks over the dirty lines of a memory.
use Rattle.std.specs.Prelude.{Bool, true, false, List, [], fold}
use Rattle.conda_base.specs.declared.Line.{Line}
use Rattle.bloom_sig.specs.Signatures.{Sets, inserted}
use Rattle.line_memory.specs.Backing.{BackingView, dirty_in, flushed}

-- the memory with these lines flushed, in this order
abbrev pub all_flushed : BackingView → List Line → BackingView
all_flushed memory lines = fold flushed memory lines

-- a signature with these lines, inserted in this order
abbrev pub all_inserted : Sets → List Line → Sets
all_inserted s lines = fold inserted s lines

-- the lines that count as changed by others at an opening: the dirty ones, unless the opening
-- flushes them
abbrev pub foreign_lines : Bool → BackingView → List Line
foreign_lines true memory = []
foreign_lines false memory = dirty_in memory

-- the lines that an opening flushes
abbrev pub flushed_lines : Bool → BackingView → List Line
flushed_lines true memory = dirty_in memory
flushed_lines false memory = []
