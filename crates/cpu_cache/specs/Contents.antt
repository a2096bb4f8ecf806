-- What contracts see of a cache: its lines in sets, each with its state and its bytes.
use Rattle.std.specs.Prelude.{ℕ, ◌≡◌, List, [], ◌∷◌, map, take, length, replicate, slice_index_or, Option, Some, None, IsSome, IfSome}
use Rattle.std.specs.Option.{option_map}
use Rattle.conda_base.specs.Bytes.{handed_out, stored, value_at}
use Rattle.conda_base.specs.Lines.{IsLineSize}
use Rattle.conda_base.specs.declared.Line.{Line}
use Rattle.conda_base.specs.declared.Mesi.{Mesi}
use Rattle.conda_base.specs.declared.Mesi.TheVariants.{M, E, S}
use Rattle.set_assoc.specs.Entries.{without, replaced}
use Rattle.set_assoc.specs.SetLists.{SetLists, list_of, with_list, find, IsSets}

-- a held line's state and its bytes
pub record Content : Type 0 where
  pub state : Mesi
  pub bytes : List ℕ

-- how many bytes a line has, and for each set a list of the held lines, the most recent first
pub record Contents : Type 0 where
  pub line_bytes : ℕ
  pub lines : SetLists Content

-- no line is held
abbrev pub no_contents : ℕ → ℕ → ℕ → Contents
no_contents line_bytes sets ways =
    record { line_bytes = line_bytes; lines = record { ways = ways; lists = replicate sets [] } }

-- the content of a line, where it is held
abbrev pub content_of : Contents → Line → Option Content
content_of c l = find c.lines l

abbrev pub IsHeld : Contents → Line → Type 0
IsHeld c l = IsSome (content_of c l)

-- the list of a line's set
abbrev pub set_list : Contents → Line → List (Line × Content)
set_list c l = list_of c.lines l

-- the tags of a set: its lines with their states, the most recent first
abbrev pub tag_of : Line × Content → Line × Mesi
tag_of entry = (entry.0, entry.1.state)

abbrev pub tags_of : Contents → ℕ → List (Line × Mesi)
tags_of c set = map tag_of (slice_index_or c.lines.lists set [])

-- the state of a line
abbrev pub state_of : Contents → Line → Option Mesi
state_of c l = option_map (λ content. content.state) (content_of c l)

-- the bytes of a held line
abbrev pub content_bytes : Option Content → List ℕ
content_bytes None = []
content_bytes (Some content) = content.bytes

abbrev pub bytes_of : Contents → Line → List ℕ
bytes_of c l = content_bytes (content_of c l)

-- what is handed out of a line that leaves
abbrev pub leaving : Line × Content → Line × Mesi × List ℕ
leaving entry = (entry.0, entry.1.state, handed_out entry.1.bytes)

-- the bytes, where the line is in M
abbrev pub bytes_in : Mesi → List ℕ → Option (List ℕ)
bytes_in M bytes = Some bytes
bytes_in E bytes = None
bytes_in S bytes = None

-- what is handed out to be written back: the bytes of a line in M
abbrev pub written_back : Option Content → Option (List ℕ)
written_back None = None
written_back (Some content) = bytes_in content.state (handed_out content.bytes)

-- the cache with another list in the set of a line
abbrev pub with_set : Contents → Line → List (Line × Content) → Contents
with_set c l entries = record { line_bytes = c.line_bytes; lines = with_list c.lines l entries }

-- a line in front of its set
abbrev pub in_front : Contents → Line → Content → List (Line × Content)
in_front c l content = (l, content) ∷ without l (set_list c l)

-- the list of a line's set with the line, which isn't held, in front
abbrev pub filled : Contents → Line → List ℕ → Mesi → List (Line × Content)
filled c l from state = (l, record { state = state; bytes = take c.line_bytes from }) ∷ set_list c l

-- the list of a line's set with the line in another state, at its place
abbrev pub restated : Contents → Line → Mesi → List (Line × Content)
restated c l state = replaced l (record { state = state; bytes = bytes_of c l }) (set_list c l)

-- the number of bytes of a line's content, where the line is held
abbrev pub loaded : ℕ → ℕ → Option Content → Option ℕ
loaded offset size None = None
loaded offset size (Some content) = Some (value_at content.bytes offset size)

-- the cache after a store to a line in M or E, by the line's content; else the same cache
abbrev pub stored_from : Contents → Line → ℕ → ℕ → ℕ → List ℕ → Mesi → Contents
stored_from c l offset size value bytes M =
    with_set c l (in_front c l (record { state = M; bytes = stored bytes offset size value }))
stored_from c l offset size value bytes E =
    with_set c l (in_front c l (record { state = M; bytes = stored bytes offset size value }))
stored_from c l offset size value bytes S = c

abbrev pub stored_by : Contents → Line → ℕ → ℕ → ℕ → Option Content → Contents
stored_by c l offset size value None = c
stored_by c l offset size value (Some content) = stored_from c l offset size value content.bytes content.state

abbrev pub stored_if_owned : Contents → Line → ℕ → ℕ → ℕ → Contents
stored_if_owned c l offset size value = stored_by c l offset size value (content_of c l)

-- the rules of every cache: lines stand in their sets, and each has as many bytes as a line has
pub record IsCache (c : Contents) : Type 0 where
  pub size : IsLineSize c.line_bytes
  pub sets : IsSets c.lines
  pub bytes : (l : Line) → IfSome (content_of c l) (λ content. length content.bytes ≡ c.line_bytes)
