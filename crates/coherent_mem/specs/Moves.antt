-- A part of a call over the parts.
use Rattle.std.specs.Prelude.{ℕ, ◌≡◌, ◌≢◌, ◌==◌, ◌%◌, ◌-◌, List, [], ◌∷◌, length, take, Option, Some, None, IsSome, is_some, nat_lt, not, ◌&&◌, if◌then◌else◌}
use Rattle.conda_base.specs.declared.Line.{Line}
use Rattle.conda_base.specs.declared.Mesi.{Mesi}
use Rattle.conda_base.specs.declared.Mesi.TheVariants.{M, E, S}
use Rattle.cpu_cache.specs.Contents.{Content}
use Rattle.mesi_directory.specs.declared.row.Row.{Row}
use Rattle.mesi_directory.specs.declared.row.Row.TheVariants.{Owner}
use Rattle.mesi_directory.specs.Rows.{shared_with}
use Rattle.traffic_trace.specs.declared.note.Note.{Note}
use Rattle.traffic_trace.specs.declared.note.Kind.TheVariants.{Back}
use Rattle.line_memory.specs.Tags.{Tag, Tags, without_line, each_below, some_below, held_state}
use Rattle.line_memory.specs.Access.{put_front, shared_line}
use Rattle.line_memory.specs.Notes.{note_of, evict_notes, leave_notes}
use Rattle.line_memory.specs.Memory.{Memory, with_line, with_bytes}
use Rattle.line_memory.specs.Backing.{BackingView, HasSameNumbers, shape_of, copy_of, view_of}
use Rattle.coherent_mem.specs.Parts.{Parts, AreParts, held, shown}

-- another list for one set of a holder
abbrev pub relisted : Tags → ℕ → ℕ → List Tag → Tags
relisted tags h set list k s = if s == set then (if k == h then list else tags k s) else tags k s

-- the list of a line's set in a holder's cache
abbrev pub list_at : BackingView → ℕ → Line → List Tag
list_at b h l = b.tags h (l.0 % b.sets)

-- memory's own bytes with a line as users see it
abbrev pub flushed_copies : BackingView → Line → List ℕ
flushed_copies b l = with_line b.base b.line_bytes b.copies l.0 (view_of b l)

-- a part of a call: one list of tags and memory's own bytes change, and users see the same
pub record Edits (list : List Tag) (own : List ℕ) (h : ℕ) (l : Line)
    (old new : BackingView) : Type 0 where
  pub numbers : HasSameNumbers old new
  pub view : new.view ≡ old.view
  pub tags : (k s : ℕ) → new.tags k s ≡ relisted old.tags h (l.0 % old.sets) list k s
  pub copies : new.copies ≡ own

-- memory with the bytes of a line that came back
abbrev pub backed : Memory → Line → Option (List ℕ) → Memory
backed m l None = m
backed m l (Some bytes) = with_bytes m l (take m.line_bytes bytes)

-- the notes of bytes that came back
abbrev pub backed_notes : ℕ → Line → Option (List ℕ) → List Note
backed_notes h l None = []
backed_notes h l (Some bytes) = note_of Back h l ∷ []

-- the line at the last way of a set, if there is one, leaves it
abbrev pub gone_notes : ℕ → Option Tag → List Note
gone_notes h None = []
gone_notes h (Some tag) = evict_notes h tag.0 tag.1

-- No line becomes M in a holder's cache, and where one is M memory's own copy stays.
pub record HasNoNewDirty (old new : BackingView) : Type 0 where
  pub dirty : (l : Line) (k : ℕ) →
      held_state (shape_of new) new.tags k l ≡ Some M →
      held_state (shape_of old) old.tags k l ≡ Some M
  pub copies : (l : Line) (k : ℕ) →
      held_state (shape_of new) new.tags k l ≡ Some M → copy_of new l ≡ copy_of old l

-- the row of a line that comes to a holder in this state
abbrev pub row_with : Mesi → Row → ℕ → Row
row_with M row h = Owner h
row_with E row h = Owner h
row_with S row h = shared_with row h

-- one list of tags and memory's own bytes have changed, no line has become M, and the parts fit
pub record IsMoved (list : List Tag) (own : List ℕ) (h : ℕ) (l : Line)
    (old new : Parts) : Type 0 where
  pub edits : Edits list own h l (shown old) (shown new)
  pub quiet : HasNoNewDirty (shown old) (shown new)
  pub are : AreParts new

-- a line may come to h in this state: h hasn't got it, nobody owns it, and for E nobody has it
pub record IsFree (p : Parts) (l : Line) (h : ℕ) (state : Mesi) : Type 0 where
  pub absent : held p l h ≡ None
  pub shared : (k : ℕ) (a : Content) → held p l k ≡ Some a → a.state ≡ S
  pub alone : state ≢ S → (k : ℕ) → held p l k ≡ None

-- the tags with every entry of a line in S
abbrev pub shared_tags : BackingView → Line → Tags
shared_tags b l k s = if s == l.0 % b.sets then shared_line l (b.tags k s) else b.tags k s

-- every entry of a line has become S, and `state` is the one for a holder that loads it
pub record IsShared (l : Line) (state : Mesi) (old new : Parts) : Type 0 where
  pub numbers : HasSameNumbers (shown old) (shown new)
  pub view : (shown new).view ≡ (shown old).view
  pub tags : (k s : ℕ) → (shown new).tags k s ≡ shared_tags (shown old) l k s
  pub quiet : HasNoNewDirty (shown old) (shown new)
  pub are : AreParts new
  pub absent : (k : ℕ) → held old l k ≡ None → held new l k ≡ None
  pub shared : (k : ℕ) (a : Content) → held new l k ≡ Some a → a.state ≡ S
  pub alone : state ≢ S → (k : ℕ) → held new l k ≡ None
  pub loads :
      state ≡ (if some_below (length old.caches) (λ k. is_some (held old l k)) then S else E)

-- the last line of a full set has left it
abbrev pub MakesRoom : ℕ → Line → Parts → Parts → Option Tag → Type 0
MakesRoom h l old new None = new ≡ old
MakesRoom h l old new (Some tag) =
    IsMoved (take (old.ways - 1) (list_at (shown old) h l)) (flushed_copies (shown old) tag.0) h l
    old new

-- the tags after the holders below n, without h, have lost a line
abbrev pub dropped_tags : BackingView → ℕ → Line → ℕ → Tags
dropped_tags b h l n k s =
    if s == l.0 % b.sets && (nat_lt k n && not (k == h))
    then without_line l (b.tags k s)
    else b.tags k s

-- the notes of the holders below n, without h, that lose a line
abbrev pub dropped_notes : BackingView → ℕ → Line → ℕ → List Note
dropped_notes b h l n =
    each_below n (λ k. if k == h then [] else leave_notes l k (held_state (shape_of b) b.tags k l))

-- memory's own bytes with other ones for a line
abbrev pub own_with : BackingView → Line → List ℕ → List ℕ
own_with b l bytes = with_line b.base b.line_bytes b.copies l.0 bytes

-- The holders below n, without h, have lost a line. But for that line memory's own bytes stay.
pub record IsDropped (h : ℕ) (l : Line) (n : ℕ) (old new : Parts) : Type 0 where
  pub numbers : HasSameNumbers (shown old) (shown new)
  pub view : (shown new).view ≡ (shown old).view
  pub tags : (k s : ℕ) → (shown new).tags k s ≡ dropped_tags (shown old) h l n k s
  pub own : (bytes : List ℕ) → own_with (shown new) l bytes ≡ own_with (shown old) l bytes
  pub quiet : HasNoNewDirty (shown old) (shown new)
  pub are : AreParts new

-- h is the only holder of a line, and its list with the line in front, in M, is the one after a
-- store
pub record IsAlone (h : ℕ) (l : Line) (old new : Parts) : Type 0 where
  pub numbers : HasSameNumbers (shown old) (shown new)
  pub view : (shown new).view ≡ (shown old).view
  pub quiet : HasNoNewDirty (shown old) (shown new)
  pub are : AreParts new
  pub here : IsSome (held_state (shape_of (shown new)) (shown new).tags h l)
  pub alone : (k : ℕ) → k ≢ h → held new l k ≡ None
  pub front :
      (l, M) ∷ without_line l (list_at (shown new) h l)
      ≡ put_front (shape_of (shown old)).ways l M (list_at (shown old) h l)
  pub rest : (s : ℕ) → s ≢ l.0 % old.sets → (shown new).tags h s ≡ (shown old).tags h s
  pub others : (k s : ℕ) → k ≢ h →
      (shown new).tags k s ≡
      (if s == l.0 % old.sets
      then without_line l ((shown old).tags k s)
      else (shown old).tags k s)
  pub same : held_state (shape_of (shown old)) (shown old).tags h l ≡ Some M →
      copy_of (shown new) l ≡ copy_of (shown old) l
