-- The owner of a line shares it.
use Rattle.std.proofs.Common.{true, ◌≡◌, ◌≢◌, ℕ, ◌-◌, ◌<◌, List, Option, Some, None, get_or, sym, ap, subst, ◌∙◌, refl, arith}
use Rattle.std.specs.Option.{option_map, IsSome}
use Rattle.conda_base.specs.declared.Line.{Line}
use Rattle.conda_base.specs.declared.Mesi.{Mesi}
use Rattle.conda_base.specs.declared.Mesi.TheVariants.{M, E, S}
use Rattle.conda_base.specs.Bytes.{handed_out}
use Rattle.cpu_cache.specs.Contents.{Content, Contents, content_of, set_list, with_set, restated, bytes_in, written_back}
use Rattle.set_assoc.proofs.FindFacts.{list_entries}
use Rattle.mesi_directory.specs.declared.row.Row.{Row}
use Rattle.mesi_directory.specs.declared.row.Row.TheVariants.{Owner}
use Rattle.mesi_directory.specs.Rows.{Rows, IsRow, row_of, with_row, shared_with}
use Rattle.mesi_directory.proofs.RowLemmas.{row_of-with_row_same, IsRow-shared_with}
use Rattle.traffic_trace.specs.Notes.{Trace, noted}
use Rattle.traffic_trace.specs.declared.note.Kind.TheVariants.{Down}
use Rattle.line_memory.specs.Owners.{is_owner}
use Rattle.line_memory.specs.Notes.{note_of, all_noted, down_notes}
use Rattle.line_memory.specs.Memory.{Memory, line_of, with_line}
use Rattle.line_memory.specs.Tags.{held_state}
use Rattle.line_memory.specs.Backing.{shape_of}
use Rattle.line_memory.specs.Access.{shared_line}
use Rattle.coherent_mem.specs.Moves.{IsMoved, list_at, flushed_copies, backed, backed_notes}
use Rattle.coherent_mem.specs.Parts.{Parts, AreParts, IsKept, cache_at, held, seen, shown}
use Rattle.coherent_mem.proofs.CacheFacts.{edit_restated}
use Rattle.coherent_mem.proofs.LineFacts.{beside_owner, kept_down}
use Rattle.coherent_mem.proofs.PartFacts.{IsPartEdit, row_in, rowed_line, held_here, held_beside, parts_edited}
use Rattle.coherent_mem.proofs.TagFacts.{state_of_content, state_shown, shared_line-map}
use Rattle.coherent_mem.proofs.ViewFacts.{held_inside, view_of_shown}
use Rattle.coherent_mem.proofs.MoveFacts.{CanLeave, can_leave, IsBack, moved, read_cache, back_content, edits_of, quiet_edit, seen_content, list_entries_of, state_held}

pub downed : (p : Parts) (o : ℕ) (l : Line) (a : Content) (cache : Contents) (memory : Memory) (rows : Rows) → AreParts p → held p l o ≡ Some a → a.state ≢ S
    → cache ≡ with_set (cache_at p o) l (restated (cache_at p o) l S) → memory ≡ backed p.memory l (written_back (content_of (cache_at p o) l))
    → rows ≡ with_row p.rows l (shared_with (row_of p.rows l) o)
    → IsMoved (shared_line l (list_at (shown p) o l)) (flushed_copies (shown p) l) o l p (moved p o cache memory rows)
downed p o l a cache memory rows are at owns cached backed_is rowed =
    let inside = held_inside p l o a at in
    let few = are.few in
    let fits = are.fits o inside in
    let there = are.range l o a at in
    let kept = are.kept l there in
    let q : Parts = moved p o cache memory rows in
    let shares : Content = record { state = S; bytes = a.bytes } in
    let back : IsBack p.memory l a.bytes memory = rw backed_is (rw at (back_content p are l o a at)) in
    let owner : row_of p.rows l ≡ Owner o = kept.owner o a at owns in
    let row_there = row_in p are l there in
    let row_is : IsRow (row_of p.rows l) = are.rows (l.0 - p.rows.first) in
    let small : o < 12 = omega arith in
    let new_row = IsRow-shared_with (row_of p.rows l) o row_is small in
    let e : IsPartEdit p o l (Some shares) q = record {
      sets = refl;
      ways = refl;
      memory = back.written;
      rows = rw rowed (rowed_line p.rows l (shared_with (row_of p.rows l) o) are.rows row_there new_row);
      cache = cache;
      caches = refl;
      edited = rw cached (edit_restated (cache_at p o) l a S fits.is at);
    } in
    let row : row_of rows l ≡ shared_with (Owner o) o =
    ap (λ d. row_of d l) rowed ∙ row_of-with_row_same p.rows l (shared_with (row_of p.rows l) o) row_there ∙ ap (λ r. shared_with r o) owner in
    let owned : IsKept (held p l) (Owner o) (line_of p.memory l) = subst (λ (r : Row). IsKept (held p l) r (line_of p.memory l)) owner kept in
    let here : held q l o ≡ Some shares = held_here p q o l (Some shares) inside e in
    let beside : (k : ℕ) → k ≢ o → held q l k ≡ held p l k = λ k apart. held_beside p q o k l l (Some shares) e apart in
    let none : (k : ℕ) → k ≢ o → held p l k ≡ None = λ k apart. beside_owner (held p l) (row_of p.rows l) (line_of p.memory l) kept o k a at owns apart in
    let down_kept : IsKept (held q l) (shared_with (Owner o) o) a.bytes = kept_down (held p l) (held q l) (line_of p.memory l) o a owned at here beside in
    let copied : IsKept (held q l) (shared_with (Owner o) o) (line_of memory l) = subst (λ (c : List ℕ). IsKept (held q l) (shared_with (Owner o) o) c) (sym back.own) down_kept in
    let all_kept : IsKept (held q l) (row_of rows l) (line_of memory l) = subst (λ (r : Row). IsKept (held q l) r (line_of memory l)) (sym row) copied in
    let parts : AreParts q = parts_edited p q o l (Some shares) are inside there e all_kept in
    let was : seen p l ≡ a.bytes = seen_content p are l o a at in
    let now : seen q l ≡ a.bytes = seen_content q parts l o shares here in
    record {
      edits = edits_of p q o l (Some shares) (restated (cache_at p o) l S) (shared_line l (list_at (shown p) o l)) (flushed_copies (shown p) l) are inside e cached
          (ap (λ ts. shared_line l ts) (list_entries_of p are o l inside) ∙ shared_line-map _ _ l _ (set_list (cache_at p o) l) (list_entries (cache_at p o).lines l fits.is.sets))
          (now ∙ sym was)
          (back.all ∙ ap (λ b. with_line p.memory.base p.memory.line_bytes p.memory.bytes l.0 b) (sym (view_of_shown p are l there ∙ was)));
      quiet = quiet_edit p q o l (Some shares) are parts inside e (λ same. cc)
          (λ k apart m. let both : None ≡ Some M = sym (ap (λ x. option_map state_of_content x) (none k apart)) ∙ m in absurd cc);
      are = parts;
    }

owner_apart : (m : Mesi) → is_owner (Some m) ≡ true → m ≢ S
owner_apart M is same = cc
owner_apart E is same = cc
owner_apart S is same = absurd cc

pub owner_held : (p : Parts) → AreParts p → (l : Line) (o : ℕ) → is_owner (held_state (shape_of (shown p)) (shown p).tags o l) ≡ true → (a : Content) × (held p l o ≡ Some a) × (a.state ≢ S)
owner_held p are l o is = go (held p l o) refl (sym (ap is_owner (state_shown p are l o)) ∙ is)
  where
    go : (x : Option Content) → held p l o ≡ x → is_owner (option_map state_of_content x) ≡ true → (a : Content) × (held p l o ≡ Some a) × (a.state ≢ S)
    go None at owner = absurd cc
    go (Some a) at owner = (a, at, owner_apart a.state owner)

-- what the calls ensure that share an owner's line
pub record IsSharing (p : Parts) (o : ℕ) (l : Line) (was : Contents) (back : Option (List ℕ)) (cache : Contents) (memory : Memory) (rows : Rows) : Type 0 where
  pub read : was ≡ get_or p.caches o was
  pub bytes : back ≡ written_back (content_of was l)
  pub shared : cache ≡ with_set was l (restated was l S)
  pub written : memory ≡ backed p.memory l back
  pub rowed : rows ≡ with_row p.rows l (shared_with (row_of p.rows l) o)

pub sharing : (p : Parts) (o : ℕ) (l : Line) (was : Contents) (back : Option (List ℕ)) (cache : Contents) (memory : Memory) (rows : Rows) → AreParts p → is_owner (held_state (shape_of (shown p)) (shown p).tags o l) ≡ true → IsSharing p o l was back cache memory rows
    → IsMoved (shared_line l (list_at (shown p) o l)) (flushed_copies (shown p) l) o l p (moved p o cache memory rows)
sharing p o l was back cache memory rows are is does =
    let a = owner_held p are l o is in
    let inside = held_inside p l o a.0 a.1 in
    let read : was ≡ cache_at p o = read_cache p o was inside does.read in
    downed p o l a.0 cache memory rows are a.1 a.2
    (does.shared ∙ ap (λ (c : Contents). with_set c l (restated c l S)) read)
    (does.written ∙ ap (λ b. backed p.memory l b) (does.bytes ∙ ap (λ (c : Contents). written_back (content_of c l)) read))
    does.rowed

down_noted : (trace : Trace) (o : ℕ) (l : Line) (a : Content) → a.state ≢ S → noted (all_noted trace (backed_notes o l (written_back (Some a)))) (note_of Down o l) ≡ all_noted trace (down_notes l o (Some a.state))
down_noted trace o l a apart = go a.state a.bytes apart
  where
    go : (state : Mesi) (bytes : List ℕ) → state ≢ S → noted (all_noted trace (backed_notes o l (bytes_in state (handed_out bytes)))) (note_of Down o l) ≡ all_noted trace (down_notes l o (Some state))
    go M bytes off = refl
    go E bytes off = refl
    go S bytes off = absurd (off refl)

pub sharing_noted : (p : Parts) (o : ℕ) (l : Line) (was : Contents) (back : Option (List ℕ)) (trace : Trace) → AreParts p → is_owner (held_state (shape_of (shown p)) (shown p).tags o l) ≡ true → was ≡ get_or p.caches o was → back ≡ written_back (content_of was l)
    → noted (all_noted trace (backed_notes o l back)) (note_of Down o l) ≡ all_noted trace (down_notes l o (held_state (shape_of (shown p)) (shown p).tags o l))
sharing_noted p o l was back trace are is read bytes =
    let a = owner_held p are l o is in
    let inside = held_inside p l o a.0 a.1 in
    let cache : was ≡ cache_at p o = read_cache p o was inside read in
    ap (λ b. noted (all_noted trace (backed_notes o l b)) (note_of Down o l)) (bytes ∙ ap (λ (c : Contents). written_back (content_of c l)) cache ∙ ap written_back a.1) ∙
    down_noted trace o l a.0 a.2 ∙
    ap (λ x. all_noted trace (down_notes l o x)) (sym (state_held p are l o a.0 a.1))

pub some_owner : (o : Option Mesi) → is_owner o ≡ true → IsSome o
some_owner None is = absurd cc
some_owner (Some m) is = refl

-- what an owner of a line can be asked
pub can_share : (p : Parts) (o : ℕ) (l : Line) (was : Contents) → AreParts p → is_owner (held_state (shape_of (shown p)) (shown p).tags o l) ≡ true → was ≡ get_or p.caches o was → CanLeave p o l was
can_share p o l was are is read = can_leave p o l was are (some_owner (held_state (shape_of (shown p)) (shown p).tags o l) is) read
