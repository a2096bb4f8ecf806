-- A line comes to a holder whose set has room.
use Rattle.std.proofs.Common.{◌≡◌, ◌≢◌, ℕ, ◌-◌, ◌<◌, ◌≤◌, ⊎_elim, true, false, List, ◌∷◌, Option, Some, None, length, get_or, take, replicate, sym, ap, subst, ◌∙◌, refl, arith}
use Rattle.std.specs.Option.{is_some}
use Rattle.std.proofs.lemmas.List.{take_at, take_all, length-map, length-append}
use Rattle.std.proofs.lemmas.Bool.{eq-eqb}
use Rattle.conda_base.specs.declared.Line.{Line}
use Rattle.conda_base.specs.declared.Mesi.{Mesi}
use Rattle.conda_base.specs.declared.Mesi.TheVariants.{M, E, S}
use Rattle.conda_base.specs.Bytes.{handed_out}
use Rattle.cpu_cache.specs.Contents.{Content, Contents, set_list, tag_of, with_set, filled}
use Rattle.mesi_directory.specs.declared.row.Row.{Row}
use Rattle.mesi_directory.specs.declared.row.Row.TheVariants.{Owner}
use Rattle.mesi_directory.specs.Rows.{Rows, IsRow, row_of, with_row, has_holder, shared_with}
use Rattle.mesi_directory.proofs.RowLemmas.{row_of-with_row_same, IsRow-shared_with, has-owner}
use Rattle.line_memory.specs.Memory.{IsIn, line_of}
use Rattle.line_memory.specs.Backing.{view_of}
use Rattle.coherent_mem.specs.Moves.{IsMoved, IsFree, list_at, row_with}
use Rattle.coherent_mem.specs.Parts.{Parts, AreParts, IsKept, cache_at, held, seen, shown}
use Rattle.coherent_mem.proofs.CacheFacts.{IsEdit, edit_filled}
use Rattle.coherent_mem.proofs.LineFacts.{cases_Option, seen_all, s_not_m, kept_owned, kept_joined}
use Rattle.coherent_mem.proofs.PartFacts.{IsPartEdit, row_in, written_none, rowed_line, held_here, held_beside, parts_edited}
use Rattle.coherent_mem.proofs.ViewFacts.{view_of_shown, line_of_length}
use Rattle.coherent_mem.proofs.MoveFacts.{moved, read_cache, edits_of, quiet_edit, seen_content, list_entries_of}

no_owner : (p : Parts) → AreParts p → (l : Line) → IsIn p.memory l → ((k : ℕ) (a : Content) → held p l k ≡ Some a → a.state ≡ S) → (k : ℕ) → row_of p.rows l ≢ Owner k
no_owner p are l there shared k owner =
    let kept = are.kept l there in
    let has_it : is_some (held p l k) ≡ true = sym (kept.holders k) ∙ ap (λ r. has_holder r k) owner ∙ has-owner k k ∙ eq-eqb k k refl in
    ⊎_elim
    (λ (none : held p l k ≡ None). let both : false ≡ true = sym (ap is_some none) ∙ has_it in cc)
    (λ (some : (a : Content) × (held p l k ≡ Some a)). kept.owned k some.0 some.1 owner (shared k some.0 some.1))
    (cases_Option (held p l k))

pub filled_in : (p : Parts) (h : ℕ) (l : Line) (state : Mesi) (from : List ℕ) (cache : Contents) (rows : Rows) → AreParts p → h < length p.caches → IsIn p.memory l → state ≢ M → IsFree p l h state
    → length (list_at (shown p) h l) < p.ways → from ≡ handed_out (line_of p.memory l)
    → cache ≡ with_set (cache_at p h) l (take (cache_at p h).lines.ways (filled (cache_at p h) l from state))
    → rows ≡ with_row p.rows l (row_with state (row_of p.rows l) h)
    → IsMoved ((l, state) ∷ list_at (shown p) h l) p.memory.bytes h l p (moved p h cache p.memory rows)
filled_in p h l state from cache rows are inside there clean free room from_is cached rowed =
    let few = are.few in
    let fits = are.fits h inside in
    let kept = are.kept l there in
    let c = cache_at p h in
    let copy : List ℕ = line_of p.memory l in
    let q : Parts = moved p h cache p.memory rows in
    let listed = list_entries_of p are h l inside in
    let same_ways = fits.ways in
    let size : length (list_at (shown p) h l) ≡ length (set_list c l) = ap length listed ∙ length-map (set_list c l) tag_of in
    let short : length (set_list c l) < c.lines.ways = omega arith in
    let own_size = line_of_length p are l there in
    let same_bytes = fits.line_bytes in
    let bytes : take c.line_bytes from ≡ copy = ap (λ b. take c.line_bytes b) from_is ∙ take_at copy (replicate (128 - length copy) 0) c.line_bytes (own_size ∙ sym same_bytes) in
    let long : c.line_bytes ≤ length from = rw from_is (omega (arith, length-append copy (replicate (128 - length copy) 0))) in
    let whole : take c.lines.ways (filled c l from state) ≡ filled c l from state = take_all c.lines.ways (filled c l from state) (omega arith) in
    let put : cache ≡ with_set c l (filled c l from state) = cached ∙ ap (λ es. with_set c l es) whole in
    let new : Content = record { state = state; bytes = copy } in
    let row_there = row_in p are l there in
    let row_is : IsRow (row_of p.rows l) = are.rows (l.0 - p.rows.first) in
    let small : h < 12 = omega arith in
    let edited : IsEdit c l (Some new) cache =
    subst (λ (b : List ℕ). IsEdit c l (Some (record { state = state; bytes = b })) cache) bytes (rw put (edit_filled c l from state fits.is free.absent short long)) in
    let e : IsPartEdit p h l (Some new) q = record {
      sets = refl;
      ways = refl;
      memory = written_none p.memory l;
      rows = rw rowed (rowed_line p.rows l (row_with state (row_of p.rows l) h) are.rows row_there (new_row_is state (row_of p.rows l) h row_is small));
      cache = cache;
      caches = refl;
      edited = edited;
    } in
    let row : row_of rows l ≡ row_with state (row_of p.rows l) h =
    ap (λ d. row_of d l) rowed ∙ row_of-with_row_same p.rows l (row_with state (row_of p.rows l) h) row_there in
    let here : held q l h ≡ Some new = held_here p q h l (Some new) inside e in
    let beside : (k : ℕ) → k ≢ h → held q l k ≡ held p l k = λ k apart. held_beside p q h k l l (Some new) e apart in
    let new_kept : IsKept (held q l) (row_with state (row_of p.rows l) h) copy =
    by_state state (row_of p.rows l) h (held q l) copy
    (λ owns. kept_owned (held q l) copy h new here owns (λ k apart. beside k apart ∙ free.alone owns k) (λ s. refl))
    (λ shares. kept_joined (held p l) (held q l) (row_of p.rows l) copy h kept (no_owner p are l there free.shared)
    (here ∙ ap (λ s. Some (record { state = s; bytes = copy })) shares) beside) in
    let all_kept : IsKept (held q l) (row_of rows l) copy = subst (λ (r : Row). IsKept (held q l) r copy) (sym row) new_kept in
    let parts : AreParts q = parts_edited p q h l (Some new) are inside there e all_kept in
    let was : seen p l ≡ copy = seen_all (length p.caches) (held p l) copy copy (λ k a at. kept.clean k a at (s_not_m a.state (free.shared k a at))) refl in
    let now : seen q l ≡ copy = seen_content q parts l h new here in
    record {
      edits = edits_of p q h l (Some new) (filled c l from state) ((l, state) ∷ list_at (shown p) h l) p.memory.bytes are inside e put
          (ap (λ ts. (l, state) ∷ ts) listed) (now ∙ sym was) refl;
      quiet = quiet_edit p q h l (Some new) are parts inside e (λ same. clean (let is : state ≡ M = cc in is)) (λ k apart m. refl);
      are = parts;
    }
  where
    new_row_is : (state : Mesi) (row : Row) (h : ℕ) → IsRow row → h < 12 → IsRow (row_with state row h)
    new_row_is M row h is small = small
    new_row_is E row h is small = small
    new_row_is S row h is small = IsRow-shared_with row h is small

    by_state : (state : Mesi) (row : Row) (h : ℕ) (g : ℕ → Option Content) (copy : List ℕ) → (state ≢ S → IsKept g (Owner h) copy) → (state ≡ S → IsKept g (shared_with row h) copy) → IsKept g (row_with state row h) copy
    by_state M row h g copy owned shared = owned (λ same. cc)
    by_state E row h g copy owned shared = owned (λ same. cc)
    by_state S row h g copy owned shared = shared refl

-- what the calls ensure that bring a line to a holder
pub record IsFilling (p : Parts) (h : ℕ) (l : Line) (state : Mesi) (bytes : List ℕ) (was cache : Contents) (rows : Rows) : Type 0 where
  pub read : was ≡ get_or p.caches h was
  pub from : bytes ≡ handed_out (line_of p.memory l)
  pub put : cache ≡ with_set was l (take was.lines.ways (filled was l bytes state))
  pub rowed : rows ≡ with_row p.rows l (row_with state (row_of p.rows l) h)

pub filling : (p : Parts) (h : ℕ) (l : Line) (state : Mesi) (from : List ℕ) (was cache : Contents) (rows : Rows) → AreParts p → h < length p.caches → IsIn p.memory l → state ≢ M → IsFree p l h state → length (list_at (shown p) h l) < p.ways → IsFilling p h l state from was cache rows
    → IsMoved ((l, state) ∷ list_at (shown p) h l) p.memory.bytes h l p (moved p h cache p.memory rows)
filling p h l state from was cache rows are inside there clean free room does =
    let read : was ≡ cache_at p h = read_cache p h was inside does.read in
    filled_in p h l state from cache rows are inside there clean free room does.from
    (does.put ∙ ap (λ (c : Contents). with_set c l (take c.lines.ways (filled c l from state))) read) does.rowed

-- a line that nobody has in M or E is in memory as users see it
pub seen_shared : (p : Parts) → AreParts p → (l : Line) → IsIn p.memory l → ((k : ℕ) (a : Content) → held p l k ≡ Some a → a.state ≡ S) → line_of p.memory l ≡ view_of (shown p) l
seen_shared p are l there shared =
    let kept = are.kept l there in
    sym (view_of_shown p are l there ∙ seen_all (length p.caches) (held p l) (line_of p.memory l) (line_of p.memory l) (λ k a at. kept.clean k a at (s_not_m a.state (shared k a at))) refl)
