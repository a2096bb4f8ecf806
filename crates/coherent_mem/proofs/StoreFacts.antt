-- A store into the line of its only holder, and an atomic's.
use Rattle.std.proofs.Common.{◌≡◌, ◌≢◌, ℕ, ◌+◌, ◌-◌, ◌<◌, ◌≤◌, ◌⊎◌, ⊎_elim, true, List, [], ◌++◌, Option, Some, None, length, get_or, set, take, drop, sym, ap, subst, ◌∙◌, refl, arith, rules}
use Rattle.std.specs.Option.{IsSome}
use Rattle.std.proofs.lemmas.List.{places, set-get_or}
use Rattle.std.specs.Int.{to_le_bytes, w32}
use Rattle.conda_base.specs.declared.Line.{Line}
use Rattle.conda_base.specs.declared.Mesi.{Mesi}
use Rattle.conda_base.specs.declared.Mesi.TheVariants.{M, E, S}
use Rattle.conda_base.proofs.LineLemmas.{access_in_line}
use Rattle.conda_base.specs.Bytes.{handed_out, stored}
use Rattle.conda_base.specs.Lines.{IsAccessSize, line_offset, line_number}
use Rattle.conda_base.specs.LineLists.{line_at}
use Rattle.cpu_cache.specs.Contents.{Content, Contents, IsHeld, content_of, with_set, bytes_of, content_bytes, in_front, state_of, stored_if_owned, stored_by}
use Rattle.conda_base.proofs.ByteLemmas.{length-low_bytes}
use Rattle.mesi_directory.specs.declared.row.Row.TheVariants.{Owner}
use Rattle.mesi_directory.specs.Rows.{Rows, row_of, with_row}
use Rattle.mesi_directory.proofs.RowLemmas.{row_of-with_row_same}
use Rattle.line_memory.specs.Notes.{access_notes}
use Rattle.line_memory.specs.Memory.{IsIn}
use Rattle.line_memory.specs.Tags.{held_state}
use Rattle.line_memory.specs.Backing.{view_of, HasSameNumbers, shape_of}
use Rattle.line_memory.specs.Access.{after_store}
use Rattle.coherent_mem.specs.Moves.{IsAlone}
use Rattle.coherent_mem.specs.Parts.{Parts, AreParts, cache_at, held, seen, shown}
use Rattle.coherent_mem.specs.Steps.{StepsTo, IsAccessTo, view_stored}
use Rattle.coherent_mem.proofs.PartFacts.{IsRowed, row_in, rowed_line}
use Rattle.coherent_mem.proofs.ViewFacts.{content_length, view_of_shown}
use Rattle.coherent_mem.proofs.MissFacts.{no_content}
use Rattle.coherent_mem.proofs.PutFacts.{IsPut, put_modified, put_same, put_stored}
use Rattle.coherent_mem.proofs.HitFacts.{access_line}
use Rattle.coherent_mem.proofs.CopyFacts.{range_new, range_of}
use Rattle.coherent_mem.proofs.AloneFacts.{view_same_line, alone_owner, alone_steps, owned_notes, state_content}
use Rattle.coherent_mem.proofs.MoveFacts.{moved, content_held, read_cache, seen_content, state_held}

length-stored : (n offset size value : ℕ) (bytes : List ℕ) → length bytes ≡ n → offset + size ≤ n → IsAccessSize size → length (stored bytes offset size value) ≡ n
length-stored n offset size value bytes long within access =
    let low = length-low_bytes size value access in
    spliced n offset size bytes (take size (to_le_bytes w32 value)) long within low
  where
    spliced : (n offset size : ℕ) (bytes new : List ℕ) → length bytes ≡ n → offset + size ≤ n → length new ≡ size → length (take offset bytes ++ new ++ drop (offset + size) bytes) ≡ n
    spliced n offset size bytes new long within low = search (rules, places)

-- what a step of a store leaves
pub record IsStoreStep (p q : Parts) (h addr : ℕ) (view : List ℕ) : Type 0 where
  pub are : AreParts q
  pub steps : StepsTo (after_store (shape_of (shown p)) (shown p).tags h (line_at (shown p).line_bytes addr)) view (shown p) (shown q)

access_same : (p u : Parts) (addr size : ℕ) → HasSameNumbers (shown p) (shown u) → IsAccessTo (shown p) addr size → IsAccessTo (shown u) addr size
access_same p u addr size same is =
    let base = same.base in
    let long = same.size in
    let from = is.from in
    let within = is.within in
    record { size = is.size; aligned = is.aligned; from = omega arith; within = omega arith }

line_same : (p u : Parts) (addr : ℕ) → HasSameNumbers (shown p) (shown u) → line_at (shown u).line_bytes addr ≡ line_at (shown p).line_bytes addr
line_same p u addr same = ap (λ (n : ℕ). record { 0 = line_number addr n }) same.line_bytes

step_of : (p u t : Parts) (h addr : ℕ) (bytes view : List ℕ) → AreParts p → h < length p.caches → IsIn p.memory (line_at (shown p).line_bytes addr) → IsAlone h (line_at (shown u).line_bytes addr) p u → IsPut u t h (line_at (shown u).line_bytes addr) bytes → (shown t).view ≡ view → IsStoreStep p t h addr view
step_of p u t h addr bytes view are inside there alone put seen_is =
    let line : line_at (shown u).line_bytes addr ≡ line_at (shown p).line_bytes addr = line_same p u addr alone.numbers in
    let in_u : IsIn p.memory (line_at (shown u).line_bytes addr) = subst (λ (b : Line). IsIn p.memory b) (sym line) there in
    record {
      are = put.are;
      steps = subst (λ (b : Line). StepsTo (after_store (shape_of (shown p)) (shown p).tags h b) view (shown p) (shown t)) line
          (alone_steps p u t h (line_at (shown u).line_bytes addr) bytes view are inside in_u alone put seen_is);
    }

-- a number is stored
pub stored_step : (p u : Parts) (h addr size value : ℕ) (a : Content) (cache : Contents) (rows : Rows) → AreParts p → h < length p.caches → IsAccessTo (shown p) addr size → IsAlone h (line_at (shown u).line_bytes addr) p u → held u (line_at (shown u).line_bytes addr) h ≡ Some a
    → cache ≡ with_set (cache_at u h) (line_at (shown u).line_bytes addr) (in_front (cache_at u h) (line_at (shown u).line_bytes addr) (record { state = M; bytes = stored a.bytes (line_offset addr u.memory.line_bytes) size value }))
    → IsRowed u.rows (line_at (shown u).line_bytes addr) rows → row_of rows (line_at (shown u).line_bytes addr) ≡ Owner h → IsStoreStep p (moved u h cache u.memory rows) h addr (view_stored (shown p) addr size value)
stored_step p u h addr size value a cache rows are inside access alone at cached rowed row =
    let l : Line = line_at (shown u).line_bytes addr in
    let t : Parts = moved u h cache u.memory rows in
    let access_u = access_same p u addr size alone.numbers access in
    let inside_u : h < length u.caches = rw alone.numbers.holders inside in
    let within = access_in_line addr size u.memory.line_bytes alone.are.memory.size access.size access.aligned in
    let bytes : List ℕ = stored a.bytes (line_offset addr u.memory.line_bytes) size value in
    let long : length bytes ≡ u.memory.line_bytes = length-stored u.memory.line_bytes (line_offset addr u.memory.line_bytes) size value a.bytes (content_length u alone.are l h a at) within access.size in
    let put : IsPut u t h l bytes = put_modified u h l a bytes cache rows alone.are at alone.alone long cached rowed row in
    let same : bytes ≡ stored (seen u l) (line_offset addr u.memory.line_bytes) size value = ap (λ b. stored b (line_offset addr u.memory.line_bytes) size value) (sym (seen_content u alone.are l h a at)) in
    let view : (shown t).view ≡ view_stored (shown p) addr size value =
    put_stored u t h addr size value bytes alone.are inside_u access_u put same ∙
    ap (λ (b : ℕ). stored (shown u).view (addr - b) size value) alone.numbers.base ∙ ap (λ (v : List ℕ). stored v (addr - p.memory.base) size value) alone.view in
    step_of p u t h addr bytes (view_stored (shown p) addr size value) are inside (access_line p are addr size access) alone put view

-- the line is modified with the bytes that it has
pub owned_step : (p u : Parts) (h addr size : ℕ) (a : Content) (cache : Contents) (rows : Rows) → AreParts p → h < length p.caches → IsAccessTo (shown p) addr size → IsAlone h (line_at (shown u).line_bytes addr) p u → held u (line_at (shown u).line_bytes addr) h ≡ Some a
    → cache ≡ with_set (cache_at u h) (line_at (shown u).line_bytes addr) (in_front (cache_at u h) (line_at (shown u).line_bytes addr) (record { state = M; bytes = a.bytes }))
    → IsRowed u.rows (line_at (shown u).line_bytes addr) rows → row_of rows (line_at (shown u).line_bytes addr) ≡ Owner h → IsStoreStep p (moved u h cache u.memory rows) h addr (shown p).view
owned_step p u h addr size a cache rows are inside access alone at cached rowed row =
    let l : Line = line_at (shown u).line_bytes addr in
    let t : Parts = moved u h cache u.memory rows in
    let inside_u : h < length u.caches = rw alone.numbers.holders inside in
    let put : IsPut u t h l a.bytes = put_modified u h l a a.bytes cache rows alone.are at alone.alone (content_length u alone.are l h a at) cached rowed row in
    let view : (shown t).view ≡ (shown p).view = put_same u t h l a.bytes alone.are inside_u put (sym (seen_content u alone.are l h a at)) ∙ alone.view in
    step_of p u t h addr a.bytes (shown p).view are inside (access_line p are addr size access) alone put view

-- what the calls ensure that store into the line, once it is the holder's alone
pub record IsStoring (u : Parts) (h addr size value : ℕ) (l : Line) (was cache : Contents) (rows : Rows) : Type 0 where
  pub read : was ≡ get_or u.caches h was
  pub put : cache ≡ with_set was (line_at was.line_bytes addr) (in_front was (line_at was.line_bytes addr) (record { state = M; bytes = stored (bytes_of was (line_at was.line_bytes addr)) (line_offset addr was.line_bytes) size value }))
  pub rowed : rows ≡ with_row u.rows l (Owner h)

-- the line of an address, as the cache has it
line_cached : (u : Parts) (h addr : ℕ) (was : Contents) → AreParts u → h < length u.caches → was ≡ cache_at u h → (was.line_bytes ≡ u.memory.line_bytes) × (line_at was.line_bytes addr ≡ line_at (shown u).line_bytes addr)
line_cached u h addr was are inside is =
    let size : was.line_bytes ≡ u.memory.line_bytes = ap (λ (c : Contents). c.line_bytes) is ∙ (are.fits h inside).line_bytes in
    (size, ap (λ (n : ℕ). record { 0 = line_number addr n }) size)

pub can_store : (u : Parts) (h addr : ℕ) (was : Contents) → AreParts u → h < length u.caches → was ≡ get_or u.caches h was → IsSome (held_state (shape_of (shown u)) (shown u).tags h (line_at (shown u).line_bytes addr)) → IsHeld was (line_at was.line_bytes addr)
can_store u h addr was are inside read here =
    let is : was ≡ cache_at u h = read_cache u h was inside read in
    let a = content_held u are (line_at (shown u).line_bytes addr) h here in
    let line = (line_cached u h addr was are inside is).1 in
    let at : content_of was (line_at was.line_bytes addr) ≡ Some a.0 = ap (λ k. content_of was k) line ∙ ap (λ (c : Contents). content_of c (line_at (shown u).line_bytes addr)) is ∙ a.1 in
    rw at refl

own_row : (u : Parts) (h : ℕ) (l : Line) (rows : Rows) → AreParts u → h < length u.caches → IsIn u.memory l → rows ≡ with_row u.rows l (Owner h) → (IsRowed u.rows l rows) × (row_of rows l ≡ Owner h)
own_row u h l rows are inside there rowed =
    let few = are.few in
    let small : h < 12 = omega arith in
    let row_there = row_in u are l there in
    (rw rowed (rowed_line u.rows l (Owner h) are.rows row_there small), ap (λ d. row_of d l) rowed ∙ row_of-with_row_same u.rows l (Owner h) row_there)

pub storing : (p u : Parts) (h addr size value : ℕ) (l : Line) (was cache : Contents) (rows : Rows) → AreParts p → h < length p.caches → IsAccessTo (shown p) addr size → l ≡ line_at (shown p).line_bytes addr → IsAlone h l p u → IsStoring u h addr size value l was cache rows
    → IsStoreStep p (moved u h cache u.memory rows) h addr (view_stored (shown p) addr size value)
storing p u h addr size value l was cache rows are inside access line alone does =
    let k : Line = line_at (shown u).line_bytes addr in
    let to : l ≡ k = line ∙ sym (line_same p u addr alone.numbers) in
    let alone_k : IsAlone h k p u = subst (λ (b : Line). IsAlone h b p u) to alone in
    let inside_u : h < length u.caches = rw alone.numbers.holders inside in
    let is : was ≡ cache_at u h = read_cache u h was inside_u does.read in
    let told = line_cached u h addr was alone.are inside_u is in
    let a = content_held u alone.are k h alone_k.here in
    let there = alone.are.range k h a.0 a.1 in
    let bytes : bytes_of was (line_at was.line_bytes addr) ≡ a.0.bytes = ap (λ b. bytes_of was b) told.1 ∙ ap (λ (c : Contents). bytes_of c k) is ∙ ap content_bytes a.1 in
    let cached : cache ≡ with_set (cache_at u h) k (in_front (cache_at u h) k (record { state = M; bytes = stored a.0.bytes (line_offset addr u.memory.line_bytes) size value })) =
    does.put ∙
    ap (λ (b : List ℕ). with_set was (line_at was.line_bytes addr) (in_front was (line_at was.line_bytes addr) (record { state = M; bytes = stored b (line_offset addr was.line_bytes) size value }))) bytes ∙
    ap (λ (n : ℕ). with_set was (line_at was.line_bytes addr) (in_front was (line_at was.line_bytes addr) (record { state = M; bytes = stored a.0.bytes (line_offset addr n) size value }))) told.0 ∙
    ap (λ (b : Line). with_set was b (in_front was b (record { state = M; bytes = stored a.0.bytes (line_offset addr u.memory.line_bytes) size value }))) told.1 ∙
    ap (λ (c : Contents). with_set c k (in_front c k (record { state = M; bytes = stored a.0.bytes (line_offset addr u.memory.line_bytes) size value }))) is in
    let row = own_row u h k rows alone.are inside_u there (does.rowed ∙ ap (λ b. with_row u.rows b (Owner h)) to) in
    stored_step p u h addr size value a.0 cache rows are inside access alone_k a.1 cached row.0 row.1

-- what the calls ensure that make the line modified, once it is the holder's alone
pub record IsOwning (u : Parts) (h : ℕ) (l : Line) (was cache : Contents) (rows : Rows) : Type 0 where
  pub read : was ≡ get_or u.caches h was
  pub put : cache ≡ with_set was l (in_front was l (record { state = M; bytes = bytes_of was l }))
  pub rowed : rows ≡ with_row u.rows l (Owner h)

pub owning : (p u : Parts) (h addr size : ℕ) (l : Line) (was cache : Contents) (rows : Rows) → AreParts p → h < length p.caches → IsAccessTo (shown p) addr size → l ≡ line_at (shown p).line_bytes addr → IsAlone h l p u → IsOwning u h l was cache rows
    → IsStoreStep p (moved u h cache u.memory rows) h addr (shown p).view
owning p u h addr size l was cache rows are inside access line alone does =
    let k : Line = line_at (shown u).line_bytes addr in
    let to : l ≡ k = line ∙ sym (line_same p u addr alone.numbers) in
    let alone_k : IsAlone h k p u = subst (λ (b : Line). IsAlone h b p u) to alone in
    let inside_u : h < length u.caches = rw alone.numbers.holders inside in
    let is : was ≡ cache_at u h = read_cache u h was inside_u does.read in
    let a = content_held u alone.are k h alone_k.here in
    let there = alone.are.range k h a.0 a.1 in
    let bytes : bytes_of was l ≡ a.0.bytes = ap (λ b. bytes_of was b) to ∙ ap (λ (c : Contents). bytes_of c k) is ∙ ap content_bytes a.1 in
    let cached : cache ≡ with_set (cache_at u h) k (in_front (cache_at u h) k (record { state = M; bytes = a.0.bytes })) =
    does.put ∙
    ap (λ (b : List ℕ). with_set was l (in_front was l (record { state = M; bytes = b }))) bytes ∙
    ap (λ (b : Line). with_set was b (in_front was b (record { state = M; bytes = a.0.bytes }))) to ∙
    ap (λ (c : Contents). with_set c k (in_front c k (record { state = M; bytes = a.0.bytes }))) is in
    let row = own_row u h k rows alone.are inside_u there (does.rowed ∙ ap (λ b. with_row u.rows b (Owner h)) to) in
    owned_step p u h addr size a.0 cache rows are inside access alone_k a.1 cached row.0 row.1

-- the holder has the line of the address
pub line_of_u : (p u : Parts) (h addr : ℕ) (l : Line) → l ≡ line_at (shown p).line_bytes addr → IsAlone h l p u → IsSome (held_state (shape_of (shown u)) (shown u).tags h (line_at (shown u).line_bytes addr))
line_of_u p u h addr l line alone = subst (λ (b : Line). IsSome (held_state (shape_of (shown u)) (shown u).tags h b)) (line ∙ sym (line_same p u addr alone.numbers)) alone.here

-- what the search of a cache for a store ensures
pub record IsStoreTry (p : Parts) (h addr size value : ℕ) (was : Contents) (found : Option Mesi) (cache : Contents) : Type 0 where
  pub read : was ≡ get_or p.caches h was
  pub state : found ≡ state_of was (line_at was.line_bytes addr)
  pub put : cache ≡ stored_if_owned was (line_at was.line_bytes addr) (line_offset addr was.line_bytes) size value

stored_owned : (c : Contents) (l : Line) (offset size value : ℕ) (a : Content) → content_of c l ≡ Some a → a.state ≢ S → stored_if_owned c l offset size value ≡ with_set c l (in_front c l (record { state = M; bytes = stored a.bytes offset size value }))
stored_owned c l offset size value a at owns = ap (λ o. stored_by c l offset size value o) at ∙ go a.state owns
  where
    go : (state : Mesi) → state ≢ S → stored_by c l offset size value (Some (record { state = state; bytes = a.bytes })) ≡ with_set c l (in_front c l (record { state = M; bytes = stored a.bytes offset size value }))
    go M is = refl
    go E is = refl
    go S is = absurd (is refl)

stored_shared : (c : Contents) (l : Line) (offset size value : ℕ) (a : Content) → content_of c l ≡ Some a → a.state ≡ S → stored_if_owned c l offset size value ≡ c
stored_shared c l offset size value a at shares = ap (λ o. stored_by c l offset size value o) at ∙ ap (λ s. stored_by c l offset size value (Some (record { state = s; bytes = a.bytes }))) shares

-- a store to a line that the holder has for itself
pub record IsStoreHit (p q : Parts) (h addr size value : ℕ) (state : Mesi) : Type 0 where
  pub are : AreParts q
  pub alone : IsAlone h (line_at (shown p).line_bytes addr) p p
  pub was : held_state (shape_of (shown p)) (shown p).tags h (line_at (shown p).line_bytes addr) ≡ Some state
  pub steps : StepsTo (after_store (shape_of (shown p)) (shown p).tags h (line_at (shown p).line_bytes addr)) (view_stored (shown p) addr size value) (shown p) (shown q)
  pub notes : access_notes (shape_of (shown p)) (shown p).tags h (line_at (shown p).line_bytes addr) true ≡ []

pub hit_store : (p : Parts) (h addr size value : ℕ) (was : Contents) (found : Option Mesi) (cache : Contents) (state : Mesi) → AreParts p → h < length p.caches → IsAccessTo (shown p) addr size → IsStoreTry p h addr size value was found cache → found ≡ Some state → state ≢ S → IsStoreHit p (moved p h cache p.memory p.rows) h addr size value state
hit_store p h addr size value was found cache state are inside access does is owned =
    let l : Line = line_at (shown p).line_bytes addr in
    let same : was ≡ cache_at p h = read_cache p h was inside does.read in
    let told = line_cached p h addr was are inside same in
    let a = state_content p h (line_at was.line_bytes addr) was state inside does.read (sym does.state ∙ is) in
    let at : held p l h ≡ Some a.0 = ap (λ b. held p b h) (sym told.1) ∙ a.1 in
    let owns : a.0.state ≢ S = λ s. owned (sym a.2 ∙ s) in
    let there = access_line p are addr size access in
    let content : content_of was (line_at was.line_bytes addr) ≡ Some a.0 = ap (λ (c : Contents). content_of c (line_at was.line_bytes addr)) same ∙ a.1 in
    let cached : cache ≡ with_set (cache_at p h) l (in_front (cache_at p h) l (record { state = M; bytes = stored a.0.bytes (line_offset addr p.memory.line_bytes) size value })) =
    does.put ∙ stored_owned was (line_at was.line_bytes addr) (line_offset addr was.line_bytes) size value a.0 content owns ∙
    ap (λ (n : ℕ). with_set was (line_at was.line_bytes addr) (in_front was (line_at was.line_bytes addr) (record { state = M; bytes = stored a.0.bytes (line_offset addr n) size value }))) told.0 ∙
    ap (λ (b : Line). with_set was b (in_front was b (record { state = M; bytes = stored a.0.bytes (line_offset addr p.memory.line_bytes) size value }))) told.1 ∙
    ap (λ (c : Contents). with_set c l (in_front c l (record { state = M; bytes = stored a.0.bytes (line_offset addr p.memory.line_bytes) size value }))) same in
    let owner : row_of p.rows l ≡ Owner h = (are.kept l there).owner h a.0 at owns in
    let rowed : IsRowed p.rows l p.rows = record { first = refl; count = refl; valid = are.rows; others = λ b b_in apart. refl } in
    let all = stored_step p p h addr size value a.0 cache p.rows are inside access (alone_owner p h l a.0 are at owns) at cached rowed owner in
    record {
      are = all.are;
      alone = alone_owner p h l a.0 are at owns;
      was = state_held p are l h a.0 at ∙ ap (λ s. Some s) a.2;
      steps = all.steps;
      notes = owned_notes p h l a.0 are at owns;
    }

-- a store that finds the line shared, or not at all, has changed nothing yet
pub no_store : (p : Parts) (h addr size value : ℕ) (was : Contents) (found : Option Mesi) (cache : Contents) → AreParts p → h < length p.caches → IsStoreTry p h addr size value was found cache → (found ≡ Some S) ⊎ (found ≡ None) → moved p h cache p.memory p.rows ≡ p
no_store p h addr size value was found cache are inside does why =
    let same : was ≡ cache_at p h = read_cache p h was inside does.read in
    let kept : cache ≡ was =
    does.put ∙ ⊎_elim
    (λ (shares : found ≡ Some S).
    let a = state_content p h (line_at was.line_bytes addr) was S inside does.read (sym does.state ∙ shares) in
    stored_shared was (line_at was.line_bytes addr) (line_offset addr was.line_bytes) size value a.0 (ap (λ (c : Contents). content_of c (line_at was.line_bytes addr)) same ∙ a.1) a.2)
    (λ (none : found ≡ None).
    let absent : content_of was (line_at was.line_bytes addr) ≡ None = no_content (content_of was (line_at was.line_bytes addr)) (sym does.state ∙ none) in
    ap (λ o. stored_by was (line_at was.line_bytes addr) (line_offset addr was.line_bytes) size value o) absent)
    why in
    ap (λ (cs : List Contents). record { sets = p.sets; ways = p.ways; memory = p.memory; rows = p.rows; caches = cs })
    (ap (λ c. set p.caches h c) (kept ∙ same) ∙ set-get_or p.caches h _)

-- a holder that has the line has its bytes to hand out
pub can_own : (p u : Parts) (h : ℕ) (l : Line) (was : Contents) → IsAlone h l p u → h < length u.caches → was ≡ get_or u.caches h was → IsHeld was l
can_own p u h l was alone inside read =
    let is : was ≡ cache_at u h = read_cache u h was inside read in
    let a = content_held u alone.are l h alone.here in
    let at : content_of was l ≡ Some a.0 = ap (λ (c : Contents). content_of c l) is ∙ a.1 in
    rw at refl

pub taken_bytes : (p u : Parts) (h addr : ℕ) (l : Line) (was : Contents) (out : List ℕ) → AreParts p → IsIn p.memory l → l ≡ line_at (shown p).line_bytes addr → IsAlone h l p u → h < length u.caches → was ≡ get_or u.caches h was → out ≡ handed_out (bytes_of was l) → out ≡ handed_out (view_of (shown p) (line_at (shown p).line_bytes addr))
taken_bytes p u h addr l was out are there line alone inside read is =
    let cache : was ≡ cache_at u h = read_cache u h was inside read in
    let a = content_held u alone.are l h alone.here in
    let bytes : bytes_of was l ≡ a.0.bytes = ap (λ (c : Contents). bytes_of c l) cache ∙ ap content_bytes a.1 in
    let in_u : IsIn u.memory l = range_new p u are alone.are alone.numbers l (range_of p are l there) in
    let seen_is : a.0.bytes ≡ view_of (shown u) l = sym (view_of_shown u alone.are l in_u ∙ seen_content u alone.are l h a.0 a.1) in
    is ∙ ap (λ b. handed_out b) (bytes ∙ seen_is ∙ view_same_line p u l alone.numbers alone.view ∙ ap (λ b. view_of (shown p) b) line)
