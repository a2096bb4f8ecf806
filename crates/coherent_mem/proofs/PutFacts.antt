-- A line becomes modified in the cache of its only holder.
use Rattle.std.proofs.Common.{◌≡◌, ◌≢◌, ℕ, zero, suc, ◌%◌, ◌+◌, ◌-◌, ◌*◌, ◌<◌, ◌≤◌, ⊎_elim, List, ◌∷◌, ◌++◌, Some, None, length, take, drop, map, sym, ap, subst, ◌∙◌, refl, arith, append_assoc, rules, ◌/◌}
use Rattle.std.proofs.lemmas.List.{places, same_lists, take-append-le, drop-append-le}
use Rattle.std.proofs.lemmas.Bool.{cases_lt}
use Rattle.std.proofs.Math.Nat.{mul-le-mul_left}
use Rattle.std.specs.Int.{to_le_bytes, w32}
use Rattle.conda_base.specs.declared.Line.{Line}
use Rattle.conda_base.specs.declared.Mesi.TheVariants.{M}
use Rattle.conda_base.proofs.LineLemmas.{access_in_line, place_in_memory, line_by_number}
use Rattle.conda_base.specs.Bytes.{stored}
use Rattle.conda_base.specs.Lines.{line_offset}
use Rattle.conda_base.specs.LineLists.{line_at}
use Rattle.cpu_cache.specs.Contents.{Content, Contents, set_list, tag_of, with_set, in_front}
use Rattle.set_assoc.proofs.FindFacts.{list_entries}
use Rattle.conda_base.proofs.ByteLemmas.{length-low_bytes}
use Rattle.mesi_directory.specs.declared.row.Row.{Row}
use Rattle.mesi_directory.specs.declared.row.Row.TheVariants.{Owner}
use Rattle.mesi_directory.specs.Rows.{Rows, row_of}
use Rattle.line_memory.specs.Memory.{Memory, line_of}
use Rattle.line_memory.specs.Tags.{without_line, each_below}
use Rattle.line_memory.proofs.WalkLemmas.{each_same}
use Rattle.coherent_mem.specs.Moves.{list_at, relisted}
use Rattle.coherent_mem.specs.Parts.{Parts, AreParts, IsKept, cache_at, held, seen, shown, line_at_place, line_count, first_line}
use Rattle.coherent_mem.specs.Steps.{IsAccessTo, view_stored}
use Rattle.coherent_mem.proofs.CacheFacts.{edit_front}
use Rattle.coherent_mem.proofs.LineFacts.{kept_owned}
use Rattle.coherent_mem.proofs.PartFacts.{IsRowed, IsPartEdit, written_none, held_here, held_beside, parts_edited, view_same, place_in, seen_other}
use Rattle.coherent_mem.proofs.TagFacts.{tags_edited, without_line-map}
use Rattle.coherent_mem.proofs.ViewFacts.{held_inside, length_each, length_seen}
use Rattle.coherent_mem.proofs.HitFacts.{access_line}
use Rattle.coherent_mem.proofs.MoveFacts.{moved, list_entries_of, seen_content}

-- some bytes of a list in the middle of other bytes
splice_left : (xs ys new : List ℕ) (s m : ℕ) → s + m ≤ length xs → (take s xs ++ new ++ drop (s + m) xs) ++ ys ≡ take s (xs ++ ys) ++ new ++ drop (s + m) (xs ++ ys)
splice_left xs ys new s m within =
    append_assoc (take s xs ++ new) (drop (s + m) xs) ys ∙
    ap (λ front. (front ++ new) ++ (drop (s + m) xs ++ ys)) (sym (take-append-le s xs ys (omega arith))) ∙
    ap (λ rest. (take s (xs ++ ys) ++ new) ++ rest) (sym (drop-append-le (s + m) xs ys within))

splice_right : (xs ys new : List ℕ) (s o m : ℕ) → s ≡ length xs + o → o + m ≤ length ys → length new ≡ m → xs ++ (take o ys ++ new ++ drop (o + m) ys) ≡ take s (xs ++ ys) ++ new ++ drop (s + m) (xs ++ ys)
splice_right xs ys new s o m at within size = same_lists _ _ (search (rules, places)) (λ k d below. grind (arith, places))

-- lists end to end, one of which has other bytes at a place
pub each_spliced : (n count k o m : ℕ) (new : List ℕ) (f g : ℕ → List ℕ) → ((i : ℕ) → i < count → length (f i) ≡ n) → k < count → o + m ≤ n → length new ≡ m → ((i : ℕ) → i < count → i ≢ k → g i ≡ f i) → g k ≡ take o (f k) ++ new ++ drop (o + m) (f k)
    → each_below count g ≡ take (k * n + o) (each_below count f) ++ new ++ drop (k * n + o + m) (each_below count f)
each_spliced n zero k o m new f g long below within size others here = absurd (omega arith)
each_spliced n (suc count) k o m new f g long below within size others here =
    let all = length_each n count f (λ i inside. long i (omega arith)) in
    ⊎_elim
    (λ (earlier : k < count).
    let gap = mul-le-mul_left n earlier in
    let inside : k * n + o + m ≤ length (each_below count f) = omega arith in
    ap (λ xs. xs ++ g count) (each_spliced n count k o m new f g (λ i inside. long i (omega arith)) earlier within size (λ i inside. others i (omega arith)) here) ∙
    ap (λ ys. (take (k * n + o) (each_below count f) ++ new ++ drop (k * n + o + m) (each_below count f)) ++ ys) (others count (omega arith) (λ same. let eq : count ≡ k = same in absurd (omega arith))) ∙
    splice_left (each_below count f) (f count) new (k * n + o) m inside)
    (λ (from : count ≤ k).
    let same : k ≡ count = omega arith in
    let front : each_below count g ≡ each_below count f = each_same count g f (λ i inside. others i (omega arith) (λ eq. let e : i ≡ k = eq in absurd (omega arith))) in
    let last : g count ≡ take o (f count) ++ new ++ drop (o + m) (f count) = ap g (sym same) ∙ here ∙ ap (λ i. take o (f i) ++ new ++ drop (o + m) (f i)) same in
    let size_last : length (f count) ≡ n = long count (omega arith) in
    let start : k * n + o ≡ length (each_below count f) + o = ap (λ i. i * n + o) same ∙ omega arith in
    ap (λ xs. xs ++ g count) front ∙ ap (λ ys. each_below count f ++ ys) last ∙
    splice_right (each_below count f) (f count) new (k * n + o) o m start (omega arith) size)
    (cases_lt k count)

-- the parts once a line is in M in the cache of its only holder
pub record IsPut (p q : Parts) (h : ℕ) (l : Line) (bytes : List ℕ) : Type 0 where
  pub edit : IsPartEdit p h l (Some (record { state = M; bytes = bytes })) q
  pub are : AreParts q
  pub tags : (k s : ℕ) → (shown q).tags k s ≡ relisted (shown p).tags h (l.0 % p.sets) ((l, M) ∷ without_line l (list_at (shown p) h l)) k s
  pub seen : seen q l ≡ bytes
  pub memory : q.memory ≡ p.memory

pub put_modified : (p : Parts) (h : ℕ) (l : Line) (a : Content) (bytes : List ℕ) (cache : Contents) (rows : Rows) → AreParts p → held p l h ≡ Some a → ((k : ℕ) → k ≢ h → held p l k ≡ None) → length bytes ≡ p.memory.line_bytes
    → cache ≡ with_set (cache_at p h) l (in_front (cache_at p h) l (record { state = M; bytes = bytes })) → IsRowed p.rows l rows → row_of rows l ≡ Owner h → IsPut p (moved p h cache p.memory rows) h l bytes
put_modified p h l a bytes cache rows are at alone long put rowed row =
    let inside = held_inside p l h a at in
    let there = are.range l h a at in
    let fits = are.fits h inside in
    let c = cache_at p h in
    let new : Content = record { state = M; bytes = bytes } in
    let q : Parts = moved p h cache p.memory rows in
    let e : IsPartEdit p h l (Some new) q = record {
      sets = refl;
      ways = refl;
      memory = written_none p.memory l;
      rows = rowed;
      cache = cache;
      caches = refl;
      edited = rw put (edit_front c l a new fits.is at (long ∙ sym fits.line_bytes));
    } in
    let here : held q l h ≡ Some new = held_here p q h l (Some new) inside e in
    let owned : IsKept (held q l) (Owner h) (line_of p.memory l) =
    kept_owned (held q l) (line_of p.memory l) h new here (λ same. cc) (λ k apart. held_beside p q h k l l (Some new) e apart ∙ alone k apart) (λ apart. absurd (apart refl)) in
    let parts : AreParts q = parts_edited p q h l (Some new) are inside there e (subst (λ (r : Row). IsKept (held q l) r (line_of p.memory l)) (sym row) owned) in
    let list : (l, M) ∷ without_line l (list_at (shown p) h l) ≡ map tag_of (in_front c l new) =
    ap (λ ts. (l, M) ∷ without_line l ts) (list_entries_of p are h l inside) ∙ ap (λ ts. (l, M) ∷ ts) (without_line-map _ _ l (set_list c l) (list_entries c.lines l fits.is.sets)) in
    record {
      edit = e;
      are = parts;
      tags = λ k s. rw list (tags_edited p q h l (Some new) (in_front c l new) are inside e put k s);
      seen = seen_content q parts l h new here;
      memory = refl;
    }

-- users see what they saw, where the bytes are those
pub put_same : (p q : Parts) (h : ℕ) (l : Line) (bytes : List ℕ) → AreParts p → h < length p.caches → IsPut p q h l bytes → bytes ≡ seen p l → (shown q).view ≡ (shown p).view
put_same p q h l bytes are inside is same = view_same p q h l (Some (record { state = M; bytes = bytes })) are inside is.edit (is.seen ∙ same)

-- they see a stored number, where the bytes have it
pub put_stored : (p q : Parts) (h addr size value : ℕ) (bytes : List ℕ) → AreParts p → h < length p.caches → IsAccessTo (shown p) addr size → IsPut p q h (line_at (shown p).line_bytes addr) bytes → bytes ≡ stored (seen p (line_at (shown p).line_bytes addr)) (line_offset addr p.memory.line_bytes) size value → (shown q).view ≡ view_stored (shown p) addr size value
put_stored p q h addr size value bytes are inside access is same =
    let n : ℕ = p.memory.line_bytes in
    let l : Line = line_at (shown p).line_bytes addr in
    let count : ℕ = line_count p in
    let there = access_line p are addr size access in
    let from = there.from in
    let below = there.below in
    let place : l.0 - first_line p < count = omega arith in
    let within = access_in_line addr size n are.memory.size access.size access.aligned in
    let e = is.edit in
    let f : ℕ → List ℕ = λ i. seen p (line_at_place p i) in
    let g : ℕ → List ℕ = λ i. seen q (line_at_place p i) in
    let line_place : line_at_place p (l.0 - first_line p) ≡ l = line_by_number _ l (omega arith) in
    let q_view : (shown q).view ≡ each_below count g = ap (λ (m : Memory). each_below (length m.bytes / m.line_bytes) (λ i. seen q (record { 0 = m.base / m.line_bytes + i }))) is.memory in
    let start : (l.0 - first_line p) * n + line_offset addr n ≡ addr - p.memory.base = place_in_memory p.memory.base n addr are.memory.size are.memory.whole_base access.from in
    q_view ∙
    each_spliced n count (l.0 - first_line p) (line_offset addr n) size (take size (to_le_bytes w32 value)) f g
    (λ i inside_i. length_seen p are (line_at_place p i) (place_in p i inside_i)) place within (length-low_bytes size value access.size)
    (λ i inside_i apart. seen_other p q h l (line_at_place p i) (Some (record { state = M; bytes = bytes })) are inside e (place_in p i inside_i) (λ at. apart (omega arith)))
    (ap (λ b. seen q b) line_place ∙ is.seen ∙ same ∙ ap (λ b. stored (seen p b) (line_offset addr n) size value) (sym line_place)) ∙
    ap (λ (s : ℕ). take s (shown p).view ++ take size (to_le_bytes w32 value) ++ drop (s + size) (shown p).view) start
