-- A coherent memory that nobody has used.
use Rattle.std.proofs.Common.{◌≡◌, ℕ, zero, suc, ◌%◌, ◌+◌, ◌-◌, ◌*◌, ◌<◌, ◌≤◌, ◌⊎◌, inl, inr, ⊎_elim, List, [], ◌++◌, None, length, get_or, take, drop, replicate, map, sym, ap, subst, ◌∙◌, refl, arith, eqb, ◌/◌}
use Rattle.std.specs.Option.{is_some}
use Rattle.std.proofs.lemmas.List.{get_or-replicate, get_or_past, length-replicate, take_all}
use Rattle.std.proofs.lemmas.Bool.{cases_lt}
use Rattle.std.proofs.lemmas.Nat.Bits.{bit_at-zero}
use Rattle.std.proofs.Math.Seq.{take-add}
use Rattle.conda_base.specs.declared.Line.{Line}
use Rattle.conda_base.proofs.LineLemmas.{line_bytes_in_memory, whole_split}
use Rattle.conda_base.specs.Lines.{IsLineSize}
use Rattle.set_assoc.specs.Entries.{lookup}
use Rattle.cpu_cache.specs.Contents.{Content, Contents, content_of, tag_of, IsCache, no_contents, tags_of}
use Rattle.mesi_directory.specs.declared.row.Row.TheVariants.{Nobody}
use Rattle.mesi_directory.specs.Rows.{Rows, row_of, has_holder}
use Rattle.line_memory.specs.Memory.{Memory, IsMemory, line_of}
use Rattle.line_memory.specs.Tags.{each_below}
use Rattle.line_memory.proofs.MemoryLemmas.{bytes_of_line-in}
use Rattle.line_memory.proofs.WalkLemmas.{each_same}
use Rattle.coherent_mem.proofs.FlushFacts.{same_backing}
use Rattle.std.proofs.Math.Path.{fun_ext}
use Rattle.coherent_mem.specs.Parts.{Parts, AreParts, cache_at, held, seen, shown, FitsIn, line_at_place, line_count, first_line}
use Rattle.coherent_mem.specs.Steps.{unused}
use Rattle.coherent_mem.proofs.LineFacts.{none_not_some, seen_all}
use Rattle.coherent_mem.proofs.PartFacts.{place_in}
use Rattle.coherent_mem.proofs.ViewFacts.{line_start}

repeated : {A : Type 0} (n i : ℕ) (x : A) → get_or (replicate n x) i x ≡ x
repeated n i x =
    ⊎_elim (λ (inside : i < n). get_or-replicate n i x x inside)
    (λ (past : n ≤ i). get_or_past (replicate n x) i x (rw (length-replicate n x) past)) (cases_lt i n)

empty_tags : (n sets ways s : ℕ) → tags_of (no_contents n sets ways) s ≡ []
empty_tags n sets ways s = ap (λ es. map tag_of es) (repeated sets s [])

empty_content : (n sets ways : ℕ) (l : Line) → content_of (no_contents n sets ways) l ≡ None
empty_content n sets ways l = ap (λ es. lookup l es) (repeated sets (l.0 % length (replicate {A = List (Line × Content)} sets [])) [])

empty_cache : (n sets ways : ℕ) → IsLineSize n → 0 < sets → 0 < ways → ways ≤ 8 → IsCache (no_contents n sets ways)
empty_cache n sets ways size some some_ways few = record {
  size = size;
  sets = record {
    count = refl;
    some = rw (length-replicate {A = List (Line × Content)} sets []) some;
    some_ways = some_ways;
    few_ways = few;
    entries = λ k below. rw (repeated {A = List (Line × Content)} sets k []) tt;
    short = λ k d below. rw (get_or-replicate {A = List (Line × Content)} sets k [] d (rw (length-replicate {A = List (Line × Content)} sets []) at below)) (omega arith);
  };
  bytes = λ l. rw (empty_content n sets ways l) tt;
}

-- the parts of a new memory
pub record IsNew (p : Parts) (holders : ℕ) : Type 0 where
  pub memory : IsMemory p.memory.line_bytes p.memory.base (length p.memory.bytes)
  pub few : holders ≤ 12
  pub some_sets : 0 < p.sets
  pub few_sets : p.sets ≤ 256
  pub some_ways : 0 < p.ways
  pub few_ways : p.ways ≤ 8
  pub first : p.rows.first ≡ first_line p
  pub rows : p.rows.rows ≡ replicate (line_count p) Nobody
  pub caches : p.caches ≡ replicate holders (no_contents p.memory.line_bytes p.sets p.ways)

cache_new : (p : Parts) (holders h : ℕ) → IsNew p holders → (cache_at p h ≡ no_contents p.memory.line_bytes p.sets p.ways) ⊎ (cache_at p h ≡ no_contents 0 0 0)
cache_new p holders h is =
    ⊎_elim
    (λ (inside : h < holders). inl (ap (λ cs. get_or cs h (no_contents 0 0 0)) is.caches ∙ get_or-replicate holders h (no_contents p.memory.line_bytes p.sets p.ways) (no_contents 0 0 0) inside))
    (λ (past : holders ≤ h). inr (ap (λ cs. get_or cs h (no_contents 0 0 0)) is.caches ∙ get_or_past (replicate holders (no_contents p.memory.line_bytes p.sets p.ways)) h (no_contents 0 0 0) (rw (length-replicate holders (no_contents p.memory.line_bytes p.sets p.ways)) past)))
    (cases_lt h holders)

none_held : (p : Parts) (holders : ℕ) → IsNew p holders → (l : Line) (h : ℕ) → held p l h ≡ None
none_held p holders is l h =
    ⊎_elim
    (λ (one : cache_at p h ≡ no_contents p.memory.line_bytes p.sets p.ways). ap (λ (c : Contents). content_of c l) one ∙ empty_content p.memory.line_bytes p.sets p.ways l)
    (λ (none : cache_at p h ≡ no_contents 0 0 0). ap (λ (c : Contents). content_of c l) none ∙ empty_content 0 0 0 l)
    (cache_new p holders h is)

pub new_parts : (p : Parts) (holders : ℕ) → IsNew p holders → AreParts p
new_parts p holders is =
    let count : length p.caches ≡ holders = ap length is.caches ∙ length-replicate holders (no_contents p.memory.line_bytes p.sets p.ways) in
    record {
      memory = is.memory;
      few = rw count is.few;
      some_sets = is.some_sets;
      few_sets = is.few_sets;
      some_ways = is.some_ways;
      few_ways = is.few_ways;
      fits = λ h inside.
          let one : cache_at p h ≡ no_contents p.memory.line_bytes p.sets p.ways =
          ap (λ cs. get_or cs h (no_contents 0 0 0)) is.caches ∙ get_or-replicate holders h (no_contents p.memory.line_bytes p.sets p.ways) (no_contents 0 0 0) (rw count at inside) in
          let P : Contents → Type 0 = λ c. FitsIn p c in
          let fits : FitsIn p (no_contents p.memory.line_bytes p.sets p.ways) = record {
            is = empty_cache p.memory.line_bytes p.sets p.ways is.memory.size is.some_sets is.some_ways is.few_ways;
            line_bytes = refl;
            sets = length-replicate {A = List (Line × Content)} p.sets [];
            ways = refl;
          } in
          subst P (sym one) fits;
      first = is.first;
      count = ap length is.rows ∙ length-replicate (line_count p) Nobody;
      rows = rw is.rows (λ k. rw (repeated (line_count p) k Nobody) tt);
      range = λ l h a at. absurd (none_not_some (held p l h) a (none_held p holders is l h) at);
      kept = λ l there. let row : row_of p.rows l ≡ Nobody = ap (λ rs. get_or rs (l.0 - p.rows.first) Nobody) is.rows ∙ repeated (line_count p) (l.0 - p.rows.first) Nobody in
          record {
            holders = λ h. ap (λ r. has_holder r h) row ∙ ap (λ n. eqb n 1) (bit_at-zero h) ∙ sym (ap is_some (none_held p holders is l h));
            owner = λ h a at. absurd (none_not_some (held p l h) a (none_held p holders is l h) at);
            owned = λ h a at. absurd (none_not_some (held p l h) a (none_held p holders is l h) at);
            clean = λ h a at. absurd (none_not_some (held p l h) a (none_held p holders is l h) at);
          };
    }

chunks : (n count : ℕ) (xs : List ℕ) → each_below count (λ i. take n (drop (i * n) xs)) ≡ take (count * n) xs
chunks n zero xs = let none : 0 * n ≡ 0 = omega arith in sym (ap (λ k. take k xs) none)
chunks n (suc count) xs =
    let more : suc count * n ≡ count * n + n = omega arith in
    ap (λ ys. ys ++ take n (drop (count * n) xs)) (chunks n count xs) ∙ sym (take-add (count * n) n xs) ∙ ap (λ k. take k xs) (sym more)

pub new_view : (p : Parts) (holders : ℕ) → IsNew p holders → (shown p).view ≡ p.memory.bytes
new_view p holders is =
    let are = new_parts p holders is in
    let m = p.memory in
    let n : ℕ = m.line_bytes in
    each_same (line_count p) (λ i. seen p (line_at_place p i)) (λ i. take n (drop (i * n) m.bytes))
    (λ i below.
    let l : Line = line_at_place p i in
    let there = place_in p i below in
    let span = line_bytes_in_memory m.base (length m.bytes) n l.0 is.memory.size is.memory.whole_base is.memory.whole_bytes there in
    let place : l.0 - first_line p ≡ i = omega arith in
    seen_all (length p.caches) (held p l) (line_of m l) (line_of m l) (λ h a at. absurd (none_not_some (held p l h) a (none_held p holders is l h) at)) refl ∙
    bytes_of_line-in m.base n l.0 m.bytes span.0 ∙
    ap (λ s. take n (drop s m.bytes)) (line_start p are l there ∙ ap (λ k. k * n) place)) ∙
    chunks n (line_count p) m.bytes ∙
    take_all (line_count p * n) m.bytes (omega (arith, whole_split (length m.bytes) n is.memory.whole_bytes))

pub new_tags : (p : Parts) (holders : ℕ) → IsNew p holders → (h s : ℕ) → (shown p).tags h s ≡ []
new_tags p holders is h s = ⊎_elim
    (λ (one : cache_at p h ≡ no_contents p.memory.line_bytes p.sets p.ways). ap (λ (c : Contents). tags_of c s) one ∙ empty_tags p.memory.line_bytes p.sets p.ways s)
    (λ (none : cache_at p h ≡ no_contents 0 0 0). ap (λ (c : Contents). tags_of c s) none ∙ empty_tags 0 0 0 s)
    (cache_new p holders h is)

pub new_unused : (p : Parts) (holders : ℕ) → IsNew p holders → shown p ≡ unused p.memory.line_bytes holders p.sets p.ways p.memory.base p.memory.bytes
new_unused p holders is = same_backing (shown p) (unused p.memory.line_bytes holders p.sets p.ways p.memory.base p.memory.bytes)
    refl refl (ap length is.caches ∙ length-replicate holders (no_contents p.memory.line_bytes p.sets p.ways)) refl refl
    (new_view p holders is) refl (fun_ext (λ h. fun_ext (λ s. new_tags p holders is h s)))

-- the parts that are made
pub record IsMade (p : Parts) (n base : ℕ) (bytes : List ℕ) (holders : ℕ) : Type 0 where
  pub memory : p.memory ≡ record { line_bytes = n; base = base; bytes = bytes }
  pub rows : p.rows ≡ record { first = base / n; rows = replicate (length bytes / n) Nobody }
  pub caches : p.caches ≡ replicate holders (no_contents n p.sets p.ways)

pub made : (p : Parts) (n base holders : ℕ) (bytes : List ℕ) → IsMade p n base bytes holders → IsMemory n base (length bytes) → holders ≤ 12 → 0 < p.sets → p.sets ≤ 256 → 0 < p.ways → p.ways ≤ 8 → IsNew p holders
made p n base holders bytes is memory few some_sets few_sets some_ways few_ways = record {
  memory = subst (λ (m : Memory). IsMemory m.line_bytes m.base (length m.bytes)) (sym is.memory) memory;
  few = few;
  some_sets = some_sets;
  few_sets = few_sets;
  some_ways = some_ways;
  few_ways = few_ways;
  first = ap (λ (d : Rows). d.first) is.rows ∙ sym (ap (λ (m : Memory). m.base / m.line_bytes) is.memory);
  rows = ap (λ (d : Rows). d.rows) is.rows ∙ sym (ap (λ (m : Memory). replicate (length m.bytes / m.line_bytes) Nobody) is.memory);
  caches = is.caches ∙ sym (ap (λ (m : Memory). replicate holders (no_contents m.line_bytes p.sets p.ways)) is.memory);
}

pub made_unused : (p : Parts) (n base holders : ℕ) (bytes : List ℕ) → IsMade p n base bytes holders → IsNew p holders → shown p ≡ unused n holders p.sets p.ways base bytes
made_unused p n base holders bytes is new = new_unused p holders new ∙ ap (λ (m : Memory). unused m.line_bytes holders p.sets p.ways m.base m.bytes) is.memory
