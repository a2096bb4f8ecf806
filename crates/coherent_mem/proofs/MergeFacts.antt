-- The masked bytes of a commit come into a line that nobody holds any more.
use Rattle.std.proofs.Common.{◌≡◌, ◌≢◌, ℕ, ◌%◌, ◌+◌, ◌-◌, ◌*◌, ◌/◌, ◌<◌, ◌≤◌, ⊎_elim, List, [], ◌∷◌, ◌++◌, Option, Some, None, length, take, drop, sym, ap, subst, ◌∙◌, refl, arith, eqb, cond}
use Rattle.std.proofs.Math.Path.{fun_ext}
use Rattle.std.proofs.lemmas.List.{length-take-le, drop_all, append-nil}
use Rattle.std.proofs.lemmas.Bool.{cases_eq, eq-eqb}
use Rattle.std.specs.Option.{option_map}
use Rattle.conda_base.specs.declared.Line.{Line}
use Rattle.conda_base.specs.declared.Mesi.TheVariants.{M}
use Rattle.conda_base.specs.Marks.{mixed}
use Rattle.conda_base.proofs.LineLemmas.{line_size_bounds, line_by_number}
use Rattle.conda_base.proofs.MarkLemmas.{length-mixed}
use Rattle.cpu_cache.specs.Contents.{Content}
use Rattle.mesi_directory.specs.declared.row.Row.{Row}
use Rattle.mesi_directory.specs.Rows.{row_of}
use Rattle.traffic_trace.specs.Notes.{Trace, noted}
use Rattle.traffic_trace.specs.declared.note.Note.{Note}
use Rattle.traffic_trace.specs.declared.note.Kind.TheVariants.{Merge}
use Rattle.line_memory.specs.Notes.{all_notes, all_noted, note_of, leave_notes, merge_notes}
use Rattle.line_memory.specs.Memory.{Memory, IsIn, line_of, with_line, with_bytes}
use Rattle.line_memory.specs.Tags.{without_line, each_below, held_state}
use Rattle.line_memory.specs.Backing.{IsInRange, view_of, merged, committed_line, shape_of}
use Rattle.line_memory.proofs.MemoryLemmas.{bytes_of_line-with_line}
use Rattle.line_memory.proofs.WalkLemmas.{each_same}
use Rattle.coherent_mem.specs.Moves.{IsDropped, dropped_notes}
use Rattle.coherent_mem.specs.Parts.{Parts, AreParts, IsKept, held, seen, seen_below, shown, line_at_place, line_count, first_line}
use Rattle.coherent_mem.proofs.AloneFacts.{dropped_others, dropped_held, tags_past, view_same_line}
use Rattle.coherent_mem.proofs.CacheFacts.{test_off}
use Rattle.coherent_mem.proofs.CopyFacts.{clean_copy, noted_twice, range_new}
use Rattle.coherent_mem.proofs.FlushFacts.{other_set_none, same_backing}
use Rattle.coherent_mem.proofs.LineFacts.{cases_Option, none_not_some, seen_all}
use Rattle.coherent_mem.proofs.TagFacts.{state_of_content, state_shown}
use Rattle.coherent_mem.proofs.MissFacts.{without_line-none}
use Rattle.coherent_mem.proofs.PartFacts.{IsWritten, memory_new, in_new, in_same, place_in, written_line}
use Rattle.coherent_mem.proofs.PutFacts.{each_spliced}
use Rattle.coherent_mem.proofs.ViewFacts.{held_inside, length_seen, line_start}

-- the parts with other bytes of memory's own
abbrev pub with_memory : Parts → Memory → Parts
with_memory p m = record { sets = p.sets; ways = p.ways; memory = m; rows = p.rows; caches = p.caches }

nobody : (f : ℕ → Option Content) (row : Row) (copy new : List ℕ) → ((k : ℕ) → f k ≡ None) → IsKept f row copy → IsKept f row new
nobody f row copy new none is = record {
  holders = is.holders;
  owner = λ h a at. absurd (none_not_some (f h) a (none h) at);
  owned = λ h a at. absurd (none_not_some (f h) a (none h) at);
  clean = λ h a at. absurd (none_not_some (f h) a (none h) at);
}

-- a line that nobody holds has other bytes
pub record IsMixed (p : Parts) (l : Line) (new : List ℕ) (q : Parts) : Type 0 where
  pub are : AreParts q
  pub view : (shown q).view ≡ with_line p.memory.base p.memory.line_bytes (shown p).view l.0 new

pub mixed_line : (p : Parts) (l : Line) (new : List ℕ) → AreParts p → IsIn p.memory l → ((k : ℕ) → held p l k ≡ None) → length new ≡ p.memory.line_bytes → IsMixed p l new (with_memory p (with_bytes p.memory l new))
mixed_line p l new are there none long =
    let m = p.memory in
    let n : ℕ = m.line_bytes in
    let own : Memory = with_bytes m l new in
    let q : Parts = with_memory p own in
    let w : IsWritten m l own = written_line m l new are.memory there long in
    let now : line_of own l ≡ new = bytes_of_line-with_line m.base n l.0 m.bytes new are.memory there long in
    let count : line_count q ≡ line_count p = ap (λ (b : ℕ). b / n) w.size in
    let f : ℕ → List ℕ = λ i. seen p (line_at_place p i) in
    let g : ℕ → List ℕ = λ i. seen q (line_at_place p i) in
    let from = there.from in
    let below = there.below in
    let k : ℕ = l.0 - first_line p in
    let place : k < line_count p = omega arith in
    let at_place : line_at_place p k ≡ l = line_by_number _ l (omega arith) in
    let size : length (f k) ≡ n = length_seen p are (line_at_place p k) (place_in p k place) in
    let gone : drop (0 + n) (f k) ≡ [] = drop_all (0 + n) (f k) (omega arith) in
    let here : g k ≡ take 0 (f k) ++ new ++ drop (0 + n) (f k) =
    ap (λ a. seen q a) at_place ∙
    seen_all (length p.caches) (held p l) (line_of own l) new (λ h a at. absurd (none_not_some (held p l h) a (none h) at)) now ∙
    rw gone (sym (append-nil new)) in
    let spliced = each_spliced n (line_count p) k 0 n new f g
    (λ i inside. length_seen p are (line_at_place p i) (place_in p i inside)) place (omega arith) long
    (λ i inside apart. ap (λ (c : List ℕ). seen_below (length p.caches) (held p (line_at_place p i)) c) (w.others (line_at_place p i) (place_in p i inside) (λ same. apart (omega arith))))
    here in
    let start : k * n + 0 ≡ l.0 * n - m.base = sym (line_start p are l there ∙ omega arith) in
    record {
      are = record {
        memory = memory_new m own l w are.memory;
        few = are.few;
        some_sets = are.some_sets;
        few_sets = are.few_sets;
        some_ways = are.some_ways;
        few_ways = are.few_ways;
        fits = λ h inside. let was = are.fits h inside in record { is = was.is; line_bytes = was.line_bytes; sets = was.sets; ways = was.ways };
        first = are.first;
        count = are.count ∙ sym count;
        rows = are.rows;
        range = λ a h content at. in_new m own l a w (are.range a h content at);
        kept = λ a within.
            let was_in : IsIn m a = in_same m own l a w within in
            let was : IsKept (held p a) (row_of p.rows a) (line_of m a) = are.kept a was_in in
            ⊎_elim
            (λ (same : a.0 ≡ l.0). nobody (held p a) (row_of p.rows a) (line_of m a) (line_of own a) (λ h. ap (λ b. held p b h) (line_by_number a l same) ∙ none h) was)
            (λ (apart : a.0 ≢ l.0). subst (λ (c : List ℕ). IsKept (held p a) (row_of p.rows a) c) (sym (w.others a was_in apart)) was)
            (cases_eq a.0 l.0);
      };
      view = ap (λ (c : ℕ). each_below c g) count ∙ spliced ∙ ap (λ (s : ℕ). take s (shown p).view ++ new ++ drop (s + n) (shown p).view) start;
    }

-- what a merge leaves
pub record IsMerge (p q : Parts) (l : Line) (bytes : List ℕ) (mask : ℕ) : Type 0 where
  pub are : AreParts q
  pub merged : shown q ≡ merged (shown p) l bytes mask

pub merging : (p q : Parts) (l : Line) (bytes : List ℕ) (mask : ℕ) (memory : Memory) → AreParts p → IsInRange (shown p) l → length bytes ≡ 128 → IsDropped (length p.caches) l (length p.caches) p q
    → memory ≡ with_bytes q.memory l (mixed mask (take q.memory.line_bytes bytes) (line_of q.memory l)) → IsMerge p (with_memory q memory) l bytes mask
merging p q l bytes mask memory are there long dropped mixed_is =
    let h : ℕ = length p.caches in
    let n : ℕ = q.memory.line_bytes in
    let there_q : IsIn q.memory l = range_new p q are dropped.are dropped.numbers l there in
    let none : (k : ℕ) → held q l k ≡ None = λ k. ⊎_elim
    (λ (same : k ≡ h). none_past q l k dropped.are (omega (arith, dropped.numbers.holders)))
    (λ (apart : k ≢ h). dropped_held p q h l dropped k apart) (cases_eq k h) in
    let states : (k : ℕ) → held_state (shape_of (shown q)) (shown q).tags k l ≢ Some M = λ k m.
    let is : option_map state_of_content (held q l k) ≡ Some M = sym (state_shown q dropped.are l k) ∙ m in
    let both : option_map state_of_content None ≡ Some M = ap (λ o. option_map state_of_content o) (sym (none k)) ∙ is in absurd cc in
    let copy : line_of q.memory l ≡ view_of (shown p) l = clean_copy q dropped.are l there_q states ∙ view_same_line p q l dropped.numbers dropped.view in
    let new : List ℕ = mixed mask (take n bytes) (line_of q.memory l) in
    let bounds = line_size_bounds n dropped.are.memory.size in
    let size : length new ≡ n = length-mixed mask (take n bytes) (line_of q.memory l) ∙ length-take-le n bytes (omega arith) in
    let all = mixed_line q l new dropped.are there_q none size in
    let P : Memory → Type 0 = λ m. IsMerge p (with_memory q m) l bytes mask in
    let bytes_are : new ≡ committed_line (shown p) l bytes mask =
    ap (λ (c : List ℕ). mixed mask (take n bytes) c) copy ∙ ap (λ (k : ℕ). mixed mask (take k bytes) (view_of (shown p) l)) dropped.numbers.line_bytes in
    let t : Parts = with_memory q (with_bytes q.memory l new) in
    let tags : (k s : ℕ) → (shown q).tags k s ≡ without_line l ((shown p).tags k s) = λ k s.
    ⊎_elim
    (λ (same : k ≡ h).
    let past : (shown p).tags k s ≡ [] = tags_past p k s (omega arith) in
    tags_past q k s (omega (arith, dropped.numbers.holders)) ∙ sym (ap (λ ts. without_line l ts) past))
    (λ (apart : k ≢ h). dropped_others p q h l dropped k s apart ∙ ⊎_elim
    (λ (here : s ≡ l.0 % p.sets). rw (eq-eqb s (l.0 % p.sets) here) refl)
    (λ (other : s ≢ l.0 % p.sets). rw (test_off s (l.0 % p.sets) other) (sym (without_line-none l ((shown p).tags k s) (other_set_none p are l k s other))))
    (cases_eq s (l.0 % p.sets)))
    (cases_eq k h) in
    let view : (shown t).view ≡ with_line p.memory.base p.memory.line_bytes (shown p).view l.0 (committed_line (shown p) l bytes mask) =
    all.view ∙
    ap (λ (b : ℕ). with_line b n (shown q).view l.0 new) dropped.numbers.base ∙
    ap (λ (k : ℕ). with_line p.memory.base k (shown q).view l.0 new) dropped.numbers.line_bytes ∙
    ap (λ (v : List ℕ). with_line p.memory.base p.memory.line_bytes v l.0 new) dropped.view ∙
    ap (λ (c : List ℕ). with_line p.memory.base p.memory.line_bytes (shown p).view l.0 c) bytes_are in
    let copies : (shown t).copies ≡ with_line p.memory.base p.memory.line_bytes p.memory.bytes l.0 (committed_line (shown p) l bytes mask) =
    dropped.own new ∙ ap (λ (c : List ℕ). with_line p.memory.base p.memory.line_bytes p.memory.bytes l.0 c) bytes_are in
    subst P (sym mixed_is) (record {
      are = all.are;
      merged = same_backing (shown t) (merged (shown p) l bytes mask) dropped.numbers.line_bytes dropped.numbers.base dropped.numbers.holders dropped.numbers.sets dropped.numbers.ways view copies (fun_ext (λ k. fun_ext (λ s. tags k s)));
    })
  where
    none_past : (q : Parts) (l : Line) (k : ℕ) → AreParts q → length q.caches ≤ k → held q l k ≡ None
    none_past q l k are past = ⊎_elim (λ none. none) (λ (some : (a : Content) × (held q l k ≡ Some a)). let inside = held_inside q l k some.0 some.1 in absurd (omega arith)) (cases_Option (held q l k))

-- the notes of a merge
pub merge_noted : (p : Parts) (core : ℕ) (l : Line) (trace : Trace) → noted (all_noted trace (dropped_notes (shown p) (length p.caches) l (length p.caches))) (note_of Merge core l) ≡ all_noted trace (merge_notes (shape_of (shown p)) (shown p).tags core l)
merge_noted p core l trace =
    let h : ℕ = length p.caches in
    let same : dropped_notes (shown p) h l h ≡ all_notes leave_notes (shape_of (shown p)) (shown p).tags l =
    each_same h (λ k. cond (eqb k h) [] (leave_notes l k (held_state (shape_of (shown p)) (shown p).tags k l))) (λ k. leave_notes l k (held_state (shape_of (shown p)) (shown p).tags k l))
    (λ k below. rw (test_off k h (λ same. absurd (omega arith))) refl) in
    ap (λ (ns : List Note). noted (all_noted trace ns) (note_of Merge core l)) same ∙
    sym (noted_twice trace (all_notes leave_notes (shape_of (shown p)) (shown p).tags l) (note_of Merge core l ∷ []))
