use Rattle.std.proofs.Common.{◌/◌, ◌*◌, ℕ, List, length, replicate, ap, sym, ◌∙◌}
use Rattle.std.proofs.lemmas.List.{length-replicate}
use Rattle.mesi_directory.specs.declared.row.Row.TheVariants.{Nobody}
use Rattle.line_memory.specs.Memory.{Memory}
use Rattle.coherent_mem.specs.Parts.{Parts, shown}
use Rattle.coherent_mem.proofs.MarkFacts.{marked_new}
use Rattle.coherent_mem.proofs.NewFacts.{new_tags, IsMade, IsNew, made, made_unused, new_parts}
use Rattle.coherent_mem.proofs.CoherentFacts.{coherent}
use Rattle.coherent_mem.proofs.coherent.Coherent.new.Goals as goal

pub invariant_of-result : goal.invariant_of-result
invariant_of-result c =
    let p : Parts = record { sets = c.args.sets; ways = c.args.ways; memory = c.in_ok-memory.memory; rows = c.in_ok-directory.directory; caches = c.in_ok-caches.caches.items } in
    let n : ℕ = c.args.line_bytes in
    let base : ℕ = c.args.code.now.base in
    let bytes : List ℕ = c.args.code.now.bytes in
    let is : IsMade p n base bytes c.args.holders = record {
      memory = c.in_ok-memory.ensures ∙ ap (λ (b : ℕ). record { line_bytes = n; base = b; bytes = c.bytes-bytes.result.now }) c.base-base.ensures.value ∙ ap (λ (bs : List ℕ). record { line_bytes = n; base = base; bytes = bs }) c.bytes-bytes.ensures.value;
      rows = c.in_ok-directory.ensures.empty ∙ ap (λ (f : ℕ). record { first = f; rows = replicate (length c.bytes-bytes.result.now / n) Nobody }) (c.line_of.ensures ∙ ap (λ (b : ℕ). b / n) c.base-base.ensures.value) ∙
          ap (λ (bs : List ℕ). record { first = base / n; rows = replicate (length bs / n) Nobody }) c.bytes-bytes.ensures.value;
      caches = c.in_ok-caches.ensures;
    } in
    let new : IsNew p c.args.holders = made p n base c.args.holders bytes is c.requires.memory c.requires.holders c.requires.some_sets c.requires.few_sets c.requires.some_ways c.requires.few_ways in
    let tags = new_tags p c.args.holders new in
    let items = c.in_ok-marks.ensures.items_if_clones_equal (λ y is. is) in
    let count = ap length is.caches ∙ length-replicate c.args.holders _ in
    (sym (ap (λ (m : Memory). m.line_bytes) is.memory), new_parts p c.args.holders new, marked_new (shown p) _ tags (ap length items ∙ length-replicate (c.args.holders * c.args.sets) _ ∙ ap (λ (k : ℕ). k * c.args.sets) (sym count)))

pub returns : goal.returns
returns c =
    let p : Parts = record { sets = c.args.sets; ways = c.args.ways; memory = c.in_ok-memory.memory; rows = c.in_ok-directory.directory; caches = c.in_ok-caches.caches.items } in
    let n : ℕ = c.args.line_bytes in
    let base : ℕ = c.args.code.now.base in
    let bytes : List ℕ = c.args.code.now.bytes in
    let is : IsMade p n base bytes c.args.holders = record {
      memory = c.in_ok-memory.ensures ∙ ap (λ (b : ℕ). record { line_bytes = n; base = b; bytes = c.bytes-bytes.result.now }) c.base-base.ensures.value ∙ ap (λ (bs : List ℕ). record { line_bytes = n; base = base; bytes = bs }) c.bytes-bytes.ensures.value;
      rows = c.in_ok-directory.ensures.empty ∙ ap (λ (f : ℕ). record { first = f; rows = replicate (length c.bytes-bytes.result.now / n) Nobody }) (c.line_of.ensures ∙ ap (λ (b : ℕ). b / n) c.base-base.ensures.value) ∙
          ap (λ (bs : List ℕ). record { first = base / n; rows = replicate (length bs / n) Nobody }) c.bytes-bytes.ensures.value;
      caches = c.in_ok-caches.ensures;
    } in
    let new : IsNew p c.args.holders = made p n base c.args.holders bytes is c.requires.memory c.requires.holders c.requires.some_sets c.requires.few_sets c.requires.some_ways c.requires.few_ways in
    record {
      unused = made_unused p n base c.args.holders bytes is new;
      kept = coherent p (new_parts p c.args.holders new);
    }
