use Rattle.std.proofs.Common.{◌≡◌, ◌⊎◌, ℕ, true, Some, ap, sym, subst, ◌∙◌, refl}
use Rattle.conda_base.specs.Bytes.{value_at}
use Rattle.conda_base.specs.Lines.{line_offset}
use Rattle.conda_base.specs.LineLists.{line_at}
use Rattle.write_masks.specs.declared.Masked.{Masked}
use Rattle.write_masks.specs.Marks.{Covers}
use Rattle.nda_cache.specs.Slots.{slot_entry}
use Rattle.nda_cache.specs.Tried.{known_of}
use Rattle.nda_cache.proofs.TriedFacts.{known_in, found_there}
use Rattle.nda_cache.proofs.cache.NdaCache.read_found.Goals as goal

pub get-requires-clause-known : goal.get-requires-clause-known
get-requires-clause-known c =
    let n = c.self.inside.lines.line_bytes in
    let found = found_there _ _ _ _ _ _ (line_at n c.args.addr) (Some c.args.place) c.args.place c.self.invariant.0 (rw (← c.self.view_is) at c.requires.found) refl in
    let offset : c.offset_of-offset.result ≡ line_offset c.args.addr c.args.self.now.line_bytes =
    c.offset_of-offset.ensures.place ∙ ap (line_offset c.args.addr) c.line_bytes.ensures.same in
    let same : (slot_entry c.self.inside.lines c.args.place).1 ≡ known_of c.args.self.now (line_at c.args.self.now.line_bytes c.args.addr) =
    rw (← c.self.view_is) (known_in c.self.inside.lines c.self.inside.index (line_at n c.args.addr) c.args.place c.self.invariant.0.is_index found) in
    let P : Masked → Type 0 = λ m. (m.filled ≡ true) ⊎ Covers m.mask (line_offset c.args.addr c.args.self.now.line_bytes) c.args.size in
    let Q : ℕ → Type 0 = λ o. ((slot_entry c.self.inside.lines c.args.place).1.filled ≡ true) ⊎ Covers (slot_entry c.self.inside.lines c.args.place).1.mask o c.args.size in
    subst Q (sym offset) (subst P (sym same) c.requires.known)

pub returns : goal.returns
returns c =
    let n = c.self.inside.lines.line_bytes in
    let found = found_there _ _ _ _ _ _ (line_at n c.args.addr) (Some c.args.place) c.args.place c.self.invariant.0 (rw (← c.self.view_is) at c.requires.found) refl in
    let offset : c.offset_of-offset.result ≡ line_offset c.args.addr c.args.self.now.line_bytes =
    c.offset_of-offset.ensures.place ∙ ap (line_offset c.args.addr) c.line_bytes.ensures.same in
    let same : (slot_entry c.self.inside.lines c.args.place).1 ≡ known_of c.args.self.now (line_at c.args.self.now.line_bytes c.args.addr) =
    rw (← c.self.view_is) (known_in c.self.inside.lines c.self.inside.index (line_at n c.args.addr) c.args.place c.self.invariant.0.is_index found) in
    c.get.ensures ∙ ap (λ (m : Masked). value_at m.bytes c.offset_of-offset.result c.args.size) same ∙
    ap (λ o. value_at (known_of c.args.self.now (line_at c.args.self.now.line_bytes c.args.addr)).bytes o c.args.size) offset
