use Rattle.std.proofs.Common.{◌≡◌, ℕ, IsTrue, refl, ap, subst, ◌∙◌, rules}
use Rattle.conda_base.specs.Lines.{line_number, line_offset}
use Rattle.conda_base.specs.declared.Line.{Line}
use Rattle.nda_cache.specs.Tried.{HasRoom, WritesLine}
use Rattle.conda_base.specs.LineLists.{line_at}
use Rattle.conda_base.proofs.LineLemmas.{line_by_number}
use Rattle.nda_cache.proofs.cache.NdaCache.store_unless.Goals as goal

pub returns-then-refused-clause-stores : goal.returns-then-refused-clause-stores
returns-then-refused-clause-stores c =
    let line : c.line_of-l.result ≡ line_at c.args.self.now.line_bytes c.args.addr =
    line_by_number _ _ (c.line_of-l.ensures ∙ ap (line_number c.args.addr) c.line_bytes-line_bytes.ensures.same) in
    let yes : IsTrue c.has_room.result = search rules in
    let P : Line → Type 0 = λ k. HasRoom c.args.self.now k in
    (subst P line (c.has_room.ensures.0 yes), search rules, refl)

pub returns-clause-stores : goal.returns-clause-stores
returns-clause-stores c =
    let line : c.line_of-l.result ≡ line_at c.args.self.now.line_bytes c.args.addr =
    line_by_number _ _ (c.line_of-l.ensures ∙ ap (line_number c.args.addr) c.line_bytes-line_bytes.ensures.same) in
    let offset : c.offset_of-offset.result ≡ line_offset c.args.addr c.args.self.now.line_bytes =
    c.offset_of-offset.ensures.place ∙ ap (line_offset c.args.addr) c.line_bytes-line_bytes.ensures.same in
    let yes : IsTrue c.has_room.result = search rules in
    let P : Line → Type 0 = λ k. HasRoom c.args.self.now k in
    let Q : Line → Type 0 = λ k. WritesLine c.args.self.now c.write_at.new.self k (line_offset c.args.addr c.args.self.now.line_bytes) c.args.size c.args.value in
    let R : ℕ → Type 0 = λ o. WritesLine c.args.self.now c.write_at.new.self c.line_of-l.result o c.args.size c.args.value in
    (subst P line (c.has_room.ensures.0 yes), search rules, subst Q line (subst R offset c.write_at.ensures.writes))
