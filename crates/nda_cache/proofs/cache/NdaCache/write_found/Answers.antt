use Rattle.std.proofs.Common.{◌≡◌, ap, sym, subst, ◌∙◌}
use Rattle.conda_base.specs.Lines.{line_number}
use Rattle.conda_base.specs.declared.Line.{Line}
use Rattle.nda_cache.specs.Tried.{HasRoom}
use Rattle.conda_base.specs.LineLists.{line_at}
use Rattle.conda_base.proofs.LineLemmas.{line_by_number}
use Rattle.nda_cache.proofs.cache.NdaCache.write_found.Goals as goal

pub write_at-requires-clause-room : goal.write_at-requires-clause-room
write_at-requires-clause-room c =
    let line : c.line_of-l.result ≡ line_at c.args.self.now.line_bytes c.args.addr =
    line_by_number _ _ (c.line_of-l.ensures ∙ ap (line_number c.args.addr) c.line_bytes-line_bytes.ensures.same) in
    let P : Line → Type 0 = λ k. HasRoom c.args.self.now k in
    subst P (sym line) c.requires.room

pub returns-clause-tried : goal.returns-clause-tried
returns-clause-tried c = c.line_bytes-line_bytes.ensures.kept
