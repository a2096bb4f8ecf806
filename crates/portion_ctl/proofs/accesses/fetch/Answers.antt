use Rattle.std.proofs.Common.{◌≡◌, inl, Some, subst, sym, ap, ◌∙◌}
use Rattle.conda_base.specs.declared.Line.{Line}
use Rattle.write_masks.specs.declared.Masked.{Masked}
use Rattle.nda_cache.specs.Tried.{Tried, HasRoom, IsFound, known_of, filled_from}
use Rattle.conda_base.specs.LineLists.{line_at}
use Rattle.portion_ctl.proofs.CacheFacts.{known_of-same}
use Rattle.portion_ctl.proofs.accesses.fetch.Goals as goal

pub fill_found-place-requires-clause-room : goal.fill_found-place-requires-clause-room
fill_found-place-requires-clause-room g c =
    let P : Line → Type 0 = λ k. HasRoom c.args.cache.now k in subst P (sym c.requires.sought.line) c.requires.needed.room

pub read_found-requires-clause-found : goal.read_found-requires-clause-found
read_found-requires-clause-found g c =
    let new : Tried = c.fill_found-place.new.self in
    let at : line_at new.line_bytes c.args.sought.addr ≡ c.args.sought.l =
    ap (λ (t : Tried). line_at t.line_bytes c.args.sought.addr) c.fill_found-place.ensures.filled ∙ sym c.requires.sought.line in
    let P : Line → Type 0 = λ k. IsFound new k (Some c.fill_found-place.result) in
    subst P (sym at) c.fill_found-place.ensures.place

pub read_found-requires-clause-known : goal.read_found-requires-clause-known
read_found-requires-clause-known g c =
    let cache : Tried = c.args.cache.now in
    let l : Line = c.args.sought.l in
    let new : Tried = c.fill_found-place.new.self in
    let filled : Masked = filled_from cache.line_bytes (known_of cache l) c.copy.new.out in
    let at : line_at new.line_bytes c.args.sought.addr ≡ l =
    ap (λ (t : Tried). line_at t.line_bytes c.args.sought.addr) c.fill_found-place.ensures.filled ∙ sym c.requires.sought.line in
    inl (
    ap (λ k. (known_of new k).filled) at
    ∙ ap (λ (t : Tried). (known_of t l).filled) c.fill_found-place.ensures.filled
    ∙ ap (λ (m : Masked). m.filled) (known_of-same cache l filled)
    )
