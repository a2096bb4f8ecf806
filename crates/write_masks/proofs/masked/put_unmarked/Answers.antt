use Rattle.std.proofs.Common.{◌≡◌, ◌++◌, ◌≤◌, ℕ, List, drop, take, length, ap, sym, ◌∙◌, arith}
use Rattle.std.proofs.lemmas.List.{length-take-le}
use Rattle.write_masks.proofs.MarkLemmas.{mixed-front, mixed-turned}
use Rattle.write_masks.proofs.masked.put_unmarked.Goals as goal

pub returns : goal.returns
returns c =
    let n : ℕ = length c.args.from.now in
    let front : List ℕ = take n c.args.bytes.now in
    let room : length c.args.bytes.now ≡ 128 = c.told-bytes in
    let few : n ≤ 128 = c.requires in
    let long : length front ≡ n = length-take-le n c.args.bytes.now (omega arith) in
    ap (λ bytes. bytes ++ drop n c.args.bytes.now) (c.put_marked.ensures ∙ mixed-turned c.args.mask front c.args.from.now c.ranges.mask.fits (omega arith) (sym long)) ∙
    mixed-front c.args.mask c.args.bytes.now c.args.from.now
