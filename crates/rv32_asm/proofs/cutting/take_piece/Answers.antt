use Rattle.std.proofs.Common.{◌<◌, length, arith, sym}
use Rattle.std.proofs.lemmas.Bool.{eqb-true}
use Rattle.std.proofs.lemmas.Bool.Decides.{nat_tests}
use Rattle.rv32_asm.proofs.CuttingLemmas.{piece_none, piece_some}
use Rattle.rv32_asm.proofs.cutting.take_piece.Goals as goal

pub returns-then-is_empty : goal.returns-then-is_empty
returns-then-is_empty c = piece_none c.args.text.now c.after_blanks-text.result.now c.after_blanks-text.ensures (eqb-true _ 0 (sym (c.if-is_empty.ensures)))

pub returns : goal.returns
returns c =
    let some : 0 < length c.after_blanks-text.result.now = grind (arith, nat_tests, c.if-is_empty.ensures) in
    rw (c.split_at.ensures.front, c.split_at.ensures.back, c.piece_len.ensures.len)
    (piece_some c.args.text.now c.after_blanks-text.result.now c.after_blanks-text.ensures some)
