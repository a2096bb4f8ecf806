use Rattle.std.proofs.Common.{◌≡◌, ◌++◌, ◌∷◌, [], Option, subst, sym, ◌∙◌, rules}
use Rattle.std.specs.Prelude.{IfSome}
use Rattle.rv32_decode.specs.declared.instr.Instr.{Instr}
use Rattle.rv32_decode.specs.Ranges.{FieldsFit}
use Rattle.rv32_hart.proofs.KeptFacts.{AreDecoded-push}
use Rattle.rv32_hart.proofs.code.Code.decode_from.Goals as goal

pub loop-k-preserved : goal.loop-k-preserved
loop-k-preserved c =
    let items : c.push.new.self.items ≡ c.loop-k.kept.items ++ c.instr.result ∷ [] = search rules in (
      search rules,
      rw items (AreDecoded-push c.args.self.now c.args.first c.loop-k.kept.items c.instr.result c.loop-k.invariant.1
          (λ i is. (rw c.loop-k.invariant.0 (sym c.instr.ensures.value ∙ is), subst (λ (o : Option Instr). IfSome o FieldsFit) is c.instr.ensures.fields))),
    )
