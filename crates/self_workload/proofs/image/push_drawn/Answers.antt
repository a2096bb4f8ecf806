use Rattle.std.proofs.Common.{◌++◌, map, sym, ap, ◌∙◌, append_assoc, append-nil}
use Rattle.rand_core.specs.Steps.{first_words}
use Rattle.rand_pcg.specs.Pcg.{pcg32}
use Rattle.rv32_decode.specs.Encoding.{encoded}
use Rattle.self_workload.specs.Drawn.{drawn_instr}
use Rattle.self_workload.proofs.DrawFacts.{after_more, after_none, code_more, no_code}
use Rattle.self_workload.proofs.image.push_drawn.Goals as goal

pub loop-init : goal.loop-init
loop-init c = (
  sym (ap (λ xs. c.args.words.now.items ++ xs) (no_code c.args.draws.now) ∙ append-nil c.args.words.now.items),
  sym (after_none c.args.draws.now),
)

pub loop-preserved : goal.loop-preserved
loop-preserved c =
    let done = c.loop.invariant in
    let g = c.args.draws.now in (
      rw (c.in_ok-push.ensures.items, c.encode.ensures.value, c.next_instr.ensures.instr, done.0, done.1, code_more c.loop.counter g)
          (append_assoc c.args.words.now.items (map encoded (map drawn_instr (first_words pcg32 c.loop.counter g))) _),
      c.next_instr.ensures.state ∙ ap (λ g. (pcg32 g).1) done.1 ∙ sym (after_more c.loop.counter g),
    )
