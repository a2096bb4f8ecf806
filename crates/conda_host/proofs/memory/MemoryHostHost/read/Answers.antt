use Rattle.std.proofs.Common.{ap, arith, sym}
use Rattle.conda_host.specs.Memory.{files_seen}
use Rattle.conda_host.proofs.States.{slot_changed, negated, not_unopened}
use Rattle.conda_host.proofs.memory.MemoryHostHost.read.Goals as goal
use Rattle.conda_host.proofs.memory.MemoryHostHost.read.Goals.{in_default-via-in-Some+else-not-fails, in_default-via-in_default}

pub returns-in_default-clause-rest : goal.returns-in_default-clause-rest
returns-in_default-clause-rest c =
    let s = c.args.self.now in
    slot_changed s.inputs.items (files_seen s.outputs.items) s.slots c.index-at.result c.args.role c.failed.result c.index-at.ensures.place (omega arith) c.failed.ensures.grows (ap (λ t. t.output) c.failed.ensures.same)

pub returns-in_default-clause-moves : goal.returns-in_default-clause-moves
returns-in_default-clause-moves c =
    let fails = rw c.deref.ensures.value at c.count_call-fails.ensures.fails in
    sym (elim c.in_default.branch [
      | in_default-via-in-Some+else-not-fails w ↦ negated _ c.count_call-fails.result fails w.if-not-fails.false
      | in_default-via-in_default w ↦ absurd (not_unopened c.args.self.now.slots c.index-at.result c.args.role c.index-at.ensures.place w.in_default.is c.requires)
    ])
