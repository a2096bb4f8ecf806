use Rattle.std.proofs.Common.{refl, arith, ap, ◌∙◌}
use Rattle.conda_host.specs.MemoryHost.{rules_of, rooms_of}
use Rattle.conda_host.specs.Memory.{empty_file_for, files_seen, file_at}
use Rattle.conda_host.proofs.Finds.{still_distinct}
use Rattle.conda_host.proofs.States.{create_ok, create_rest, create_failed, create_takes, counted_none, among_of_first, among_of_none, places_set, same_rules, succeeds, fails_itself, fails_so}
use Rattle.conda_host.proofs.memory.MemoryHostHost.create.Goals as goal
use Rattle.conda_host.proofs.memory.MemoryHostHost.create.Goals.{in_default-via-in-Some+else-not-fails, in_default-via-in_default}

pub invariant_of-self-clause-distinct : goal.invariant_of-self-clause-distinct
invariant_of-self-clause-distinct c =
    let s = c.args.self.now in
    rw c.create_output.ensures (still_distinct s.inputs.items (files_seen s.outputs.items) c.in-Some.j (empty_file_for c.args.role (file_at (files_seen s.outputs.items) c.in-Some.j)) refl s.distinct)

pub returns-in-Some-clause-ok : goal.returns-in-Some-clause-ok
returns-in-Some-clause-ok c =
    let s = c.args.self.now in
    rw c.create_output.ensures (create_ok s.inputs.items (files_seen s.outputs.items) s.slots c.index-at.result c.args.role c.in-Some.j c.args.name.now _ c.index-at.ensures.place (omega arith) refl (rw c.deref-2.ensures.value at c.in-Some.ensures.1))

pub returns-in-Some-clause-rest : goal.returns-in-Some-clause-rest
returns-in-Some-clause-rest c =
    let s = c.args.self.now in
    rw c.create_output.ensures (create_rest s.inputs.items (files_seen s.outputs.items) s.slots c.index-at.result c.args.role c.in-Some.j c.args.name.now _ c.index-at.ensures.place (omega arith) (omega arith) refl (rw c.deref-2.ensures.value at c.in-Some.ensures.1))

pub returns-in_default-clause-rest : goal.returns-in_default-clause-rest
returns-in_default-clause-rest c =
    let s = c.args.self.now in
    create_failed s.inputs.items (files_seen s.outputs.items) s.slots c.index-at.result c.args.role c.args.name.now _ c.index-at.ensures.place (omega arith) c.failed.ensures.grows (ap (λ t. t.reading) c.failed.ensures.same)

pub returns-in-Some-clause-when : goal.returns-in-Some-clause-when
returns-in-Some-clause-when c =
    let s = c.args.self.now in
    let fails = rw c.deref.ensures.value at c.count_call-fails.ensures.fails in
    let first = rw c.deref-2.ensures.value at c.in-Some.ensures.1 in
    succeeds _ _ c.count_call-fails.result fails c.if-not-fails.true (among_of_first (files_seen s.outputs.items) c.in-Some.j c.args.name.now first)

pub returns-in-Some-clause-takes : goal.returns-in-Some-clause-takes
returns-in-Some-clause-takes c =
    let s = c.args.self.now in
    rw c.create_output.ensures (create_takes s.inputs.items (files_seen s.outputs.items) s.slots c.index-at.result c.args.role c.in-Some.j c.args.name.now _ c.index-at.ensures.place s.distinct (rw c.deref-2.ensures.value at c.in-Some.ensures.1))

pub returns-in-Some-clause-served : goal.returns-in-Some-clause-served
returns-in-Some-clause-served c =
    let s = c.args.self.now in
    record {
      counts = counted_none s.inputs.items (files_seen s.outputs.items) _ s.slots c.index-at.result c.args.role _ c.index-at.ensures.place (omega arith) refl;
      rules = same_rules (rules_of s) _ c.count_call-fails.new.calls (ap rooms_of c.create_output.ensures ∙ places_set (files_seen s.outputs.items) c.in-Some.j (empty_file_for c.args.role (file_at (files_seen s.outputs.items) c.in-Some.j)) refl refl) c.count_call-fails.ensures.count;
    }

pub returns-in_default-clause-when : goal.returns-in_default-clause-when
returns-in_default-clause-when c =
    let s = c.args.self.now in
    let fails = rw c.deref.ensures.value at c.count_call-fails.ensures.fails in
    elim c.in_default.branch [
      | in_default-via-in-Some+else-not-fails w ↦ fails_itself _ _ c.count_call-fails.result fails w.if-not-fails.false
      | in_default-via-in_default w ↦ let none = rw c.deref-2.ensures.value at w.in_default.ensures in fails_so _ _ (among_of_none (files_seen s.outputs.items) c.args.name.now none)
    ]
