use Rattle.std.proofs.Common.{ℕ, List, ◌≡◌, ◌≤◌, ◌<◌, length, take, true, refl, arith, ap, ◌∙◌, ◌≢◌, min, sym, false}
use Rattle.std.proofs.lemmas.Grind.{common_steps}
use Rattle.std.proofs.lemmas.Bool.Decides.{nat_tests}
use Rattle.std.specs.Prelude.{Bool, nat_lt, nat_eq}
use Rattle.conda_host.specs.MemoryHost.{rules_of, rooms_of, room_left}
use Rattle.conda_host.specs.Memory.{files_seen, file_at, file_with, owns}
use Rattle.conda_host.proofs.Finds.{still_distinct, first_of_held}
use Rattle.conda_host.proofs.States.{owned_there, place_of_owned, write_ok, write_rest, slot_changed, write_failed, same_rules, places_set, succeeds, fails_itself, fails_so, room_owned, has_room, has_no_room, not_uncreated}
use Rattle.conda_host.proofs.memory.MemoryHostHost.write.Goals as goal
use Rattle.conda_host.proofs.memory.MemoryHostHost.write.Goals.{then-n-gt0, else-n-gt0, in-Some+else-not-fails, else-not-fails-via-then-not-fails+else-is_empty, else-not-fails-via-else-not-fails, in_default}

pub append_output-requires-clause-room : goal.append_output-requires-clause-room
append_output-requires-clause-room c =
    let fits = rw c.deref-in-Some.ensures.value at c.taken-n.ensures.fits in
    let short : length (take c.taken-n.result c.args.bytes.now) ≤ c.taken-n.result = grind (arith, common_steps) in
    omega (arith, fits, short)

pub invariant_of-self-clause-distinct : goal.invariant_of-self-clause-distinct
invariant_of-self-clause-distinct c =
    let s = c.args.self.now in
    rw c.append_output.ensures (still_distinct s.inputs.items (files_seen s.outputs.items) c.in-Some.j (file_with (take c.taken-n.result c.args.bytes.now) (file_at (files_seen s.outputs.items) c.in-Some.j)) refl s.distinct)

pub returns-then-is_empty-clause-ok : goal.returns-then-is_empty-clause-ok
returns-then-is_empty-clause-ok c =
    let s = c.args.self.now in
    let mine : owns (file_at (files_seen s.outputs.items) c.in-Some.j).owner c.args.role ≡ true = owned_there (files_seen s.outputs.items) s.slots c.index-at.result c.args.role c.in-Some.j c.index-at.ensures.place c.in-Some.is c.requires in
    let first = first_of_held s.inputs.items (files_seen s.outputs.items) c.in-Some.j s.distinct (place_of_owned (files_seen s.outputs.items) c.in-Some.j c.args.role mine) in
    let some : 0 < length c.args.bytes.now → 0 < c.taken-n.result = elim c.if-n-gt0.branch [ then-n-gt0 w ↦ λ p. grind (arith, common_steps) | else-n-gt0 w ↦ λ p. grind (arith, common_steps) ] in
    rw c.append_output.ensures (write_ok s.inputs.items (files_seen s.outputs.items) s.slots c.index-at.result c.args.role c.in-Some.j c.args.bytes.now c.taken-n.result c.index-at.ensures.place c.in-Some.is mine first (omega arith) some)

pub returns-then-is_empty-clause-rest : goal.returns-then-is_empty-clause-rest
returns-then-is_empty-clause-rest c =
    let s = c.args.self.now in
    let mine : owns (file_at (files_seen s.outputs.items) c.in-Some.j).owner c.args.role ≡ true = owned_there (files_seen s.outputs.items) s.slots c.index-at.result c.args.role c.in-Some.j c.index-at.ensures.place c.in-Some.is c.requires in
    let first = first_of_held s.inputs.items (files_seen s.outputs.items) c.in-Some.j s.distinct (place_of_owned (files_seen s.outputs.items) c.in-Some.j c.args.role mine) in
    rw c.append_output.ensures (write_rest s.inputs.items (files_seen s.outputs.items) s.slots c.index-at.result c.args.role c.in-Some.j (take c.taken-n.result c.args.bytes.now) c.index-at.ensures.place c.in-Some.is mine first)

pub returns-clause-err_files : goal.returns-clause-err_files
returns-clause-err_files c =
    let s = c.args.self.now in
    slot_changed s.inputs.items (files_seen s.outputs.items) s.slots c.index-at.result c.args.role c.failed.result c.index-at.ensures.place (omega arith) c.failed.ensures.grows (ap (λ t. t.output) c.failed.ensures.same)

pub returns-clause-rest : goal.returns-clause-rest
returns-clause-rest c =
    let s = c.args.self.now in
    write_failed s.inputs.items (files_seen s.outputs.items) s.slots c.index-at.result c.args.role c.failed.result c.index-at.ensures.place (omega arith) c.failed.ensures.grows c.failed.ensures.same c.requires

pub returns-then-is_empty-clause-served : goal.returns-then-is_empty-clause-served
returns-then-is_empty-clause-served c =
    let s = c.args.self.now in
    record {
      counts = record { same = λ r n. refl };
      rules = same_rules (rules_of s) _ c.count_call-fails.new.calls (ap rooms_of c.append_output.ensures ∙ places_set (files_seen s.outputs.items) c.in-Some.j (file_with (take c.taken-n.result c.args.bytes.now) (file_at (files_seen s.outputs.items) c.in-Some.j)) refl refl) c.count_call-fails.ensures.count;
    }

pub returns-then-is_empty-clause-moves : goal.returns-then-is_empty-clause-moves
returns-then-is_empty-clause-moves c =
    let s = c.args.self.now in
    let mine : owns (file_at (files_seen s.outputs.items) c.in-Some.j).owner c.args.role ≡ true = owned_there (files_seen s.outputs.items) s.slots c.index-at.result c.args.role c.in-Some.j c.index-at.ensures.place c.in-Some.is c.requires in
    let left = room_owned (files_seen s.outputs.items) s.slots c.index-at.result c.args.role c.in-Some.j c.index-at.ensures.place c.in-Some.is mine in
    let value = rw c.deref-in-Some.ensures.value at c.taken-n.ensures.value in
    let fails = rw c.deref.ensures.value at c.count_call-fails.ensures.fails in
    let some : length c.args.bytes.now ≢ 0 → 0 < c.taken-n.result = elim c.if-n-gt0.branch [ then-n-gt0 w ↦ λ p. omega arith | else-n-gt0 w ↦ λ p. grind (arith, common_steps) ] in
    let count = value ∙ ap (λ x. min (min (length c.args.bytes.now) s.most) x) (sym left) in
    (sym (succeeds _ _ c.count_call-fails.result fails c.if-not-fails.true (has_room c.taken-n.result (length c.args.bytes.now) s.most (room_left s c.args.role) count some)), count)

not_less : (n : ℕ) → nat_lt 0 n ≡ false → 0 < n → ⊥
not_less n e h = grind (arith, nat_tests)

not_empty : (xs : List ℕ) (b r : Bool) → b ≡ r → b ≡ false → r ≡ nat_eq (length xs) 0 → length xs ≢ 0
not_empty xs b r e f g = grind (arith, nat_tests)

pub returns-clause-moves : goal.returns-clause-moves
returns-clause-moves c =
    let s = c.args.self.now in
    let fails = rw c.deref.ensures.value at c.count_call-fails.ensures.fails in
    sym (elim c.match-slot.branch [
      | in-Some+else-not-fails w ↦ elim w.else-not-fails.branch [
        | else-not-fails-via-then-not-fails+else-is_empty v ↦
            let mine : owns (file_at (files_seen s.outputs.items) w.in-Some.j).owner c.args.role ≡ true = owned_there (files_seen s.outputs.items) s.slots c.index-at.result c.args.role w.in-Some.j c.index-at.ensures.place w.in-Some.is c.requires in
            let left = room_owned (files_seen s.outputs.items) s.slots c.index-at.result c.args.role w.in-Some.j c.index-at.ensures.place w.in-Some.is mine in
            let value = rw w.deref-in-Some.ensures.value at w.taken-n.ensures.value in
            elim v.if-n-gt0.branch [
              | then-n-gt0 u ↦ absurd (not_less w.taken-n.result (sym u.value-is ∙ v.if-is_empty.false) u.if-n-gt0.true)
              | else-n-gt0 u ↦ fails_so _ _ (has_no_room w.taken-n.result (length c.args.bytes.now) s.most (room_left s c.args.role) (value ∙ ap (λ x. min (min (length c.args.bytes.now) s.most) x) (sym left)) s.moves (omega arith) (not_empty c.args.bytes.now _ u.is_empty.result u.value-is v.if-is_empty.false u.is_empty.ensures))
            ]
        | else-not-fails-via-else-not-fails v ↦ fails_itself _ _ c.count_call-fails.result fails v.if-not-fails.false
      ]
      | in_default w ↦ absurd (not_uncreated (files_seen s.outputs.items) s.slots c.index-at.result c.args.role c.index-at.ensures.place w.in_default.is c.requires)
    ])
