-- After a fault each file that was created holds a front of its text.
use Rattle.std.proofs.Common.{◌≡◌, ◌≢◌, ℕ, Bool, true, false, IsTrue, List, [], ◌++◌, take, drop, refl, sym, ◌∙◌, ap, append-nil}
use Rattle.std.specs.Prelude.{Option, Some, None, IfSome, MatchOption}
use Rattle.std.proofs.lemmas.List.{take-append-drop}
use Rattle.conda_host.specs.declared.outside.Role.{Role}
use Rattle.conda_host.specs.declared.outside.Role.TheVariants as role
use Rattle.conda_host.specs.State.{HostState, RoleState, KeepsCreated, is_created, IsCreating, IsReading, Creates}
use Rattle.conda_host.specs.Whole.{WritesPart}
use Rattle.command_run.specs.Names.{Names, HaveDistinctNames}
use Rattle.command_run.specs.Driving.{HoldsFrontAt, HoldTexts, HoldTextFronts, CreatedHoldsFront, TextFronts}

-- a role that wasn't created
pub not_made : {a b : HostState} {r : Role} {text name : List ℕ} → is_created b r ≡ false → CreatedHoldsFront a b r text name
not_made none = record { front = λ old is. absurd (let no : true ≡ false = sym is ∙ none in cc) }

-- what a role has created stays, where it has created something
abbrev pub HasFileBefore : RoleState → RoleState → Type 0
HasFileBefore old new = IsTrue new.created → KeepsCreated old new

-- a role that stays as it was, where it is created
pub not_kept : {a b : HostState} (r : Role) {text name : List ℕ} → (IsTrue (is_created b r) → b.role r ≡ a.role r) → CreatedHoldsFront a b r text name
not_kept r kept = record { front = λ old is. absurd (let no : true ≡ false = sym is ∙ ap (λ x. x.created) (kept is) ∙ old in cc) }

-- a role for which no file is created
pub not_created : (a b : HostState) (r : Role) → HasFileBefore (a.role r) (b.role r) → is_created a r ≡ false → IsTrue (is_created b r) → ⊥
not_created a b r keeps old is = let no : true ≡ false = sym is ∙ (keeps is).created ∙ old in cc

pub not_used : {a b : HostState} {r : Role} {text name : List ℕ} → HasFileBefore (a.role r) (b.role r) → CreatedHoldsFront a b r text name
not_used {a = a} {b = b} {r = r} keeps = record { front = λ old is. absurd (not_created a b r keeps old is) }

pub front_of : {a b : HostState} {r : Role} {text name : List ℕ} → HoldsFrontAt b text name → CreatedHoldsFront a b r text name
front_of h = record { front = λ old is. h }

empty_front : {s : HostState} (text : List ℕ) {name : List ℕ} → s.file name ≡ Some [] → HoldsFrontAt s text name
empty_front text e = record { written = []; file = e; front = record { rest = text; same = refl } }

whole_front : {s : HostState} (text : List ℕ) {name : List ℕ} → s.file name ≡ Some text → HoldsFrontAt s text name
whole_front text e = record { written = text; file = e; front = record { rest = []; same = sym (append-nil text) } }

for_output : (o : Option (List ℕ)) {P : List ℕ → Type 0} → ((n : List ℕ) → P n) → IfSome o P
for_output None h = tt
for_output (Some n) h = h n

-- the order's file wasn't made
pub without_order : (names : Names) {a b : HostState} {given : List ℕ} (journal bytes : List ℕ) → is_created b role.Order ≡ false → IsCreating a b role.Order given → TextFronts names a b journal bytes
without_order names journal bytes none p = record { order = not_made none; output = for_output names.output (λ n. not_kept role.Output (p.kept role.Output (λ e. cc))) }

-- the order's was, and the output's wasn't
pub without_output : (names : Names) (a b c : HostState) (journal bytes : List ℕ) → HaveDistinctNames names → IsTrue b.tells → Creates b role.Order names.order → MatchOption names.output (c ≡ b) (IsCreating b c role.Output)
    → is_created c role.Output ≡ false → TextFronts names a c journal bytes
without_output names a b c journal bytes apart told made rest none = record { order = front_of (empty_front journal (go names.output apart.order_output rest)); output = for_output names.output (λ n. not_made none) }
  where
    go : (o : Option (List ℕ)) → IfSome o (λ n. names.order ≢ n) → MatchOption o (c ≡ b) (IsCreating b c role.Output) → c.file names.order ≡ Some []
    go None d same = ap (λ x. x.file names.order) same ∙ made.file told
    go (Some n) d p = p.files names.order d ∙ made.file told

-- only the schedule was read
pub only_read : (names : Names) {a b : HostState} (journal bytes : List ℕ) → IsReading a b role.Schedule → TextFronts names a b journal bytes
only_read names journal bytes p = record {
  order = not_kept role.Order (λ is. p.roles role.Order (λ e. cc));
  output = for_output names.output (λ n. not_kept role.Output (λ is. p.roles role.Output (λ e. cc)));
}

front_before : {a b c : HostState} (r : Role) {text name : List ℕ} → b.role r ≡ a.role r → CreatedHoldsFront b c r text name → CreatedHoldsFront a c r text name
front_before r same h = record { front = λ old is. h.front (ap (λ x. x.created) same ∙ old) is }

pub after_reading : (names : Names) (a b c : HostState) (journal bytes : List ℕ) → IsReading a b role.Schedule → TextFronts names b c journal bytes → TextFronts names a c journal bytes
after_reading names a b c journal bytes p h = record { order = front_before role.Order (p.roles role.Order (λ e. cc)) h.order; output = go names.output h.output }
  where
    go : (o : Option (List ℕ)) → IfSome o (CreatedHoldsFront b c role.Output bytes) → IfSome o (CreatedHoldsFront a c role.Output bytes)
    go None h = tt
    go (Some n) h = front_before role.Output (p.roles role.Output (λ e. cc)) h

pub fronts_of_fronts : (names : Names) (a b : HostState) (journal bytes : List ℕ) → HoldTextFronts names b journal bytes → TextFronts names a b journal bytes
fronts_of_fronts names a b journal bytes h = record { order = front_of h.order; output = go names.output h.output }
  where
    go : (o : Option (List ℕ)) → IfSome o (HoldsFrontAt b bytes) → IfSome o (CreatedHoldsFront a b role.Output bytes)
    go None h = tt
    go (Some n) h = front_of h

pub fronts_of_texts : (names : Names) (a b : HostState) (journal bytes : List ℕ) → HoldTexts names b journal bytes → TextFronts names a b journal bytes
fronts_of_texts names a b journal bytes h = record { order = front_of (whole_front journal h.order); output = go names.output h.output }
  where
    go : (o : Option (List ℕ)) → IfSome o (λ n. b.file n ≡ Some bytes) → IfSome o (CreatedHoldsFront a b role.Output bytes)
    go None h = tt
    go (Some n) h = front_of (whole_front bytes h)

-- a role that calls before didn't use
pub unused_before : {a b c : HostState} (r : Role) {text name : List ℕ} → HasFileBefore (a.role r) (b.role r) → CreatedHoldsFront b c r text name → CreatedHoldsFront a c r text name
unused_before {a = a} {b = b} r keeps h = record { front = λ old is. h.front (go (b.role r).created refl old) is }
  where
    go : (x : Bool) → (b.role r).created ≡ x → (a.role r).created ≡ false → (b.role r).created ≡ false
    go true e old = let no : true ≡ false = sym e ∙ (keeps e).created ∙ old in cc
    go false e old = e

-- the report was made, and a part of it written
pub part_written : {a b c : HostState} {name : List ℕ} (text : List ℕ) → IsTrue b.tells → Creates b role.Report name → WritesPart b c role.Report text → CreatedHoldsFront a c role.Report text name
part_written {b = b} {c = c} {name = name} text told made p = front_of (record {
  written = take p.count text;
  file = ap c.file (sym (made.name told)) ∙ p.part.file told (ap b.file (made.name told) ∙ made.file told ∙ ap Some (sym (made.written told)))
      ∙ ap Some (p.part.written told ∙ ap (λ w. w ++ take p.count text) (made.written told));
  front = record { rest = drop p.count text; same = sym (take-append-drop p.count text) };
})
