-- A file that is made at a command's end.
use Rattle.std.proofs.Common.{◌≡◌, ℕ, true, false, IsTrue, List, [], ◌++◌, take, drop, append-nil, refl, sym, ◌∙◌, ap, subst, inl, inr}
use Rattle.std.specs.Prelude.{Some, None, IsSomeAnd}
use Rattle.std.proofs.lemmas.List.{take-append-drop}
use Rattle.conda_host.specs.declared.outside.Role.{Role}
use Rattle.conda_host.specs.State.{HostState, is_created, IsCreating, IsWriting, Creates, Rose, RoseForAll}
use Rattle.conda_host.specs.Whole.{WritesWhole, WritesPart}
use Rattle.conda_host.proofs.Steps.{rose_after}
use Rattle.streams.specs.Using.{KeepsTo}
use Rattle.streams.proofs.StreamFacts.{role_tells, self_test}
use Rattle.streams.proofs.UsingFacts.{keeps_trans, keeps_creating, keeps_writing}
use Rattle.command_answers.specs.declared.status.Status.{Status}
use Rattle.command_answers.specs.declared.status.Status.TheVariants as status
use Rattle.command_answers.specs.Answers.{Answers, uses_at}
use Rattle.command_answers.specs.LastFile.{file_of_role, file_command, text_outcome}

file_of_role_same : (role : Role) (name : List ℕ) → file_of_role role name role ≡ Some name
file_of_role_same role name = rw (self_test role) refl

-- a role that has a name is the one, under its name
record IsTheOne (role r : Role) (name n : List ℕ) : Type 0 where
  role_is : role ≡ r
  name_is : name ≡ n

the_one : (role r : Role) (name n : List ℕ) → file_of_role role name r ≡ Some n → IsTheOne role r name n
the_one role r name n e = elim (role_tells role r) [
  | inl h ↦ let same : Some name ≡ Some n = rw h.0 at e in record { role_is = h.1; name_is = cc }
  | inr h ↦ let none : None ≡ Some n = rw h.0 at e in cc
]

pub role_cause : (role : Role) (name : List ℕ) (a b : HostState) → Rose a b role name → IsSomeAnd (file_of_role role name role) (Rose a b role)
role_cause role name a b h = subst (λ o. IsSomeAnd o (Rose a b role)) (sym (file_of_role_same role name)) h

-- where it is done, the file holds its text
pub holds_text : (role : Role) (name text : List ℕ) (a b : HostState) (answer : Status) → Answers (file_command role name) (text_outcome text) a b answer → IsTrue a.tells → answer ≡ status.Done
    → b.file name ≡ Some text
holds_text role name text a b answer h told done =
    let at_done : Answers (file_command role name) (text_outcome text) a b status.Done = subst (Answers (file_command role name) (text_outcome text) a b) done h in
    (at_done.texts told refl).each role name (file_of_role_same role name)

pub not_made : (role : Role) (name text : List ℕ) (a b : HostState) → is_created b role ≡ false → Rose a b role name → IsCreating a b role name
    → Answers (file_command role name) (text_outcome text) a b (status.WriteFault role)
not_made role name text a b none rose p = record {
  cause = role_cause role name a b rose;
  keeps = keeps_creating (file_of_role_same role name) p;
  first = tt;
  texts = λ told fault. let no : true ≡ false = fault in cc;
  fronts = λ told. record {
    each = λ r n e old is. absurd (let no : true ≡ false = sym (subst (λ x. IsTrue (is_created b x)) (sym (the_one role r name n e).role_is) is) ∙ none in cc);
  };
}

keeps_both : (role : Role) (name : List ℕ) (answer : Status) (a b c : HostState) → (file_command role name).creates answer ≡ file_of_role role name → Creates b role name → IsCreating a b role name → IsWriting b c role
    → KeepsTo (uses_at (file_command role name) answer) a c
keeps_both role name answer a b c same made p q =
    let here = ap (λ f. f role) same ∙ file_of_role_same role name in
    keeps_trans (keeps_creating here p) (keeps_writing (λ told. here ∙ ap Some (sym (made.name told))) (λ e. let no : None ≡ Some name = sym e ∙ here in cc) q)

file_of : (role : Role) (name text : List ℕ) (b c : HostState) → IsTrue b.tells → Creates b role name → WritesWhole b c role text → c.file name ≡ Some text
file_of role name text b c told made w =
    ap c.file (sym (made.name told)) ∙ w.file told (ap b.file (made.name told) ∙ made.file told ∙ ap Some (sym (made.written told)))
    ∙ ap Some (w.written told ∙ ap (λ x. x ++ text) (made.written told))

pub all_written : (role : Role) (name text : List ℕ) (a b c : HostState) → Creates b role name → IsCreating a b role name → IsWriting b c role → WritesWhole b c role text
    → Answers (file_command role name) (text_outcome text) a c status.Done
all_written role name text a b c made p q w = record {
  cause = λ told. refl;
  keeps = keeps_both role name status.Done a b c refl made p q;
  first = tt;
  texts = λ told fault. record { each = λ r n e. held told r n e };
  fronts = λ told. record { each = λ r n e old is. record { written = text; file = held told r n e; front = record { rest = []; same = sym (append-nil text) } } };
}
  where
    held : IsTrue a.tells → (r : Role) (n : List ℕ) → file_of_role role name r ≡ Some n → c.file n ≡ Some text
    held told r n e = subst (λ x. c.file x ≡ Some text) (the_one role r name n e).name_is (file_of role name text b c (subst IsTrue (sym p.later.tells) told) made w)

pub part_written : (role : Role) (name text : List ℕ) (a b c : HostState) → Creates b role name → IsCreating a b role name → IsWriting b c role → RoseForAll b c role → WritesPart b c role text
    → Answers (file_command role name) (text_outcome text) a c (status.WriteFault role)
part_written role name text a b c made p q rose w = record {
  cause = role_cause role name a c (rose_after p.later (rose.each name));
  keeps = keeps_both role name (status.WriteFault role) a b c refl made p q;
  first = tt;
  texts = λ told fault. let no : true ≡ false = fault in cc;
  fronts = λ told. record {
    each = λ r n e old is. record {
      written = take w.count text;
      file = subst (λ x. c.file x ≡ Some (take w.count text)) (the_one role r name n e).name_is (file_of role name (take w.count text) b c (subst IsTrue (sym p.later.tells) told) made w.part);
      front = record { rest = drop w.count text; same = sym (take-append-drop w.count text) };
    };
  };
}
