-- A command keeps to what it uses.
use Rattle.std.proofs.Common.{◌≡◌, ◌≢◌, ℕ, Bool, true, false, IsTrue, List, refl, sym, ◌∙◌, ap, subst, inl, inr}
use Rattle.std.specs.Prelude.{Some, None}
use Rattle.conda_host.specs.declared.outside.Role.{Role}
use Rattle.conda_host.specs.State.{HostState, KeepsOpened, KeepsCreated, IsLater, IsReading, IsWriting, IsCreating}
use Rattle.conda_host.proofs.Steps.{opened_refl, opened_trans, opened_same, created_refl, created_trans, created_same, later_refl, later_trans}
use Rattle.streams.specs.Streaming.{IsStreaming}
use Rattle.streams.specs.Using.{Uses, AreFilesTold, KeepsTo}
use Rattle.streams.proofs.StreamFacts.{role_tells}

tells_before : {a b : HostState} → IsLater a b → IsTrue b.tells → IsTrue a.tells
tells_before p told = subst IsTrue p.tells told

tells_after : {a b : HostState} → IsLater a b → IsTrue a.tells → IsTrue b.tells
tells_after p told = subst IsTrue (sym p.tells) told

pub keeps_refl : (u : Uses) (s : HostState) → KeepsTo u s s
keeps_refl u s = record {
  later = later_refl s;
  files = λ told n h. refl;
  opened = λ r d. opened_refl (s.role r);
  created = λ r e is. created_refl (s.role r);
  kept = λ r e own. created_refl (s.role r);
}

pub keeps_trans : {u : Uses} {a b c : HostState} → KeepsTo u a b → KeepsTo u b c → KeepsTo u a c
keeps_trans {u = u} {a = a} {b = b} {c = c} p q = record {
  later = later_trans p.later q.later;
  files = λ told n h. q.files (still told) n h ∙ p.files told n h;
  opened = λ r d. opened_trans (p.opened r d) (q.opened r d);
  created = λ r e is.
      let second = q.created r e is in
      created_trans (p.created r e (subst IsTrue second.created is)) second;
  kept = λ r e own.
      let first = p.kept r e own in
      created_trans first (q.kept r e (λ told is x same. own (tells_before p.later told) (subst IsTrue first.created is) x (same ∙ ap Some first.name)));
}
  where
    still : AreFilesTold u a → AreFilesTold u b
    still (inl told) = inl (tells_after p.later told)
    still (inr none) = inr none

-- what uses less keeps to more
pub keeps_more : {u w : Uses} {a b : HostState} → ((r : Role) → w.opens r ≡ false → u.opens r ≡ false) → ((r : Role) → w.creates r ≡ None → u.creates r ≡ None)
    → ((r : Role) (n : List ℕ) → u.creates r ≡ Some n → w.creates r ≡ Some n) → KeepsTo u a b → KeepsTo w a b
keeps_more {u = u} {w = w} {a = a} opens creates names p = record {
  later = p.later;
  files = λ told n h. p.files (fewer told) n (λ r e. h r (names r n e));
  opened = λ r d. p.opened r (opens r d);
  created = λ r e. p.created r (creates r e);
  kept = λ r e own. p.kept r (creates r e) (λ told is q same. own told is q (names q (a.role r).name same));
}
  where
    fewer : AreFilesTold w a → AreFilesTold u a
    fewer (inl told) = inl told
    fewer (inr none) = inr (λ r. creates r (none r))

pub keeps_reading : {u : Uses} {role : Role} {a b : HostState} → u.opens role ≡ true → IsReading a b role → KeepsTo u a b
keeps_reading {u = u} {role = role} {a = a} {b = b} is p = record {
  later = p.later;
  files = λ told n h. p.files n;
  opened = λ r d. opened_same (p.roles r (λ same. let no : true ≡ false = sym is ∙ ap u.opens (sym same) ∙ d in cc));
  created = λ r e now. made r;
  kept = λ r e own. made r;
}
  where
    made : (r : Role) → KeepsCreated (a.role r) (b.role r)
    made r = elim (role_tells role r) [
      | inl h ↦ subst (λ x. KeepsCreated (a.role x) (b.role x)) h.1 p.made
      | inr h ↦ created_same (p.roles r (λ d. h.1 (sym d)))
    ]

pub keeps_creating : {u : Uses} {role : Role} {name : List ℕ} {a b : HostState} → u.creates role ≡ Some name → IsCreating a b role name → KeepsTo u a b
keeps_creating {u = u} {role = role} {name = name} {a = a} {b = b} is p = record {
  later = p.later;
  files = λ told n h. p.files n (λ e. h role (is ∙ ap Some (sym e)));
  opened = λ r d. p.sources r;
  created = λ r e now. created_same (p.kept r (other r e) now);
  kept = λ r e own. created_same (p.roles r (other r e) (λ told made same. own told made role (is ∙ ap Some (sym same))));
}
  where
    other : (r : Role) → u.creates r ≡ None → r ≢ role
    other r e same = let no : Some name ≡ None = sym is ∙ ap u.creates (sym same) ∙ e in cc

-- a sink that has the name of a file that is used
pub keeps_writing : {u : Uses} {role : Role} {a b : HostState} → (IsTrue a.tells → u.creates role ≡ Some (a.role role).name) → u.creates role ≢ None → IsWriting a b role → KeepsTo u a b
keeps_writing {u = u} {role = role} {a = a} {b = b} named there p = record {
  later = p.later;
  files = λ told n h. p.files n (λ e. differs told n h e);
  opened = λ r d. elim (role_tells role r) [
    | inl h ↦ subst (λ x. KeepsOpened (a.role x) (b.role x)) h.1 p.source
    | inr h ↦ opened_same (p.roles r (λ e. h.1 (sym e)))
  ];
  created = λ r e now. made r e;
  kept = λ r e own. made r e;
}
  where
    made : (r : Role) → u.creates r ≡ None → KeepsCreated (a.role r) (b.role r)
    made r e = created_same (p.roles r (λ same. there (ap u.creates (sym same) ∙ e)))

    differs : AreFilesTold u a → (n : List ℕ) → ((r : Role) → u.creates r ≢ Some n) → n ≡ (a.role role).name → ⊥
    differs (inl told) n h e = h role (named told ∙ ap Some (sym e))
    differs (inr none) n h e = there (none role)

-- streams whose source and sinks are used, under the names that they have
pub keeps_streaming : {u : Uses} {from : Role} {sinks : Role → Bool} {a b : HostState} → u.opens from ≡ true
    → ((r : Role) → IsTrue (sinks r) → IsTrue a.tells → u.creates r ≡ Some (a.role r).name) → ((r : Role) → u.creates r ≡ None → sinks r ≡ false)
    → IsStreaming from sinks a b → KeepsTo u a b
keeps_streaming {u = u} {from = from} {sinks = sinks} {a = a} {b = b} is named none p = record {
  later = p.later;
  files = λ told n h. p.files n (λ r there e. differs told n h r there e);
  opened = λ r d. opens r (λ same. let no : true ≡ false = sym is ∙ ap u.opens (sym same) ∙ d in cc) (sinks r) refl;
  created = λ r e now. made r e;
  kept = λ r e own. made r e;
}
  where
    opens : (r : Role) → r ≢ from → (t : Bool) → sinks r ≡ t → KeepsOpened (a.role r) (b.role r)
    opens r other true e = (p.made r e).opened
    opens r other false e = opened_same (p.roles r other e)

    made : (r : Role) → u.creates r ≡ None → KeepsCreated (a.role r) (b.role r)
    made r e = elim (role_tells from r) [
      | inl h ↦ subst (λ x. sinks x ≡ false → KeepsCreated (a.role x) (b.role x)) h.1 p.read (none r e)
      | inr h ↦ created_same (p.roles r (λ d. h.1 (sym d)) (none r e))
    ]

    differs : AreFilesTold u a → (n : List ℕ) → ((r : Role) → u.creates r ≢ Some n) → (r : Role) → IsTrue (sinks r) → n ≡ (a.role r).name → ⊥
    differs (inl told) n h r there e = h r (named r there told ∙ ap Some (sym e))
    differs (inr unused) n h r there e = let turned : true ≡ false = sym there ∙ none r (unused r) in cc
