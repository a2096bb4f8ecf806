-- What a change of a role's file, or of its count, does to a host that tells nothing.
use Rattle.std.proofs.Common.{◌≡◌, ℕ, ◌+◌, ◌-◌, ◌^◌, ◌≤◌, min, IsTrue, List, length, get_or, set, refl, ap, ◌∙◌, arith, inl, inr}
use Rattle.std.specs.Prelude.{Option, None, is_some, slice_index_or, slice_index}
use Rattle.std.proofs.lemmas.List.{get_or-set_other, get_or-set_same, get_or_default}
use Rattle.std.proofs.lemmas.Bool.{cases_eq}
use Rattle.conda_host.specs.declared.outside.Role.{Role}
use Rattle.conda_host.specs.State.{IsReading, IsCreating, IsWriting, RoseForAll}
use Rattle.conda_host.specs.Role.{index_of}
use Rattle.conda_host.proofs.Roles.{index_injective, index_small}
use Rattle.conda_cli.specs.StdHost.{quiet_role, quiet_state}

-- a call that changed what one role reads, and let no count fall
pub changed_source : {F : Type 0} (os ms : List (Option F)) (o : Option F) (fs gs : List ℕ) (k : ℕ) (role : Role) → k ≡ index_of role → ((r : Role) → slice_index fs (index_of r) ≤ slice_index gs (index_of r))
    → IsReading (quiet_state os ms fs) (quiet_state (set os k o) ms gs) role
changed_source os ms o fs gs k role e up = rw e (record {
  later = record { tells = refl; counts = λ r n. up r };
  files = λ n. refl;
  roles = λ r d. ap (λ x. quiet_role x (slice_index_or ms (index_of r) None)) (get_or-set_other os (index_of role) (index_of r) o None (λ same. d (index_injective r role same)));
  made = record { created = refl; name = refl; written = refl };
})

-- a call that changed no file's kind
pub changed_none : {F : Type 0} (os ms : List (Option F)) (fs gs : List ℕ) (role : Role) → ((r : Role) → slice_index fs (index_of r) ≤ slice_index gs (index_of r)) → IsReading (quiet_state os ms fs) (quiet_state os ms gs) role
changed_none os ms fs gs role up = record {
  later = record { tells = refl; counts = λ r n. up r };
  files = λ n. refl;
  roles = λ r d. refl;
  made = record { created = refl; name = refl; written = refl };
}

pub changed_by_create : {F : Type 0} (os ms : List (Option F)) (m : Option F) (fs gs : List ℕ) (k : ℕ) (role : Role) (name : List ℕ) → k ≡ index_of role → ((r : Role) → slice_index fs (index_of r) ≤ slice_index gs (index_of r))
    → IsCreating (quiet_state os ms fs) (quiet_state os (set ms k m) gs) role name
changed_by_create os ms m fs gs k role name e up = rw e (record {
  later = record { tells = refl; counts = λ r n. up r };
  files = λ n d. refl;
  roles = λ r d other. other_made r (λ same. d (index_injective r role same));
  sources = λ r. record { opened = refl; left = refl };
  kept = λ r d is. other_made r (λ same. d (index_injective r role same));
})
  where
    other_made : (r : Role) → (index_of r ≡ index_of role → ⊥) → quiet_role (slice_index_or os (index_of r) None) (slice_index_or (set ms (index_of role) m) (index_of r) None) ≡ quiet_role (slice_index_or os (index_of r) None) (slice_index_or ms (index_of r) None)
    other_made r d = ap (quiet_role (slice_index_or os (index_of r) None)) (get_or-set_other ms (index_of role) (index_of r) m None d)

-- a file that was made before is made after, where its place holds one
pub still_made : {F : Type 0} (ms : List (Option F)) (g m : Option F) (k : ℕ) (role : Role) → k ≡ index_of role → length ms ≡ 8 → is_some m ≡ is_some (get_or ms k g) → is_some (get_or (set ms k m) (index_of role) None) ≡ is_some (get_or ms (index_of role) None)
still_made ms g m k role e n same = rw (← e) (ap is_some (get_or-set_same ms k m None (omega (arith, index_small role))) ∙ same ∙ ap is_some (get_or_default ms k g None (omega (arith, index_small role))))

pub changed_by_write : {F : Type 0} (os ms : List (Option F)) (g m : Option F) (fs gs : List ℕ) (k : ℕ) (role : Role) → k ≡ index_of role → length ms ≡ 8 → is_some m ≡ is_some (get_or ms k g) → IsTrue (is_some (get_or ms (index_of role) None))
    → ((r : Role) → slice_index fs (index_of r) ≤ slice_index gs (index_of r)) → IsWriting (quiet_state os ms fs) (quiet_state os (set ms k m) gs) role
changed_by_write os ms g m fs gs k role e n same is up = record {
  later = record { tells = refl; counts = λ r n. up r };
  files = λ n d. refl;
  roles = λ r d. ap (quiet_role (slice_index_or os (index_of r) None)) (get_or-set_other ms k (index_of r) m None (λ same. d (index_injective r role (same ∙ e))));
  created = still_made ms g m k role e n same ∙ is;
  name = refl;
  source = record { opened = refl; left = refl };
}

-- the count of one role rose
pub raised : (fs gs : List ℕ) (k m : ℕ) (role : Role) → k ≡ index_of role → length fs ≡ 8 → gs ≡ set fs k m → slice_index fs k ≤ m → (r : Role) → slice_index fs (index_of r) ≤ slice_index gs (index_of r)
raised fs gs k m role e h is le r =
    elim (cases_eq (index_of r) k) [
      | inl same ↦ rw (is, same) (rw (get_or-set_same fs k m 0 (omega (arith, index_small role))) le)
      | inr other ↦ rw is (rw (get_or-set_other fs k (index_of r) m 0 other) (omega arith))
    ]

pub unraised : (fs : List ℕ) (r : Role) → slice_index fs (index_of r) ≤ slice_index fs (index_of r)
unraised fs r = omega arith

-- the role's count rose for every name
pub rose : {F : Type 0} (os qs ms ns : List (Option F)) (fs gs : List ℕ) (k m : ℕ) (role : Role) → k ≡ index_of role → length fs ≡ 8 → gs ≡ set fs k m → min (slice_index fs k + 1) (2 ^ 64 - 1) ≤ m → RoseForAll (quiet_state os ms fs) (quiet_state qs ns gs) role
rose os qs ms ns fs gs k m role e h is le = rw (is, e) (record { each = λ n. record { rose = rw (get_or-set_same fs (index_of role) m 0 (omega (arith, index_small role))) (rw e at le) } })

-- a write that failed
pub changed_made : {F : Type 0} (os ms : List (Option F)) (g m : Option F) (fs gs : List ℕ) (k : ℕ) (role : Role) → k ≡ index_of role → length ms ≡ 8 → is_some m ≡ is_some (get_or ms k g)
    → ((r : Role) → slice_index fs (index_of r) ≤ slice_index gs (index_of r)) → IsReading (quiet_state os ms fs) (quiet_state os (set ms k m) gs) role
changed_made os ms g m fs gs k role e n same up = record {
  later = record { tells = refl; counts = λ r n. up r };
  files = λ n. refl;
  roles = λ r d. ap (quiet_role (slice_index_or os (index_of r) None)) (get_or-set_other ms k (index_of r) m None (λ same. d (index_injective r role (same ∙ e))));
  made = record { created = still_made ms g m k role e n same; name = refl; written = refl };
}
