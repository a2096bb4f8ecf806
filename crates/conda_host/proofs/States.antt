-- What a change of a slot, or of a file, does to the state.
use Rattle.std.proofs.Common.{◌≡◌, ◌≢◌, ℕ, ◌+◌, ◌<◌, ◌≤◌, true, false, List, [], ◌++◌, take, ◌↔◌, length, get_or, set, IsTrue, refl, sym, ap, ◌∙◌, subst, arith, inl, inr, zero, suc, ◌∷◌, map, min, ◌-◌, ◌^◌}
use Rattle.std.specs.Prelude.{Bool, ◌==◌, ◌&&◌, ◌||◌, not, nat_lt, nat_eq, if◌then◌else◌, Option, Some, None, is_some, string_bytes, replicate}
use Rattle.std.specs.Option.{option_map_or}
use Rattle.std.specs.Str.{bytes_eq}
use Rattle.std.specs.declared.alloc.Global.{Global}
use Rattle.std.specs.declared.string.String.{String}
use Rattle.std.proofs.lemmas.List.{get_or-set_other, get_or-set_same}
use Rattle.std.proofs.lemmas.Bool.{cases_eq}
use Rattle.std.proofs.lemmas.Bool.Decides.{eqb_tells}
use Rattle.conda_host.specs.declared.outside.Role.{Role}
use Rattle.conda_host.specs.declared.outside.Role.TheVariants.{Config, Image, Schedule, Order, Report, Output, Source, Program}
use Rattle.conda_host.specs.declared.slot.Slot.{Slot}
use Rattle.conda_host.specs.State.{KeepsOpened, IsReading, IsCreating, IsWriting, Opens, Creates, Writes}
use Rattle.conda_host.specs.Role.{index_of}
use Rattle.conda_host.specs.Memory.{Input, File, IsFirst, input_at, input_bytes, file_of, created_at, unused_slot, no_file, created_bytes, owns, owned_by, own_file, left_of, file_at, file_with, empty_file_for, find_file, files_made, are_distinct, names_held, names_given, is_among, role_slot, role_with, role_of, host_state}
use Rattle.conda_host.proofs.Roles.{index_injective, index_small}
use Rattle.conda_host.proofs.Steps.{writing_of_reading}
use Rattle.conda_host.specs.MemoryHost.{IsStart, HostRules, called, rooms_of, TakesName}
use Rattle.conda_host.specs.Counts.{CountsNothing}
use Rattle.std.proofs.lemmas.Bool.Decides.{nat_tests}
use Rattle.conda_host.proofs.Finds.{input_apart, first_name, first_length, find_set_same, find_set_other, first_of_held, first_unique, same_name, other_name}

slot_other : (slots : List Slot) (role r : Role) (s : Slot) → r ≢ role → role_slot (set slots (index_of role) s) r ≡ role_slot slots r
slot_other slots role r s d = get_or-set_other slots (index_of role) (index_of r) s unused_slot (λ e. d (index_injective r role e))

slot_same : (slots : List Slot) (role : Role) (s : Slot) → length slots ≡ 8 → role_slot (set slots (index_of role) s) role ≡ s
slot_same slots role s h = get_or-set_same slots (index_of role) s unused_slot (omega (arith, index_small role))

counts : (slots : List Slot) (role r : Role) (s : Slot) → length slots ≡ 8 → (role_slot slots role).faults ≤ s.faults → (role_slot slots r).faults ≤ (role_slot (set slots (index_of role) s) r).faults
counts slots role r s h le =
    elim (cases_eq (index_of r) (index_of role)) [
      | inl e ↦ rw (index_injective r role e) (rw (slot_same slots role s h) le)
      | inr d ↦ rw (slot_other slots role r s (λ e. d (ap index_of e))) (omega arith)
    ]

-- calls that change no file

-- only the role's slot was changed, but for its output
pub slot_changed : (i : List Input) (f : List File) (slots : List Slot) (k : ℕ) (role : Role) (s : Slot) → k ≡ index_of role → length slots ≡ 8 → (get_or slots k unused_slot).faults ≤ s.faults → s.output ≡ (get_or slots k unused_slot).output
    → IsReading (host_state i f slots) (host_state i f (set slots k s)) role
slot_changed i f slots k role s e h le same =
    let le' : (role_slot slots role).faults ≤ s.faults = subst (λ x. (get_or slots x unused_slot).faults ≤ s.faults) e le in
    let here : (role_slot (set slots (index_of role) s) role).output ≡ (role_slot slots role).output =
    ap (λ t. t.output) (slot_same slots role s h) ∙ subst (λ x. s.output ≡ (get_or slots x unused_slot).output) e same in
    rw e (record {
      later = record { tells = refl; counts = λ r n. counts slots role r s h le' };
      files = λ n. refl;
      roles = λ r d. ap (λ t. role_of i f t r) (slot_other slots role r s d);
      made = record {
        created = ap (λ o. is_some (own_file f o role)) here;
        name = ap (λ o. option_map_or (λ g. g.name) (own_file f o role) []) here;
        written = ap (λ o. option_map_or (λ g. g.bytes) (own_file f o role) []) here;
      };
    })

-- what the roles have opened stays, where only what one of them reads could have changed, and didn't
sources_stay : (i : List Input) (f g : List File) (slots : List Slot) (role r : Role) (s : Slot) → length slots ≡ 8 → s.reading ≡ (role_slot slots role).reading
    → KeepsOpened (role_of i f (role_slot slots r) r) (role_of i g (role_slot (set slots (index_of role) s) r) r)
sources_stay i f g slots role r s h same =
    elim (cases_eq (index_of r) (index_of role)) [
      | inl e ↦ at ((ap (λ q. (role_slot (set slots (index_of role) s) q).reading) (index_injective r role e) ∙ ap (λ t. t.reading) (slot_same slots role s h) ∙ same) ∙ ap (λ q. (role_slot slots q).reading) (sym (index_injective r role e)))
      | inr d ↦ at (ap (λ t. t.reading) (slot_other slots role r s (λ e. d (ap index_of e))))
    ]
  where
    at : (role_slot (set slots (index_of role) s) r).reading ≡ (role_slot slots r).reading → KeepsOpened (role_of i f (role_slot slots r) r) (role_of i g (role_slot (set slots (index_of role) s) r) r)
    at e = record { opened = ap is_some e; left = ap (left_of i) e }

-- the counts of a call that failed, and of one that didn't

pub counted_none : (i : List Input) (f g : List File) (slots : List Slot) (k : ℕ) (role : Role) (s : Slot) → k ≡ index_of role → length slots ≡ 8 → s.faults ≡ (get_or slots k unused_slot).faults
    → CountsNothing (host_state i f slots) (host_state i g (set slots k s))
counted_none i f g slots k role s e h is =
    let is' : s.faults ≡ (role_slot slots role).faults = subst (λ x. s.faults ≡ (get_or slots x unused_slot).faults) e is in
    rw e (record {
      same = λ r n. elim (cases_eq (index_of r) (index_of role)) [
        | inl q ↦ rw (index_injective r role q) (ap (λ t. t.faults) (slot_same slots role s h) ∙ is')
        | inr d ↦ ap (λ t. t.faults) (slot_other slots role r s (λ q. d (ap index_of q)))
      ];
    })

-- an input was opened
pub opened_ok : (i : List Input) (f : List File) (slots : List Slot) (k : ℕ) (role : Role) (j : ℕ) (name : List ℕ) (s : Slot) → k ≡ index_of role → length slots ≡ 8 → s.reading ≡ Some (record { input = j; at = 0 }) → find_file f name ≡ None → input_at i name ≡ Some (input_bytes i j) → Opens (host_state i f slots) (host_state i f (set slots k s)) role name
opened_ok i f slots k role j name s e h reads none found =
    rw e (record {
      opened = rw (slot_same slots role s h, reads) refl;
      left = λ t. rw (slot_same slots role s h, reads, none) found;
    })

-- files and their owners

pub place_of_owned : (f : List File) (j : ℕ) (r : Role) → owns (file_at f j).owner r ≡ true → j < length f
place_of_owned [] j r h = absurd (cc)
place_of_owned (g ∷ f) zero r h = omega arith
place_of_owned (g ∷ f) (suc j) r h = omega (arith, place_of_owned f j r h)

owned : (r : Role) (g : File) → owns g.owner r ≡ true → owned_by r g ≡ Some g
owned r g h = rw h refl

not_owned : (r : Role) (g : File) → owns g.owner r ≡ false → owned_by r g ≡ None
not_owned r g h = rw h refl

owner_itself : (r : Role) → owns (Some r) r ≡ true
owner_itself r = elim (eqb_tells (index_of r) (index_of r)) [ inl e ↦ e.0 | inr e ↦ absurd (e.1 refl) ]

other_owner : (r role : Role) → r ≢ role → owns (Some role) r ≡ false
other_owner r role d = elim (eqb_tells (index_of role) (index_of r)) [ inl e ↦ absurd (d (index_injective r role (sym e.1))) | inr e ↦ e.0 ]

one_owner : (w : Option Role) (r role : Role) → owns w role ≡ true → r ≢ role → owns w r ≡ false
one_owner None r role h d = refl
one_owner (Some q) r role h d = elim (eqb_tells (index_of q) (index_of role)) [ inl e ↦ subst (λ x. (x == index_of r) ≡ false) (sym e.1) (other_owner r role d) | inr e ↦ absurd (cc) ]

file_same : (f : List File) (j : ℕ) (g : File) → j < length f → file_at (set f j g) j ≡ g
file_same f j g h = get_or-set_same f j g no_file h

file_other : (f : List File) (j m : ℕ) (g : File) → m ≢ j → file_at (set f j g) m ≡ file_at f m
file_other f j m g d = get_or-set_other f j m g no_file d

-- a role that owns the changed file neither before nor after has the same file as before
own_other : (f : List File) (o : Option ℕ) (r : Role) (j : ℕ) (g : File) → j < length f → (o ≡ Some j → owns (file_at f j).owner r ≡ false) → owns g.owner r ≡ false → own_file (set f j g) o r ≡ own_file f o r
own_other f None r j g h old new = refl
own_other f (Some m) r j g h old new =
    elim (cases_eq m j) [
      | inl e ↦ rw e (rw (file_same f j g h) (not_owned r g new ∙ sym (not_owned r (file_at f j) (old (ap Some e)))))
      | inr d ↦ rw (file_other f j m g d) refl
    ]

-- a role that has a file after the change of another's has the same as before
own_kept : (f : List File) (o : Option ℕ) (r : Role) (j : ℕ) (g : File) → j < length f → owns g.owner r ≡ false → IsTrue (is_some (own_file (set f j g) o r)) → own_file (set f j g) o r ≡ own_file f o r
own_kept f None r j g h new is = refl
own_kept f (Some m) r j g h new is =
    elim (cases_eq m j) [
      | inl e ↦ absurd (no_file_left (rw (e, file_same f j g h, not_owned r g new) at is))
      | inr d ↦ rw (file_other f j m g d) refl
    ]
  where
    no_file_left : IsTrue false → ⊥
    no_file_left x = cc

-- creating

created_name : (f : List File) (j : ℕ) (r : Role) (n : List ℕ) → (file_at f j).name ≡ n → (IsTrue (is_some (own_file f (Some j) r)) → option_map_or (λ g. g.name) (own_file f (Some j) r) [] ≢ n) → owns (file_at f j).owner r ≡ false
created_name f j r n e h = go (owns (file_at f j).owner r) refl
  where
    go : (b : Bool) → owns (file_at f j).owner r ≡ b → owns (file_at f j).owner r ≡ false
    go true is = absurd (h (rw (owned r (file_at f j) is) refl) (rw (owned r (file_at f j) is) e))
    go false is = is

pub create_ok : (i : List Input) (f : List File) (slots : List Slot) (k : ℕ) (role : Role) (j : ℕ) (name : List ℕ) (s : Slot) → k ≡ index_of role → length slots ≡ 8 → s.output ≡ Some j → IsFirst f j name → Creates (host_state i (set f j (empty_file_for role (file_at f j))) (set slots k s)) role name
create_ok i f slots k role j name s e h out first =
    let g = empty_file_for role (file_at f j) in
    let here = slot_same slots role s h in
    let file = file_same f j g (first_length f j name first) in
    let mine = owned role g (owner_itself role) in
    rw e (record {
      created = rw (here, out, file, mine) refl;
      name = λ t. rw (here, out, file, mine) (first_name f j name first);
      written = λ t. rw (here, out, file, mine) refl;
      file = λ t. rw (find_set_same f j name g first (first_name f j name first)) refl;
    })

pub create_rest : (i : List Input) (f : List File) (slots : List Slot) (k : ℕ) (role : Role) (j : ℕ) (name : List ℕ) (s : Slot) → k ≡ index_of role → length slots ≡ 8 → (get_or slots k unused_slot).faults ≤ s.faults → s.reading ≡ (get_or slots k unused_slot).reading → IsFirst f j name → IsCreating (host_state i f slots) (host_state i (set f j (empty_file_for role (file_at f j))) (set slots k s)) role name
create_rest i f slots k role j name s e h le reads first =
    let reads' : s.reading ≡ (role_slot slots role).reading = subst (λ x. s.reading ≡ (get_or slots x unused_slot).reading) e reads in
    let g = empty_file_for role (file_at f j) in
    let le' : (role_slot slots role).faults ≤ s.faults = subst (λ x. (get_or slots x unused_slot).faults ≤ s.faults) e le in
    rw e (record {
      later = record { tells = refl; counts = λ r n. counts slots role r s h le' };
      files = λ n d. ap (λ x. created_bytes x (input_at i n)) (find_set_other f j name n g first (first_name f j name first) d);
      roles = λ r d other. ap (λ t. role_of i (set f j g) t r) (slot_other slots role r s d)
          ∙ ap (λ own. role_with (is_some (role_slot slots r).reading) (left_of i (role_slot slots r).reading) own)
          (own_other f (role_slot slots r).output r j g (first_length f j name first)
          (λ o. created_name f j r name (first_name f j name first) (subst (λ x. IsTrue (is_some (own_file f x r)) → option_map_or (λ y. y.name) (own_file f x r) [] ≢ name) o (other refl)))
          (other_owner r role d));
      sources = λ r. sources_stay i f (set f j g) slots role r s h reads';
      kept = λ r d is. ap (λ t. role_of i (set f j g) t r) (slot_other slots role r s d)
          ∙ ap (λ own. role_with (is_some (role_slot slots r).reading) (left_of i (role_slot slots r).reading) own)
          (own_kept f (role_slot slots r).output r j g (first_length f j name first) (other_owner r role d)
          (subst (λ t. IsTrue (is_some (own_file (set f j g) t.output r))) (slot_other slots role r s d) is));
    })

-- a role that has another file than the changed one has another name
own_apart : (f : List File) (o : Option ℕ) (r : Role) (j : ℕ) (g : File) (n : List ℕ) → j < length f → owns g.owner r ≡ false → ((m : ℕ) → m ≢ j → m < length f → (file_at f m).name ≢ n)
    → IsTrue (is_some (own_file (set f j g) o r)) → option_map_or (λ x. x.name) (own_file (set f j g) o r) [] ≢ n
own_apart f None r j g n h new apart is = absurd (cc)
own_apart f (Some m) r j g n h new apart is =
    elim (cases_eq m j) [
      | inl e ↦ absurd (no_file (rw (e, file_same f j g h, not_owned r g new) at is))
      | inr d ↦ rw (file_other f j m g d) (go d (owns (file_at f m).owner r) refl)
    ]
  where
    no_file : IsTrue false → ⊥
    no_file x = cc

    go : m ≢ j → (b : Bool) → owns (file_at f m).owner r ≡ b → option_map_or (λ x. x.name) (owned_by r (file_at f m)) [] ≢ n
    go d true mine = rw (owned r (file_at f m) mine) (apart m d (place_of_owned f m r mine))
    go d false other = absurd (no_file (rw (file_other f j m g d, not_owned r (file_at f m) other) at is))

pub create_takes : (i : List Input) (f : List File) (slots : List Slot) (k : ℕ) (role : Role) (j : ℕ) (name : List ℕ) (s : Slot) → k ≡ index_of role → IsTrue (are_distinct (names_held i f)) → IsFirst f j name
    → TakesName (host_state i (set f j (empty_file_for role (file_at f j))) (set slots k s)) role name
create_takes i f slots k role j name s e distinct first =
    let g = empty_file_for role (file_at f j) in
    rw e (record {
      alone = λ r d is. subst (λ t. option_map_or (λ x. x.name) (own_file (set f j g) t.output r) [] ≢ name) (sym (slot_other slots role r s d))
          (own_apart f (role_slot slots r).output r j g name (first_length f j name first) (other_owner r role d) apart
          (subst (λ t. IsTrue (is_some (own_file (set f j g) t.output r))) (slot_other slots role r s d) is));
    })
  where
    apart : (m : ℕ) → m ≢ j → m < length f → (file_at f m).name ≢ name
    apart m d within same = d (first_unique f j m name first (subst (IsFirst f m) same (first_of_held i f m distinct within)))

-- a create that failed
pub create_failed : (i : List Input) (f : List File) (slots : List Slot) (k : ℕ) (role : Role) (name : List ℕ) (s : Slot) → k ≡ index_of role → length slots ≡ 8 → (get_or slots k unused_slot).faults ≤ s.faults → s.reading ≡ (get_or slots k unused_slot).reading
    → IsCreating (host_state i f slots) (host_state i f (set slots k s)) role name
create_failed i f slots k role name s e h le reads =
    let le' : (role_slot slots role).faults ≤ s.faults = subst (λ x. (get_or slots x unused_slot).faults ≤ s.faults) e le in
    let reads' : s.reading ≡ (role_slot slots role).reading = subst (λ x. s.reading ≡ (get_or slots x unused_slot).reading) e reads in
    rw e (record {
      later = record { tells = refl; counts = λ r n. counts slots role r s h le' };
      files = λ n d. refl;
      roles = λ r d other. ap (λ t. role_of i f t r) (slot_other slots role r s d);
      sources = λ r. sources_stay i f f slots role r s h reads';
      kept = λ r d is. ap (λ t. role_of i f t r) (slot_other slots role r s d);
    })

-- writing

-- the role has the file at this place
pub owned_there : (f : List File) (slots : List Slot) (k : ℕ) (role : Role) (j : ℕ) → k ≡ index_of role → (get_or slots k unused_slot).output ≡ Some j → IsTrue (is_some (own_file f (role_slot slots role).output role)) → owns (file_at f j).owner role ≡ true
owned_there f slots k role j e out is = go (owns (file_at f j).owner role) refl
  where
    there : IsTrue (is_some (owned_by role (file_at f j)))
    there = subst (λ x. IsTrue (is_some (own_file f x role))) (subst (λ x. (get_or slots x unused_slot).output ≡ Some j) e out) is

    nothing : IsTrue false → ⊥
    nothing x = cc

    go : (b : Bool) → owns (file_at f j).owner role ≡ b → owns (file_at f j).owner role ≡ true
    go true mine = mine
    go false other = absurd (nothing (rw (not_owned role (file_at f j) other) at there))

pub write_ok : (i : List Input) (f : List File) (slots : List Slot) (k : ℕ) (role : Role) (j : ℕ) (bytes : List ℕ) (n : ℕ) → k ≡ index_of role → (get_or slots k unused_slot).output ≡ Some j → owns (file_at f j).owner role ≡ true → IsFirst f j (file_at f j).name → n ≤ length bytes → (0 < length bytes → 0 < n) → Writes (host_state i f slots) (host_state i (set f j (file_with (take n bytes) (file_at f j))) slots) role bytes n
write_ok i f slots k role j bytes n e out mine first le some =
    let g = file_with (take n bytes) (file_at f j) in
    let out' : (role_slot slots role).output ≡ Some j = subst (λ x. (get_or slots x unused_slot).output ≡ Some j) e out in
    let file = file_same f j g (first_length f j _ first) in
    let old = owned role (file_at f j) mine in
    let new = owned role g mine in
    record {
      bound = le;
      some = some;
      written = λ t. rw (out', file, old, new) refl;
      file = λ t. rw (out', file, old, new) (ap (λ x. created_bytes x (input_at i (file_at f j).name)) (find_set_same f j (file_at f j).name g first refl) ∙ made (file_at f j).owner mine);
    }
  where
    made : (w : Option Role) → owns w role ≡ true → (if is_some w then Some ((file_at f j).bytes ++ take n bytes) else None) ≡ Some ((file_at f j).bytes ++ take n bytes)
    made None h = absurd (cc)
    made (Some q) h = refl

pub write_rest : (i : List Input) (f : List File) (slots : List Slot) (k : ℕ) (role : Role) (j : ℕ) (more : List ℕ) → k ≡ index_of role → (get_or slots k unused_slot).output ≡ Some j → owns (file_at f j).owner role ≡ true → IsFirst f j (file_at f j).name → IsWriting (host_state i f slots) (host_state i (set f j (file_with more (file_at f j))) slots) role
write_rest i f slots k role j more e out mine first =
    let g = file_with more (file_at f j) in
    let out' : (role_slot slots role).output ≡ Some j = subst (λ x. (get_or slots x unused_slot).output ≡ Some j) e out in
    let file = file_same f j g (first_length f j _ first) in
    let old = owned role (file_at f j) mine in
    let new = owned role g mine in
    record {
      later = record { tells = refl; counts = λ r n. omega arith };
      files = λ n d. ap (λ x. created_bytes x (input_at i n)) (find_set_other f j (file_at f j).name n g first refl (λ q. d (q ∙ rw (out', old) refl)));
      roles = λ r d. ap (λ own. role_with (is_some (role_slot slots r).reading) (left_of i (role_slot slots r).reading) own)
          (own_other f (role_slot slots r).output r j g (first_length f j _ first) (λ o. one_owner (file_at f j).owner r role mine d) (one_owner (file_at f j).owner r role mine d));
      created = rw (out', file, new) refl;
      name = rw (out', file, old, new) refl;
      source = record { opened = refl; left = refl };
    }

-- a write that failed
pub write_failed : (i : List Input) (f : List File) (slots : List Slot) (k : ℕ) (role : Role) (s : Slot) → k ≡ index_of role → length slots ≡ 8 → (get_or slots k unused_slot).faults ≤ s.faults → s ≡ record (get_or slots k unused_slot) { faults = s.faults } → IsTrue (is_some (own_file f (role_slot slots role).output role)) → IsWriting (host_state i f slots) (host_state i f (set slots k s)) role
write_failed i f slots k role s e h le same is =
    let same' : s ≡ record (role_slot slots role) { faults = s.faults } = subst (λ x. s ≡ record (get_or slots x unused_slot) { faults = s.faults }) e same in
    let here : role_slot (set slots k s) role ≡ record (role_slot slots role) { faults = s.faults } = rw e (slot_same slots role s h ∙ same') in
    writing_of_reading is (ap (λ t. role_of i f t role) here) (slot_changed i f slots k role s e h le (ap (λ t. t.output) same))

-- the start

some_not_none : (g : File) → Some g ≡ None → ⊥
some_not_none g e = cc

hidden_none : (w : Option (List ℕ)) (found : Option File) → (w ≢ None → found ≡ None) → ((g : File) → found ≡ Some g → g.owner ≡ None) → created_bytes found w ≡ w
hidden_none w None h o = refl
hidden_none None (Some g) h o = rw (o g refl) refl
hidden_none (Some b) (Some g) h o = absurd (some_not_none g (h (λ e. cc)))

made_unowned : (names : List (String Global)) (room : ℕ) (n : List ℕ) (g : File) → find_file (files_made names room) n ≡ Some g → g.owner ≡ None
made_unowned [] room n g e = absurd (cc)
made_unowned (m ∷ names) room n g e = here (bytes_eq (string_bytes m) n) refl (λ later. made_unowned names room n g later)
  where
    here : (t : Bool) → bytes_eq (string_bytes m) n ≡ t → (find_file (files_made names room) n ≡ Some g → g.owner ≡ None) → g.owner ≡ None
    here true is later = let e' = rw is at e in cc
    here false is later = later (rw is at e)

found_input_apart : (i : List Input) (f : List File) (n : List ℕ) → IsTrue (are_distinct (names_held i f)) → input_at i n ≢ None → find_file f n ≡ None
found_input_apart i f n h some = go (input_at i n) refl
  where
    go : (w : Option (List ℕ)) → input_at i n ≡ w → find_file f n ≡ None
    go None e = absurd (some e)
    go (Some b) e = input_apart i f n b h e

pub started : (i : List Input) (f : List File) (slots : List Slot) (names : List (String Global)) (room : ℕ) → IsTrue (are_distinct (names_held i f)) → f ≡ files_made names room → ((r : Role) → role_slot slots r ≡ unused_slot) → IsStart (host_state i f slots) i
started i f slots names room distinct is none = record {
  tells = refl;
  files = λ n. hidden_none (input_at i n) (find_file f n) (found_input_apart i f n distinct) (λ g e. made_unowned names room n g (subst (λ x. find_file x n ≡ Some g) is e));
  opened = λ r. ap (λ s. is_some s.reading) (none r);
  created = λ r. ap (λ s. is_some (own_file f s.output r)) (none r);
  faults = λ r n. ap (λ s. s.faults) (none r);
}

pub given_distinct : (i : List Input) (f : List File) (names : List (String Global)) (room : ℕ) → f ≡ files_made names room → IsTrue (are_distinct (names_given i names)) → IsTrue (are_distinct (names_held i f))
given_distinct i f names room is h = rw (is, made_names names) h
  where
    made_names : (names : List (String Global)) → map (λ g. g.name) (files_made names room) ≡ map string_bytes names
    made_names [] = refl
    made_names (n ∷ names) = ap (λ ns. string_bytes n ∷ ns) (made_names names)

pub all_unused : (slots : List Slot) → slots ≡ replicate 8 unused_slot → (r : Role) → role_slot slots r ≡ unused_slot
all_unused slots e Config = rw e refl
all_unused slots e Image = rw e refl
all_unused slots e Schedule = rw e refl
all_unused slots e Order = rw e refl
all_unused slots e Report = rw e refl
all_unused slots e Output = rw e refl
all_unused slots e Source = rw e refl
all_unused slots e Program = rw e refl

-- when calls succeed

pub among_of_first : (fs : List File) (j : ℕ) (n : List ℕ) → IsFirst fs j n → is_among (map (λ p. p.0) (rooms_of fs)) n ≡ true
among_of_first [] j n h = absurd h
among_of_first (f ∷ fs) zero n h = rw (same_name f.name n h) refl
among_of_first (f ∷ fs) (suc j) n h = rw (other_name f.name n h.0) (among_of_first fs j n h.1)

pub among_of_none : (fs : List File) (n : List ℕ) → find_file fs n ≡ None → is_among (map (λ p. p.0) (rooms_of fs)) n ≡ false
among_of_none [] n h = refl
among_of_none (f ∷ fs) n h = go (bytes_eq f.name n) refl (λ later. among_of_none fs n later)
  where
    go : (t : Bool) → bytes_eq f.name n ≡ t → (find_file fs n ≡ None → is_among (map (λ p. p.0) (rooms_of fs)) n ≡ false) → (bytes_eq f.name n || is_among (map (λ p. p.0) (rooms_of fs)) n) ≡ false
    go true is later = absurd (some_not_none f (rw is at h))
    go false is later = rw is (later (rw is at h))

pub places_set : (fs : List File) (j : ℕ) (g : File) → g.name ≡ (file_at fs j).name → g.room ≡ (file_at fs j).room → rooms_of (set fs j g) ≡ rooms_of fs
places_set [] j g e r = refl
places_set (f ∷ fs) zero g e r = ap (λ p. p ∷ rooms_of fs) (λ k. (e k, r k))
places_set (f ∷ fs) (suc j) g e r = ap (λ ps. (f.name, f.room) ∷ ps) (places_set fs j g e r)

pub places_made : (names : List (String Global)) (room : ℕ) → rooms_of (files_made names room) ≡ map (λ n. (string_bytes n, room)) names
places_made [] room = refl
places_made (n ∷ names) room = ap (λ ps. (string_bytes n, room) ∷ ps) (places_made names room)

pub succeeds : (a b r : Bool) → r ≡ a → r ≡ false → b ≡ true → true ≡ (not a && b)
succeeds true b r e f t = cc
succeeds false true r e f t = refl
succeeds false false r e f t = cc

pub fails_itself : (a b r : Bool) → r ≡ a → r ≡ true → false ≡ (not a && b)
fails_itself true b r e f = refl
fails_itself false b r e f = cc

pub fails_so : (a b : Bool) → b ≡ false → false ≡ (not a && b)
fails_so true b e = refl
fails_so false b e = sym e

pub negated : (a r : Bool) → r ≡ a → r ≡ true → false ≡ not a
negated true r e f = refl
negated false r e f = cc

pub same_rules : (r : HostRules) (places : List (List ℕ × ℕ)) (n : ℕ) → places ≡ r.places → n ≡ min (r.calls + 1) (2 ^ 64 - 1) → record r { places = places; calls = n } ≡ called r
same_rules r places n e f = λ k. record r { places = e k; calls = f k }

nothing_there : {X : Type 0} (o : Option X) → o ≡ None → IsTrue (is_some o) → ⊥
nothing_there None e h = some_is_false h
  where
    some_is_false : IsTrue false → ⊥
    some_is_false x = cc
nothing_there (Some x) e h = cc

pub not_unopened : (slots : List Slot) (k : ℕ) (role : Role) → k ≡ index_of role → (get_or slots k unused_slot).reading ≡ None → IsTrue (is_some (role_slot slots role).reading) → ⊥
not_unopened slots k role e none is = nothing_there (role_slot slots role).reading (subst (λ x. (get_or slots x unused_slot).reading ≡ None) e none) is

pub not_uncreated : (f : List File) (slots : List Slot) (k : ℕ) (role : Role) → k ≡ index_of role → (get_or slots k unused_slot).output ≡ None → IsTrue (is_some (own_file f (role_slot slots role).output role)) → ⊥
not_uncreated f slots k role e none is = nothing_there (own_file f (role_slot slots role).output role) (ap (λ o. own_file f o role) (subst (λ x. (get_or slots x unused_slot).output ≡ None) e none)) is

pub room_owned : (f : List File) (slots : List Slot) (k : ℕ) (role : Role) (j : ℕ) → k ≡ index_of role → (get_or slots k unused_slot).output ≡ Some j → owns (file_at f j).owner role ≡ true → option_map_or (λ g. g.room - length g.bytes) (own_file f (role_slot slots role).output role) 0 ≡ (file_at f j).room - length (file_at f j).bytes
room_owned f slots k role j e out mine =
    let out' : (role_slot slots role).output ≡ Some j = subst (λ x. (get_or slots x unused_slot).output ≡ Some j) e out in
    rw (out', owned role (file_at f j) mine) refl

pub has_room : (n len most left : ℕ) → n ≡ min (min len most) left → (len ≢ 0 → 0 < n) → (nat_lt 0 left || nat_eq len 0) ≡ true
has_room n len most left e h = grind (arith, nat_tests)

pub has_no_room : (n len most left : ℕ) → n ≡ min (min len most) left → 1 ≤ most → n ≡ 0 → len ≢ 0 → (nat_lt 0 left || nat_eq len 0) ≡ false
has_no_room n len most left e m z h = grind (arith, nat_tests)

told : (w : Option (List ℕ)) (found : Option File) → (w ≢ None → found ≡ None) → is_some (created_bytes found w) ≡ (is_some w || option_map_or (λ f. is_some f.owner) found false)
told None None h = refl
told (Some b) None h = refl
told None (Some g) h = shown_or_not g
  where
    shown_or_not : (g : File) → is_some (if is_some g.owner then Some g.bytes else None) ≡ is_some g.owner
    shown_or_not g = by_owner g.owner g.bytes
      where
        by_owner : (o : Option Role) (b : List ℕ) → is_some (if is_some o then Some b else None) ≡ is_some o
        by_owner None b = refl
        by_owner (Some r) b = refl
told (Some b) (Some g) h = absurd (some_not_none g (h (λ e. cc)))

-- a file is there where it is an input or was created
pub file_told : (i : List Input) (f : List File) (n : List ℕ) → IsTrue (are_distinct (names_held i f)) → is_some (file_of i f n) ≡ (is_some (input_at i n) || created_at f n)
file_told i f n distinct = told (input_at i n) (find_file f n) (found_input_apart i f n distinct)
