-- What calls on sinks and sources leave.
use Rattle.std.proofs.Common.{◌≡◌, ◌≢◌, ℕ, Bool, true, false, cond, Result, Ok, Err, OnErr, List, [], ◌++◌, IsTrue, refl, sym, ◌∙◌, ap, subst, append-nil, inl, inr}
use Rattle.std.specs.Prelude.{◌⊎◌, ◌↔◌, ◌==◌, ◌||◌, Option, Some, None, IfSome, IsSomeAnd, IfErr, if◌then◌else◌}
use Rattle.std.proofs.lemmas.Bool.Decides.{eqb_tells}
use Rattle.conda_host.specs.declared.outside.Role.{Role}
use Rattle.conda_host.specs.Role.{index_of}
use Rattle.conda_host.specs.State.{HostState, RoleState, IsLater, IsReading, IsWriting}
use Rattle.conda_host.proofs.Roles.{index_injective}
use Rattle.conda_host.proofs.Steps.{later_refl, later_trans, rose_for_all_after, opened_same, created_same}
use Rattle.streams.specs.declared.fault.Fault.{Fault}
use Rattle.streams.specs.declared.fault.Fault.TheVariants.{Write}
use Rattle.streams.specs.declared.sinks.Sinks.{Sinks}
use Rattle.streams.specs.Calls.{made_refl, made_trans}
use Rattle.streams.specs.Seen.{fault_in}
use Rattle.streams.specs.Sink.{SinkView, AddsIf, IsMade, text_in}
use Rattle.conda_host.specs.State.{RoseForAll}
use Rattle.streams.specs.Streaming.{is_sink_of, has_sink, text_if, text_at, HaveTwoFiles, AreMade, StaysMade, IsWritingTo, IsStreaming, Gives, added_to, HasFaultCause}

-- ---- roles

-- two roles are one or two
pub role_tells : (a b : Role) → (((index_of a == index_of b) ≡ true) × (a ≡ b)) ⊎ (((index_of a == index_of b) ≡ false) × (a ≢ b))
role_tells a b =
    elim (eqb_tells (index_of a) (index_of b)) [
      | inl e ↦ inl (e.0, index_injective a b e.1)
      | inr e ↦ inr (e.0, λ d. e.1 (ap index_of d))
    ]

-- ---- frames

made_same : {a b : RoleState} → b ≡ a → StaysMade a b
made_same {a = a} {b = b} e = record { created = λ h. subst (λ r. IsTrue r.created) (sym e) h; name = ap (λ r. r.name) e; opened = opened_same e }

pub writing_refl : (sinks : Role → Bool) (s : HostState) → IsWritingTo sinks s s
writing_refl sinks s = record {
  later = later_refl s;
  files = λ n h. refl;
  roles = λ r h. refl;
  made = λ r h. made_refl (s.role r);
}

pub writing_after : {sinks : Role → Bool} {a b c : HostState} → IsWritingTo sinks a b → IsWritingTo sinks b c → IsWritingTo sinks a c
writing_after p q = record {
  later = later_trans p.later q.later;
  files = λ n h. q.files n (λ r is e. h r is (e ∙ (p.made r is).name)) ∙ p.files n h;
  roles = λ r h. q.roles r h ∙ p.roles r h;
  made = λ r is. made_trans (p.made r is) (q.made r is);
}

-- writing is streaming, whatever the source is
pub streaming_of_writing : (source : Role) {sinks : Role → Bool} {a b : HostState} → IsWritingTo sinks a b → IsStreaming source sinks a b
streaming_of_writing from {sinks = sinks} {a = a} {b = b} p = record {
  later = p.later;
  files = p.files;
  roles = λ r h k. p.roles r k;
  made = p.made;
  read = λ none. created_same (p.roles from none);
  opened = λ h. still (sinks from) refl h;
}
  where
    still : (is : Bool) → sinks from ≡ is → IsTrue (a.role from).opened → IsTrue (b.role from).opened
    still true is h = subst IsTrue (sym (p.made from is).opened.opened) h
    still false none h = subst (λ r. IsTrue r.opened) (sym (p.roles from none)) h

pub true_false : {A : Type 0} {b : Bool} → IsTrue b → b ≡ false → A
true_false {A = A} {b = b} is not = let no : true ≡ false = sym is ∙ not in cc

-- and so is reading of a role that is no sink
pub streaming_of_reading : {source : Role} {sinks : Role → Bool} {a b : HostState} → sinks source ≡ false → IsReading a b source → (IsTrue (a.role source).opened → IsTrue (b.role source).opened) → IsStreaming source sinks a b
streaming_of_reading {sinks = sinks} none p still = record {
  later = p.later;
  files = λ n h. p.files n;
  roles = λ r h k. p.roles r h;
  made = λ r is. made_same (p.roles r (λ e. true_false is (ap sinks e ∙ none)));
  read = λ same. p.made;
  opened = still;
}

-- and writing to one of the sinks
pub writing_to : {sinks : Role → Bool} {role : Role} {a b : HostState} → IsTrue (sinks role) → IsWriting a b role → IsWritingTo sinks a b
writing_to {sinks = sinks} {role = role} {a = a} {b = b} is p = record {
  later = p.later;
  files = λ n h. p.files n (h role is);
  roles = λ r none. p.roles r (λ e. true_false is (ap sinks (sym e) ∙ none));
  made = λ r h.
      elim (role_tells role r) [
        | inl e ↦ subst (λ x. StaysMade (a.role x) (b.role x)) e.1 (record { created = λ _. p.created; name = p.name; opened = p.source })
        | inr e ↦ made_same (p.roles r (λ d. e.1 (sym d)))
      ];
}

-- ---- one call on one of two sinks

pub self_test : (a : Role) → (index_of a == index_of a) ≡ true
self_test a = elim (role_tells a a) [ inl e ↦ e.0 | inr e ↦ absurd (e.1 refl) ]

or_true : (b : Bool) → (b || true) ≡ true
or_true true = refl
or_true false = refl

-- what a call gives that adds bytes to one sink
abbrev pub given_if : Option SinkView → List ℕ → Role → List ℕ
given_if sink bytes r = if is_sink_of sink r then bytes else []

pub given_role : (sink : Option SinkView) (role : Role) (bytes : List ℕ) → is_sink_of sink role ≡ true → (r : Role) → given_if sink bytes r ≡ added_to role bytes r
given_role None role bytes is r = cc
given_role (Some sink) role bytes is r =
    elim (role_tells sink.role role) [
      | inl e ↦ ap (λ x. added_to x bytes r) e.1
      | inr e ↦ let no : true ≡ false = sym is ∙ e.0 in cc
    ]

pub given_nothing : (sink : Option SinkView) (r : Role) → given_if sink [] r ≡ []
given_nothing sink r = elim (is_sink_of sink r) as (λ b. cond {A = List ℕ} b [] [] ≡ []) [ true ↦ refl | false ↦ refl ]

given_none : (bytes : List ℕ) (r : Role) → given_if None bytes r ≡ []
given_none bytes r = refl

pub not_role : {a b : Role} → a ≢ b → (index_of a == index_of b) ≡ false
not_role {a = a} {b = b} d = elim (role_tells a b) [ inl e ↦ absurd (d e.1) | inr e ↦ e.0 ]

pub gives_same : {s t : HostState} {a b : Sinks} {f g : Role → List ℕ} → ((r : Role) → f r ≡ g r) → Gives s t a b f → Gives s t a b g
gives_same {s = s} {a = a} same p = record {
  text = λ told r is. p.text told r is ∙ ap (λ x. text_at s a r ++ x) (same r);
  same = p.same;
  made = p.made;
  rest = p.rest;
}

pub gives_nothing : (s : HostState) (a : Sinks) (f : Role → List ℕ) → AreMade s a → ((r : Role) → IsTrue (has_sink a r) → f r ≡ []) → Gives s s a a f
gives_nothing s a f made none = record {
  text = λ told r is. sym (append-nil (text_at s a r)) ∙ ap (λ x. text_at s a r ++ x) (sym (none r is));
  same = refl;
  made = made;
  rest = writing_refl (has_sink a) s;
}

-- a text whose role stays
pub text_stays : (s t : HostState) (w : Option SinkView) (r : Role) (other : List ℕ) → t.role r ≡ s.role r → text_if t w r other ≡ text_if s w r other
text_stays s t None r other same = refl
text_stays s t (Some w) r other same =
    elim (role_tells w.role r) [
      | inl e ↦ rw (e.0) (ap (λ x. x.written ++ w.pending) (ap t.role e.1 ∙ same ∙ sym (ap s.role e.1)))
      | inr e ↦ rw (e.0) refl
    ]

-- a made sink whose role isn't written, and whose file has another name
made_stays : {s t : HostState} {w q : Role} → IsWriting s t w → q ≢ w → (IsTrue s.tells → (s.role q).name ≢ (s.role w).name) → IsMade s q → IsMade t q
made_stays {s = s} {t = t} {w = w} {q = q} p other apart m =
    let same : t.role q ≡ s.role q = p.roles q other in
    record {
      created = subst (λ x. IsTrue x.created) (sym same) m.created;
      file = λ told.
          let old : IsTrue s.tells = subst IsTrue p.later.tells told in
          ap (λ x. t.file x.name) same ∙ p.files (s.role q).name (apart old) ∙ m.file old ∙ ap (λ x. Some x.written) (sym same);
    }

apart_stays : {s t : HostState} (one two three : SinkView) → three.role ≡ one.role → IsTrue t.tells ↔ IsTrue s.tells → (t.role one.role).name ≡ (s.role one.role).name → (t.role two.role).name ≡ (s.role two.role).name
    → HaveTwoFiles s one two → HaveTwoFiles t three two
apart_stays {s = s} {t = t} one two three same tells first second p = record {
  roles = λ e. p.roles (e ∙ same);
  names = λ told e. p.names (tells.0 told) (sym second ∙ e ∙ ap (λ x. (t.role x).name) same ∙ first);
}

pub tells_same : {s t : HostState} → IsLater s t → IsTrue t.tells ↔ IsTrue s.tells
tells_same p = (λ h. subst IsTrue p.tells h, λ h. subst IsTrue (sym p.tells) h)

-- bytes added to the first sink
pub first_gives : (s t : HostState) (u v w : Option SinkView) (bytes : List ℕ) → AddsIf s t u v bytes → AreMade s (record { first = u; second = w })
    → Gives s t (record { first = u; second = w }) (record { first = v; second = w }) (given_if u bytes)
first_gives s t None None w bytes p made =
    let P : HostState → Type 0 = λ x. Gives s x (record { first = None; second = w }) (record { first = None; second = w }) (given_if None bytes) in
    subst P (sym p) (gives_nothing s (record { first = None; second = w }) (given_if None bytes) made (λ r is. given_none bytes r))
first_gives s t (Some u) None w bytes p made = absurd p
first_gives s t None (Some v) w bytes p made = absurd p
first_gives s t (Some u) (Some v) w bytes p made = record {
  text = texts;
  same = ap (λ (x : Role). λ (q : Role). (index_of x == index_of q) || is_sink_of w q) p.role;
  made = makes w made;
  rest = writing_to here p.rest;
}
  where
    here : IsTrue ((index_of u.role == index_of u.role) || is_sink_of w u.role)
    here = ap (λ b. b || is_sink_of w u.role) (self_test u.role)

    texts : IsTrue s.tells → (r : Role) → IsTrue (is_sink_of (Some u) r || is_sink_of w r) → text_if t (Some v) r (text_if t w r []) ≡ text_if s (Some u) r (text_if s w r []) ++ given_if (Some u) bytes r
    texts told r is =
        elim (role_tells u.role r) [
          | inl e ↦ rw (ap (λ x. index_of x == index_of r) p.role ∙ e.0, e.0) (p.text told)
          | inr e ↦ rw (ap (λ x. index_of x == index_of r) p.role ∙ e.0, e.0)
              (text_stays s t w r [] (p.rest.roles r (λ d. e.1 (sym d))) ∙ sym (append-nil (text_if s w r [])))
        ]

    makes : (w : Option SinkView) → AreMade s (record { first = Some u; second = w }) → AreMade t (record { first = Some v; second = w })
    makes None m = record { first = subst (IsMade t) (sym p.role) (p.made m.first); second = tt; apart = tt }
    makes (Some x) m = record {
      first = subst (IsMade t) (sym p.role) (p.made m.first);
      second = made_stays p.rest m.apart.roles m.apart.names m.second;
      apart = apart_stays u x v p.role (tells_same p.rest.later) p.rest.name (ap (λ y. y.name) (p.rest.roles x.role m.apart.roles)) m.apart;
    }

-- bytes added to the second
pub second_gives : (s t : HostState) (w u v : Option SinkView) (bytes : List ℕ) → AddsIf s t u v bytes → AreMade s (record { first = w; second = u })
    → Gives s t (record { first = w; second = u }) (record { first = w; second = v }) (given_if u bytes)
second_gives s t w None None bytes p made =
    let P : HostState → Type 0 = λ x. Gives s x (record { first = w; second = None }) (record { first = w; second = None }) (given_if None bytes) in
    subst P (sym p) (gives_nothing s (record { first = w; second = None }) (given_if None bytes) made (λ r is. given_none bytes r))
second_gives s t w (Some u) None bytes p made = absurd p
second_gives s t w None (Some v) bytes p made = absurd p
second_gives s t w (Some u) (Some v) bytes p made = record {
  text = texts w made;
  same = ap (λ (x : Role). λ (q : Role). is_sink_of w q || (index_of x == index_of q)) p.role;
  made = makes w made;
  rest = writing_to here p.rest;
}
  where
    here : IsTrue (is_sink_of w u.role || (index_of u.role == index_of u.role))
    here = ap (λ b. is_sink_of w u.role || b) (self_test u.role) ∙ or_true (is_sink_of w u.role)

    ends : IsTrue s.tells → (r : Role) → text_if t (Some v) r [] ≡ text_if s (Some u) r [] ++ given_if (Some u) bytes r
    ends told r =
        elim (role_tells u.role r) [
          | inl e ↦ rw (ap (λ x. index_of x == index_of r) p.role ∙ e.0, e.0) (p.text told)
          | inr e ↦ rw (ap (λ x. index_of x == index_of r) p.role ∙ e.0, e.0) refl
        ]

    texts : (w : Option SinkView) → AreMade s (record { first = w; second = Some u }) → IsTrue s.tells → (r : Role) → IsTrue (is_sink_of w r || is_sink_of (Some u) r)
        → text_if t w r (text_if t (Some v) r []) ≡ text_if s w r (text_if s (Some u) r []) ++ given_if (Some u) bytes r
    texts None m told r is = ends told r
    texts (Some x) m told r is =
        elim (role_tells x.role r) [
          | inl e ↦
              let other : u.role ≢ r = λ d. m.apart.roles (d ∙ sym e.1) in
              let state : t.role x.role ≡ s.role x.role = p.rest.roles x.role (λ d. m.apart.roles (sym d)) in
              rw (e.0, not_role other) (ap (λ y. y.written ++ x.pending) state ∙ sym (append-nil (text_in s x)))
          | inr e ↦ rw (e.0) (ends told r)
        ]

    makes : (w : Option SinkView) → AreMade s (record { first = w; second = Some u }) → AreMade t (record { first = w; second = Some v })
    makes None m = record { first = tt; second = subst (IsMade t) (sym p.role) (p.made m.second); apart = tt }
    makes (Some x) m =
        let state : t.role x.role ≡ s.role x.role = p.rest.roles x.role (λ d. m.apart.roles (sym d)) in
        record {
          first = made_stays p.rest (λ d. m.apart.roles (sym d)) (λ told d. m.apart.names told (sym d)) m.first;
          second = subst (IsMade t) (sym p.role) (p.made m.second);
          apart = record {
            roles = λ e. m.apart.roles (sym p.role ∙ e);
            names = λ told e. m.apart.names ((tells_same p.rest.later).0 told) (sym p.rest.name ∙ ap (λ y. (t.role y).name) (sym p.role) ∙ e ∙ ap (λ y. y.name) state);
          };
        }

-- calls that add nothing, one after another
pub gives_more : {s t u : HostState} {a b c : Sinks} → Gives s t a b (λ r. []) → Gives t u b c (λ r. []) → Gives s u a c (λ r. [])
gives_more {s = s} {t = t} {u = u} {a = a} {b = b} {c = c} p q = record {
  text = λ told r is.
      q.text (subst IsTrue (sym p.rest.later.tells) told) r (subst (λ f. IsTrue (f r)) (sym p.same) is) ∙ append-nil (text_at t b r) ∙ p.text told r is;
  same = q.same ∙ p.same;
  made = q.made;
  rest = writing_after p.rest (subst (λ f. IsWritingTo f t u) p.same q.rest);
}

-- a fault of the second sink, after calls on the first
pub second_cause : (from : Role) (w u : Option SinkView) (s t k : HostState) (result : Result (Unit {0}) Fault) → IsLater s t → IfErr result (λ f. IsSomeAnd u (λ x. f ≡ Write x.role))
    → OnErr result (IfSome u (λ x. RoseForAll t k x.role)) → HasFaultCause from (has_sink (record { first = w; second = u })) s k (fault_in result)
second_cause from w u s t k (Ok v) later fault rose = tt
second_cause from w None s t k (Err f) later fault rose = absurd fault
second_cause from w (Some x) s t k (Err f) later fault rose =
    let P : Fault → Type 0 = λ e. HasFaultCause from (has_sink (record { first = w; second = Some x })) s k (Some e) in
    subst P (sym fault) (ap (λ b. is_sink_of w x.role || b) (self_test x.role) ∙ or_true (is_sink_of w x.role), rose_for_all_after later rose)
