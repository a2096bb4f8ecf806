-- What the calls of streams over a host's files do.
use Rattle.std.proofs.Common.{◌≡◌, ◌≢◌, ℕ, Bool, true, false, cond, Result, Ok, Err, OnOk, OnErr, List, [], ◌++◌, IsTrue, refl, sym, ◌∙◌, ap, subst, append-nil, append_assoc, inl, inr}
use Rattle.std.proofs.Math.Path.{fun_ext}
use Rattle.std.specs.Prelude.{◌||◌, ◌==◌, Option, Some, None, IfOk}
use Rattle.std.proofs.lemmas.Bool.{cond-true, cond-false}
use Rattle.conda_host.specs.declared.outside.Role.{Role}
use Rattle.conda_host.specs.declared.outside.HostFailed.{HostFailed}
use Rattle.conda_host.specs.Role.{index_of}
use Rattle.conda_host.specs.State.{HostState, IsReading, Reads}
use Rattle.streams.specs.declared.fault.Fault.{Fault}
use Rattle.streams.specs.declared.sinks.Sinks.{Sinks}
use Rattle.streams.specs.Seen.{Seen, ShowsText, ShowsFront, Takes, Puts, fault_in}
use Rattle.streams.specs.Holding.{SinkHolds, SinkHoldsFront}
use Rattle.streams.specs.Sink.{SinkView, IsMade, text_in}
use Rattle.streams.specs.Streaming.{is_sink_of, has_sink, text_if, text_at, told_text, seen_over, seen_alone, AreMade, AreOpen, AreWhole, Gives, IsLed, HasFaultCause, added_to}
use Rattle.streams.proofs.StreamFacts.{role_tells, not_role, self_test, streaming_of_writing}

-- what streams over a host show, from its parts
abbrev shown : Bool → List ℕ → (Role → Bool) → (Role → List ℕ) → Seen
shown tells left sinks text = record { tells = tells; left = left; sinks = sinks; text = text }

-- ---- reading

not_same : {a b : Role} → (index_of a == index_of b) ≡ false → a ≢ b
not_same {a = a} {b = b} test =
    elim (role_tells a b) [
      | inl e ↦ let no : true ≡ false = sym e.0 ∙ test in cc
      | inr e ↦ e.1
    ]

same_text : {s t : HostState} {from : Role} (w : Option SinkView) (r : Role) (other : List ℕ) → IsReading s t from → is_sink_of w from ≡ false → text_if t w r other ≡ text_if s w r other
same_text None r other p none = refl
same_text (Some x) r other p none =
    ap (λ y. cond (index_of x.role == index_of r) (y.written ++ x.pending) other) (p.roles x.role (not_same none))

first_not : (a b : Bool) → (a || b) ≡ false → a ≡ false
first_not true b e = e
first_not false b e = refl

second_not : (a b : Bool) → (a || b) ≡ false → b ≡ false
second_not true b e = cc
second_not false b e = e

pub reads_seen : {s t : HostState} (from : Role) (sinks : Sinks) → IsReading s t from → has_sink sinks from ≡ false
    → seen_over t from sinks ≡ record (seen_over s from sinks) { left = (t.role from).left }
reads_seen {s = s} {t = t} from sinks p other =
    ap (λ x. shown x (t.role from).left (has_sink sinks) (told_text t sinks)) p.later.tells
    ∙ ap (λ x. shown s.tells (t.role from).left (has_sink sinks) x) (fun_ext texts)
  where
    texts : (r : Role) → told_text t sinks r ≡ told_text s sinks r
    texts r =
        ap (λ b. cond b (text_at t sinks r) []) p.later.tells
        ∙ ap (λ x. cond s.tells x [])
        (same_text sinks.first r (text_if t sinks.second r []) p (first_not (is_sink_of sinks.first from) (is_sink_of sinks.second from) other)
        ∙ ap (text_if s sinks.first r) (same_text sinks.second r [] p (second_not (is_sink_of sinks.first from) (is_sink_of sinks.second from) other)))

pub reads_open : {s t : HostState} (from : Role) (sinks : Sinks) → IsReading s t from → IsTrue (t.role from).opened → AreOpen s from sinks → AreOpen t from sinks
reads_open {s = s} {t = t} from sinks p is before = record {
  opened = is;
  made = makes sinks.first sinks.second before.made (first_not (is_sink_of sinks.first from) (is_sink_of sinks.second from) before.other) (second_not (is_sink_of sinks.first from) (is_sink_of sinks.second from) before.other);
  other = before.other;
}
  where
    keeps : (q : Role) → q ≢ from → IsMade s q → IsMade t q
    keeps q d m =
        let same : t.role q ≡ s.role q = p.roles q d in
        record {
          created = subst (λ x. IsTrue x.created) (sym same) m.created;
          file = λ told. ap (λ x. t.file x.name) same ∙ p.files (s.role q).name ∙ m.file (subst IsTrue p.later.tells told) ∙ ap (λ x. Some x.written) (sym same);
        }

    makes : (u w : Option SinkView) → AreMade s (record { first = u; second = w }) → is_sink_of u from ≡ false → is_sink_of w from ≡ false → AreMade t (record { first = u; second = w })
    makes None None m d e = record { first = tt; second = tt; apart = tt }
    makes None (Some y) m d e = record { first = tt; second = keeps y.role (not_same e) m.second; apart = tt }
    makes (Some x) None m d e = record { first = keeps x.role (not_same d) m.first; second = tt; apart = tt }
    makes (Some x) (Some y) m d e = record {
      first = keeps x.role (not_same d) m.first;
      second = keeps y.role (not_same e) m.second;
      apart = record {
        roles = m.apart.roles;
        names = λ told n. m.apart.names (subst IsTrue p.later.tells told)
            (ap (λ z. z.name) (sym (p.roles y.role (not_same e))) ∙ n ∙ ap (λ z. z.name) (p.roles x.role (not_same d)));
      };
    }

-- a call that failed
pub failed_seen : {s t : HostState} (from : Role) (sinks : Sinks) → IsReading s t from → has_sink sinks from ≡ false → t.role from ≡ s.role from → seen_over t from sinks ≡ seen_over s from sinks
failed_seen {s = s} from sinks p other same = reads_seen from sinks p other ∙ ap (λ x. shown s.tells x.left (has_sink sinks) (told_text s sinks)) same

-- a role stays opened, whether the call read some bytes or failed
pub still_opened : (s t : HostState) (before after : List ℕ) (from : Role) (result : Result ℕ HostFailed) → IfOk result (λ n. Reads s t from before after n) → OnErr result (t.role from ≡ s.role from)
    → IsTrue (s.role from).opened → IsTrue (t.role from).opened
still_opened s t before after from (Ok n) ok err is = ok.opened
still_opened s t before after from (Err e) ok err is = subst (λ x. IsTrue x.opened) (sym err) is

pub reads_takes : {s t : HostState} {before after : List ℕ} (from : Role) (sinks : Sinks) (n : ℕ) → IsReading s t from → has_sink sinks from ≡ false → Reads s t from before after n
    → Takes (seen_over s from sinks) (seen_over t from sinks) before after n
reads_takes from sinks n p other r = record { bound = r.bound; bytes = r.bytes; ended = r.ended; rest = reads_seen from sinks p other }

-- ---- putting

pub gives_open : {s t : HostState} {a b : Sinks} {f : Role → List ℕ} (from : Role) → Gives s t a b f → AreOpen s from a → AreOpen t from b
gives_open {s = s} {t = t} {a = a} {b = b} from p before = record {
  opened = subst (λ x. IsTrue x.opened) (sym (p.rest.roles from before.other)) before.opened;
  made = p.made;
  other = ap (λ f. f from) p.same ∙ before.other;
}

pub gives_either : {s t : HostState} {a b : Sinks} (f g : Role → List ℕ) (from : Role) (result : Result (Unit {0}) Fault) → OnOk result (Gives s t a b f) → OnErr result (Gives s t a b g) → AreOpen s from a → AreOpen t from b
gives_either f g from (Ok v) ok err before = gives_open from ok before
gives_either f g from (Err e) ok err before = gives_open from err before

-- a text to which nothing is added
text_same : {s t : HostState} {a b : Sinks} {f : Role → List ℕ} (r : Role) → Gives s t a b f → f r ≡ [] → told_text t b r ≡ told_text s a r
text_same {s = s} {t = t} {a = a} {b = b} {f = f} r p nothing = rw (p.rest.later.tells) (go s.tells refl (has_sink a r) refl)
  where
    none : (x : HostState) (w : Option SinkView) → is_sink_of w r ≡ false → (other : List ℕ) → text_if x w r other ≡ other
    none x None not other = refl
    none x (Some y) not other = cond-false (index_of y.role == index_of r) (text_in x y) other not

    not_there : (x : HostState) (sinks : Sinks) → has_sink sinks r ≡ false → text_at x sinks r ≡ []
    not_there x sinks not =
        none x sinks.first (first_not (is_sink_of sinks.first r) (is_sink_of sinks.second r) not) (text_if x sinks.second r [])
        ∙ none x sinks.second (second_not (is_sink_of sinks.first r) (is_sink_of sinks.second r) not) []

    go : (told : Bool) → s.tells ≡ told → (has : Bool) → has_sink a r ≡ has → cond told (text_at t b r) [] ≡ cond told (text_at s a r) []
    go false e has is = refl
    go true e true is = p.text e r is ∙ ap (λ x. text_at s a r ++ x) nothing ∙ append-nil (text_at s a r)
    go true e false is = not_there t b (ap (λ f. f r) p.same ∙ is) ∙ sym (not_there s a is)

pub gives_seen : {s t : HostState} {a b : Sinks} (from : Role) → Gives s t a b (λ r. []) → has_sink a from ≡ false → seen_over t from b ≡ seen_over s from a
gives_seen {s = s} {t = t} {a = a} {b = b} from p other =
    ap (λ x. shown x (t.role from).left (has_sink b) (told_text t b)) p.rest.later.tells
    ∙ ap (λ x. shown s.tells x.left (has_sink b) (told_text t b)) (p.rest.roles from other)
    ∙ ap (λ x. shown s.tells (s.role from).left x (told_text t b)) p.same
    ∙ ap (λ x. shown s.tells (s.role from).left (has_sink a) x) (fun_ext (λ r. text_same r p refl))

-- what bytes that are given to one role do to the texts
text_given : {s t : HostState} {a b : Sinks} (role : Role) (bytes : List ℕ) → Gives s t a b (added_to role bytes) → IsTrue s.tells → IsTrue (has_sink a role) → told_text t b role ≡ told_text s a role ++ bytes
text_given {s = s} {t = t} {a = a} {b = b} role bytes p told is =
    cond-true t.tells (text_at t b role) [] (p.rest.later.tells ∙ told) ∙ p.text told role is
    ∙ ap (λ x. text_at s a role ++ x) (cond-true (index_of role == index_of role) bytes [] (self_test role))
    ∙ ap (λ x. x ++ bytes) (sym (cond-true s.tells (text_at s a role) [] told))

others_given : {s t : HostState} {a b : Sinks} (role : Role) (bytes : List ℕ) → Gives s t a b (added_to role bytes) → (r : Role) → r ≢ role → told_text t b r ≡ told_text s a r
others_given role bytes p r d = text_same r p (cond-false (index_of role == index_of r) bytes [] (not_role (λ e. d (sym e))))

pub gives_puts : {s t : HostState} {a b : Sinks} (from role : Role) (bytes : List ℕ) → Gives s t a b (added_to role bytes) → has_sink a from ≡ false → Puts (seen_over s from a) (seen_over t from b) role bytes
gives_puts {s = s} {t = t} {a = a} {b = b} from role bytes p other = record {
  text = text_given role bytes p;
  others = others_given role bytes p;
  rest =
      ap (λ x. shown x (t.role from).left (has_sink b) (told_text t b)) p.rest.later.tells
      ∙ ap (λ x. shown s.tells x.left (has_sink b) (told_text t b)) (p.rest.roles from other)
      ∙ ap (λ x. shown s.tells (s.role from).left x (told_text t b)) p.same;
}

-- the same of sinks beside which nothing is read
pub gives_seen_alone : {s t : HostState} {a b : Sinks} → Gives s t a b (λ r. []) → seen_alone t b ≡ seen_alone s a
gives_seen_alone {s = s} {t = t} {a = a} {b = b} p =
    ap (λ x. shown x [] (has_sink b) (told_text t b)) p.rest.later.tells
    ∙ ap (λ x. shown s.tells [] x (told_text t b)) p.same
    ∙ ap (λ x. shown s.tells [] (has_sink a) x) (fun_ext (λ r. text_same r p refl))

pub gives_puts_alone : {s t : HostState} {a b : Sinks} (role : Role) (bytes : List ℕ) → Gives s t a b (added_to role bytes) → Puts (seen_alone s a) (seen_alone t b) role bytes
gives_puts_alone {s = s} {t = t} {a = a} {b = b} role bytes p = record {
  text = text_given role bytes p;
  others = others_given role bytes p;
  rest =
      ap (λ x. shown x [] (has_sink b) (told_text t b)) p.rest.later.tells
      ∙ ap (λ x. shown s.tells [] x (told_text t b)) p.same;
}

pub gives_made : (s : HostState) {t : HostState} (a : Sinks) {b : Sinks} (f g : Role → List ℕ) (result : Result (Unit {0}) Fault) → OnOk result (Gives s t a b f) → OnErr result (Gives s t a b g) → AreMade t b
gives_made s a f g (Ok v) ok err = ok.made
gives_made s a f g (Err e) ok err = err.made

pub gives_led : {s t : HostState} {a b : Sinks} {f : Role → List ℕ} (from : Role) (fault : Option Fault) → Gives s t a b f → HasFaultCause from (has_sink a) s t fault → IsLed from a b s t fault
gives_led from fault p cause = record { same = p.same; streaming = streaming_of_writing from p.rest; cause = cause }

pub either_led : {s t : HostState} {a b : Sinks} (f g : Role → List ℕ) (from : Role) (result : Result (Unit {0}) Fault) → OnOk result (Gives s t a b f) → OnErr result (Gives s t a b g)
    → HasFaultCause from (has_sink a) s t (fault_in result) → IsLed from a b s t (fault_in result)
either_led f g from (Ok v) ok err cause = gives_led from None ok cause
either_led f g from (Err e) ok err cause = gives_led from (Some e) err cause

-- ---- what the files hold

-- the file of a role's sink, and what is pending of its text
pub record SinkFile (s : HostState) (sinks : Sinks) (r : Role) : Type 0 where
  pub pending : List ℕ
  pub file : s.file (s.role r).name ≡ Some (s.role r).written
  pub text : text_at s sinks r ≡ (s.role r).written ++ pending
  pub whole : AreWhole sinks → pending ≡ []

-- one of them
one_file : (s : HostState) (x : SinkView) (r : Role) → x.role ≡ r → IsMade s x.role → IsTrue s.tells
    → (s.file (s.role r).name ≡ Some (s.role r).written) × (text_in s x ≡ (s.role r).written ++ x.pending)
one_file s x r e made told = (
  ap (λ q. s.file (s.role q).name) (sym e) ∙ made.file told ∙ ap (λ q. Some (s.role q).written) e,
  ap (λ q. (s.role q).written ++ x.pending) e,
)

second_file : (s : HostState) (u w : Option SinkView) (r : Role) → ((x : HostState) (other : List ℕ) → text_if x u r other ≡ other) → AreMade s (record { first = u; second = w }) → IsTrue s.tells → IsTrue (is_sink_of w r)
    → SinkFile s (record { first = u; second = w }) r
second_file s u None r other made told is = cc
second_file s u (Some y) r other made told is =
    elim (role_tells y.role r) [
      | inl e ↦
          let one = one_file s y r e.1 made.second told in
          record {
            pending = y.pending;
            file = one.0;
            text = other s _ ∙ cond-true (index_of y.role == index_of r) (text_in s y) [] e.0 ∙ one.1;
            whole = λ h. h.second;
          }
      | inr e ↦ let no : true ≡ false = sym is ∙ e.0 in cc
    ]

pub sink_file : (s : HostState) (u w : Option SinkView) (r : Role) → AreMade s (record { first = u; second = w }) → IsTrue s.tells → IsTrue (is_sink_of u r || is_sink_of w r) → SinkFile s (record { first = u; second = w }) r
sink_file s None w r made told is = second_file s None w r (λ x other. refl) made told is
sink_file s (Some x) w r made told is =
    elim (role_tells x.role r) [
      | inl e ↦
          let one = one_file s x r e.1 made.first told in
          record {
            pending = x.pending;
            file = one.0;
            text = cond-true (index_of x.role == index_of r) (text_in s x) (text_if s w r []) e.0 ∙ one.1;
            whole = λ h. h.first;
          }
      | inr e ↦
          second_file s (Some x) w r (λ y other. cond-false (index_of x.role == index_of r) (text_in y x) other e.0) made told (sym (ap (λ b. b || is_sink_of w r) e.0) ∙ is)
    ]

pub whole_holds : (s : HostState) (from : Role) (a : Sinks) (r : Role) (text : List ℕ) → AreMade s a → AreWhole a → ShowsText (seen_over s from a) r text → SinkHolds s (has_sink a) r text
whole_holds s from a r text made whole h = record {
  file = λ told is.
      let f = sink_file s a.first a.second r made told is in
      f.file ∙ ap Some (sym (append-nil (s.role r).written) ∙ ap (λ x. (s.role r).written ++ x) (sym (f.whole whole)) ∙ sym f.text
      ∙ sym (cond-true s.tells (text_at s a r) [] told) ∙ h.same told is);
}

pub front_holds : (s : HostState) (from : Role) (a : Sinks) (r : Role) (text : List ℕ) → AreMade s a → ShowsFront (seen_over s from a) r text → SinkHoldsFront s (has_sink a) r text
front_holds s from a r text made h = record {
  written = (s.role r).written;
  file = λ told is. (sink_file s a.first a.second r made told is).file;
  front = λ told is.
      let f = sink_file s a.first a.second r made told is in
      let h = h.front told is in
      record {
        rest = f.pending ++ h.rest;
        same = h.same ∙ ap (λ x. x ++ h.rest) (cond-true s.tells (text_at s a r) [] told ∙ f.text) ∙ append_assoc (s.role r).written f.pending h.rest;
      };
}
