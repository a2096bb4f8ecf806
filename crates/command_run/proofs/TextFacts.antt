-- The files of order and output as sinks.
use Rattle.std.proofs.Common.{◌≡◌, ◌≢◌, ℕ, Bool, true, false, IsTrue, List, [], ◌++◌, Result, Ok, Err, refl, sym, ◌∙◌, ap, subst, append-nil, inl, inr}
use Rattle.std.specs.Prelude.{◌⊎◌, ◌||◌, ◌==◌, Option, Some, None, IfSome, IsSomeAnd, IfErr, is_some}
use Rattle.std.proofs.lemmas.Bool.{cond-true}
use Rattle.conda_host.specs.declared.outside.Role.{Role}
use Rattle.conda_host.specs.declared.outside.Role.TheVariants as role
use Rattle.conda_host.specs.Role.{index_of}
use Rattle.conda_host.specs.State.{HostState, Rose, RoseForAll}
use Rattle.streams.specs.declared.fault.Fault.{Fault}
use Rattle.streams.specs.declared.fault.Fault.TheVariants as fault
use Rattle.streams.specs.declared.sinks.Sinks.{Sinks}
use Rattle.streams.specs.Seen.{ShowsText, fault_in}
use Rattle.streams.specs.Sink.{SinkView, IsMade}
use Rattle.streams.specs.Streaming.{is_sink_of, has_sink, text_at, seen_over, HaveTwoFiles as SinksApart, AreMade, AreOpen, AreWhole, IsStreaming, HasFaultCause}
use Rattle.streams.specs.Using.{KeepsTo}
use Rattle.streams.proofs.FilesFacts.{sink_file}
use Rattle.streams.proofs.StreamFacts.{role_tells, self_test}
use Rattle.streams.proofs.UsingFacts.{keeps_streaming}
use Rattle.machine_run.specs.declared.ending.Ending.{Ending}
use Rattle.machine_run.specs.declared.run.Run.{Run}
use Rattle.machine_run.specs.declared.machine.Machine.{Ghosts}
use Rattle.machine_run.specs.Filing.{IsNew, RunsFiles}
use Rattle.machine_run.specs.Tasks.{AreNewSinks, IsUnusedSink}
use Rattle.chip_laws.specs.Design.{Design}
use Rattle.streams.specs.Holding.{SinkHolds, SinkHoldsFront}
use Rattle.command_run.specs.Driving.{IsEmptyFile, AreMadeTexts, HoldTexts, HoldsFrontAt, HoldTextFronts, RunsTexts}
use Rattle.command_run.specs.Names.{Names, HaveDistinctNames, FaultRose, all_files, text_files, text_uses}

-- a sink's file, under its name
pub record NamedFile (h : HostState) (names : Names) (r : Role) : Type 0 where
  pub name : List ℕ
  pub used : text_files names r ≡ Some name
  pub empty : IsEmptyFile h r name

output_file : (h : HostState) (names : Names) → AreMadeTexts names h → is_some names.output ≡ true → NamedFile h names role.Output
output_file h names made there = go names.output refl made.output there
  where
    go : (o : Option (List ℕ)) → names.output ≡ o → IfSome o (IsEmptyFile h role.Output) → is_some o ≡ true → NamedFile h names role.Output
    go None e m t = cc
    go (Some n) e m t = record { name = n; used = e; empty = m }

is_role : (w : Option SinkView) (r q : Role) → IfSome w (IsUnusedSink r) → IsTrue (is_sink_of w q) → (q ≡ r) × (is_some w ≡ true)
is_role None r q unused is = cc
is_role (Some y) r q unused is =
    elim (role_tells y.role q) [
      | inl e ↦ (sym e.1 ∙ unused.role_is, refl)
      | inr e ↦ let no : true ≡ false = sym is ∙ e.0 in cc
    ]

either : (a b : Bool) → (a || b) ≡ true → (a ≡ true) ⊎ (b ≡ true)
either true b is = inl refl
either false b is = inr is

first_unused : (names : Names) (a : Sinks) → AreNewSinks (is_some names.output) a → IfSome a.first (IsUnusedSink role.Order)
first_unused names a ready = subst (λ o. IfSome o (IsUnusedSink role.Order)) (sym ready.order.1) ready.order.2

-- each sink has a file that was made, empty, under its name
pub file_of : (h : HostState) (names : Names) (a : Sinks) → AreNewSinks (is_some names.output) a → AreMadeTexts names h → (r : Role) → IsTrue (has_sink a r) → NamedFile h names r
file_of h names a ready made r is =
    elim (either (is_sink_of a.first r) (is_sink_of a.second r) is) [
      | inl e ↦
          let same : r ≡ role.Order = (is_role a.first role.Order r (first_unused names a ready) e).0 in
          subst (NamedFile h names) (sym same) (record { name = names.order; used = refl; empty = made.order })
      | inr e ↦
          let found = is_role a.second role.Output r ready.output e in
          subst (NamedFile h names) (sym found.0) (output_file h names made (sym ready.both ∙ found.1))
    ]

made_of : (h : HostState) (names : Names) (r : Role) → NamedFile h names r → IsMade h r
made_of h names r f = record {
  created = f.empty.created;
  file = λ told. ap h.file (f.empty.named told) ∙ f.empty.file told ∙ ap Some (sym (f.empty.written told));
}

differ : (names : Names) (f g : List ℕ) → HaveDistinctNames names → text_files names role.Order ≡ Some f → text_files names role.Output ≡ Some g → g ≢ f
differ names f g apart order output = λ same. go names.output apart.order_output output same
  where
    go : (o : Option (List ℕ)) → IfSome o (λ name. names.order ≢ name) → o ≡ Some g → g ≡ f → ⊥
    go None d e same = cc
    go (Some n) d e same = d (let one : names.order ≡ n = cc in one)

pub sinks_made : (h : HostState) (names : Names) (a : Sinks) → AreNewSinks (is_some names.output) a → AreMadeTexts names h → HaveDistinctNames names → AreMade h a
sinks_made h names a ready made apart = record {
  first = one a.first (λ r is. file_of h names a ready made r (ap (λ b. b || is_sink_of a.second r) is ∙ refl));
  second = one a.second (λ r is. file_of h names a ready made r (ap (λ b. is_sink_of a.first r || b) is ∙ or_true (is_sink_of a.first r)));
  apart = both a.first a.second (first_unused names a ready) ready.output
      (λ is. (file_of h names a ready made role.Order is)) (λ is. file_of h names a ready made role.Output is) refl refl;
}
  where
    or_true : (b : Bool) → (b || true) ≡ true
    or_true true = refl
    or_true false = refl

    one : (o : Option SinkView) → ((r : Role) → IsTrue (is_sink_of o r) → NamedFile h names r) → IfSome o (λ x. IsMade h x.role)
    one None f = tt
    one (Some x) f = made_of h names x.role (f x.role (self_test x.role))

    both : (u w : Option SinkView) → IfSome u (IsUnusedSink role.Order) → IfSome w (IsUnusedSink role.Output) → (IsTrue (has_sink a role.Order) → NamedFile h names role.Order)
        → (IsTrue (has_sink a role.Output) → NamedFile h names role.Output) → a.first ≡ u → a.second ≡ w → IfSome u (λ x. IfSome w (SinksApart h x))
    both None w p q f g e d = tt
    both (Some x) None p q f g e d = tt
    both (Some x) (Some y) p q f g e d =
        let here : IsTrue (has_sink a role.Order) = ap (λ o. is_sink_of o role.Order || is_sink_of a.second role.Order) e ∙ ap (λ r. (index_of r == index_of role.Order) || is_sink_of a.second role.Order) p.role_is in
        let there : IsTrue (has_sink a role.Output) = ap (λ o. is_sink_of a.first role.Output || is_sink_of o role.Output) d ∙ ap (λ r. is_sink_of a.first role.Output || (index_of r == index_of role.Output)) q.role_is
        ∙ or_true (is_sink_of a.first role.Output) in
        record {
          roles = λ same. let no : role.Output ≡ role.Order = sym q.role_is ∙ same ∙ p.role_is in cc;
          names = λ told same. differ names (f here).name (g there).name apart (f here).used (g there).used
              (sym ((g there).empty.named told) ∙ ap (λ r. (h.role r).name) (sym q.role_is) ∙ same ∙ ap (λ r. (h.role r).name) p.role_is ∙ (f here).empty.named told);
        }

pub sinks_open : (h : HostState) (names : Names) (a : Sinks) → AreNewSinks (is_some names.output) a → AreMadeTexts names h → HaveDistinctNames names → IsTrue (h.role role.Schedule).opened → AreOpen h role.Schedule a
sinks_open h names a ready made apart opened = record { opened = opened; made = sinks_made h names a ready made apart; other = none (has_sink a role.Schedule) refl }
  where
    none : (b : Bool) → has_sink a role.Schedule ≡ b → has_sink a role.Schedule ≡ false
    none true e = let f = file_of h names a ready made role.Schedule e in let no : None ≡ Some f.name = f.used in cc
    none false e = e

whole_of : (names : Names) (a : Sinks) → AreNewSinks (is_some names.output) a → AreWhole a
whole_of names a ready = record { first = one a.first (first_unused names a ready); second = two a.second ready.output }
  where
    one : (o : Option SinkView) → IfSome o (IsUnusedSink role.Order) → IfSome o (λ x. x.pending ≡ [])
    one None u = tt
    one (Some x) u = u.none

    two : (o : Option SinkView) → IfSome o (IsUnusedSink role.Output) → IfSome o (λ x. x.pending ≡ [])
    two None u = tt
    two (Some x) u = u.none

pub sinks_new : {A : Type 0} (h : HostState) (names : Names) (a : Sinks) (run : Run A) → AreNewSinks (is_some names.output) a → AreMadeTexts names h → HaveDistinctNames names → run.events ≡ 0 → run.output_bytes ≡ 0
    → IsNew (seen_over h role.Schedule a) run
sinks_new h names a run ready made apart events bytes = record { events = events; bytes = bytes; order = text role.Order; output = text role.Output }
  where
    text : (r : Role) → ShowsText (seen_over h role.Schedule a) r []
    text r = record {
      same = λ told is.
          let f = sink_file h a.first a.second r (sinks_made h names a ready made apart) told is in
          cond-true h.tells (text_at h a r) [] told ∙ f.text ∙ ap (λ x. (h.role r).written ++ x) (f.whole (whole_of names a ready)) ∙ append-nil (h.role r).written
          ∙ (file_of h names a ready made r is).empty.written told;
    }

pub sinks_keep : (h k : HostState) (names : Names) (a : Sinks) → AreNewSinks (is_some names.output) a → AreMadeTexts names h → IsStreaming role.Schedule (has_sink a) h k → KeepsTo (text_uses names) h k
sinks_keep h k names a ready made p =
    keeps_streaming refl (λ r is told. let f = file_of h names a ready made r is in f.used ∙ ap Some (sym (f.empty.named told))) (λ r none. unused r none (has_sink a r) refl) p
  where
    unused : (r : Role) → text_files names r ≡ None → (b : Bool) → has_sink a r ≡ b → has_sink a r ≡ false
    unused r none true e = let f = file_of h names a ready made r e in let no : None ≡ Some f.name = sym none ∙ f.used in cc
    unused r none false e = e

all_of_text : (names : Names) (r : Role) (n : List ℕ) → text_files names r ≡ Some n → all_files names r ≡ Some n
all_of_text names role.Order n e = e
all_of_text names role.Output n e = e
all_of_text names other n e = cc

pub sinks_cause : (h k : HostState) (names : Names) (a : Sinks) (result : Result Ending Fault) → AreNewSinks (is_some names.output) a → AreMadeTexts names h → HasFaultCause role.Schedule (has_sink a) h k (fault_in result)
    → IfErr result (FaultRose names h k)
sinks_cause h k names a (Ok e) ready made cause = tt
sinks_cause h k names a (Err (fault.Read r)) ready made cause =
    let P : Role → Type 0 = λ q. FaultRose names h k (fault.Read q) in
    let rose : RoseForAll h k role.Schedule = subst (RoseForAll h k) cause.0 cause.1 in
    subst P (sym cause.0) (rose.each names.schedule)
sinks_cause h k names a (Err (fault.Write r)) ready made cause =
    let f = file_of h names a ready made r cause.0 in
    subst (λ o. IsSomeAnd o (λ name. Rose h k r name)) (sym (all_of_text names r f.name f.used)) (cause.1.each f.name)

-- ---- what the files hold, by their names

has_order : (names : Names) (a : Sinks) → AreNewSinks (is_some names.output) a → IsTrue (has_sink a role.Order)
has_order names a ready =
    ap (λ o. is_sink_of o role.Order || is_sink_of a.second role.Order) ready.order.1
    ∙ ap (λ r. (index_of r == index_of role.Order) || is_sink_of a.second role.Order) ready.order.2.role_is

has_output : (names : Names) (a : Sinks) (n : List ℕ) → AreNewSinks (is_some names.output) a → names.output ≡ Some n → IsTrue (has_sink a role.Output)
has_output names a n ready is = go a.second refl ready.output (ready.both ∙ ap is_some is)
  where
    or_true : (b : Bool) → (b || true) ≡ true
    or_true true = refl
    or_true false = refl

    go : (w : Option SinkView) → a.second ≡ w → IfSome w (IsUnusedSink role.Output) → is_some w ≡ true → IsTrue (has_sink a role.Output)
    go None e u there = cc
    go (Some y) e u there =
        ap (λ o. is_sink_of a.first role.Output || is_sink_of o role.Output) e ∙ ap (λ r. is_sink_of a.first role.Output || (index_of r == index_of role.Output)) u.role_is ∙ or_true (is_sink_of a.first role.Output)

-- a sink's file has the name that is given to it
named_now : (h k : HostState) (names : Names) (a : Sinks) (ready : AreNewSinks (is_some names.output) a) (made : AreMadeTexts names h) → IsStreaming role.Schedule (has_sink a) h k → IsTrue h.tells → (r : Role) (is : IsTrue (has_sink a r))
    → (n : List ℕ) → text_files names r ≡ Some n → (k.role r).name ≡ n
named_now h k names a ready made p told r is n used =
    let f = file_of h names a ready made r is in
    let same : f.name ≡ n = (let one : Some f.name ≡ Some n = sym f.used ∙ used in cc) in
    (p.made r is).name ∙ f.empty.named told ∙ same

pub texts_held : (h k : HostState) (names : Names) (a b : Sinks) (journal bytes : List ℕ) → AreNewSinks (is_some names.output) a → AreMadeTexts names h → IsStreaming role.Schedule (has_sink a) h k → has_sink b ≡ has_sink a → IsTrue h.tells
    → SinkHolds k (has_sink b) role.Order journal → SinkHolds k (has_sink b) role.Output bytes → HoldTexts names k journal bytes
texts_held h k names a b journal bytes ready made p same told order output = record { order = at role.Order names.order (has_order names a ready) refl journal order; output = go names.output refl }
  where
    at : (r : Role) (n : List ℕ) → IsTrue (has_sink a r) → text_files names r ≡ Some n → (text : List ℕ) → SinkHolds k (has_sink b) r text → k.file n ≡ Some text
    at r n is used text held =
        ap k.file (sym (named_now h k names a ready made p told r is n used))
        ∙ held.file (subst IsTrue (sym p.later.tells) told) (subst (λ f. IsTrue (f r)) (sym same) is)

    go : (o : Option (List ℕ)) → names.output ≡ o → IfSome o (λ name. k.file name ≡ Some bytes)
    go None e = tt
    go (Some n) e = at role.Output n (has_output names a n ready e) e bytes output

pub fronts_held : (h k : HostState) (names : Names) (a b : Sinks) (journal bytes : List ℕ) → AreNewSinks (is_some names.output) a → AreMadeTexts names h → IsStreaming role.Schedule (has_sink a) h k → has_sink b ≡ has_sink a → IsTrue h.tells
    → SinkHoldsFront k (has_sink b) role.Order journal → SinkHoldsFront k (has_sink b) role.Output bytes → HoldTextFronts names k journal bytes
fronts_held h k names a b journal bytes ready made p same told order output = record { order = at role.Order names.order (has_order names a ready) refl journal order; output = go names.output refl }
  where
    at : (r : Role) (n : List ℕ) → IsTrue (has_sink a r) → text_files names r ≡ Some n → (text : List ℕ) → SinkHoldsFront k (has_sink b) r text → HoldsFrontAt k text n
    at r n is used text held =
        let now : IsTrue k.tells = subst IsTrue (sym p.later.tells) told in
        let there : IsTrue (has_sink b r) = subst (λ f. IsTrue (f r)) (sym same) is in
        record {
          written = held.written;
          file = ap k.file (sym (named_now h k names a ready made p told r is n used)) ∙ held.file now there;
          front = held.front now there;
        }

    go : (o : Option (List ℕ)) → names.output ≡ o → IfSome o (HoldsFrontAt k bytes)
    go None e = tt
    go (Some n) e = at role.Output n (has_output names a n ready e) e bytes output

pub texts_run : {A : Type 0} (m : Ghosts A) (d : Design) (bytes : List ℕ) (h k : HostState) (names : Names) (a b : Sinks) (run : Run A) (result : Result Ending Fault) → AreNewSinks (is_some names.output) a → AreMadeTexts names h
    → IsStreaming role.Schedule (has_sink a) h k → has_sink b ≡ has_sink a → IsTrue h.tells → RunsFiles m d bytes k (has_sink b) run result → RunsTexts m names d bytes k run result
texts_run m d bytes h k names a b run (Ok ending) ready made p same told runs = record {
  verdict = runs.0;
  stands = runs.1.stands;
  texts = texts_held h k names a b _ _ ready made p same told runs.1.order runs.1.output;
  count = runs.1.count;
  bytes_out = runs.1.bytes;
}
texts_run m d bytes h k names a b run (Err fault) ready made p same told runs = fronts_held h k names a b _ _ ready made p same told runs.order runs.output
