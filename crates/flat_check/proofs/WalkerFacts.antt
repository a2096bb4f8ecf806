-- What stands for a way through an order stands for it after the next entry.
use Rattle.std.proofs.Common.{◌≡◌, ◌<◌, ◌≤◌, ◌++◌, ◌||◌, ℕ, suc, Bool, true, false, cond, eqb, List, [], length, set, refl, sym, ap, ◌∙◌, subst, arith, ◌⊎◌, inl, inr, Option, Some, None}
use Rattle.std.specs.Option.{option_map}
use Rattle.std.specs.Prelude.{slice_get}
use Rattle.std.proofs.Math.Path.{fun_ext}
use Rattle.std.proofs.lemmas.Bool.{false≢true, cases_eq, eq-eqb, ne_eqb}
use Rattle.std.proofs.lemmas.List.{append-nil}
use Rattle.schedule_log.specs.declared.entry.Entry.TheVariants.{Step, Open, Spec, Commit, Back, Kern}
use Rattle.rv32_hart.specs.Code.{CodeView}
use Rattle.rv32_hart.specs.declared.act.Access.{Access}
use Rattle.offload_calls.specs.State.{Setup, State}
use Rattle.offload_calls.specs.Stores.{is_listed, stored_addresses}
use Rattle.offload_calls.specs.HartAct.{hart_stores}
use Rattle.offload_calls.specs.CoreActs.{written}
use Rattle.flat_check.specs.Acts.{stored_by}
use Rattle.flat_check.specs.Marks.{Marked}
use Rattle.flat_check.specs.Flats.{HasStepped, HasMadeAct, HasMadePortion, MarksStoredBeside}
use Rattle.flat_check.specs.Portions.{MarksStored, MarksBeside, is_marked_at, marks_at}
use Rattle.flat_check.specs.Tries.{TryParts, ShowsTries, MarksTry, counted_acts, opened, closed, counted, one_act, with_stored}
use Rattle.flat_check.specs.Walkers.{WalkerParts, ShowsWalk}
use Rattle.flat_check.specs.Walks.{Watched, Walk, watched_after, walked, has_acts, lowest, stored_of, overwritten, ruled, ruling_by, Unsound, Fine}
use Rattle.flat_check.proofs.ListFacts.{eqb-comm, updated-here, updated-there}
use Rattle.flat_check.proofs.TryFacts.{changed-one, counted-stored, marks-too}

-- ---- open tries after an entry

-- nothing more was stored
still : (x : Option Watched) → option_map (λ (w : Watched). record { acts = w.acts; stored = w.stored ++ [] }) x ≡ x
still None = refl
still (Some w) = ap (λ xs. Some (record { acts = w.acts; stored = xs })) (append-nil w.stored)

after-open : (s : Setup) (f : State) (tries : ℕ → Option Watched) (j i : ℕ) → opened tries j i ≡ watched_after s f i (tries i) (Open j)
after-open s f tries j i =
    ap (λ b. cond b (Some (record { acts = 0; stored = [] })) (tries i)) (eqb-comm i j)
    ∙ ap (λ y. cond (eqb j i) (Some (record { acts = 0; stored = [] })) y) (sym (still (tries i)))

after-back : (s : Setup) (f : State) (tries : ℕ → Option Watched) (j n c i : ℕ) → closed tries j i ≡ watched_after s f i (tries i) (Back j n c)
after-back s f tries j n c i =
    ap (λ b. cond b None (tries i)) (eqb-comm i j) ∙ ap (λ (y : Option Watched). cond (eqb j i) None y) (sym (still (tries i)))

after-spec : (s : Setup) (f : State) (tries : ℕ → Option Watched) (j i : ℕ) → counted tries j i ≡ watched_after s f i (tries i) (Spec j)
after-spec s f tries j i = go (cases_eq i j)
  where
    one : (x : Option Watched) → option_map one_act x ≡ option_map (λ (w : Watched). record { acts = suc w.acts; stored = w.stored ++ [] }) x
    one None = refl
    one (Some w) = ap (λ xs. Some (record { acts = suc w.acts; stored = xs })) (sym (append-nil w.stored))

    go : (i ≡ j) ⊎ (i ≡ j → ⊥) → counted tries j i ≡ watched_after s f i (tries i) (Spec j)
    go (inl same) =
        updated-here tries j (option_map one_act (tries j)) i same ∙ ap (λ k. option_map one_act (tries k)) (sym same) ∙ one (tries i)
        ∙ ap (λ b. option_map (λ (w : Watched). record { acts = cond b (suc w.acts) w.acts; stored = w.stored ++ [] }) (tries i)) (sym (eq-eqb j i (sym same)))
    go (inr other) =
        updated-there tries j (option_map one_act (tries j)) i other ∙ sym (still (tries i))
        ∙ ap (λ b. option_map (λ (w : Watched). record { acts = cond b (suc w.acts) w.acts; stored = w.stored ++ [] }) (tries i)) (sym (ne_eqb j i (λ e. other (sym e))))

-- ---- what stands for them

-- these addresses were stored to, but not beside core `skip`
stored-shown : (s : Setup) (p q : TryParts) (tries after : ℕ → Option Watched) (skip : ℕ) (more : List ℕ) → ShowsTries s p tries → q.acts ≡ p.acts
    → length q.marks ≡ length p.marks → MarksStoredBeside p.marks q.marks s.code.base skip more
    → (skip < s.cores → MarksTry s.code.base (marks_at q.marks skip) (option_map (with_stored []) (tries skip)))
    → ((i : ℕ) → i < s.cores → option_map (with_stored (cond (eqb skip i) [] more)) (tries i) ≡ after i) → ShowsTries s q after
stored-shown s p q tries after skip more sh acts long beside own is = record {
  many_acts = ap length acts ∙ sh.many_acts;
  many_marks = long ∙ sh.many_marks;
  acts = λ i u. ap (λ xs. slice_get xs i) acts ∙ sh.acts i u ∙ ap Some (sym (counted-stored (cond (eqb skip i) [] more) (tries i)) ∙ ap counted_acts (is i u));
  marks = λ i u. subst (MarksTry s.code.base (marks_at q.marks i)) (is i u) (go i u (cases_eq i skip));
}
  where
    go : (i : ℕ) → i < s.cores → (i ≡ skip) ⊎ (i ≡ skip → ⊥) → MarksTry s.code.base (marks_at q.marks i) (option_map (with_stored (cond (eqb skip i) [] more)) (tries i))
    go i u (inl same) =
        subst (λ b. MarksTry s.code.base (marks_at q.marks i) (option_map (with_stored (cond b [] more)) (tries i))) (sym (eq-eqb skip i (sym same)))
        (subst (λ k. MarksTry s.code.base (marks_at q.marks k) (option_map (with_stored []) (tries k))) (sym same) (own (subst (λ k. k < s.cores) same u)))
    go i u (inr other) =
        subst (λ b. MarksTry s.code.base (marks_at q.marks i) (option_map (with_stored (cond b [] more)) (tries i))) (sym (ne_eqb skip i (λ e. other (sym e))))
        (marks-too s.code.base (marks_at p.marks i) (marks_at q.marks i) more (tries i) (beside i (subst (λ n. i < n) (sym sh.many_marks) u) other) (sh.marks i u))

or-false : (b : Bool) → b ≡ (b || false)
or-false true = refl
or-false false = refl

own-kept : (s : Setup) (p q : TryParts) (tries : ℕ → Option Watched) (j : ℕ) → ShowsTries s p tries → marks_at q.marks j ≡ marks_at p.marks j → j < s.cores
    → MarksTry s.code.base (marks_at q.marks j) (option_map (with_stored []) (tries j))
own-kept s p q tries j sh same u =
    marks-too s.code.base (marks_at p.marks j) (marks_at q.marks j) [] (tries j)
    (λ addr from. ap (λ (m : Marked). is_marked_at m s.code.base addr) same ∙ or-false (is_marked_at (marks_at p.marks j) s.code.base addr)) (sh.marks j u)

beside-as : (s : Setup) (code : CodeView) (p q : TryParts) (skip : ℕ) (access : Access) (more : List ℕ) → s.code ≡ code → more ≡ stored_by access
    → MarksBeside p.marks q.marks code.base skip access → MarksStoredBeside p.marks q.marks s.code.base skip more
beside-as s code p q skip access more same is b = λ k u other addr from.
    subst (λ (x : CodeView). x.base ≤ addr → is_marked_at (marks_at q.marks k) x.base addr ≡ (is_marked_at (marks_at p.marks k) x.base addr || is_listed (stored_by access) addr)) (sym same)
    (b.others k u other addr) from
    ∙ ap (λ xs. is_marked_at (marks_at p.marks k) s.code.base addr || is_listed xs addr) (sym is)

-- ---- entries

pub walks-waits : (s : Setup) (p : WalkerParts) (v : Walk) → ShowsWalk s p v → ShowsTries s p.tries (λ i. option_map (λ (w : Watched). record { acts = w.acts; stored = w.stored ++ [] }) (v.tries i))
walks-waits s p v sh = subst (ShowsTries s p.tries) (fun_ext (λ i. sym (still (v.tries i)))) sh.tries

pub walks-open : (s : Setup) (v : Walk) (q : TryParts) (j : ℕ) → ShowsTries s q (opened v.tries j) → ShowsTries s q (walked s v (Open j)).tries
walks-open s v q j sh = subst (ShowsTries s q) (fun_ext (after-open s v.flat v.tries j)) sh

pub walks-spec : (s : Setup) (v : Walk) (q : TryParts) (j : ℕ) → ShowsTries s q (counted v.tries j) → ShowsTries s q (walked s v (Spec j)).tries
walks-spec s v q j sh = subst (ShowsTries s q) (fun_ext (after-spec s v.flat v.tries j)) sh

pub closes : (s : Setup) (p q : TryParts) (tries : ℕ → Option Watched) (j : ℕ) → ShowsTries s p tries → q.acts ≡ set p.acts j None → q.marks ≡ p.marks → ShowsTries s q (closed tries j)
closes s p q tries j sh acts marks =
    changed-one s p q tries j None None sh (ap length marks) acts refl tt (λ i other. ap (λ ms. marks_at ms i) marks)

pub walks-back : (s : Setup) (v : Walk) (p q : TryParts) (j n c : ℕ) → ShowsTries s p v.tries → q.acts ≡ set p.acts j None → q.marks ≡ p.marks
    → ShowsTries s q (walked s v (Back j n c)).tries
walks-back s v p q j n c sh acts marks = subst (ShowsTries s q) (fun_ext (after-back s v.flat v.tries j n c)) (closes s p q v.tries j sh acts marks)

pub walks-step : (s : Setup) (code : CodeView) (p : WalkerParts) (q : WalkerParts) (v : Walk) (h : ℕ) (access : Access) → s.code ≡ code → ShowsWalk s p v
    → HasStepped s v.flat h q.flat access → q.tries.acts ≡ p.tries.acts → length q.tries.marks ≡ length p.tries.marks
    → MarksBeside p.tries.marks q.tries.marks code.base (length p.tries.marks) access → ShowsWalk s q (walked s v (Step h))
walks-step s code p q v h access same sh stepped acts long beside = record {
  flat = stepped.shows;
  tries =
      stored-shown s p.tries q.tries v.tries (walked s v (Step h)).tries (length p.tries.marks) (stored_addresses (hart_stores s v.flat h)) sh.tries acts long
      (beside-as s code p.tries q.tries (length p.tries.marks) access (stored_addresses (hart_stores s v.flat h)) same stepped.stores beside)
      (λ u. let many : length p.tries.marks ≡ s.cores = sh.tries.many_marks in absurd (omega arith))
      (λ i u. let many : length p.tries.marks ≡ s.cores = sh.tries.many_marks in
      ap (λ b. option_map (with_stored (cond b [] (stored_addresses (hart_stores s v.flat h)))) (v.tries i)) (ne_eqb (length p.tries.marks) i (λ e. absurd (omega arith))));
}

pub walks-kern : (s : Setup) (code : CodeView) (p q : WalkerParts) (v : Walk) (j : ℕ) (access : Access) → s.code ≡ code → ShowsWalk s p v
    → HasMadeAct s v.flat j q.flat access → q.tries.acts ≡ p.tries.acts → length q.tries.marks ≡ length p.tries.marks
    → MarksBeside p.tries.marks q.tries.marks code.base j access → ShowsWalk s q (walked s v (Kern j))
walks-kern s code p q v j access same sh acted acts long beside = record {
  flat = acted.shows;
  tries =
      stored-shown s p.tries q.tries v.tries (walked s v (Kern j)).tries j (written s v.flat j 1) sh.tries acts long
      (beside-as s code p.tries q.tries j access (written s v.flat j 1) same acted.stores beside)
      (own-kept s p.tries q.tries v.tries j sh.tries beside.own) (λ i u. refl);
}

pub walks-commit : (s : Setup) (p q : WalkerParts) (v : Walk) (j n c : ℕ) (marks : List Marked) (found : Option ℕ) → ShowsWalk s p v
    → HasMadePortion s v.flat j n (stored_of (v.tries j)) p.tries.marks q.flat marks found → length marks ≡ length p.tries.marks
    → q.tries.acts ≡ set p.tries.acts j None → q.tries.marks ≡ marks → ShowsWalk s q (walked s v (Commit j n c))
walks-commit s p q v j n c marks found sh made long acts marks_are = record {
  flat = made.shows;
  tries =
      stored-shown s between q.tries (closed v.tries j) (walked s v (Commit j n c)).tries j (written s v.flat j n)
      (closes s p.tries between v.tries j sh.tries acts refl) refl (ap length marks_are ∙ long)
      (subst (λ ms. MarksStoredBeside p.tries.marks ms s.code.base j (written s v.flat j n)) (sym marks_are) made.marks_are)
      (λ u. subst (λ (x : Option Watched). MarksTry s.code.base (marks_at q.tries.marks j) (option_map (with_stored []) x)) (sym (updated-here v.tries j None j refl)) tt)
      (λ i u. go i (cases_eq i j));
}
  where
    between : TryParts
    between = record { acts = q.tries.acts; marks = p.tries.marks }

    go : (i : ℕ) → (i ≡ j) ⊎ (i ≡ j → ⊥) → option_map (with_stored (cond (eqb j i) [] (written s v.flat j n))) (closed v.tries j i) ≡ watched_after s v.flat i (v.tries i) (Commit j n c)
    go i (inl same) =
        ap (option_map (with_stored (cond (eqb j i) [] (written s v.flat j n)))) (updated-here v.tries j None i same)
        ∙ ap (λ b. cond b None (option_map (with_stored (cond (eqb j i) [] (written s v.flat j n))) (v.tries i))) (sym (eq-eqb j i (sym same)))
    go i (inr other) =
        ap (option_map (with_stored (cond (eqb j i) [] (written s v.flat j n)))) (updated-there v.tries j None i other)
        ∙ ap (λ b. cond b None (option_map (with_stored (cond (eqb j i) [] (written s v.flat j n))) (v.tries i))) (sym (ne_eqb j i (λ e. other (sym e))))

-- ---- rulings

-- an open try's marks are on what others stored since its opening
pub open-marks : (base : ℕ) (m : Marked) (x : Option Watched) (n : ℕ) → has_acts x n ≡ true → MarksTry base m x → MarksStored m base (stored_of x) []
open-marks base m None n h marks = absurd (false≢true h)
open-marks base m (Some w) n h marks = marks

pub rules-acts : (s : Setup) (v : Walk) (j n c : ℕ) → has_acts (v.tries j) n ≡ true → ruled s v (Commit j n c) ≡ ruling_by (lowest (overwritten s v j n))
rules-acts s v j n c has = ap (λ b. cond b (ruling_by (lowest (overwritten s v j n))) Unsound) has

pub rules-none : (s : Setup) (v : Walk) (j n c : ℕ) → has_acts (v.tries j) n ≡ false → ruled s v (Commit j n c) ≡ Unsound
rules-none s v j n c has = ap (λ b. cond b (ruling_by (lowest (overwritten s v j n))) Unsound) has

pub rules-back : (s : Setup) (v : Walk) (j n c : ℕ) → has_acts (v.tries j) n ≡ true → ruled s v (Back j n c) ≡ Fine
rules-back s v j n c has = ap (λ b. cond b Fine Unsound) has

pub rules-unsound : (s : Setup) (v : Walk) (j n c : ℕ) → has_acts (v.tries j) n ≡ false → ruled s v (Back j n c) ≡ Unsound
rules-unsound s v j n c has = ap (λ b. cond b Fine Unsound) has
