-- One event of a core with an open try, as a whole.
use Rattle.std.proofs.Common.{◌≡◌, ◌≢◌, ◌<◌, ◌≤◌, ◌+◌, ltb, length, set, ◌⊎◌, inl, inr, ℕ, zero, suc, Bool, true, false, List, [], ◌∷◌, map, cond, eqb, refl, sym, ap, ◌∙◌, subst, arith, Option, Some, None}
use Rattle.std.proofs.lemmas.Bool.{false≢true, cond-true, cond-false, cases_eq, cases_Bool, lt-ltb, ne_eqb, eqb-false}
use Rattle.std.proofs.lemmas.List.{length-set, length-map}
use Rattle.std.specs.Prelude.{slice_get, slice_index_or}
use Rattle.chip_config.specs.Settings.{Settings}
use Rattle.rv32_hart.specs.Code.{CodeView}
use Rattle.line_memory.specs.Backing.{BackingView, HasSameNumbers}
use Rattle.traffic_trace.specs.Notes.{Trace}
use Rattle.bloom_sig.specs.Signatures.{Sets, Meet}
use Rattle.coherent_mem.specs.Steps.{IsCoherent}
use Rattle.conda_base.specs.declared.actor.Actor.TheVariants as Actor_is
use Rattle.bloom_sig.proofs.HitLemmas.{meeting-none}
use Rattle.fallback_lock.specs.Locks.{Counts, IsAnothers, backs_of, with_backs}
use Rattle.try_runs.specs.Limits.{limits_of}
use Rattle.try_runs.specs.declared.limits.Limits.{Limits}
use Rattle.portion_ctl.specs.Views.{ReadyView, OpenView, EndedView, FlushingView}
use Rattle.portion_ctl.specs.Stands.{StandsFor}
use Rattle.conflict_resolve.specs.InRange.{IsPortion}
use Rattle.chip_core.specs.Entries.{CommitsAreEntries, BacksAreEntries}
use Rattle.chip_laws.specs.Design.{Design}
use Rattle.chip_laws.specs.Rules.{World, Opening, is_conflict}
use Rattle.chip_core.specs.declared.stage.Stage.{Stage}
use Rattle.chip_core.specs.declared.stage.Stage.TheVariants as Stage_is
use Rattle.chip_core.specs.declared.cores.Cores.{Cores}
use Rattle.chip_core.specs.Seats.{Turned}
use Rattle.chip_core.specs.Fits.{is_locked_core, is_locked_open, FitsTry, FitsCore, FitCores}
use Rattle.chip_core.specs.Rulings.{HasBits, joined_portion, all_joined}
use Rattle.chip_core.specs.Seats.{Others, around, is_spent, lock_backed, RollsBack, CommitsTry, RulesOn, HasEnded, ActsOrIsRuled}
use Rattle.chip_core.specs.Shows.{HoldsOpen}
use Rattle.chip_core.specs.Turns.{IsReached, ShowsParts, CoreTurns}
use Rattle.chip_core.proofs.ListFacts.{slice_get-set_same, slice_get-set_other}
use Rattle.chip_core.proofs.SeatFacts.{ChangesAt}
use Rattle.chip_core.proofs.TurnFacts.{MayTurn, LeavesCores, get-at}
use Rattle.chip_core.proofs.ActFacts.{HasEnd, the-end, conflict-is, act-turn, back-turn}
use Rattle.chip_core.proofs.CommitFacts.{CommitLeaves, commit-turn, locked-gone, locked-stays}
use Rattle.chip_core.proofs.FitFacts.{get-inside, few-set, set-fits, stay-others, join-others}
use Rattle.chip_core.proofs.ArmFacts.{Starts, may-turn, set-twice, act-fits}
use Rattle.bloom_sig.specs.Images.{IsImage}
use Rattle.bloom_sig.proofs.ImageLemmas.{meetings_are_of_lines}
use Rattle.try_runs.specs.Fills.{portion_run}

-- ---- bits

has-bits : (c : Settings) (code : CodeView) (k : ℕ) (o : OpenView) (q : Stage) → o.limits ≡ limits_of c → FitsCore c code k q → HasBits o.limits.sig_bits q
has-bits c code k o (Stage_is.Ready s) same f = tt
has-bits c code k o (Stage_is.Open s) same f = ap (λ (x : Limits). x.sig_bits) (same ∙ sym f.limits)
has-bits c code k o (Stage_is.Flushing s) same f = tt
has-bits c code k o Stage_is.Moved same f = tt

pub others-bits : (c : Settings) (j : ℕ) (code : CodeView) (b : BackingView) (cores : Cores) (o : OpenView) (m : Stage) → Starts c j code b cores (Stage_is.Open o) → m ≡ Stage_is.Moved
    → (k : ℕ) (d : Stage) → k < length (set cores.portions.items j m) → HasBits o.limits.sig_bits (slice_index_or (set cores.portions.items j m) k d)
others-bits c j code b cores o m start moved k d u = go (cases_eq k j)
  where
    items : List Stage
    items = cores.portions.items

    inside : j < length cores.portions.items
    inside = subst (λ n. j < n) (sym start.fits.portions) start.range

    own : slice_index_or (set cores.portions.items j m) j d ≡ m
    own = get-at (set cores.portions.items j m) j m d (slice_get-set_same cores.portions.items j m ∙ cond-true (ltb j (length cores.portions.items)) _ _ (lt-ltb j (length cores.portions.items) inside))

    go : ((k ≡ j) ⊎ (k ≡ j → ⊥)) → HasBits o.limits.sig_bits (slice_index_or (set cores.portions.items j m) k d)
    go (inl same) = subst (λ i. HasBits o.limits.sig_bits (slice_index_or (set cores.portions.items j m) i d)) (sym same)
        (subst (HasBits o.limits.sig_bits) (sym (own ∙ moved)) tt)
    go (inr ne) = has-bits c code k o (slice_index_or (set cores.portions.items j m) k d) (start.fits.each j (Stage_is.Open o) start.holds).limits
        (start.fits.each k (slice_index_or (set cores.portions.items j m) k d)
        (sym (slice_get-set_other cores.portions.items j k m ne) ∙ get-inside (set cores.portions.items j m) k d u))

-- ---- what a ruling leaves of the others

map-beside : (f : Stage → Stage) (xs : List Stage) (j k : ℕ) (m : Stage) → k ≢ j → slice_get (map f (set xs j m)) k ≡ slice_get (map f xs) k
map-beside f [] j k m ne = refl
map-beside f (x ∷ xs) zero zero m ne = absurd (ne refl)
map-beside f (x ∷ xs) zero (suc k) m ne = refl
map-beside f (x ∷ xs) (suc j) zero m ne = refl
map-beside f (x ∷ xs) (suc j) (suc k) m ne = map-beside f xs j k m (λ e. ne (ap suc e))

pub commit-leaves : (sets : Sets) (items mid : List Stage) (j : ℕ) (m held : Stage) → j < length items → mid ≡ all_joined sets (set items j m)
    → CommitLeaves j sets held items (set mid j held)
commit-leaves sets items mid j m held inside is = record {
  many = length-set mid j held ∙ same;
  here = slice_get-set_same mid j held ∙ cond-true (ltb j (length mid)) _ _ (lt-ltb j (length mid) (subst (λ n. j < n) (sym same) inside));
  beside = λ k ne. slice_get-set_other mid j k held ne ∙ ap (λ xs. slice_get xs k) is ∙ map-beside (joined_portion sets) items j k m ne;
}
  where
    same : length mid ≡ length items
    same = ap length is ∙ length-map (set items j m) (joined_portion sets) ∙ length-set items j m

-- the core's own portion is out, and all else is as it was
abbrev pub without : Cores → ℕ → Stage → Others
without cores j m = record { statuses = cores.statuses.items; portions = set cores.portions.items j m }

same-leaves : (cores left : Cores) (j : ℕ) (m held : Stage) (after : Others) → j < length cores.portions.items → after ≡ without cores j m
    → left.statuses.items ≡ after.statuses → left.portions.items ≡ set after.portions j held → LeavesCores j held cores left
same-leaves cores left j m held after inside same statuses portions = record {
  statuses = statuses ∙ ap (λ (x : Others). x.statuses) same;
  portions = subst (ChangesAt j held cores.portions.items) (sym (portions ∙ ap (λ (x : Others). set x.portions j held) same)) (set-twice cores.portions.items j m held inside);
}

inside-of : (c : Settings) (j : ℕ) (code : CodeView) (b : BackingView) (cores : Cores) (p : Stage) → Starts c j code b cores p → j < length cores.portions.items
inside-of c j code b cores p start = subst (λ n. j < n) (sym start.fits.portions) start.range

-- ---- the event in the world

pub try-turn : (c : Settings) (j : ℕ) (code : CodeView) (b new : BackingView) (log later : Trace) (cores left : Cores) (o : OpenView) (m held : Stage) (after : Others) (event : Turned)
    → CommitsAreEntries → BacksAreEntries → Starts c j code b cores (Stage_is.Open o) → IsCoherent new
    → ActsOrIsRuled code j o (around b cores.lock log) (around new left.lock later) (without cores j m) after held event
    → left.statuses.items ≡ after.statuses → left.portions.items ≡ set after.portions j held
    → (d : Design) (w : World) → IsReached d w → c ≡ d.config → ShowsParts d code b log cores w → CoreTurns d w j code new later left event
try-turn c j code b new log later cores left o m held after event commits backs start coherent done statuses portions d w reached same shows = go done
  where
    may : MayTurn d w j code b log cores
    may = may-turn d w c j code b log cores (Stage_is.Open o) start reached same shows

    holds : HoldsOpen d j (w.flat.cores j).regs (w.seats j).opening o
    holds = shows.cores.portions j (Stage_is.Open o) start.holds

    inside : j < length cores.portions.items
    inside = inside-of c j code b cores (Stage_is.Open o) start

    rule : (x : EndedView) (p : Opening) → HasEnd d w j p x → RulesOn j x (around b cores.lock log) (around new left.lock later) (without cores j m) after held event
        → CoreTurns d w j code new later left event
    rule x p ended (inl (meets, stays, back)) =
        back-turn d w j code b new log later cores left p x held event backs may ended ((conflict-is d w j p x ended).0 meets) back
        (same-leaves cores left j m held after inside stays statuses portions)
    rule x p ended (inr (clear, commit)) =
        commit-turn d w j code b new log later cores left (without cores j m) after p x held event commits may ended
        (no-conflict (cases_Bool (is_conflict d p))) coherent commit (start.fits.statuses ∙ ap (λ (y : Settings). y.cores) same) refl statuses
        (subst (CommitLeaves j x.try.write_set held cores.portions.items) (sym portions) (commit-leaves x.try.write_set cores.portions.items after.portions j m held inside commit.portions))
      where
        no-conflict : (is_conflict d p ≡ true) ⊎ (is_conflict d p ≡ false) → is_conflict d p ≡ false
        no-conflict (inr e) = e
        no-conflict (inl e) = absurd (clear ((conflict-is d w j p x ended).1 e))

    go : ActsOrIsRuled code j o (around b cores.lock log) (around new left.lock later) (without cores j m) after held event → CoreTurns d w j code new later left event
    go (inl (stays, act)) = act-turn d w j code b new log later cores left o held event may holds act (same-leaves cores left j m held after inside stays statuses portions)
    go (inr (x, ended, rules)) =
        let found = the-end d w j code o x shows.code_is holds ended in
        rule x found.0 found.1 rules

-- ---- memory's numbers

pub try-numbers : (code : CodeView) (j : ℕ) (o : OpenView) (b new : BackingView) (lock over : Counts) (log later : Trace) (others after : Others) (held : Stage) (event : Turned)
    → IsPortion code o → ActsOrIsRuled code j o (around b lock log) (around new over later) others after held event → HasSameNumbers b new
try-numbers code j o b new lock over log later others after held event (p, stands) done = go done
  where
    kept : new ≡ b → HasSameNumbers b new
    kept e = subst (HasSameNumbers b) (sym e) (record { line_bytes = refl; base = refl; holders = refl; sets = refl; ways = refl; size = refl })

    go : ActsOrIsRuled code j o (around b lock log) (around new over later) others after held event → HasSameNumbers b new
    go (inl (stays, act)) = kept act.memory
    go (inr (x, ended, inl (meets, stays, back))) = kept back.memory
    go (inr (x, ended, inr (clear, commit))) =
        let whole : StandsFor code x.try p = subst (λ (y : OpenView). StandsFor code y p) (sym (ended p stands).1) stands in
        (commit.commits code p whole).numbers

-- ---- what every core keeps

few-backed : (lock : Counts) (j : ℕ) → ((k : ℕ) → backs_of lock k ≤ lock.retries) → (k : ℕ) → backs_of (lock_backed lock j) k ≤ (lock_backed lock j).retries
few-backed lock j few k = go (cases_Bool (is_spent lock j))
  where
    less : {a n : ℕ} → a ≤ n → a ≢ n → a + 1 ≤ n
    less u ne = omega (arith, u, ne)

    go : (is_spent lock j ≡ true) ⊎ (is_spent lock j ≡ false) → backs_of (lock_backed lock j) k ≤ (lock_backed lock j).retries
    go (inl e) = subst (λ (y : Counts). backs_of y k ≤ y.retries) (sym (cond-true (is_spent lock j) lock (with_backs lock j (backs_of lock j + 1)) e)) (few k)
    go (inr e) = subst (λ (y : Counts). backs_of y k ≤ y.retries) (sym (cond-false (is_spent lock j) lock (with_backs lock j (backs_of lock j + 1)) e))
        (few-set lock j (backs_of lock j + 1) (less (few j) (eqb-false (backs_of lock j) lock.retries e)) few k)

-- a try under the lock has no foreign line, so it doesn't clash
unlocked-clash : (c : Settings) (j : ℕ) (code : CodeView) (b : BackingView) (cores : Cores) (o : OpenView) (x : EndedView) → Starts c j code b cores (Stage_is.Open o)
    → HasEnded code o x → Meet x.try.read_set x.try.foreign_set → o.locked ≡ false
unlocked-clash c j code b cores o x start ended meets = go (cases_Bool o.locked)
  where
    fits : FitsTry c code j o
    fits = start.fits.each j (Stage_is.Open o) start.holds

    stands : StandsFor code o fits.portion.0
    stands = fits.portion.1

    meet : Meet o.read_set o.foreign_set
    meet = subst (λ (y : OpenView). Meet y.read_set y.foreign_set) (ended fits.portion.0 stands).1 meets

    none : IsImage o.foreign_set [] → ⊥
    none image = false≢true
        (sym (meeting-none o.read_set.bits (portion_run code o.limits.line_bytes fits.portion.0).reads)
        ∙ (meetings_are_of_lines o.read_set o.foreign_set (portion_run code o.limits.line_bytes fits.portion.0).reads []
        (stands.holds.sizes.reads ∙ sym stands.holds.sizes.foreign) stands.holds.reads.image image).0 meet)

    go : (o.locked ≡ true) ⊎ (o.locked ≡ false) → o.locked ≡ false
    go (inr e) = e
    go (inl e) = absurd (none (fits.alone e))

-- the locked core is j itself, or nobody
others-free : (x : Option ℕ) (j k : ℕ) → (IsAnothers x (Actor_is.Core j) → ⊥) → k ≢ j → is_locked_core x k ≡ false
others-free None j k free ne = refl
others-free (Some i) j k free ne = go (cases_eq i j)
  where
    go : ((i ≡ j) ⊎ (i ≡ j → ⊥)) → eqb i k ≡ false
    go (inl same) = ne_eqb i k (λ e. ne (sym e ∙ same))
    go (inr apart) = absurd (free apart)

pub try-fits : (c : Settings) (j : ℕ) (code : CodeView) (b new : BackingView) (log later : Trace) (cores left : Cores) (o : OpenView) (m held : Stage) (after : Others) (event : Turned)
    → Starts c j code b cores (Stage_is.Open o)
    → ActsOrIsRuled code j o (around b cores.lock log) (around new left.lock later) (without cores j m) after held event
    → left.statuses.items ≡ after.statuses → left.portions.items ≡ set after.portions j held
    → FitCores c code left.statuses.items left.portions.items left.lock
try-fits c j code b new log later cores left o m held after event start done statuses portions = go done
  where
    f : FitCores c code cores.statuses.items cores.portions.items cores.lock
    f = start.fits

    own : FitsTry c code j o
    own = start.fits.each j (Stage_is.Open o) start.holds

    inside : j < length cores.portions.items
    inside = inside-of c j code b cores (Stage_is.Open o) start

    backed-locked : (lock_backed cores.lock j).locked ≡ cores.lock.locked
    backed-locked = both (is_spent cores.lock j)
      where
        both : (x : Bool) → (cond x cores.lock (with_backs cores.lock j (backs_of cores.lock j + 1))).locked ≡ cores.lock.locked
        both true = refl
        both false = refl

    backed-many : length (lock_backed cores.lock j).backs ≡ length cores.lock.backs
    backed-many = both (is_spent cores.lock j)
      where
        both : (x : Bool) → length (cond x cores.lock (with_backs cores.lock j (backs_of cores.lock j + 1))).backs ≡ length cores.lock.backs
        both true = refl
        both false = length-set cores.lock.backs j (backs_of cores.lock j + 1)

    try-of : (x : EndedView) → HasEnded code o x → x.try ≡ o
    try-of x ended = (ended own.portion.0 own.portion.1).1

    undo : (x : EndedView) → HasEnded code o x → Meet x.try.read_set x.try.foreign_set → after ≡ without cores j m
        → RollsBack j x (around b cores.lock log) (around new left.lock later) held event → FitCores c code left.statuses.items left.portions.items left.lock
    undo x ended meets stays back =
        let leaves : LeavesCores j held cores left = same-leaves cores left j m held after inside stays statuses portions in
        let same : x.try ≡ o = try-of x ended in
        set-fits c code cores.statuses.items left.statuses.items cores.portions.items left.portions.items cores.lock left.lock j held f
        (ap length leaves.statuses) leaves.portions.many (ap (λ (y : Counts). length y.backs) back.lock ∙ backed-many)
        (λ k. subst (λ (y : Counts). backs_of y k ≤ y.retries) (sym back.lock) (few-backed cores.lock j f.few k)) leaves.portions.here
        (subst (FitsCore c code j) (sym back.holds)
        (ap (λ (y : FlushingView). y.core) back.is_undone.flushing ∙ ap (λ (y : OpenView). y.core) same ∙ own.core, ap (λ (y : FlushingView). y.limits) back.is_undone.flushing ∙ ap (λ (y : OpenView). y.limits) same ∙ own.limits))
        (ap (λ (y : Counts). is_locked_core y.locked j) back.lock ∙ ap (λ y. is_locked_core y j) backed-locked ∙ f.locked j (Stage_is.Open o) start.holds
        ∙ unlocked-clash c j code b cores o x start ended meets ∙ sym (ap is_locked_open back.holds))
        (λ k ne. ap (λ (y : Counts). is_locked_core y.locked k) back.lock ∙ ap (λ y. is_locked_core y k) backed-locked)
        (stay-others c code j cores.portions.items left.portions.items leaves.portions.beside)

    keep : (x : EndedView) → HasEnded code o x → CommitsTry j x (around b cores.lock log) (around new left.lock later) (without cores j m) after held event
        → FitCores c code left.statuses.items left.portions.items left.lock
    keep x ended commit =
        let leaves : CommitLeaves j x.try.write_set held cores.portions.items left.portions.items =
        subst (CommitLeaves j x.try.write_set held cores.portions.items) (sym portions) (commit-leaves x.try.write_set cores.portions.items after.portions j m held inside commit.portions) in
        let same : x.try ≡ o = try-of x ended in
        set-fits c code cores.statuses.items left.statuses.items cores.portions.items left.portions.items cores.lock left.lock j held f
        (ap length (statuses ∙ commit.statuses) ∙ length-set cores.statuses.items j commit.kept.status) leaves.many
        (ap (λ (y : Counts). length y.backs) commit.lock ∙ length-set cores.lock.backs j 0)
        (λ k. subst (λ (y : Counts). backs_of y k ≤ y.retries) (sym commit.lock) (few-set cores.lock j 0 (omega arith) f.few k)) leaves.here
        (subst (FitsCore c code j) (sym commit.holds)
        (ap (λ (y : ReadyView). y.core) commit.keeps.ready ∙ ap (λ (y : OpenView). y.core) same ∙ own.core, ap (λ (y : ReadyView). y.limits) commit.keeps.ready ∙ ap (λ (y : OpenView). y.limits) same ∙ own.limits))
        (ap (λ (y : Counts). is_locked_core y.locked j) commit.lock ∙ locked-gone cores.lock.locked j ∙ sym (ap is_locked_open commit.holds))
        (λ k ne. ap (λ (y : Counts). is_locked_core y.locked k) commit.lock ∙ locked-stays cores.lock.locked j k ne)
        (join-others c code j x.try.write_set cores.portions.items left.portions.items leaves.beside
        (λ k x ne was. sym (f.locked k x was) ∙ others-free cores.lock.locked j k start.free ne))

    go : ActsOrIsRuled code j o (around b cores.lock log) (around new left.lock later) (without cores j m) after held event → FitCores c code left.statuses.items left.portions.items left.lock
    go (inl (stays, act)) = act-fits c j code b new log later cores left o held event start act (same-leaves cores left j m held after inside stays statuses portions)
    go (inr (x, ended, inl (meets, stays, taken))) = undo x ended meets stays taken
    go (inr (x, ended, inr (clear, kept))) = keep x ended kept
