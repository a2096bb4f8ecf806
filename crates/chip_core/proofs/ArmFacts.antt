-- What every core keeps over one event of a core, and what stands at its start.
use Rattle.std.proofs.Common.{◌≡◌, ◌≢◌, ◌<◌, ◌≤◌, ltb, length, set, ◌⊎◌, inl, inr, ℕ, zero, suc, ◌&&◌, Bool, true, false, List, [], cond, refl, sym, ap, ◌∙◌, subst, arith, Option, Some, None, eq-eqb}
use Rattle.std.proofs.lemmas.Bool.{true≢false, cond-true, ne_eqb, lt-ltb, cases_lt}
use Rattle.std.proofs.lemmas.List.{length-set}
use Rattle.std.specs.Prelude.{slice_get, slice_index_or, nat_lt, All}
use Rattle.std.specs.Option.{is_some}
use Rattle.conda_base.specs.declared.Line.{Line}
use Rattle.conda_base.specs.declared.actor.Actor.TheVariants as Actor_is
use Rattle.chip_config.specs.Settings.{Settings}
use Rattle.rv32_hart.specs.Code.{CodeView, IsCode}
use Rattle.line_memory.specs.Backing.{BackingView, HasSameNumbers, IsBacking, IsInRange}
use Rattle.traffic_trace.specs.Notes.{Trace}
use Rattle.bloom_sig.specs.Signatures.{Sets}
use Rattle.coherent_mem.specs.Steps.{IsCoherent}
use Rattle.offload_calls.specs.declared.status.CoreStatus.{CoreStatus}
use Rattle.offload_calls.specs.CoreActs.{core_runs}
use Rattle.fallback_lock.specs.Locks.{Counts, IsAnothers, backs_of, with_locked}
use Rattle.try_runs.specs.Limits.{limits_of}
use Rattle.try_runs.specs.declared.limits.Limits.{Limits}
use Rattle.portion_ctl.specs.States.{FitsMemory}
use Rattle.portion_ctl.specs.Views.{ReadyView, OpenView, EndedView, FlushingView}
use Rattle.portion_ctl.specs.Stands.{StandsFor}
use Rattle.portion_ctl.specs.States.{resting_from, Acts, next_flush}
use Rattle.portion_ctl.specs.declared.portion.Acted.TheVariants as Acted_is
use Rattle.conflict_resolve.specs.InRange.{IsPortion, StoresInRange}
use Rattle.chip_laws.specs.Design.{Design}
use Rattle.chip_laws.specs.Rules.{World, flush_line}
use Rattle.chip_core.specs.declared.stage.Stage.{Stage}
use Rattle.chip_core.specs.declared.stage.Stage.TheVariants as Stage_is
use Rattle.chip_core.specs.declared.cores.Cores.{Cores}
use Rattle.chip_core.specs.Seats.{Turned}
use Rattle.chip_core.specs.Fits.{is_locked_core, is_locked_open, FitsCore, FitCores}
use Rattle.chip_core.specs.Views.{FitsCode}
use Rattle.chip_core.specs.Seats.{Around, around, is_spent, OpensTry, FlushesOrOpens, MakesAct}
use Rattle.chip_core.specs.Shows.{HoldsReady, HoldsFlushing, ShowsCores}
use Rattle.chip_core.specs.Turns.{IsReached, ShowsParts, CoreTurns}
use Rattle.chip_core.proofs.ListFacts.{slice_get-set_same, slice_get-set_other}
use Rattle.chip_core.proofs.ReachedFacts.{reached-due}
use Rattle.chip_core.proofs.SeatFacts.{next-core-idle, next-core-held, held-core, free-core, none-or-own, ChangesAt, still-turn}
use Rattle.chip_core.proofs.TurnFacts.{MayTurn, LeavesCores, Rests, get-at, none-due, open-turn, flush-turn}
use Rattle.std.proofs.lemmas.Option.{slice_get_read}
use Rattle.chip_core.proofs.FlushingFacts.{flushes-numbers}
use Rattle.portion_ctl.specs.Walks.{flushed_lines}
use Rattle.schedule_log.specs.declared.entry.Entry.TheVariants as Entry_is
use Rattle.chip_core.proofs.HartFacts.{quiet-parts}
use Rattle.chip_core.proofs.FitFacts.{set-fits, stay-others}
use Rattle.bloom_sig.specs.Images.{IsImage}
use Rattle.try_runs.specs.Fills.{Portion}
use Rattle.portion_ctl.specs.States.{act_notes}
use Rattle.line_memory.specs.Notes.{all_noted}
use Rattle.portion_ctl.specs.Walks.{foreign_lines}

-- ---- the start of an event

-- what the code knows of core j at the start of its event
pub record Starts (c : Settings) (j : ℕ) (code : CodeView) (b : BackingView) (cores : Cores) (p : Stage) : Type 0 where
  pub range : j < c.cores
  pub same : FitsCode code b
  pub lines : b.line_bytes ≡ c.line_bytes
  pub fits : FitCores c code cores.statuses.items cores.portions.items cores.lock
  pub runs : (x : CoreStatus) → slice_get cores.statuses.items j ≡ Some x → core_runs x ≡ true
  pub free : IsAnothers cores.lock.locked (Actor_is.Core j) → ⊥
  pub holds : slice_get cores.portions.items j ≡ Some p

pub status-runs : (d : Design) (w : World) (j : ℕ) (stands : List CoreStatus) (held : List Stage) → j < d.config.cores → ShowsCores d stands held w
    → (b : Bool) → ((x : CoreStatus) → slice_get stands j ≡ Some x → core_runs x ≡ b) → core_runs (w.flat.cores j).status ≡ b
status-runs d w j stands held range shows b runs =
    runs (w.flat.cores j).status (shows.statuses j ∙ cond-true (ltb j d.config.cores) _ _ (lt-ltb j d.config.cores range))

pub may-turn : (d : Design) (w : World) (c : Settings) (j : ℕ) (code : CodeView) (b : BackingView) (log : Trace) (cores : Cores) (p : Stage)
    → Starts c j code b cores p → IsReached d w → c ≡ d.config → ShowsParts d code b log cores w → MayTurn d w j code b log cores
may-turn d w c j code b log cores p start reached same shows = record {
  reached = reached;
  range = range;
  coherent = start.same.coherent;
  shows = shows;
  runs = status-runs d w j cores.statuses.items cores.portions.items range shows.cores true start.runs;
  free = free-core d cores.lock w j shows.lock start.free;
}
  where
    range : j < d.config.cores
    range = subst (λ (x : Settings). j < x.cores) same start.range

pub unlocked : (c : Settings) (j : ℕ) (code : CodeView) (b : BackingView) (cores : Cores) (p : Stage) → Starts c j code b cores p → is_locked_open p ≡ false → cores.lock.locked ≡ None
unlocked c j code b cores p start at_rest = none-or-own cores.lock.locked j start.free (start.fits.locked j p start.holds ∙ at_rest)

-- ---- a core at rest

settled-due : (due backs : ℕ) (x : Bool) → nat_lt 0 backs ≡ false → (0 < due → 0 < backs) → (nat_lt 0 due && x) ≡ false
settled-due due backs x none more = go (cases_lt 0 due)
  where
    go : (0 < due) ⊎ (due ≤ 0) → (nat_lt 0 due && x) ≡ false
    go (inl u) = absurd (true≢false (sym (lt-ltb 0 backs (more u)) ∙ none))
    go (inr u) = zero-due due u
      where
        zero-due : (n : ℕ) → n ≤ 0 → (nat_lt 0 n && x) ≡ false
        zero-due zero u = refl
        zero-due (suc n) u = absurd (omega (arith, u))

ready-rests : (d : Design) (w : World) (j : ℕ) (s : ReadyView) → IsReached d w → HoldsReady d j (w.flat.cores j).regs (w.seats j) s → Rests d w j s
ready-rests d w j s reached is = record {
  closed = is.closed;
  settled = settled-due (w.seats j).due (w.seats j).backs (is_some (flush_line d w j)) is.settled (reached-due d w reached j).taken;
  core = is.core;
  limits = is.limits;
  regs = is.regs;
}

pub ready-turn : (c : Settings) (j : ℕ) (code : CodeView) (b new : BackingView) (log later : Trace) (cores left : Cores) (s : ReadyView) (held : Stage) (event : Turned)
    → Starts c j code b cores (Stage_is.Ready s) → IsCoherent new
    → OpensTry (is_spent cores.lock j) j s (around b cores.lock log) (around new left.lock later) held event → LeavesCores j held cores left
    → (d : Design) (w : World) → IsReached d w → c ≡ d.config → ShowsParts d code b log cores w → CoreTurns d w j code new later left event
ready-turn c j code b new log later cores left s held event start coherent opens leaves d w reached same shows =
    open-turn d w j code b new log later cores left s held event
    (may-turn d w c j code b log cores (Stage_is.Ready s) start reached same shows)
    (ready-rests d w j s reached (shows.cores.portions j (Stage_is.Ready s) start.holds))
    (unlocked c j code b cores (Stage_is.Ready s) start refl) coherent opens leaves

pub owed-turn : (c : Settings) (j : ℕ) (code : CodeView) (b new : BackingView) (log later : Trace) (cores left : Cores) (s : FlushingView) (held : Stage) (event : Turned)
    → Starts c j code b cores (Stage_is.Flushing s) → IsCoherent new
    → FlushesOrOpens (next_flush s b) j s (around b cores.lock log) (around new left.lock later) held event → LeavesCores j held cores left
    → (d : Design) (w : World) → IsReached d w → c ≡ d.config → ShowsParts d code b log cores w → CoreTurns d w j code new later left event
owed-turn c j code b new log later cores left s held event start coherent done leaves d w reached same shows = go (next_flush s b) refl done
  where
    may : MayTurn d w j code b log cores
    may = may-turn d w c j code b log cores (Stage_is.Flushing s) start reached same shows

    owed : HoldsFlushing d j (w.flat.cores j).regs (w.seats j) s
    owed = shows.cores.portions j (Stage_is.Flushing s) start.holds

    go : (x : Option Line) → next_flush s b ≡ x → FlushesOrOpens x j s (around b cores.lock log) (around new left.lock later) held event
        → CoreTurns d w j code new later left event
    go None e opens =
        open-turn d w j code b new log later cores left (resting_from s) held event may
        (record {
          closed = owed.closed;
          settled = none-due d w j b log s shows.memory owed e;
          core = owed.core;
          limits = owed.limits;
          regs = owed.regs;
        })
        (unlocked c j code b cores (Stage_is.Flushing s) start refl) coherent opens leaves
    go (Some l) e flush = flush-turn d w j code b new log later cores left s l held event may owed e coherent flush leaves

-- ---- what every core keeps

opens-fits : (c : Settings) (j : ℕ) (code : CodeView) (b new : BackingView) (log later : Trace) (cores left : Cores) (s : ReadyView) (p held : Stage) (event : Turned) (x : Bool)
    → Starts c j code b cores p → is_locked_open p ≡ false → s.core ≡ j → s.limits ≡ limits_of c
    → OpensTry x j s (around b cores.lock log) (around new left.lock later) held event → LeavesCores j held cores left
    → FitCores c code left.statuses.items left.portions.items left.lock
opens-fits c j code b new log later cores left s p held event x start at_rest core limits opens leaves =
    set-fits c code cores.statuses.items left.statuses.items cores.portions.items left.portions.items cores.lock left.lock j held f
    (ap length leaves.statuses) leaves.portions.many
    (ap (λ (k : Counts). length k.backs) opens.lock ∙ backs-same x) few leaves.portions.here
    (subst (FitsCore c code j) (sym opens.holds) (record {
      core = ap (λ (y : OpenView). y.core) opens.opens.opened ∙ core;
      limits = ap (λ (y : OpenView). y.limits) opens.opens.opened ∙ limits;
      portion = (record { regs = s.regs; fills = λ l. []; acts = 0 }, opens.stands code (λ l. []));
      alone = λ on. subst (λ y. IsImage opens.tried.foreign_set (foreign_lines y b))
          (sym (ap (λ (y : OpenView). y.locked) opens.opens.opened) ∙ on) opens.opens.foreign;
    }))
    (ap (λ (k : Counts). is_locked_core k.locked j) opens.lock ∙ here x
    ∙ sym (ap is_locked_open opens.holds ∙ ap (λ (y : OpenView). y.locked) opens.opens.opened))
    (λ k ne. ap (λ (y : Counts). is_locked_core y.locked k) opens.lock ∙ beside x k ne)
    (stay-others c code j cores.portions.items left.portions.items leaves.portions.beside)
  where
    f : FitCores c code cores.statuses.items cores.portions.items cores.lock
    f = start.fits

    free : cores.lock.locked ≡ None
    free = unlocked c j code b cores p start at_rest

    backs-same : (y : Bool) → length (cond y (with_locked cores.lock j) cores.lock).backs ≡ length cores.lock.backs
    backs-same true = refl
    backs-same false = refl

    few : (k : ℕ) → backs_of left.lock k ≤ left.lock.retries
    few k = subst (λ (y : Counts). backs_of y k ≤ y.retries) (sym opens.lock) (go x)
      where
        go : (y : Bool) → backs_of (cond y (with_locked cores.lock j) cores.lock) k ≤ (cond y (with_locked cores.lock j) cores.lock).retries
        go true = f.few k
        go false = f.few k

    here : (y : Bool) → is_locked_core (cond y (with_locked cores.lock j) cores.lock).locked j ≡ y
    here true = eq-eqb j j refl
    here false = ap (λ o. is_locked_core o j) free

    beside : (y : Bool) (k : ℕ) → k ≢ j → is_locked_core (cond y (with_locked cores.lock j) cores.lock).locked k ≡ is_locked_core cores.lock.locked k
    beside true k ne = ne_eqb j k (λ same. ne (sym same)) ∙ sym (ap (λ o. is_locked_core o k) free)
    beside false k ne = refl

-- the lock stays, and so do all portions but core j's
same-lock-fits : (c : Settings) (j : ℕ) (code : CodeView) (b : BackingView) (cores left : Cores) (p held : Stage)
    → Starts c j code b cores p → left.lock ≡ cores.lock → is_locked_open held ≡ is_locked_open p → FitsCore c code j held → LeavesCores j held cores left
    → FitCores c code left.statuses.items left.portions.items left.lock
same-lock-fits c j code b cores left p held start lock locked fits leaves =
    subst (λ x. FitCores c code left.statuses.items left.portions.items x) (sym lock)
    (set-fits c code cores.statuses.items left.statuses.items cores.portions.items left.portions.items cores.lock cores.lock j held start.fits
    (ap length leaves.statuses) leaves.portions.many refl start.fits.few leaves.portions.here fits
    (start.fits.locked j p start.holds ∙ sym locked) (λ k ne. refl)
    (stay-others c code j cores.portions.items left.portions.items leaves.portions.beside))

pub ready-fits : (c : Settings) (j : ℕ) (code : CodeView) (b new : BackingView) (log later : Trace) (cores left : Cores) (s : ReadyView) (held : Stage) (event : Turned)
    → Starts c j code b cores (Stage_is.Ready s)
    → OpensTry (is_spent cores.lock j) j s (around b cores.lock log) (around new left.lock later) held event → LeavesCores j held cores left
    → FitCores c code left.statuses.items left.portions.items left.lock
ready-fits c j code b new log later cores left s held event start opens leaves =
    let fits = start.fits.each j (Stage_is.Ready s) start.holds in
    opens-fits c j code b new log later cores left s (Stage_is.Ready s) held event (is_spent cores.lock j) start refl fits.0 fits.1 opens leaves

pub owed-fits : (c : Settings) (j : ℕ) (code : CodeView) (b new : BackingView) (log later : Trace) (cores left : Cores) (s : FlushingView) (held : Stage) (event : Turned)
    → Starts c j code b cores (Stage_is.Flushing s)
    → FlushesOrOpens (next_flush s b) j s (around b cores.lock log) (around new left.lock later) held event → LeavesCores j held cores left
    → FitCores c code left.statuses.items left.portions.items left.lock
owed-fits c j code b new log later cores left s held event start done leaves = go (next_flush s b) done
  where
    fits : (s.core ≡ j) × (s.limits ≡ limits_of c)
    fits = start.fits.each j (Stage_is.Flushing s) start.holds

    go : (x : Option Line) → FlushesOrOpens x j s (around b cores.lock log) (around new left.lock later) held event
        → FitCores c code left.statuses.items left.portions.items left.lock
    go None opens = opens-fits c j code b new log later cores left (resting_from s) (Stage_is.Flushing s) held event (is_spent cores.lock j) start refl fits.0 fits.1 opens leaves
    go (Some l) flush =
        same-lock-fits c j code b cores left (Stage_is.Flushing s) held start flush.lock (ap is_locked_open flush.holds)
        (subst (FitsCore c code j) (sym flush.holds) fits) leaves

-- ---- an open try

-- what an open try brings to its event
pub record SpecFits (c : Settings) (j : ℕ) (code : CodeView) (b : BackingView) (cores : Cores) (o : OpenView) : Type 0 where
  pub portion : IsPortion code o
  pub memory : FitsMemory code b o.limits.line_bytes
  pub few : backs_of cores.lock j ≤ cores.lock.retries

pub spec-fits : (c : Settings) (j : ℕ) (code : CodeView) (b : BackingView) (cores : Cores) (o : OpenView) → Starts c j code b cores (Stage_is.Open o) → SpecFits c j code b cores o
spec-fits c j code b cores o start =
    let fits = start.fits.each j (Stage_is.Open o) start.holds in
    record {
      portion = fits.portion;
      memory = record {
        base = sym start.same.base;
        bytes = sym start.same.bytes;
        lines = start.lines ∙ ap (λ (x : Limits). x.line_bytes) (sym fits.limits);
      };
      few = start.fits.few j;
    }

act-portion : (code : CodeView) (b : BackingView) (o : OpenView) (old new : Around) (j : ℕ) (held : Stage) (event : Turned) → old.memory ≡ b
    → (act : MakesAct code j o old new held event) → IsPortion code o → IsPortion code act.tried
act-portion code b o old new j held event same act (p, stands) = (_, (act.acts p stands).1)

pub act-fits : (c : Settings) (j : ℕ) (code : CodeView) (b new : BackingView) (log later : Trace) (cores left : Cores) (o : OpenView) (held : Stage) (event : Turned)
    → Starts c j code b cores (Stage_is.Open o) → MakesAct code j o (around b cores.lock log) (around new left.lock later) held event → LeavesCores j held cores left
    → FitCores c code left.statuses.items left.portions.items left.lock
act-fits c j code b new log later cores left o held event start act leaves =
    let fits = start.fits.each j (Stage_is.Open o) start.holds in
    same-lock-fits c j code b cores left (Stage_is.Open o) held start act.lock (ap is_locked_open act.holds ∙ act.same.locked)
    (subst (FitsCore c code j) (sym act.holds)
    (record {
      core = act.same.core ∙ fits.core;
      limits = act.same.limits ∙ fits.limits;
      portion = act-portion code b o (around b cores.lock log) (around new left.lock later) j held event refl act fits.portion;
      alone = λ on. subst (λ (y : Sets). IsImage y []) (sym act.same.foreign) (fits.alone (sym act.same.locked ∙ on));
    })) leaves

-- a try that has ended here stored to lines in range, and nothing was noted
pub record EndFits (b : BackingView) (c : EndedView) (before after : Trace) : Type 0 where
  pub in_range : All (IsInRange b) c.try.cache.stored
  pub log : after ≡ before

pub end-fits : (code : CodeView) (b : BackingView) (o : OpenView) (c : EndedView) (before after : Trace) → StoresInRange → IsCode code → IsBacking b
    → FitsMemory code b o.limits.line_bytes → IsPortion code o
    → ((p : Portion) → StandsFor code o p → Acts code b p o (Acted_is.Ends c))
    → ((p : Portion) → StandsFor code o p → after ≡ all_noted before (act_notes code p o (Acted_is.Ends c)))
    → EndFits b c before after
end-fits code b o c before after law is backing fits (p, stands) acts notes =
    let found = acts p stands in
    record {
      in_range = law code b c.try p is backing
          (subst (λ (x : OpenView). FitsMemory code b x.limits.line_bytes) (sym found.1) fits)
          (subst (λ (x : OpenView). StandsFor code x p) (sym found.1) stands);
      log = notes p stands;
    }

-- ---- what the code sees at the start

pub runs-from : (stands view : List CoreStatus) (j : ℕ) (d : CoreStatus) (answer b : Bool) → view ≡ stands → answer ≡ core_runs (slice_index_or view j d) → answer ≡ b
    → (x : CoreStatus) → slice_get stands j ≡ Some x → core_runs x ≡ b
runs-from stands view j d answer b same is given x at =
    ap core_runs (sym (get-at stands j x d at)) ∙ ap (λ xs. core_runs (slice_index_or xs j d)) (sym same) ∙ sym is ∙ given

pub start-at : (c : Settings) (j : ℕ) (code : CodeView) (b : BackingView) (cores : Cores) (p now result : Stage)
    → j < c.cores → FitsCode code b → b.line_bytes ≡ c.line_bytes → FitCores c code cores.statuses.items cores.portions.items cores.lock
    → ((x : CoreStatus) → slice_get cores.statuses.items j ≡ Some x → core_runs x ≡ true) → (IsAnothers cores.lock.locked (Actor_is.Core j) → ⊥)
    → now ≡ slice_index_or cores.portions.items j now → result ≡ now → result ≡ p → Starts c j code b cores p
start-at c j code b cores p now result range same lines fits runs free at taken is = record {
  range = range;
  same = same;
  lines = lines;
  fits = fits;
  runs = runs;
  free = free;
  holds = slice_get_read cores.portions.items (length cores.portions.items) j now refl (subst (λ n. j < n) (sym fits.portions) range) at ∙ ap Some (sym taken ∙ is);
}

-- a portion that was moved out and another put in its place
pub set-twice : (xs : List Stage) (j : ℕ) (m p : Stage) → j < length xs → ChangesAt j p xs (set (set xs j m) j p)
set-twice xs j m p inside = record {
  many = length-set (set xs j m) j p ∙ length-set xs j m;
  here = slice_get-set_same (set xs j m) j p ∙ cond-true (ltb j (length (set xs j m))) _ _ (lt-ltb j (length (set xs j m)) (subst (λ n. j < n) (sym (length-set xs j m)) inside));
  beside = λ k ne. slice_get-set_other (set xs j m) j k p ne ∙ slice_get-set_other xs j k m ne;
}

pub inside-held : (c : Settings) (j : ℕ) (code : CodeView) (cores : Cores) → j < c.cores → FitCores c code cores.statuses.items cores.portions.items cores.lock → j < length cores.portions.items
inside-held c j code cores range fits = subst (λ n. j < n) (sym fits.portions) range

-- ---- memory's numbers

pub code-fits : (code : CodeView) (b new : BackingView) → FitsCode code b → HasSameNumbers b new → IsCoherent new → FitsCode code new
code-fits code b new same n is = record { base = n.base ∙ same.base; bytes = n.size ∙ same.bytes; coherent = is }

pub opens-numbers : (x : Bool) (j : ℕ) (s : ReadyView) (b new : BackingView) (lock after : Counts) (log later : Trace) (held : Stage) (event : Turned)
    → OpensTry x j s (around b lock log) (around new after later) held event → HasSameNumbers b new
opens-numbers x j s b new lock after log later held event opens = subst (HasSameNumbers b) (sym opens.opens.flushes) (flushes-numbers b (flushed_lines x b))

pub owed-numbers : (x : Option Line) (j : ℕ) (s : FlushingView) (b new : BackingView) (lock after : Counts) (log later : Trace) (held : Stage) (event : Turned)
    → FlushesOrOpens x j s (around b lock log) (around new after later) held event → HasSameNumbers b new
owed-numbers None j s b new lock after log later held event opens = opens-numbers (is_spent lock j) j (resting_from s) b new lock after log later held event opens
owed-numbers (Some l) j s b new lock after log later held event flush =
    subst (HasSameNumbers b) (sym flush.memory) (record { line_bytes = refl; base = refl; holders = refl; sets = refl; ways = refl; size = refl })

-- ---- entries that change nothing

pub idle-turn : (d : Design) (w : World) (c : Settings) (j : ℕ) (code : CodeView) (b : BackingView) (log : Trace) (cores : Cores) (event : Turned)
    → c ≡ d.config → j < c.cores → IsCoherent b → ShowsParts d code b log cores w → ((x : CoreStatus) → slice_get cores.statuses.items j ≡ Some x → core_runs x ≡ false)
    → event.entry ≡ Entry_is.Idle (Actor_is.Core j) → event.puts ≡ [] → CoreTurns d w j code b log cores event
idle-turn d w c j code b log cores event same range is s ends entry puts =
    still-turn d w j code b log cores event (Entry_is.Idle (Actor_is.Core j)) tt
    (next-core-idle d w j (status-runs d w j cores.statuses.items cores.portions.items (subst (λ (x : Settings). j < x.cores) same range) s.cores false ends))
    entry puts (λ h. refl) refl (quiet-parts d w code b log cores (Entry_is.Idle (Actor_is.Core j)) tt is s)

pub held-turn : (d : Design) (w : World) (c : Settings) (j : ℕ) (code : CodeView) (b : BackingView) (log : Trace) (cores : Cores) (event : Turned)
    → c ≡ d.config → j < c.cores → IsCoherent b → ShowsParts d code b log cores w → ((x : CoreStatus) → slice_get cores.statuses.items j ≡ Some x → core_runs x ≡ true)
    → IsAnothers cores.lock.locked (Actor_is.Core j)
    → event.entry ≡ Entry_is.Held (Actor_is.Core j) → event.puts ≡ [] → CoreTurns d w j code b log cores event
held-turn d w c j code b log cores event same range is s runs others entry puts =
    still-turn d w j code b log cores event (Entry_is.Held (Actor_is.Core j)) tt
    (next-core-held d w j (status-runs d w j cores.statuses.items cores.portions.items (subst (λ (x : Settings). j < x.cores) same range) s.cores true runs)
    (held-core d cores.lock w j s.lock others))
    entry puts (λ h. refl) refl (quiet-parts d w code b log cores (Entry_is.Held (Actor_is.Core j)) tt is s)
