-- Acts of a flat machine are those of the flat state that it stands for.
use Rattle.std.proofs.Common.{◌≡◌, ◌≢◌, ◌<◌, ◌+◌, ◌++◌, zero-add, ℕ, zero, suc, Bool, true, false, cond, eqb, ltb, List, [], length, set, refl, sym, ap, ◌∙◌, subst, ◌⊎◌, inl, inr, Option, Some, None}
use Rattle.std.specs.Prelude.{slice_get, slice_index_or}
use Rattle.std.proofs.Math.Path.{fun_ext}
use Rattle.std.proofs.lemmas.Bool.{cond_both, cond-true, cond-false, cases_eq, ne_eqb, lt-ltb}
use Rattle.std.proofs.lemmas.List.{append-nil, length-append, length-set}
use Rattle.std.proofs.lemmas.Option.{slice_get_within, same_Some}
use Rattle.rv32_hart.specs.Code.{CodeView}
use Rattle.rv32_hart.specs.Regs.{start_regs}
use Rattle.rv32_hart.specs.declared.regs.Regs.{Regs}
use Rattle.rv32_hart.specs.declared.act.Access.{Access}
use Rattle.rv32_hart.specs.declared.act.Access.TheVariants as Access_is
use Rattle.offload_calls.specs.declared.status.Hart.{Hart}
use Rattle.offload_calls.specs.declared.status.Core.{Core}
use Rattle.offload_calls.specs.declared.status.CoreStatus.{CoreStatus}
use Rattle.offload_calls.specs.declared.status.CoreStatus.TheVariants as Core_is
use Rattle.offload_calls.specs.State.{Setup, State, status_of, updated, launched_core}
use Rattle.offload_calls.specs.Stores.{overlay, stored_addresses}
use Rattle.offload_calls.specs.HartAct.{HartEffect, CoreChange, Stays, Starts, Rests, steps, act_effect, cores_after, hart_does, hart_step, hart_stores}
use Rattle.offload_calls.specs.CoreActs.{core_runs, core_effect, core_does, core_act, core_acts, written}
use Rattle.flat_check.specs.declared.acts.Launch.{Launch}
use Rattle.flat_check.specs.Acts.{stored_by, count_of_put}
use Rattle.flat_check.specs.HartActs.{HasEffect, changed_statuses, launch_of, turn_effect, stay_effect}
use Rattle.flat_check.specs.Flats.{FlatParts, ShowsFlat, HasStepped, HasMadeAct, HasMadePortion, core_with, with_launch}
use Rattle.flat_check.specs.Marks.{Marked}
use Rattle.flat_check.proofs.StepFacts.{Acted, acted_as, run_start, run_more, written_more}
use Rattle.flat_check.specs.Portions.{HasRun, HasActed}
use Rattle.flat_check.proofs.ListFacts.{updated-here, updated-there, get-updated, status-updated, read_is}

-- ---- a hart's turn on a flat state

updated_self : {A : Type 0} (g : ℕ → A) (j i : ℕ) → updated g j (g j) i ≡ g i
updated_self g j i = go (cases_eq i j)
  where
    go : (i ≡ j) ⊎ (i ≡ j → ⊥) → updated g j (g j) i ≡ g i
    go (inl same) = updated-here g j (g j) i same ∙ ap g (sym same)
    go (inr other) = updated-there g j (g j) i other

stays : (s : Setup) (f : State) (h : ℕ) → hart_does s f h (stay_effect (f.harts h)) ≡ f
stays s f h = λ i. record { memory = f.memory; harts = fun_ext (updated_self f.harts h) i; cores = f.cores; output = append-nil f.output i }

abbrev pub effect_at : Setup → State → ℕ → HartEffect
effect_at s f h = turn_effect s.code (status_of s.cores f.cores) f.memory (f.harts h)

turn-does : (s : Setup) (f : State) (h : ℕ) → hart_step s f h ≡ hart_does s f h (effect_at s f h)
unfolding hart_step
turn-does s f h = go (steps s.code (status_of s.cores f.cores) (f.harts h)) (act_effect s.code (status_of s.cores f.cores) f.memory (f.harts h).regs)
  where
    go : (b : Bool) (a : HartEffect) → cond b (hart_does s f h a) f ≡ hart_does s f h (cond b a (stay_effect (f.harts h)))
    go true a = refl
    go false a = sym (stays s f h)

turn-stores : (s : Setup) (f : State) (h : ℕ) → hart_stores s f h ≡ (effect_at s f h).stores
turn-stores s f h = go (steps s.code (status_of s.cores f.cores) (f.harts h)) (act_effect s.code (status_of s.cores f.cores) f.memory (f.harts h).regs)
  where
    go : (b : Bool) (a : HartEffect) → cond b a.stores [] ≡ (cond b a (stay_effect (f.harts h))).stores
    go true a = refl
    go false a = refl

-- ---- what a machine shows after it

statuses-after : (n : ℕ) (statuses : List CoreStatus) (cores : ℕ → Core) (change : CoreChange) → length statuses ≡ n
    → ((k : ℕ) → slice_get statuses k ≡ status_of n cores k) → (k : ℕ) → slice_get (changed_statuses change statuses) k ≡ status_of n (cores_after change cores) k
statuses-after n statuses cores Stays long all k = all k
statuses-after n statuses cores (Starts j entry arg) long all k = status-updated n statuses cores j (launched_core entry arg) long all k
statuses-after n statuses cores (Rests j) long all k = status-updated n statuses cores j (record { regs = (cores j).regs; status = Core_is.Idle }) long all k

many-after : (n : ℕ) (statuses : List CoreStatus) (change : CoreChange) → length statuses ≡ n → length (changed_statuses change statuses) ≡ n
many-after n statuses Stays long = long
many-after n statuses (Starts j entry arg) long = length-set statuses j Core_is.Run ∙ long
many-after n statuses (Rests j) long = length-set statuses j Core_is.Idle ∙ long

regs-many : (n : ℕ) (regs : List Regs) (launch : Option Launch) → length regs ≡ n → length (with_launch launch regs) ≡ n
regs-many n regs None long = long
regs-many n regs (Some l) long = length-set regs l.core (launched_core l.entry l.arg).regs ∙ long

regs-after : (n : ℕ) (regs : List Regs) (cores : ℕ → Core) (change : CoreChange) → length regs ≡ n → ((k : ℕ) → k < n → slice_get regs k ≡ Some (cores k).regs)
    → (k : ℕ) → k < n → slice_get (with_launch (launch_of change) regs) k ≡ Some (cores_after change cores k).regs
regs-after n regs cores Stays long all k u = all k u
regs-after n regs cores (Starts j entry arg) long all k u =
    get-updated n regs (λ i. (cores i).regs) j (launched_core entry arg).regs long all k u ∙ ap Some (go (eqb k j))
  where
    go : (b : Bool) → cond b (launched_core entry arg).regs (cores k).regs ≡ (cond b (launched_core entry arg) (cores k)).regs
    go true = refl
    go false = refl
regs-after n regs cores (Rests j) long all k u = all k u ∙ ap Some (go (cases_eq k j))
  where
    rested : Core
    rested = record { regs = (cores j).regs; status = Core_is.Idle }

    go : (k ≡ j) ⊎ (k ≡ j → ⊥) → (cores k).regs ≡ (updated cores j (record { regs = (cores j).regs; status = Core_is.Idle }) k).regs
    go (inl same) =
        ap (λ i. (cores i).regs) same
        ∙ sym (ap (λ (c : Core). c.regs) (updated-here cores j (record { regs = (cores j).regs; status = Core_is.Idle }) k same))
    go (inr other) = sym (ap (λ (c : Core). c.regs) (updated-there cores j (record { regs = (cores j).regs; status = Core_is.Idle }) k other))

-- what a turn of hart h by this effect made of a machine
pub record Turned (base : ℕ) (p q : FlatParts) (h : ℕ) (e : HartEffect) : Type 0 where
  pub memory : q.memory ≡ overlay base p.memory e.stores
  pub harts : q.harts ≡ set p.harts h e.hart
  pub statuses : q.statuses ≡ changed_statuses e.change p.statuses
  pub regs : q.regs ≡ with_launch (launch_of e.change) p.regs
  pub output : q.output ≡ p.output + length e.puts

turned-shows : (s : Setup) (p q : FlatParts) (f : State) (h : ℕ) (e : HartEffect) → ShowsFlat s p f → Turned s.code.base p q h e → ShowsFlat s q (hart_does s f h e)
turned-shows s p q f h e sh t = record {
  memory = t.memory ∙ ap (λ m. overlay s.code.base m e.stores) sh.memory;
  many_harts = ap length t.harts ∙ length-set p.harts h e.hart ∙ sh.many_harts;
  harts = λ i u. ap (λ xs. slice_get xs i) t.harts ∙ get-updated s.harts p.harts f.harts h e.hart sh.many_harts sh.harts i u;
  many_statuses = ap length t.statuses ∙ many-after s.cores p.statuses e.change sh.many_statuses;
  statuses = λ k. ap (λ xs. slice_get xs k) t.statuses ∙ statuses-after s.cores p.statuses f.cores e.change sh.many_statuses sh.statuses k;
  many_cores = ap length t.regs ∙ regs-many s.cores p.regs (launch_of e.change) sh.many_cores;
  regs = λ k u. ap (λ xs. slice_get xs k) t.regs ∙ regs-after s.cores p.regs f.cores e.change sh.many_cores sh.regs k u;
  output = t.output ∙ ap (λ n. n + length e.puts) sh.output ∙ sym (length-append f.output e.puts);
}

-- the effect of a hart's turn, as the machine knows it
abbrev pub effect_known : CodeView → FlatParts → Hart → HartEffect
effect_known code p hart = turn_effect code (slice_get p.statuses) p.memory hart

known-is : (s : Setup) (code : CodeView) (p : FlatParts) (f : State) (h : ℕ) (hart : Hart) → s.code ≡ code → ShowsFlat s p f → hart ≡ f.harts h
    → effect_known code p hart ≡ effect_at s f h
known-is s code p f h hart same sh is =
    let see : slice_get p.statuses ≡ status_of s.cores f.cores = fun_ext sh.statuses in
    let memory : p.memory ≡ f.memory = sh.memory in
    ap (λ (x : CodeView). turn_effect x (slice_get p.statuses) p.memory hart) (sym same)
    ∙ ap (λ (g : ℕ → Option CoreStatus). turn_effect s.code g p.memory hart) see
    ∙ ap (λ m. turn_effect s.code (status_of s.cores f.cores) m hart) memory
    ∙ ap (turn_effect s.code (status_of s.cores f.cores) f.memory) is

pub stepped : (s : Setup) (code : CodeView) (p q : FlatParts) (f : State) (h : ℕ) (hart : Hart) (access : Access) → s.code ≡ code → ShowsFlat s p f
    → slice_get p.harts h ≡ Some hart → Turned code.base p q h (effect_known code p hart)
    → stored_addresses (effect_known code p hart).stores ≡ stored_by access → HasStepped s f h q access
stepped s code p q f h hart access same sh at turned stores = record {
  shows = subst (ShowsFlat s q) (sym (turn-does s f h))
      (turned-shows s p q f h (effect_at s f h) sh
      (subst (λ (e : HartEffect). Turned s.code.base p q h e) known
      (subst (λ (x : CodeView). Turned x.base p q h (effect_known code p hart)) (sym same) turned)));
  stores = ap stored_addresses (turn-stores s f h) ∙ ap (λ (e : HartEffect). stored_addresses e.stores) (sym known) ∙ stores;
}
  where
    inside : h < s.harts
    inside = subst (λ n. h < n) sh.many_harts (slice_get_within p.harts h hart at)

    is : hart ≡ f.harts h
    is = same_Some hart (f.harts h) (sym at ∙ sh.harts h inside)

    known : effect_known code p hart ≡ effect_at s f h
    known = known-is s code p f h hart same sh is

-- ---- acts of a core

acts-harts : (s : Setup) (f : State) (j n : ℕ) → (core_acts s f j n).harts ≡ f.harts
unfolding core_acts core_act
acts-harts s f j zero = refl
acts-harts s f j (suc n) =
    cond_both (core_runs ((core_acts s f j n).cores j).status) _ _ (λ (x : State). x.harts ≡ f.harts) (λ _. acts-harts s f j n) (λ _. acts-harts s f j n)

acts-others : (s : Setup) (f : State) (j n k : ℕ) → k ≢ j → (core_acts s f j n).cores k ≡ f.cores k
unfolding core_acts core_act
acts-others s f j zero k other = refl
acts-others s f j (suc n) k other =
    cond_both (core_runs ((core_acts s f j n).cores j).status) _ _ (λ (x : State). x.cores k ≡ f.cores k)
    (λ _. cond-false (eqb k j) _ _ (ne_eqb k j other) ∙ acts-others s f j n k other) (λ _. acts-others s f j n k other)

acts-cores : (s : Setup) (f : State) (j n : ℕ) (core : Core) → core ≡ (core_acts s f j n).cores j → (k : ℕ) → updated f.cores j core k ≡ (core_acts s f j n).cores k
acts-cores s f j n core is k = go (cases_eq k j)
  where
    go : (k ≡ j) ⊎ (k ≡ j → ⊥) → updated f.cores j core k ≡ (core_acts s f j n).cores k
    go (inl same) = updated-here f.cores j core k same ∙ is ∙ ap (core_acts s f j n).cores (sym same)
    go (inr other) = updated-there f.cores j core k other ∙ sym (acts-others s f j n k other)

-- what acts of core j made of a machine beside its memory
pub record PutBack (p q : FlatParts) (j : ℕ) (core : Core) (puts : ℕ) : Type 0 where
  pub harts : q.harts ≡ p.harts
  pub statuses : q.statuses ≡ set p.statuses j core.status
  pub regs : q.regs ≡ set p.regs j core.regs
  pub output : q.output ≡ p.output + puts

pub acts-shown : (s : Setup) (p q : FlatParts) (f : State) (j n : ℕ) (core : Core) (puts : ℕ) → ShowsFlat s p f → HasRun s f j n q.memory core puts → PutBack p q j core puts
    → ShowsFlat s q (core_acts s f j n)
acts-shown s p q f j n core puts sh run back = record {
  memory = run.memory_is;
  many_harts = ap length back.harts ∙ sh.many_harts;
  harts = λ h u. ap (λ xs. slice_get xs h) back.harts ∙ sh.harts h u ∙ ap (λ (g : ℕ → Hart). Some (g h)) (sym (acts-harts s f j n));
  many_statuses = ap length back.statuses ∙ length-set p.statuses j core.status ∙ sh.many_statuses;
  statuses = λ k.
      ap (λ xs. slice_get xs k) back.statuses ∙ status-updated s.cores p.statuses f.cores j core sh.many_statuses sh.statuses k
      ∙ ap (λ (g : ℕ → Core). status_of s.cores g k) (fun_ext cores);
  many_cores = ap length back.regs ∙ length-set p.regs j core.regs ∙ sh.many_cores;
  regs = λ k u.
      ap (λ xs. slice_get xs k) back.regs ∙ get-updated s.cores p.regs (λ i. (f.cores i).regs) j core.regs sh.many_cores sh.regs k u
      ∙ ap Some (go (eqb k j) k) ∙ ap (λ (c : Core). Some c.regs) (cores k);
  output = back.output ∙ ap (λ n. n + puts) sh.output ∙ sym run.puts_are;
}
  where
    cores : (k : ℕ) → updated f.cores j core k ≡ (core_acts s f j n).cores k
    cores = acts-cores s f j n core run.core_is

    go : (b : Bool) (k : ℕ) → cond b core.regs (f.cores k).regs ≡ (cond b core (f.cores k)).regs
    go true k = refl
    go false k = refl

-- core j, as the machine has it
pub core-is : (s : Setup) (p : FlatParts) (f : State) (j : ℕ) → ShowsFlat s p f → j < length p.statuses → core_with p.regs p.statuses j ≡ f.cores j
core-is s p f j sh u = λ i. record { regs = regs i; status = status i }
  where
    here : j < s.cores
    here = subst (λ n. j < n) sh.many_statuses u

    regs : slice_index_or p.regs j (start_regs 0) ≡ (f.cores j).regs
    regs = read_is p.regs j (start_regs 0) (f.cores j).regs (subst (λ n. j < n) (sym sh.many_cores) here) (sh.regs j here)

    status : slice_index_or p.statuses j Core_is.Idle ≡ (f.cores j).status
    status = read_is p.statuses j Core_is.Idle (f.cores j).status u (sh.statuses j ∙ cond-true (ltb j s.cores) (Some (f.cores j).status) None (lt-ltb j s.cores here))

none_written : (s : Setup) (f : State) (j : ℕ) → core_runs (f.cores j).status ≡ false → written s f j 1 ≡ []
unfolding written core_acts
none_written s f j stops = ap (λ b. cond b (stored_addresses (core_effect s f.memory (f.cores j).regs).stores) []) stops

-- a core that doesn't run makes no act
pub no_act : (s : Setup) (p : FlatParts) (f : State) (j : ℕ) → ShowsFlat s p f → core_runs (f.cores j).status ≡ false → HasMadeAct s f j p Access_is.Nothing
unfolding core_acts core_act
no_act s p f j sh stops = record {
  shows = subst (ShowsFlat s p) (sym (ap (λ b. cond b (core_does s f j (core_effect s f.memory (f.cores j).regs)) f) stops)) sh;
  stores = none_written s f j stops;
}

-- ---- as the machine's calls have it

-- a turn of a hart, whose memory is known under another name
pub stepped_from : (s : Setup) (code : CodeView) (p q : FlatParts) (f : State) (h : ℕ) (memory : List ℕ) (hart new : Hart) (launch : Option Launch) (puts : ℕ) (access : Access) → s.code ≡ code
    → ShowsFlat s p f → memory ≡ p.memory → slice_get p.harts h ≡ Some hart
    → HasEffect (turn_effect code (slice_get p.statuses) memory hart) new p.statuses q.statuses launch puts
    → q.memory ≡ overlay code.base memory (turn_effect code (slice_get p.statuses) memory hart).stores
    → stored_addresses (turn_effect code (slice_get p.statuses) memory hart).stores ≡ stored_by access
    → q.harts ≡ set p.harts h new → q.regs ≡ with_launch launch p.regs → q.output ≡ p.output + puts → HasStepped s f h q access
stepped_from s code p q f h memory hart new launch puts access same sh known at effect laid stores harts regs output =
    stepped s code p q f h hart access same sh at
    (record {
      memory = laid ∙ ap (λ m. overlay code.base m (turn_effect code (slice_get p.statuses) m hart).stores) known;
      harts = harts ∙ ap (set p.harts h) e.hart_is;
      statuses = e.statuses;
      regs = regs ∙ ap (λ l. with_launch l p.regs) e.launch_is;
      output = output ∙ ap (λ n. p.output + n) (sym e.puts_are);
    })
    (ap (λ m. stored_addresses (turn_effect code (slice_get p.statuses) m hart).stores) (sym known) ∙ stores)
  where
    e : HasEffect (effect_known code p hart) new p.statuses q.statuses launch puts
    e = subst (λ m. HasEffect (turn_effect code (slice_get p.statuses) m hart) new p.statuses q.statuses launch puts) known effect

nothing_yet : (s : Setup) (f : State) (j : ℕ) → written s f j 0 ≡ []
unfolding written
nothing_yet s f j = refl

pub made_act : (s : Setup) (code : CodeView) (p q : FlatParts) (f : State) (j : ℕ) (memory memory2 : List ℕ) (core core2 : Core) (access : Access) (put : Bool) → s.code ≡ code → ShowsFlat s p f
    → memory ≡ p.memory → core ≡ f.cores j → Acted code memory core memory2 core2 access put → q.memory ≡ memory2 → PutBack p q j core2 (count_of_put put) → HasMadeAct s f j q access
made_act s code p q f j memory memory2 core core2 access put same sh known is acted laid back = record {
  shows = acts-shown s p q f j 1 core2 (count_of_put put) sh
      (subst (λ m. HasRun s f j 1 m core2 (count_of_put put)) (sym laid)
      (subst (λ n. HasRun s f j 1 memory2 core2 n) (zero-add (count_of_put put)) (run_more s f j 0 memory core 0 memory2 core2 access put a start)))
      back;
  stores = written_more s f j 0 memory core 0 memory2 core2 access put a start ∙ ap (λ xs. xs ++ stored_by access) (nothing_yet s f j);
}
  where
    a : Acted s.code memory core memory2 core2 access put
    a = acted_as code s memory core memory2 core2 access put same acted

    start : HasRun s f j 0 memory core 0
    start = run_start s f j memory core (known ∙ sh.memory) is

pub made_portion : (s : Setup) (p q : FlatParts) (f : State) (j n : ℕ) (stored : List ℕ) (before marks : List Marked) (memory2 : List ℕ) (core2 : Core) (found : Option ℕ) (puts : ℕ) → ShowsFlat s p f
    → HasActed s f j n stored before memory2 core2 marks found puts → q.memory ≡ memory2 → PutBack p q j core2 puts → HasMadePortion s f j n stored before q marks found
made_portion s p q f j n stored before marks memory2 core2 found puts sh acted laid back = record {
  shows = acts-shown s p q f j n core2 puts sh (subst (λ m. HasRun s f j n m core2 puts) (sym laid) acted.run) back;
  marks_are = acted.others;
  found_is = acted.found_is;
}
