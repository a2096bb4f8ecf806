-- A chip that was just made.
use Rattle.std.proofs.Common.{◌≡◌, ◌<◌, ◌≤◌, ◌+◌, ℕ, zero, suc, true, false, List, [], ◌∷◌, ◌++◌, length, replicate, cond, ltb, refl, sym, ap, ◌∙◌, subst, arith, Option, Some, None}
use Rattle.std.proofs.lemmas.Option.{same_Some}
use Rattle.std.specs.Prelude.{slice_get, slice_index_or}
use Rattle.std.proofs.lemmas.Bool.{cond-true, lt-ltb}
use Rattle.std.proofs.lemmas.Bool.Decides.{nat_tests}
use Rattle.std.proofs.lemmas.List.{length-replicate}
use Rattle.std.proofs.lemmas.List.Elements.{All-nil}
use Rattle.traffic_trace.specs.declared.note.Note.{Note}
use Rattle.chip_config.specs.Settings.{Settings, IsAccepted}
use Rattle.rv32_hart.specs.Code.{CodeView, IsCode}
use Rattle.elf_loader.specs.Image.{ImageView}
use Rattle.line_memory.specs.Backing.{BackingView, IsInRange, copy_of}
use Rattle.coherent_mem.specs.Parts.{shown}
use Rattle.coherent_mem.specs.Steps.{IsCoherent, unused}
use Rattle.traffic_trace.specs.Notes.{no_notes}
use Rattle.offload_calls.specs.declared.status.CoreStatus.TheVariants as Core_is
use Rattle.offload_calls.specs.State.{start_core, start_hart}
use Rattle.fallback_lock.specs.Locks.{Counts, fresh_counts, backs_of}
use Rattle.chip_laws.specs.Design.{Design}
use Rattle.chip_laws.specs.Worlds.{start_world, world_from}
use Rattle.chip_core.specs.declared.stage.Stage.{Stage}
use Rattle.chip_core.specs.Fits.{is_locked_core, is_locked_open, resting, AreAtRest, FitsCore, FitCores}
use Rattle.chip_core.specs.Views.{ChipView, IsChip, AreNotedIn}
use Rattle.chip_core.specs.Shows.{HoldsAt, Shows, Stands}

-- ---- lists

pub one-more : (n : ℕ) → suc (n + 1) ≡ suc n + 1
one-more n = omega arith

pub replicate-more : {A : Type 0} (n : ℕ) (x : A) → replicate n x ++ x ∷ [] ≡ replicate (n + 1) x
replicate-more zero x = refl
replicate-more (suc n) x = ap (λ xs. x ∷ xs) (replicate-more n x) ∙ ap (λ k. replicate k x) (one-more n)

-- a list that shows a function, with one member more
pub push-get : {A : Type 0} (f : ℕ → A) (xs : List A) (x : A) → ((k : ℕ) → k < length xs → slice_get xs k ≡ Some (f k)) → x ≡ f (length xs)
    → (k : ℕ) → k < length xs + 1 → slice_get (xs ++ x ∷ []) k ≡ Some (f k)
push-get f [] x all is zero u = ap Some is
push-get f [] x all is (suc k) u = absurd (omega (arith, u))
push-get f (y ∷ ys) x all is zero u = all 0 (omega arith)
push-get f (y ∷ ys) x all is (suc k) u = push-get (λ i. f (suc i)) ys x (λ i v. all (suc i) (omega (arith, v))) is k (omega (arith, u))

get-below : {A : Type 0} (xs : List A) (k : ℕ) (x : A) → slice_get xs k ≡ Some x → k < length xs
get-below {A} [] k x at = absurd (let z : ◌≡◌ {A = Option A} None (Some x) = at in cc)
get-below (y ∷ ys) zero x at = omega arith
get-below (y ∷ ys) (suc k) x at = let u = get-below ys k x at in omega (arith, u)

ltb-zero : (i : ℕ) → ltb i 0 ≡ false
ltb-zero i = grind (arith, nat_tests)

zero-ltb : (n : ℕ) → ltb 0 (suc n) ≡ true
zero-ltb n = grind (arith, nat_tests)

ltb-suc : (i n : ℕ) → ltb (suc i) (suc n) ≡ ltb i n
ltb-suc i n = grind (arith, nat_tests)

get-replicate : {A : Type 0} (n k : ℕ) (x : A) → slice_get (replicate n x) k ≡ cond (ltb k n) (Some x) None
get-replicate zero k x = rw ltb-zero refl
get-replicate (suc n) zero x = rw zero-ltb refl
get-replicate (suc n) (suc k) x = rw ltb-suc (get-replicate n k x)

no-backs : (n k : ℕ) → ◌≡◌ {A = ℕ} (slice_index_or (replicate n 0) k 0) 0
no-backs zero k = refl
no-backs (suc n) zero = refl
no-backs (suc n) (suc k) = no-backs n k

rests-at : (c : Settings) (held : List Stage) (j : ℕ) (p : Stage) → AreAtRest c held → slice_get held j ≡ Some p → p ≡ resting c j
rests-at c held j p rest at = same_Some _ _ (sym at ∙ rest.each j (subst (λ n. j < n) rest.many (get-below held j p at)))

-- ---- the parts

-- these settings with this image
abbrev pub made_design : Settings → ImageView → Design
made_design c image = record { config = c; image = image }

-- the parts of a chip that was just made
pub record Made (c : Settings) (image : ImageView) (chip : ChipView) : Type 0 where
  pub config : chip.config ≡ c
  pub accepted : IsAccepted c
  pub code : chip.code ≡ image.code
  pub is_code : IsCode image.code
  pub base : image.code.base ≡ c.mem_base
  pub bytes : length image.code.bytes ≡ c.mem_bytes
  pub memory : shown chip.memory ≡ unused c.line_bytes c.harts c.hart_sets c.hart_ways image.code.base image.code.bytes
  pub coherent : IsCoherent (shown chip.memory)
  pub many : length chip.harts ≡ c.harts
  pub harts : (h : ℕ) → h < c.harts → slice_get chip.harts h ≡ Some (start_hart image.entry c.harts h)
  pub statuses : chip.statuses ≡ replicate c.cores Core_is.Idle
  pub portions : AreAtRest c chip.portions
  pub lock : chip.lock ≡ fresh_counts c.cores c.retries
  pub log : chip.log ≡ no_notes c.trace_last

made-cores : (c : Settings) (image : ImageView) (chip : ChipView) → Made c image chip → FitCores c chip.code chip.statuses chip.portions chip.lock
made-cores c image chip m = record {
  statuses = ap length m.statuses ∙ length-replicate c.cores Core_is.Idle;
  portions = m.portions.many;
  counts = ap (λ (x : Counts). length x.backs) m.lock ∙ length-replicate c.cores 0;
  few = λ k. subst (λ (x : Counts). backs_of x k ≤ x.retries) (sym m.lock) (none k);
  each = λ j p at. subst (FitsCore c chip.code j) (sym (rests-at c chip.portions j p m.portions at)) (refl, refl);
  locked = λ j p at. ap (λ (x : Counts). is_locked_core x.locked j) m.lock
      ∙ sym (ap is_locked_open (rests-at c chip.portions j p m.portions at));
}
  where
    none : (k : ℕ) → slice_index_or (replicate c.cores 0) k 0 ≤ c.retries
    none k = let z = no-backs c.cores k in omega (arith, z)

pub made-fits : (c : Settings) (image : ImageView) (chip : ChipView) → Made c image chip → IsChip chip
made-fits c image chip m = record {
  accepted = subst IsAccepted (sym m.config) m.accepted;
  same = record {
    base = ap (λ (x : BackingView). x.base) m.memory ∙ ap (λ (x : CodeView). x.base) (sym m.code);
    bytes = ap (λ (x : BackingView). length x.view) m.memory ∙ ap (λ (x : CodeView). length x.bytes) (sym m.code);
    coherent = m.coherent;
  };
  numbers = record {
    code_base = ap (λ (x : CodeView). x.base) m.code ∙ m.base ∙ ap (λ (x : Settings). x.mem_base) (sym m.config);
    code_bytes = ap (λ (x : CodeView). length x.bytes) m.code ∙ m.bytes ∙ ap (λ (x : Settings). x.mem_bytes) (sym m.config);
    line_bytes = ap (λ (x : BackingView). x.line_bytes) m.memory ∙ ap (λ (x : Settings). x.line_bytes) (sym m.config);
    base = ap (λ (x : BackingView). x.base) m.memory ∙ m.base ∙ ap (λ (x : Settings). x.mem_base) (sym m.config);
    bytes = ap (λ (x : BackingView). length x.view) m.memory ∙ m.bytes ∙ ap (λ (x : Settings). x.mem_bytes) (sym m.config);
    holders = ap (λ (x : BackingView). x.holders) m.memory ∙ ap (λ (x : Settings). x.harts) (sym m.config);
    sets = ap (λ (x : BackingView). x.sets) m.memory ∙ ap (λ (x : Settings). x.hart_sets) (sym m.config);
    ways = ap (λ (x : BackingView). x.ways) m.memory ∙ ap (λ (x : Settings). x.hart_ways) (sym m.config);
  };
  harts = m.many ∙ ap (λ (x : Settings). x.harts) (sym m.config);
  noted = subst (AreNotedIn (shown chip.memory)) (sym m.log) (All-nil (λ (note : Note). IsInRange (shown chip.memory) note.line));
  cores = subst (λ (x : Settings). FitCores x chip.code chip.statuses chip.portions chip.lock) (sym m.config) (made-cores c image chip m);
}

pub made-shows : (c : Settings) (image : ImageView) (chip : ChipView) → Made c image chip → Shows (made_design c image) chip (start_world (made_design c image))
made-shows c image chip m = record {
  config = m.config;
  code = m.code;
  memory = record {
    numbers = record {
      line_bytes = ap (λ (x : BackingView). x.line_bytes) m.memory;
      base = ap (λ (x : BackingView). x.base) m.memory;
      shape = ap (λ (x : BackingView). record { holders = x.holders; sets = x.sets; ways = x.ways }) m.memory;
    };
    view = ap (λ (x : BackingView). x.view) m.memory;
    copies = λ l range. ap (λ (x : BackingView). copy_of x l) m.memory;
    tags = ap (λ (x : BackingView). x.tags) m.memory;
    log = m.log;
  };
  harts = record { many = m.many; each = m.harts };
  cores = record {
    statuses = λ k. ap (λ xs. slice_get xs k) m.statuses ∙ get-replicate c.cores k Core_is.Idle;
    many = m.portions.many;
    portions = λ j p at. subst (HoldsAt (made_design c image) j start_core.regs ((start_world (made_design c image)).seats j))
        (sym (rests-at c chip.portions j p m.portions at))
        (record { closed = refl; settled = refl; core = refl; limits = refl; regs = refl });
  };
  lock = record {
    retries = ap (λ (x : Counts). x.retries) m.lock;
    many = ap (λ (x : Counts). length x.backs) m.lock ∙ length-replicate c.cores 0;
    backs = λ j u. ap (λ (x : Counts). slice_get x.backs j) m.lock ∙ get-replicate c.cores j 0
        ∙ cond-true (ltb j c.cores) (Some 0) None (lt-ltb j c.cores u);
    locked = λ j. ap (λ (x : Counts). is_locked_core x.locked j) m.lock;
    within = λ k at. absurd (let z : ◌≡◌ {A = Option ℕ} None (Some k) = sym (ap (λ (x : Counts). x.locked) m.lock) ∙ at in cc);
  };
}

pub made-stands : (c : Settings) (image : ImageView) (chip : ChipView) → Made c image chip → Stands (made_design c image) chip []
unfolding world_from
made-stands c image chip m = record {
  is_design = record { accepted = m.accepted; code = m.is_code; base = m.base; bytes = m.bytes };
  actors = tt;
  shows = made-shows c image chip m;
}
