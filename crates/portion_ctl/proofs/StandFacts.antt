-- What an open portion stands for, along its acts.
use Rattle.conda_base.specs.declared.Line.{Line}
use Rattle.std.proofs.Common.{◌≡◌, ◌≤◌, ℕ, suc, arith, Bool, eqb, [], ◌∷◌, ◌++◌, Some, None, refl, sym, ap, subst, ◌∙◌}
use Rattle.std.proofs.lemmas.Bool.{false≢true}
use Rattle.std.proofs.lemmas.Nat.Bits.{bit_at-zero}
use Rattle.nda_cache.specs.Tried.{no_try_lines}
use Rattle.std.specs.Prelude.{unwrap_or}
use Rattle.conda_base.specs.Lines.{IsLineSize}
use Rattle.rv32_hart.specs.declared.regs.Regs.{Regs}
use Rattle.rv32_hart.specs.Regs.{start_regs}
use Rattle.rv32_hart.specs.Code.{CodeView, IsCode}
use Rattle.rv32_hart.specs.Act.{plan_of}
use Rattle.offload_calls.specs.Effects.{loads_of}
use Rattle.line_memory.specs.Backing.{BackingView, copy_of}
use Rattle.line_memory.specs.Notes.{all_noted}
use Rattle.traffic_trace.specs.Notes.{Trace}
use Rattle.try_runs.specs.declared.limits.Limits.{Limits}
use Rattle.portion_ctl.specs.declared.body.Body.{Body}
use Rattle.try_runs.specs.Tries.{Try, outside_line, try_act, try_over}
use Rattle.try_runs.specs.Fills.{Fills, Portion, byte_of, corefill_notes, fills_with, next_fill, portion_run, try_run}
use Rattle.try_runs.specs.Ends.{end_of}
use Rattle.try_runs.specs.Limits.{IsLimits}
use Rattle.try_runs.proofs.TryFacts.{fills-agree, try_over-agree}
use Rattle.bloom_sig.specs.Images.{IsImage}
use Rattle.bloom_sig.specs.Signatures.{Sets, no_lines, inserted, joined}
use Rattle.bloom_sig.proofs.ImageLemmas.{empty_is_signed, inserted_is_image, joined_is_image}
use Rattle.portion_ctl.specs.Views.{OpenView, ReadyView}
use Rattle.portion_ctl.specs.Stands.{Holds, HoldsLines, IsOpen, StandsAlike, StandsFor}
use Rattle.portion_ctl.specs.States.{Hears, HearsAll, IsSameTry, opened_from, portion_fill, with_act}
use Rattle.portion_ctl.specs.Walks.{foreign_lines}
use Rattle.portion_ctl.specs.Bodies.{ActsAll, ActsOn, HasParts, Keeps, opened_of}
use Rattle.portion_ctl.proofs.WalkFacts.{all_inserted-bits, all_inserted-image}
use Rattle.portion_ctl.proofs.ActFacts.{same-lines}

try_run-suc : (code : CodeView) (n : ℕ) (r : Regs) (fills : Fills) (acts : ℕ)
    → try_run code n r fills (suc acts) ≡ try_act code n (byte_of n fills) (try_run code n r fills acts)
unfolding try_over
try_run-suc code n r fills acts = refl

line_size : (b : Body) → HasParts b → IsLineSize b.cache.line_bytes
line_size b parts = subst (λ (x : Limits). IsLineSize x.line_bytes) parts.is parts.limits.line_size

-- one act more, over the fills with the line that it fills
stands-act : (code : CodeView) (memory : BackingView) (b new : Body) (r : Regs) (fills : Fills) (n : ℕ) (before after : Trace) → IsCode code → HasParts b → HasParts new
    → Keeps b new → StandsFor code (opened_of b) (record { regs = r; fills = fills; acts = n })
    → ActsOn code memory (opened_of b) (opened_of new) (try_run code b.cache.line_bytes r fills n) fills n before after
    → StandsFor code (opened_of new) (record { regs = r; fills = fills_with fills (copy_of memory) (next_fill code b.cache.line_bytes (try_run code b.cache.line_bytes r fills n)); acts = suc n })
stands-act code memory b new r fills n before after is parts new_parts keeps stands done =
    let k : ℕ = b.cache.line_bytes in
    let t : Try = try_run code k r fills n in
    let filled : Fills = fills_with fills (copy_of memory) (next_fill code k t) in
    let same_k : new.cache.line_bytes ≡ k = same-lines b new parts new_parts keeps.limits in
    let before_act : t ≡ try_run code k r filled n =
    try_over-agree code k (byte_of k fills) (byte_of k filled) r n is (line_size b parts) (fills-agree code.base k (copy_of memory) fills t.reads (outside_line k t.stored (loads_of (plan_of code t.core.regs)))) in
    let after_act : try_act code k (byte_of k filled) t ≡ try_run code k r filled (suc n) =
    ap (try_act code k (byte_of k filled)) before_act ∙ sym (try_run-suc code k r filled n) in
    record {
      opening = ap (λ o. unwrap_or o (start_regs 0)) keeps.checkpoint ∙ stands.opening;
      acts = done.acts;
      holds = subst (λ (u : Try). Holds (opened_of new) u filled) (after_act ∙ ap (λ m. try_run code m r filled (suc n)) (sym same_k)) done.holds;
    }

is-open : (b : Body) → HasParts b → IsOpen (opened_of b)
is-open b parts = record {
  limits = subst (λ (x : Limits). IsLimits x) parts.is parts.limits;
  sizes = record { lines = refl; sets = refl; ways = refl; reads = refl; writes = parts.writes; foreign = parts.foreign };
  acts = parts.acts;
  held = parts.held;
}

pub same-try : (b new : Body) (o : OpenView) → opened_of b ≡ o → HasParts b → HasParts new → Keeps b new → IsSameTry o (opened_of new)
same-try b new o view parts new_parts keeps =
    subst (λ x. IsSameTry x (opened_of new)) view
    (record {
      core = keeps.core;
      limits = sym new_parts.is ∙ keeps.limits ∙ parts.is;
      opening = ap (λ c. unwrap_or c (start_regs 0)) keeps.checkpoint;
      foreign = keeps.foreign;
      locked = keeps.locked;
      kept = is-open new new_parts;
    })

-- what an act of a portion does, and what it notes, where it is made
pub act-made : (code : CodeView) (memory : BackingView) (b new : Body) (o : OpenView) (p : Portion) (before after : Trace) → opened_of b ≡ o → IsCode code
    → HasParts b → HasParts new → Keeps b new → ActsAll code memory b before None new after → StandsFor code o p
    → (end_of code o.limits p.acts (portion_run code o.limits.line_bytes p) ≡ None)
    × StandsFor code (opened_of new) (with_act code memory o.limits.line_bytes p)
    × (after ≡ all_noted before (corefill_notes o.core (portion_fill code o.limits.line_bytes p)))
act-made code memory b new o p before after view is parts new_parts keeps acts =
    let P : OpenView → Type 0 = λ x.
    StandsFor code x p → (end_of code x.limits p.acts (portion_run code x.limits.line_bytes p) ≡ None)
    × StandsFor code (opened_of new) (with_act code memory x.limits.line_bytes p)
    × (after ≡ all_noted before (corefill_notes x.core (portion_fill code x.limits.line_bytes p))) in
    subst P view
    (λ stands.
    let done = acts (portion_run code b.cache.line_bytes p) p.fills p.acts stands.holds stands.acts in
    (done.0, stands-act code memory b new p.regs p.fills p.acts before after is parts new_parts keeps stands done.1, done.1.notes))

-- and where it isn't
pub act-refused : (code : CodeView) (memory : BackingView) (b new : Body) (o : OpenView) (p : Portion) (cause : ℕ) (before after : Trace) → opened_of b ≡ o
    → ActsAll code memory b before (Some cause) new after → StandsFor code o p
    → (end_of code o.limits p.acts (portion_run code o.limits.line_bytes p) ≡ Some cause) × (opened_of new ≡ o) × (after ≡ before)
act-refused code memory b new o p cause before after view acts =
    let P : OpenView → Type 0 = λ x.
    StandsFor code x p → (end_of code x.limits p.acts (portion_run code x.limits.line_bytes p) ≡ Some cause) × (opened_of new ≡ x) × (after ≡ before) in
    subst P view
    (λ stands.
    let done = acts (portion_run code b.cache.line_bytes p) p.fills p.acts stands.holds stands.acts in
    (done.0, ap opened_of done.1, done.2))

-- ---- an opening

-- an empty cache has the lines of no try
empty-lines : (n sets ways : ℕ) (fills : Fills) → HoldsLines (no_try_lines n sets ways) [] [] fills
empty-lines n sets ways fills = record {
  lines = λ l. record {
    filled = refl;
    marks = λ k within. ap (λ bit. eqb bit 1) (bit_at-zero k);
    bytes = λ k within known. absurd (false≢true known);
  };
  there = λ l. refl;
  counts = λ l. refl;
  order = refl;
}

-- a portion that was opened stands for its registers, any fills and no act
pub opened-stands : (code : CodeView) (s : ReadyView) (locked : Bool) (memory : BackingView) (fills : Fills) → s.limits.sig_bits ≤ 10
    → StandsFor code (opened_from s locked memory) (record { regs = s.regs; fills = fills; acts = 0 })
unfolding try_over
opened-stands code s locked memory fills few = record {
  opening = refl;
  acts = refl;
  holds = record {
    regs = refl;
    status = refl;
    held = refl;
    lines = empty-lines s.limits.line_bytes s.limits.core_sets s.limits.core_ways fills;
    reads = empty_is_signed s.limits.sig_bits few;
    writes = empty_is_signed s.limits.sig_bits few;
    sizes = record {
      lines = refl;
      sets = refl;
      ways = refl;
      reads = refl;
      writes = refl;
      foreign = all_inserted-bits (no_lines s.limits.sig_bits) (foreign_lines locked memory);
    };
  };
}

-- a portion that was told of foreign lines
pub told-stands : (o new : OpenView) (foreign : Sets) → foreign.bits ≡ o.foreign_set.bits → new ≡ record o { foreign_set = foreign } → StandsAlike o new
told-stands o new foreign same is code p stands =
    let h = stands.holds in
    let s = h.sizes in
    subst (λ x. StandsFor code x p) (sym is)
    (record {
      opening = stands.opening;
      acts = stands.acts;
      holds = record {
        regs = h.regs;
        status = h.status;
        held = h.held;
        lines = h.lines;
        reads = h.reads;
        writes = h.writes;
        sizes = record { lines = s.lines; sets = s.sets; ways = s.ways; reads = s.reads; writes = s.writes; foreign = same ∙ s.foreign };
      };
    })

-- ---- what was opened

pub opened-open : (s : ReadyView) (locked : Bool) (memory : BackingView) → IsLimits s.limits → IsOpen (opened_from s locked memory)
opened-open s locked memory is = record {
  limits = is;
  sizes = record {
    lines = refl;
    sets = refl;
    ways = refl;
    reads = refl;
    writes = refl;
    foreign = all_inserted-bits (no_lines s.limits.sig_bits) (foreign_lines locked memory);
  };
  acts = omega arith;
  held = omega arith;
}

pub opened-foreign : (s : ReadyView) (locked : Bool) (memory : BackingView) → IsLimits s.limits
    → IsImage (opened_from s locked memory).foreign_set (foreign_lines locked memory)
opened-foreign s locked memory is =
    all_inserted-image (no_lines s.limits.sig_bits) [] (foreign_lines locked memory) (empty_is_signed s.limits.sig_bits is.bits.1).image

-- ---- what others changed

pub heard : (old new : OpenView) (l : Line) → new ≡ record old { foreign_set = inserted old.foreign_set l } → Hears old new l
heard old new l is = record {
  set = is;
  image = λ lines im. subst (λ (o : OpenView). IsImage o.foreign_set (lines ++ l ∷ [])) (sym is) (inserted_is_image old.foreign_set lines l im);
  stands = told-stands old new (inserted old.foreign_set l) refl is;
}

pub heard-all : (old new : OpenView) (s : Sets) → old.foreign_set.bits ≡ s.bits → new ≡ record old { foreign_set = joined old.foreign_set s } → HearsAll old new s
heard-all old new s bits is = record {
  set = is;
  image = λ lines more im on. subst (λ (o : OpenView). IsImage o.foreign_set (lines ++ more)) (sym is) (joined_is_image old.foreign_set s lines more bits im on);
  stands = told-stands old new (joined old.foreign_set s) refl is;
}
