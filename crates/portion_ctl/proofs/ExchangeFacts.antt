-- Accesses over the parts of a portion.
use Rattle.std.proofs.lemmas.Bool.{false≢true}
use Rattle.std.proofs.Common.{◌≡◌, ℕ, ◌%◌, Bool, true, false, not, cond, ◌++◌, refl, sym, ap, subst, ◌∙◌, inl, Option, Some, None}
use Rattle.std.specs.Prelude.{is_some}
use Rattle.std.proofs.lemmas.List.{append-nil}
use Rattle.conda_base.specs.declared.Line.{Line}
use Rattle.conda_base.specs.Lines.{IsAccessSize, line_number}
use Rattle.conda_base.proofs.LineLemmas.{line_by_number}
use Rattle.nda_cache.proofs.LineFacts.{known-put}
use Rattle.rv32_decode.specs.declared.instr.AmoOp.{AmoOp}
use Rattle.rv32_hart.specs.declared.act.Access.TheVariants as Access_is
use Rattle.rv32_hart.specs.Arithmetic.{amo_result}
use Rattle.offload_calls.specs.Stores.{bytes_from}
use Rattle.nda_cache.specs.Tried.{Tried, IsTried, HasRoom, known_of, filled_from}
use Rattle.conda_base.specs.Bytes.{handed_out}
use Rattle.line_memory.specs.Backing.{BackingView, copy_of}
use Rattle.line_memory.specs.Notes.{all_noted}
use Rattle.traffic_trace.specs.Notes.{Trace}
use Rattle.nda_cache.specs.declared.cache.Look.{Look}
use Rattle.nda_cache.specs.declared.cache.Look.TheVariants.{Known, Missing, Full}
use Rattle.portion_ctl.specs.declared.body.Body.{Body}
use Rattle.try_runs.specs.declared.limits.Limits.{Limits}
use Rattle.conda_base.specs.LineLists.{line_at}
use Rattle.try_runs.specs.Tries.{Try, stored_lines, with_some_line, writes}
use Rattle.try_runs.specs.Fills.{Fills, fills_with}
use Rattle.try_runs.specs.Ends.{is_sign_full}
use Rattle.bloom_sig.specs.Images.{IsSignatureOf}
use Rattle.bloom_sig.specs.Signatures.{Sets, inserted, is_full_for}
use Rattle.portion_ctl.specs.Stands.{Holds, HoldsLines}
use Rattle.portion_ctl.specs.Bodies.{Exchanges, HasParts, PutsInCache, cause_of_access, fill_of_access, limits_in, opened_of, outside_of}
use Rattle.portion_ctl.specs.Looks.{LooksUp, TakesValue, end_of_load, take_notes}
use Rattle.portion_ctl.proofs.LoadFacts.{Lies, lies}
use Rattle.portion_ctl.proofs.PutFacts.{HoldsLines-put}
use Rattle.portion_ctl.proofs.AccessFacts.{end_of_store, full-cause, load-cause, load-done, or_else, room-cause, store-cause, written-lines}

-- the line that the code looks up
pub line-at : (b : Body) (l : Line) (addr : ℕ) → HasParts b → l.0 ≡ line_number addr b.limits.line_bytes → l ≡ line_at b.cache.line_bytes addr
line-at b l addr parts is = line_by_number l (line_at b.cache.line_bytes addr) (is ∙ ap (λ (x : Limits). line_number addr x.line_bytes) parts.is)

-- what every access of a try needs
pub record Accesses (b : Body) (t : Try) (fills : Fills) (addr size : ℕ) (l : Line) : Type 0 where
  pub parts : HasParts b
  pub is : IsTried b.cache
  pub sized : IsAccessSize size
  pub aligned : addr % size ≡ 0
  pub line : l ≡ line_at b.cache.line_bytes addr
  pub holds : Holds (opened_of b) t fills

-- the cause that stands against a load, or else against what comes later
ends_by_look : (b : Body) (t : Try) (fills : Fills) (addr size : ℕ) (l : Line) (look : Look) (found later : Option ℕ) → Accesses b t fills addr size l
    → LooksUp b.cache addr size look → found ≡ end_of_load look (is_full_for b.read_set l b.limits.read_limit)
    → or_else (end_of_load look (is_full_for b.read_set (line_at b.cache.line_bytes addr) b.limits.read_limit)) later ≡ or_else found later
ends_by_look b t fills addr size l look found later a looks is =
    ap (λ k. or_else (end_of_load look (is_full_for b.read_set k b.limits.read_limit)) later) (sym a.line) ∙ ap (λ o. or_else o later) (sym is)

pub load-ends : (b : Body) (t : Try) (fills : Fills) (addr size : ℕ) (l : Line) (look : Look) (found : Option ℕ) (signed : Bool) (rd : ℕ) → Accesses b t fills addr size l
    → LooksUp b.cache addr size look → found ≡ end_of_load look (is_full_for b.read_set l b.limits.read_limit)
    → cause_of_access (opened_of b).limits t (Access_is.Load addr size signed rd) ≡ or_else found None
load-ends b t fills addr size l look found signed rd a looks is =
    load-cause b.cache b.read_set t.stored t.reads fills addr size b.limits.read_limit look None a.is (lies b.cache addr size a.is a.sized a.aligned) a.holds.lines a.holds.reads looks
    ∙ ends_by_look b t fills addr size l look found None a looks is

pub load-exchanges : (memory : BackingView) (b : Body) (t : Try) (fills : Fills) (addr size : ℕ) (l : Line) (look : Look) (cache : Tried) (reads : Sets) (value : ℕ)
    (before after : Trace) (signed : Bool) (rd : ℕ) → Accesses b t fills addr size l → LooksUp b.cache addr size look
    → TakesValue memory b.cache b.read_set l addr size look cache reads value → after ≡ all_noted before (take_notes b.core l look)
    → Exchanges memory (opened_of b) (opened_of (record b { cache = cache; read_set = reads })) t fills (Access_is.Load addr size signed rd) value before after
load-exchanges memory b t fills addr size l look cache reads value before after signed rd a looks takes notes =
    let lie = lies b.cache addr size a.is a.sized a.aligned in
    let at : TakesValue memory b.cache b.read_set (line_at b.cache.line_bytes addr) addr size look cache reads value =
    subst (λ k. TakesValue memory b.cache b.read_set k addr size look cache reads value) a.line takes in
    let done = load-done memory b.cache b.read_set t.stored t.reads fills addr size look cache reads value a.is lie a.holds.lines a.holds.reads looks at in
    record {
      loads = done.loads;
      lines = subst (λ ws. HoldsLines cache ws (with_some_line t.reads (outside_of b.cache.line_bytes t (Access_is.Load addr size signed rd))) (fills_with fills (copy_of memory) (fill_of_access b.cache.line_bytes t (Access_is.Load addr size signed rd)))) (sym (append-nil t.stored)) done.lines;
      reads = done.read;
      writes = subst (λ ws. IsSignatureOf b.write_set (stored_lines b.cache.line_bytes ws)) (sym (append-nil t.stored)) a.holds.writes;
      notes = notes ∙ ap (λ k. all_noted before (take_notes b.core k look)) a.line ∙ ap (all_noted before) (done.notes b.core);
    }

-- ---- stores

pub store-full : (b : Body) (t : Try) (fills : Fills) (addr size value : ℕ) (l : Line) → Accesses b t fills addr size l → (HasRoom b.cache l → ⊥)
    → cause_of_access (opened_of b).limits t (Access_is.Store addr size value) ≡ Some 4
store-full b t fills addr size value l a full =
    full-cause b.cache t.stored t.reads fills (line_at b.cache.line_bytes addr) (cond (is_sign_full b.read_set.bits b.limits.write_limit (stored_lines b.cache.line_bytes t.stored) (Some (line_at b.cache.line_bytes addr))) (Some 6) None)
    a.is a.holds.lines
    (λ room. full (subst (λ k. HasRoom b.cache k) (sym a.line) room))

-- the cause that stands against a store where there is room
ends_by_store : (b : Body) (t : Try) (fills : Fills) (addr size : ℕ) (l : Line) (found : Option ℕ) → Accesses b t fills addr size l
    → found ≡ end_of_store (is_full_for b.write_set l b.limits.write_limit)
    → cond (is_sign_full b.read_set.bits b.limits.write_limit (stored_lines b.cache.line_bytes t.stored) (Some (line_at b.cache.line_bytes addr))) (Some 6) None ≡ found
ends_by_store b t fills addr size l found a is =
    store-cause b.write_set b.read_set.bits b.limits.write_limit (stored_lines b.cache.line_bytes t.stored) (line_at b.cache.line_bytes addr) a.parts.writes a.holds.writes
    ∙ ap (λ k. end_of_store (is_full_for b.write_set k b.limits.write_limit)) (sym a.line) ∙ sym is

pub store-ends : (b : Body) (t : Try) (fills : Fills) (addr size value : ℕ) (l : Line) (found : Option ℕ) → Accesses b t fills addr size l → HasRoom b.cache l
    → found ≡ end_of_store (is_full_for b.write_set l b.limits.write_limit)
    → cause_of_access (opened_of b).limits t (Access_is.Store addr size value) ≡ found
store-ends b t fills addr size value l found a room is =
    room-cause b.cache t.stored t.reads fills (line_at b.cache.line_bytes addr) (cond (is_sign_full b.read_set.bits b.limits.write_limit (stored_lines b.cache.line_bytes t.stored) (Some (line_at b.cache.line_bytes addr))) (Some 6) None)
    a.holds.lines (subst (λ k. HasRoom b.cache k) a.line room)
    ∙ ends_by_store b t fills addr size l found a is

pub store-exchanges : (memory : BackingView) (b : Body) (t : Try) (fills : Fills) (addr size value : ℕ) (l : Line) (cache : Tried) (writes : Sets) (trace : Trace)
    → Accesses b t fills addr size l → PutsInCache b.cache cache addr size value → writes ≡ inserted b.write_set l
    → Exchanges memory (opened_of b) (opened_of (record b { cache = cache; write_set = writes })) t fills (Access_is.Store addr size value) 0 trace trace
store-exchanges memory b t fills addr size value l cache writes trace a puts wrote =
    let lie = lies b.cache addr size a.is a.sized a.aligned in
    record {
      loads = refl;
      lines = HoldsLines-put b.cache cache t.stored t.reads fills addr size value a.is lie a.sized a.holds.lines puts.cache;
      reads = a.holds.reads;
      writes = subst (λ (s : Sets). IsSignatureOf s (stored_lines b.cache.line_bytes (t.stored ++ bytes_from addr size value))) (sym (wrote ∙ ap (inserted b.write_set) a.line))
          (written-lines b.cache b.write_set t.stored addr size value a.sized lie a.holds.writes);
      notes = refl;
    }

-- ---- atomics

pub atomic-ends : (b : Body) (t : Try) (fills : Fills) (addr : ℕ) (op : AmoOp) (rd word : ℕ) (l : Line) (look : Look) (found stored : Option ℕ) → Accesses b t fills addr 4 l
    → LooksUp b.cache addr 4 look → found ≡ end_of_load look (is_full_for b.read_set l b.limits.read_limit)
    → stored ≡ end_of_store (is_full_for b.write_set l b.limits.write_limit)
    → cause_of_access (opened_of b).limits t (Access_is.Amo addr op rd word) ≡ or_else found stored
atomic-ends b t fills addr op rd word l look found stored a looks is stores =
    load-cause b.cache b.read_set t.stored t.reads fills addr 4 b.limits.read_limit look
    (cond (is_sign_full b.read_set.bits b.limits.write_limit (stored_lines b.cache.line_bytes t.stored) (Some (line_at b.cache.line_bytes addr))) (Some 6) None)
    a.is (lies b.cache addr 4 a.is a.sized a.aligned) a.holds.lines a.holds.reads looks
    ∙ ends_by_look b t fills addr 4 l look found _ a looks is
    ∙ ap (or_else found) (ends_by_store b t fills addr 4 l stored a stores)

-- a load keeps the size of a line
pub taken-line_bytes : (memory : BackingView) (cache : Tried) (reads : Sets) (l : Line) (addr size : ℕ) (look : Look) (after_cache : Tried) (after_reads : Sets) (value : ℕ)
    → TakesValue memory cache reads l addr size look after_cache after_reads value → after_cache.line_bytes ≡ cache.line_bytes
taken-line_bytes memory cache reads l addr size (Known known) after_cache after_reads value takes = ap (λ (t : Tried). t.line_bytes) takes.0
taken-line_bytes memory cache reads l addr size Missing after_cache after_reads value takes = ap (λ (t : Tried). t.line_bytes) takes.0
taken-line_bytes memory cache reads l addr size Full after_cache after_reads value takes = absurd takes

-- and leaves room for the line
pub taken-room : (memory : BackingView) (cache : Tried) (reads : Sets) (l : Line) (addr size : ℕ) (look : Look) (after_cache : Tried) (after_reads : Sets) (value : ℕ)
    → l ≡ line_at cache.line_bytes addr → LooksUp cache addr size look → TakesValue memory cache reads l addr size look after_cache after_reads value → HasRoom after_cache l
taken-room memory cache reads l addr size (Known known) after_cache after_reads value line looks takes =
    subst (λ (t : Tried). HasRoom t l) (sym takes.0) (subst (λ k. HasRoom cache k) (sym line) looks.1)
taken-room memory cache reads l addr size Missing after_cache after_reads value line looks takes =
    subst (λ (t : Tried). HasRoom t l) (sym takes.0)
    (inl (ap is_some (known-put l (filled_from cache.line_bytes (known_of cache l) (handed_out (copy_of memory l))) cache.lines)))
taken-room memory cache reads l addr size Full after_cache after_reads value line looks takes = absurd takes

pub atomic-exchanges : (memory : BackingView) (b : Body) (t : Try) (fills : Fills) (addr : ℕ) (op : AmoOp) (rd word : ℕ) (l : Line) (look : Look) (middle cache : Tried) (reads writes : Sets) (value : ℕ)
    (before after : Trace) → Accesses b t fills addr 4 l → LooksUp b.cache addr 4 look
    → TakesValue memory b.cache b.read_set l addr 4 look middle reads value → after ≡ all_noted before (take_notes b.core l look)
    → PutsInCache middle cache addr 4 (amo_result op value word) → writes ≡ inserted b.write_set l
    → Exchanges memory (opened_of b) (opened_of (record b { cache = cache; read_set = reads; write_set = writes })) t fills (Access_is.Amo addr op rd word) value before after
atomic-exchanges memory b t fills addr op rd word l look middle cache reads writes value before after a looks takes notes puts wrote =
    let lie = lies b.cache addr 4 a.is a.sized a.aligned in
    let same = taken-line_bytes memory b.cache b.read_set l addr 4 look middle reads value takes in
    let at : TakesValue memory b.cache b.read_set (line_at b.cache.line_bytes addr) addr 4 look middle reads value =
    subst (λ k. TakesValue memory b.cache b.read_set k addr 4 look middle reads value) a.line takes in
    let done = load-done memory b.cache b.read_set t.stored t.reads fills addr 4 look middle reads value a.is lie a.holds.lines a.holds.reads looks at in
    let lines : writes ≡ inserted b.write_set (line_at b.cache.line_bytes addr) = wrote ∙ ap (inserted b.write_set) a.line in
    record {
      loads = done.loads;
      lines = HoldsLines-put middle cache t.stored _ _ addr 4 (amo_result op value word) puts.is (subst (λ n. Lies n addr 4) (sym same) lie) a.sized done.lines puts.cache;
      reads = done.read;
      writes = subst (λ (s : Sets). IsSignatureOf s (stored_lines b.cache.line_bytes (t.stored ++ bytes_from addr 4 (amo_result op value word)))) (sym lines)
          (written-lines b.cache b.write_set t.stored addr 4 (amo_result op value word) a.sized lie a.holds.writes);
      notes = notes ∙ ap (λ k. all_noted before (take_notes b.core k look)) a.line ∙ ap (all_noted before) (done.notes b.core);
    }

-- ---- sizes

-- a load keeps every size
pub record KeepsSizes (limits : Limits) (cache after_cache : Tried) (reads after_reads : Sets) : Type 0 where
  pub limits_same : limits_in limits after_cache after_reads ≡ limits_in limits cache reads
  pub bits : after_reads.bits ≡ reads.bits

pub taken-sizes : (memory : BackingView) (limits : Limits) (cache : Tried) (reads : Sets) (l : Line) (addr size : ℕ) (look : Look) (after_cache : Tried) (after_reads : Sets) (value : ℕ)
    → TakesValue memory cache reads l addr size look after_cache after_reads value → KeepsSizes limits cache after_cache reads after_reads
taken-sizes memory limits cache reads l addr size (Known known) after_cache after_reads value takes = record {
  limits_same = ap (λ (t : Tried). limits_in limits t after_reads) takes.0 ∙ ap (λ (s : Sets). limits_in limits cache s) takes.1;
  bits = ap (λ (s : Sets). s.bits) takes.1;
}
taken-sizes memory limits cache reads l addr size Missing after_cache after_reads value takes = record {
  limits_same = ap (λ (t : Tried). limits_in limits t after_reads) takes.0
      ∙ ap (λ (s : Sets). limits_in limits cache s) takes.1;
  bits = ap (λ (s : Sets). s.bits) takes.1;
}
taken-sizes memory limits cache reads l addr size Full after_cache after_reads value takes = absurd takes

-- the parts after a load that fills its line
pub load-parts : (memory : BackingView) (b : Body) (l : Line) (addr size : ℕ) (cache : Tried) (reads : Sets) (value : ℕ)
    → HasParts b → TakesValue memory b.cache b.read_set l addr size Missing cache reads value → HasParts (record b { cache = cache; read_set = reads })
load-parts memory b l addr size cache reads value parts takes =
    let sizes = taken-sizes memory b.limits b.cache b.read_set l addr size Missing cache reads value takes in
    record {
      limits = parts.limits;
      is = parts.is ∙ sym sizes.limits_same;
      writes = parts.writes ∙ sym sizes.bits;
      foreign = parts.foreign ∙ sym sizes.bits;
      held = parts.held;
      acts = parts.acts;
      begun = parts.begun;
      checkpoint = parts.checkpoint;
    }

-- the parts after an atomic
pub atomic-parts : (memory : BackingView) (b : Body) (l : Line) (addr word : ℕ) (look : Look) (middle cache : Tried) (reads writes : Sets) (value : ℕ)
    → HasParts b → TakesValue memory b.cache b.read_set l addr 4 look middle reads value → PutsInCache middle cache addr 4 word → writes ≡ inserted b.write_set l
    → HasParts (record b { cache = cache; read_set = reads; write_set = writes })
atomic-parts memory b l addr word look middle cache reads writes value parts takes puts wrote =
    let sizes = taken-sizes memory b.limits b.cache b.read_set l addr 4 look middle reads value takes in
    let limits : limits_in b.limits cache reads ≡ limits_in b.limits middle reads = ap (λ (t : Tried). limits_in b.limits t reads) puts.cache.others in
    let bits : writes.bits ≡ b.write_set.bits = ap (λ (s : Sets). s.bits) wrote in
    record {
      limits = parts.limits;
      is = parts.is ∙ sym sizes.limits_same ∙ sym limits;
      writes = bits ∙ parts.writes ∙ sym sizes.bits;
      foreign = parts.foreign ∙ sym sizes.bits;
      held = parts.held;
      acts = parts.acts;
      begun = parts.begun;
      checkpoint = parts.checkpoint;
    }

-- ---- a signature that takes a line up to a limit

pub taken-up_to : (s new : Sets) (l : Line) (limit : ℕ) (took : Bool) → new ≡ cond (is_full_for s l limit) s (inserted s l)
    → took ≡ not (is_full_for s l limit) → took ≡ true → (is_full_for s l limit ≡ false) × (new ≡ inserted s l)
taken-up_to s new l limit took is answer on = go (is_full_for s l limit) is (sym answer ∙ on)
  where
    go : (b : Bool) → new ≡ cond b s (inserted s l) → not b ≡ true → (b ≡ false) × (new ≡ inserted s l)
    go true e n = absurd (false≢true n)
    go false e n = (refl, e)

pub refused-up_to : (s new : Sets) (l : Line) (limit : ℕ) (took : Bool) → new ≡ cond (is_full_for s l limit) s (inserted s l)
    → took ≡ not (is_full_for s l limit) → took ≡ false → (is_full_for s l limit ≡ true) × (new ≡ s)
refused-up_to s new l limit took is answer off = go (is_full_for s l limit) is (sym answer ∙ off)
  where
    go : (b : Bool) → new ≡ cond b s (inserted s l) → not b ≡ false → (b ≡ true) × (new ≡ s)
    go true e n = (refl, e)
    go false e n = absurd (false≢true (sym n))
