use Rattle.std.proofs.Common.{◌≡◌, ◌≤◌, ◌<◌, ◌+◌, ◌*◌, ◌/◌, ◌%◌, length, false, sym, ◌∙◌, arith, rules}
use Rattle.std.proofs.lemmas.List.{get_or_default}
use Rattle.std.proofs.Math.Nat.{mul-le-mul_left}
use Rattle.line_memory.specs.Backing.{dirty_from}
use Rattle.coherent_mem.specs.Parts.{Parts, shown}
use Rattle.coherent_mem.specs.Marked.{IsCleanFrom, IsFirstModified}
use Rattle.coherent_mem.proofs.CoherentFacts.{coherent}
use Rattle.coherent_mem.proofs.WalkFacts.{IsOnward, found_dirty, onward, unmarked, walk_past}
use Rattle.coherent_mem.proofs.PartFacts.{fields}
use Rattle.coherent_mem.proofs.coherent.backing.CoherentBacking.next_dirty.Goals.{then-index+in_default, else-index}
use Rattle.coherent_mem.proofs.coherent.backing.CoherentBacking.next_dirty.Goals as goal

pub returns-in-Some : goal.returns-in-Some
returns-in-Some c =
    let p : Parts = fields c.self.view_is in
    let skipped : dirty_from (shown p) c.args.from ≡ dirty_from (shown p) (c.loop-mark.mark * p.ways + c.loop-mark.way) = rw (← c.self.view_is) at c.loop-mark.invariant.skipped in
    let after : c.args.from ≤ c.loop-mark.mark * p.ways + c.loop-mark.way = rw (← c.self.view_is) at c.loop-mark.invariant.after in
    let test : c.loop-mark.mark < length c.self.inside.marks.items = search rules in
    let below : c.loop-mark.mark < length p.caches * p.sets = rw c.self.invariant.2.count at test in
    let first : IsFirstModified ((shown p).tags (c.loop-mark.mark / p.sets) (c.loop-mark.mark % p.sets)) c.loop-mark.way p.ways c.in-Some.way c.in-Some.l = rw (← c.self.view_is) at c.in-Some.ensures in
    record {
      first = rw (← c.self.view_is) (found_dirty p c.args.from c.loop-mark.mark c.loop-mark.way c.in-Some.way c.in-Some.l c.self.invariant.1 below after skipped first);
      kept = rw (← c.self.view_is) (coherent p c.self.invariant.1);
    }

pub loop-mark-preserved : goal.loop-mark-preserved
loop-mark-preserved c =
    let p : Parts = fields c.self.view_is in
    let skipped : dirty_from (shown p) c.args.from ≡ dirty_from (shown p) (c.loop-mark.mark * p.ways + c.loop-mark.way) = rw (← c.self.view_is) at c.loop-mark.invariant.skipped in
    let after : c.args.from ≤ c.loop-mark.mark * p.ways + c.loop-mark.way = rw (← c.self.view_is) at c.loop-mark.invariant.after in
    let test : c.loop-mark.mark < length c.self.inside.marks.items = search rules in
    let below : c.loop-mark.mark < length p.caches * p.sets = rw c.self.invariant.2.count at test in
    let within : c.loop-mark.way < p.ways = rw (← c.self.view_is) at c.loop-mark.invariant.within in
    let clean : IsCleanFrom ((shown p).tags (c.loop-mark.mark / p.sets) (c.loop-mark.mark % p.sets)) c.loop-mark.way p.ways =
    elim c.if-index.branch [
      | then-index+in_default w ↦ rw (← c.self.view_is) at w.in_default.ensures
      | else-index w ↦ unmarked p c.loop-mark.mark c.loop-mark.way c.self.inside.marks.items c.self.invariant.1 c.self.invariant.2
          (get_or_default c.self.inside.marks.items c.loop-mark.mark false c.index.result.now test ∙ sym c.index.ensures ∙ w.if-index.false)
    ] in
    let all : IsOnward p c.args.from (c.loop-mark.mark + 1) 0 = onward p c.args.from c.loop-mark.mark c.loop-mark.way c.self.invariant.1 below within after skipped clean in
    rw (← c.self.view_is) (record { within = all.within; after = all.after; skipped = all.skipped })

pub returns : goal.returns
returns c =
    let p : Parts = fields c.self.view_is in
    let skipped : dirty_from (shown p) c.args.from ≡ dirty_from (shown p) (c.loop-mark.mark * p.ways + c.loop-mark.way) = rw (← c.self.view_is) at c.loop-mark.invariant.skipped in
    let after : c.args.from ≤ c.loop-mark.mark * p.ways + c.loop-mark.way = rw (← c.self.view_is) at c.loop-mark.invariant.after in
    let test : length c.self.inside.marks.items ≤ c.loop-mark.mark = search rules in
    let past : length p.caches * p.sets ≤ c.loop-mark.mark = rw c.self.invariant.2.count at test in
    let gap = mul-le-mul_left p.ways past in
    record {
      first = rw (← c.self.view_is) (skipped ∙ walk_past p (c.loop-mark.mark * p.ways + c.loop-mark.way) c.self.invariant.1 (omega arith));
      kept = rw (← c.self.view_is) (coherent p c.self.invariant.1);
    }
