use Rattle.std.proofs.Common.{◌≡◌, ℕ, zero, suc, List, [], ◌∷◌, ◌++◌, Option, Some, None, length, take, drop, sym, ap, subst, ◌∙◌, refl, arith}
use Rattle.std.proofs.Math.Path.{fun_ext}
use Rattle.std.proofs.lemmas.List.{take_all, drop_all, append-nil}
use Rattle.conda_base.specs.declared.Line.{Line}
use Rattle.conda_base.specs.declared.Mesi.{Mesi}
use Rattle.conda_base.specs.Marks.{mixed}
use Rattle.conda_base.proofs.LineLemmas.{line_by_number}
use Rattle.line_memory.specs.Access.{after_merge}
use Rattle.line_memory.specs.Tags.{Tags}
use Rattle.line_memory.specs.Backing.{BackingView, merged}
use Rattle.portion_examples.proofs.tries.lent.LentBacking.merge.Goals as goal

abbrev first : Line
first = record { 0 = 0 }

abbrev tags_of : Option Mesi → Tags
tags_of held holder set = elim holder [
  | zero ↦ elim set [ zero ↦ elim held [ None ↦ [] | Some state ↦ (first, state) ∷ [] ] | suc s ↦ [] ]
  | suc h ↦ []
]

-- what is shown of the parts of a memory
abbrev lent : List ℕ → List ℕ → Option Mesi → BackingView
lent copy seen held = record {
  line_bytes = 64;
  base = 0;
  holders = 1;
  sets = 1;
  ways = 1;
  view = seen;
  copies = copy;
  tags = tags_of held;
}

dropped : (held : Option Mesi) (h s : ℕ) → tags_of None h s ≡ after_merge (tags_of held) first h s
dropped None zero zero = refl
dropped (Some state) zero zero = refl
dropped held zero (suc s) = refl
dropped held (suc h) s = refl

-- a line that is put into the memory is all of it
all_of : (bytes new : List ℕ) → length bytes ≡ 64 → new ≡ new ++ drop 64 bytes
all_of bytes new size =
    sym (ap (λ (rest : List ℕ). new ++ rest) (drop_all 64 bytes (omega arith)) ∙ append-nil new)

is_merged : (copy seen marked : List ℕ) (held : Option Mesi) (mask : ℕ) → length copy ≡ 64 → length seen ≡ 64
    → (let new = mixed mask (take 64 marked) seen in
    lent new new None ≡ merged (lent copy seen held) first marked mask)
is_merged copy seen marked held mask copy_size seen_size =
    let b : BackingView = merged (lent copy seen held) first marked mask in
    let new : List ℕ = mixed mask (take 64 marked) seen in
    let line : List ℕ = mixed mask (take 64 marked) (take 64 seen) in
    let same : new ≡ line =
    ap (λ (back : List ℕ). mixed mask (take 64 marked) back) (sym (take_all 64 seen (omega arith))) in
    ap (λ (view : List ℕ). record (lent new new None) { view = view }) (same ∙ all_of seen line seen_size) ∙
    ap (λ (own : List ℕ). record b { copies = own; tags = tags_of None }) (same ∙ all_of copy line copy_size) ∙
    ap (λ (tags : Tags). record b { tags = tags }) (fun_ext (λ h. fun_ext (λ s. dropped held h s)))

pub returns-clause-merged : goal.returns-clause-merged
returns-clause-merged c =
    let m = c.args.self.now in
    let new : List ℕ = c.put_marked.new.bytes in
    let line : first ≡ c.args.l = line_by_number first c.args.l (sym c.only_line.ensures.line) in
    let is : new ≡ mixed c.args.mask (take 64 c.args.bytes.now) m.seen = c.put_marked.ensures in
    subst (λ (l : Line). lent new new None ≡ merged (lent m.copy m.seen m.held) l c.args.bytes.now c.args.mask)
    line (rw is (is_merged m.copy m.seen c.args.bytes.now m.held c.args.mask m.copy_size m.seen_size))
