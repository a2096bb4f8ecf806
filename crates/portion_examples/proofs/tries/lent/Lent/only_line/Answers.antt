use Rattle.std.proofs.Common.{◌≡◌, ℕ, List, length, ap, ◌∙◌, arith}
use Rattle.std.proofs.lemmas.List.{take_all}
use Rattle.conda_base.specs.Bytes.{bytes_of_line}
use Rattle.portion_examples.proofs.tries.lent.Lent.only_line.Goals as goal

whole : (bytes : List ℕ) (l : ℕ) → length bytes ≡ 64 → l ≡ 0 → bytes_of_line 0 64 bytes l ≡ bytes
whole bytes l size first =
    ap (λ (n : ℕ). bytes_of_line 0 64 bytes n) first ∙ take_all 64 bytes (omega arith)

pub returns : goal.returns
returns c =
    let m = c.args.self.now in
    let below = rw m.seen_size at c.requires.below in
    let first : c.args.l.0 ≡ 0 = omega arith in
    record {
      line = first;
      copy = whole m.copy c.args.l.0 m.copy_size first;
      view = whole m.seen c.args.l.0 m.seen_size first;
    }
