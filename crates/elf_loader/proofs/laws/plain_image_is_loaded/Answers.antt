use Rattle.std.proofs.Common.{◌<◌, ◌^◌, ap, sym, arith}
use Rattle.elf_loader.specs.declared.header.Header.{Header}
use Rattle.elf_loader.proofs.PlainFacts.{header_of-plain, refusal-plain, fetch_ranges-plain, loaded-plain, word_at-plain}
use Rattle.elf_loader.proofs.laws.plain_image_is_loaded.Goals as goal

pub returns : goal.returns
returns c =
    let plain = c.requires.plain in
    let some = plain.some in
    let from = plain.from in
    let to = plain.to in
    let room = c.requires.room in
    let small : c.args.size < 2 ^ 32 = omega arith in
    record {
      accepted = refusal-plain c.args.at c.args.base c.args.size c.args.words.now plain room small;
      entry = ap (λ (h : Header). h.e_entry) (sym (header_of-plain c.args.at c.args.words.now (omega arith)));
      ranges = fetch_ranges-plain c.args.at c.args.words.now (omega arith) (omega arith) some;
      bytes = loaded-plain c.args.at c.args.base c.args.size c.args.words.now plain room small;
      words = λ i h. word_at-plain c.args.at c.args.base c.args.size i c.args.words.now plain room small h (omega (arith, c.type_inv.words i));
    }
