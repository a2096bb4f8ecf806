use Rattle.std.proofs.Common.{◌≡◌, ◌+◌, ◌≤◌, ◌++◌, length}
use Rattle.rv32_asm.specs.Assembled.{bad_from, first_bad, words_from, words_of}
use Rattle.rv32_asm.specs.Sources.{source_in}
use Rattle.rv32_asm.proofs.assembling.assemble.Given as goal

abbrev pub decreases-pass : goal.decreases-pass
decreases-pass l = length l.rest

abbrev pub invariant-pass : goal.invariant-pass
invariant-pass l = record {
  bad : bad_from (source_in l.fn.text) l.place (source_in l.rest) ≡ first_bad (source_in l.fn.text);
  words : l.words.items ++ words_from (source_in l.fn.text) l.place (source_in l.rest) ≡ words_of (source_in l.fn.text);
  line : l.place.line + length l.rest ≤ length l.fn.text + 1;
  count : l.place.words + length l.rest ≤ length l.fn.text;
}
