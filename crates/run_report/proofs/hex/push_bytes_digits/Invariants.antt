use Rattle.std.proofs.Common.{◌≡◌, ◌+◌, ◌*◌, ◌++◌, take}
use Rattle.std.specs.List.{flat_map}
use Rattle.arrayvec.specs.ArrayVec.{array_vec_len}
use Rattle.conda_base.specs.Digits.{hex_byte}
use Rattle.run_report.proofs.hex.push_bytes_digits.Given as goal

abbrev pub invariant-loop-byte : goal.invariant-loop-byte
invariant-loop-byte l = record {
  text : l.out.items ≡ l.fn.out.items ++ flat_map hex_byte (take l.byte-index l.bytes);
  len : array_vec_len l.out ≡ array_vec_len l.fn.out + 2 * l.byte-index;
}
