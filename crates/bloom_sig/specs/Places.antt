-- Where the four bits of a line stand.
use Rattle.std.specs.Prelude.{ℕ, Bool, true, ◌<◌, ◌+◌, ◌^◌, ◌&&◌, slice_set}
use Rattle.conda_base.specs.declared.Line.{Line}
use Rattle.bloom_sig.specs.declared.places.Places.{Places}
use Rattle.bloom_sig.specs.Segments.{is_in_set}
use Rattle.bloom_sig.specs.Signatures.{Sets, first_bit, second_bit, third_bit, fourth_bit}

-- those of a line
abbrev pub places_of : ℕ → Line → Places
places_of bits line = record {
  first = first_bit bits line;
  second = second_bit bits line;
  third = third_bit bits line;
  fourth = fourth_bit bits line;
}

-- each place is in its segment
pub record AreWithin (bits : ℕ) (at : Places) : Type 0 where
  pub first : at.first < 2 ^ bits
  pub second : at.second < 2 ^ bits
  pub third : at.third < 2 ^ bits
  pub fourth : at.fourth < 2 ^ bits

-- the four bits are set
abbrev pub has_places : Sets → Places → Bool
has_places s at =
    is_in_set s.first at.first && is_in_set s.second at.second && is_in_set s.third at.third
    && is_in_set s.fourth at.fourth

-- the four bits are set now, one of them newly
abbrev pub with_places : Sets → Places → Sets
with_places s at = record {
  bits = s.bits;
  first = slice_set s.first at.first true;
  second = slice_set s.second at.second true;
  third = slice_set s.third at.third true;
  fourth = slice_set s.fourth at.fourth true;
  fill = s.fill + 1;
}
