use Rattle.std.proofs.Common.{◌≡◌, ◌≤◌, ◌-◌, ◌^◌, drop, true}
use Rattle.std.specs.List.{list_all}
use Rattle.std.specs.Char.{is_ascii_hexdigit}
use Rattle.std.specs.Str.Parse.{digits_value_after, digits_value}
use Rattle.h1_chunks.proofs.size.number_of_digits.Given as goal

-- the digits so far and those of what is left write the number
abbrev pub invariant-loop-byte : goal.invariant-loop-byte
invariant-loop-byte l = record {
  digits : list_all is_ascii_hexdigit (drop l.byte-index l.digits) ≡ true;
  value : digits_value_after 16 l.n (drop l.byte-index l.digits) ≡ digits_value 16 l.digits;
  small : l.n ≤ 2 ^ 63 - 1;
}
