use Rattle.std.proofs.Common.{◌≡◌, ◌≤◌, ◌-◌, ◌^◌, drop}
use Rattle.std.specs.List.{list_all}
use Rattle.std.specs.Char.{is_ascii_digit}
use Rattle.std.specs.Str.Parse.{digits_value_after, digits_value}
use Rattle.h1_head.proofs.length.number.Given as goal

-- the digits so far and those of what is left write the number
abbrev pub invariant-loop-byte : goal.invariant-loop-byte
invariant-loop-byte l = record {
  digits : list_all is_ascii_digit (drop l.byte-index l.member) ≡ list_all is_ascii_digit l.member;
  value : digits_value_after 10 l.n (drop l.byte-index l.member) ≡ digits_value 10 l.member;
  small : l.n ≤ 2 ^ 63 - 1;
}
