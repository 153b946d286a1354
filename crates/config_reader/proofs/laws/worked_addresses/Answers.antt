use Rattle.std.proofs.Common.{refl}
use Rattle.config_reader.specs.Words.{number_from}
use Rattle.config_reader.proofs.laws.worked_addresses.Goals as goal

pub returns : goal.returns
unfolding number_from
returns c = record {
  usual = refl;
  least = refl;
  most = refl;
  octet_past = refl;
  port_past = refl;
  no_port = refl;
  port_zero = refl;
  leading_zero = refl;
  leading_zero_in_port = refl;
  three_numbers = refl;
  five_numbers = refl;
  empty_octet = refl;
  long_port = refl;
  blank = refl;
  name = refl;
  empty = refl;
}
