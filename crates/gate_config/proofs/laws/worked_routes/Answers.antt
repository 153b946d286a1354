use Rattle.std.proofs.Common.{refl}
use Rattle.matchit.proofs.OnLiterals.{matchit_on_literals}
use Rattle.gate_config.proofs.laws.worked_routes.Goals as goal

pub returns : goal.returns
unfolding matchit_on_literals
returns c = record {
  first_name = refl;
  ninth_name = refl;
  tenth_name = refl;
  last_name = refl;
  literal = refl;
  parameter = refl;
  literal_first = refl;
  longer = refl;
  no_routes = refl;
  star = refl;
  taken = refl;
  conflict = refl;
  no_route = refl;
}
