use Rattle.law_read_back.proofs.Fronts.{read_as_one}
use Rattle.law_read_back.proofs.Heads.{never_two}
use Rattle.law_read_back.proofs.laws.fronts_are_read_as_one.Goals as goal

pub returns : goal.returns
returns c = record { readable = read_as_one; written = never_two }
