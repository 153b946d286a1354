use Rattle.http_header.specs.Token.{lowercase}
use Rattle.h1_text.specs.Wanted.{first_of, shape_of}
use Rattle.h1_text.proofs.Skips.{all_true, both}
use Rattle.h1_text.proofs.wanted.Wanted.all.Goals as goal

pub returns-clause-all : goal.returns-clause-all
returns-clause-all c = λ name m same. both _ _ (all_true 256 (first_of m)) (all_true 1024 (shape_of (lowercase m)))
