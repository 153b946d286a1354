use Rattle.std.proofs.Common.{refl}
use Rattle.law_fleet.proofs.Lives.{early_took}
use Rattle.law_fleet.proofs.laws.early_lives_took_events.Goals as goal

pub returns-clause-took : goal.returns-clause-took
returns-clause-took g c = early_took g.H.Host.calling

pub returns-clause-begins : goal.returns-clause-begins
returns-clause-begins g c = λ config host who seed. refl
