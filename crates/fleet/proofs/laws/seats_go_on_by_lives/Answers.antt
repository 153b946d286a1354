use Rattle.shared_seats.specs.Moving.{SeatsGoOn, seats_nothing, seats_joined}
use Rattle.fleet.proofs.Calls.{lives_made}
use Rattle.fleet.proofs.laws.seats_go_on_by_lives.Goals as goal

pub returns : goal.returns
returns g c = λ first s old end again t new lives. lives_made g.H.Host.calling SeatsGoOn seats_nothing seats_joined first s old end again t new lives
