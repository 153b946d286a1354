use Rattle.streams_model.proofs.Http.{turn_is, next_is, wants_alike}
use Rattle.streams_model.proofs.laws.is_http_without_streams.Goals as goal

pub returns : goal.returns
returns g c = record { turn_is = λ calling. turn_is calling; next_is = next_is; wants_are = wants_alike }
