use Rattle.std.proofs.Common.{refl}
use Rattle.worker_model.specs.Rooms.{room_with_sent, with_contexts, without_effects}
use Rattle.promises.proofs.laws.logged_lines_are_sent.Goals as goal

pub returns : goal.returns
returns c = record {
  http = λ vm own end lines h room. (without_effects (room_with_sent lines (with_contexts h room)), refl, refl);
  streams = λ vm own end lines h room. (without_effects (room_with_sent lines (with_contexts h room)), refl, refl);
}
