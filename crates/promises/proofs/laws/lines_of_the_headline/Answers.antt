use Rattle.promises.proofs.Upwards.{lives_go_up}
use Rattle.promises.proofs.laws.lines_of_the_headline.Goals as goal

pub returns : goal.returns
returns c = lives_go_up c.meanings_are_turns.ensures c.requests_go_up_one_by_one.ensures c.machines_write_logs.ensures
