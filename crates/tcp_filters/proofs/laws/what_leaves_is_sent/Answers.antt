use Rattle.tcp_filters.proofs.Sending.{what_leaves_is_sent}
use Rattle.tcp_filters.proofs.laws.what_leaves_is_sent.Goals as goal

pub returns : goal.returns
returns c = what_leaves_is_sent
