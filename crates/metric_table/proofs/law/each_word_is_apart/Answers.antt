use Rattle.metric_table.proofs.Apart.{only_place}
use Rattle.metric_table.proofs.law.each_word_is_apart.Goals as goal

pub returns : goal.returns
returns c = only_place
