use Rattle.metric_table.proofs.Keeps.{opens}
use Rattle.metric_table.proofs.words.MetricWords.new.Goals as goal

pub of_words-requires : goal.of_words-requires
of_words-requires c = opens
