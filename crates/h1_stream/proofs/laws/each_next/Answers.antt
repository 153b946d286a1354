use Rattle.h1_stream.proofs.Totals.{next_where_judged, judged_unless_whole, some_next}
use Rattle.h1_stream.proofs.laws.each_next.Goals as goal

pub returns : goal.returns
returns c = record { some = some_next; judged = next_where_judged; unless_whole = judged_unless_whole }
