use Rattle.law_turns.proofs.Interim.{interim_keeps_lines, interim_example}
use Rattle.law_turns.proofs.laws.interim_heads_keep_lines.Goals as goal

pub returns : goal.returns
returns c = record { law = interim_keeps_lines; worked = interim_example }
