use Rattle.filter_chain.proofs.Weights.{continued_cost, let_through_cost, put_cost, drop_cost, continued_length, let_through_length, put_length}
use Rattle.filter_chain.proofs.Picks.{asked_falls}
use Rattle.filter_chain.proofs.laws.asking_comes_to_an_end.Goals as goal

pub returns-clause-asking : goal.returns-clause-asking
returns-clause-asking c = asked_falls

pub returns-clause-going_on : goal.returns-clause-going_on
returns-clause-going_on c = record { continued_cost = continued_cost; let_through_cost = let_through_cost; put_cost = put_cost; drop_cost = drop_cost }

pub returns-clause-stages : goal.returns-clause-stages
returns-clause-stages c = record { continued_length = continued_length; let_through_length = let_through_length; put_length = put_length }
