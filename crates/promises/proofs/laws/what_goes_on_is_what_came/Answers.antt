use Rattle.promises.proofs.laws.what_goes_on_is_what_came.Goals as goal

pub returns : goal.returns
returns c = record {
  bodies = c.bodies_go_on_as_they_came.ensures;
  responses = c.responses_go_down_as_they_came.ensures;
  read = c.what_is_read_comes_on.ensures;
  interims = c.interim_heads_go_down.ensures;
}
