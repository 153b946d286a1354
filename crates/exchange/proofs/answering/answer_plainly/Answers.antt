use Rattle.exchange.proofs.answering.answer_plainly.Goals as goal

pub returns : goal.returns
returns c = rw (c.new-fields.ensures, c.new-body.ensures) at c.answer.ensures
