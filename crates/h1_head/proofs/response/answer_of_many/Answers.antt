use Rattle.h1_head.proofs.Reading.{no_response_text}
use Rattle.h1_head.proofs.response.answer_of_many.Goals as goal

pub returns-in-None : goal.returns-in-None
returns-in-None c =
    no_response_text c.args.to_head c.args.text.now c.args.len c.requires.fits c.requires.limit c.requires.cut c.requires.filled c.in-None.ensures.none
