use Rattle.h1_head.proofs.Reading.{no_head_text}
use Rattle.h1_head.proofs.request.answer_of_many.Goals as goal

pub returns-in-None : goal.returns-in-None
returns-in-None c =
    no_head_text c.args.text.now c.args.len c.requires.fits c.requires.limit c.requires.cut c.requires.filled c.in-None.ensures.none
