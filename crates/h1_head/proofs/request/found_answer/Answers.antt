use Rattle.std.proofs.Common.{refl, take}
use Rattle.h1_head.specs.Seen.{seen_answer}
use Rattle.h1_head.proofs.Lists.{IfOk-map}
use Rattle.h1_head.proofs.Reading.{head_text}
use Rattle.h1_head.proofs.request.found_answer.Goals as goal

pub returns : goal.returns
returns c =
    let found = c.requires.found in
    let head = c.args.head.now in
    let headers = c.args.headers.now in
    IfOk-map c.judged.result
    (λ a judged. head_text c.args.text.now c.args.len headers head found.0 _ _ (take head.headers headers) (seen_answer a) c.requires.fits c.requires.limit c.requires.cut c.requires.filled found.1 c.of.ensures c.of-2.ensures refl judged)
    c.judged.ensures
