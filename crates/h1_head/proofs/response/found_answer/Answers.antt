use Rattle.std.proofs.Common.{refl, take}
use Rattle.h1_head.specs.Seen.{seen_answer}
use Rattle.h1_head.proofs.Lists.{IfOk-map}
use Rattle.h1_head.proofs.Reading.{response_text}
use Rattle.h1_head.proofs.response.found_answer.Goals as goal

pub returns : goal.returns
returns c =
    let found = c.requires.found in
    let head = c.args.head.now in
    let headers = c.args.headers.now in
    IfOk-map c.response_judged.result
    (λ a judged. response_text c.args.to_head c.args.text.now c.args.len headers head found.0 (take head.headers headers) (seen_answer a) c.requires.fits c.requires.limit c.requires.cut c.requires.filled found.1 refl judged)
    c.response_judged.ensures
