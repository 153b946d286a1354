use Rattle.h1_head.proofs.Taken.{request_read}
use Rattle.h1_head.proofs.request.spans_of.Goals as goal

pub returns-in-Ok-Complete-clause-read : goal.returns-in-Ok-Complete-clause-read
returns-in-Ok-Complete-clause-read c =
    request_read c.args.text.now c.parse_request.new.headers c.in-Ok-Complete.head (rw c.in-Ok-Complete.field-0-is at c.in-Ok-Complete.ensures.complete) c.requires
