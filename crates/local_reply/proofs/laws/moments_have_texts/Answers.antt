use Rattle.local_reply.proofs.Moments.{moments_have_texts}
use Rattle.local_reply.proofs.laws.moments_have_texts.Goals as goal

pub returns : goal.returns
returns c = moments_have_texts
