use Rattle.law_bodies.proofs.Stepwise.{last_words}
use Rattle.law_bodies.proofs.laws.contexts_have_their_last_words.Goals as goal

pub returns : goal.returns
returns c = last_words
