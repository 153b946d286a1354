use Rattle.handoff.proofs.Relays.{not_twice, not_overtaken, not_told_of_more, not_held_and_taken}
use Rattle.handoff.proofs.law.worked_relays.Goals as goal

pub returns-clause-twice : goal.returns-clause-twice
returns-clause-twice c = not_twice

pub returns-clause-overtaken : goal.returns-clause-overtaken
returns-clause-overtaken c = not_overtaken

pub returns-clause-told : goal.returns-clause-told
returns-clause-told c = not_told_of_more

pub returns-clause-held : goal.returns-clause-held
returns-clause-held c = not_held_and_taken
