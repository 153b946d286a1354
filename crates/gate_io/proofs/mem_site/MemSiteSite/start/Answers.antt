use Rattle.std.proofs.Common.{rules}
use Rattle.gate_io.proofs.mem_site.MemSiteSite.start.Goals as goal

pub returns-then-fails-clause-answer : goal.returns-then-fails-clause-answer
returns-then-fails-clause-answer c = (c.fails_at-fails.ensures.fails c.if-fails.true, search rules)
