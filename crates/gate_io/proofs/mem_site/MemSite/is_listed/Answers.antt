use Rattle.gate_io.proofs.Numbers.{member}
use Rattle.gate_io.proofs.mem_site.MemSite.is_listed.Goals as goal

pub returns : goal.returns
returns c = rw (← c.self.view_is, ← c.as_slice.ensures, ← c.saturating_add.ensures) (member c.as_slice.result.now c.saturating_add.result c.contains.result c.contains.ensures.cases)
