use Rattle.std.proofs.Common.{◌≡◌, ◌++◌, take, map}
use Rattle.gate_io.specs.MemorySite.{seed_in}
use Rattle.gate_io.proofs.mem_site.with_seeds.Given as goal

abbrev pub invariant-loop-world : goal.invariant-loop-world
invariant-loop-world l = l.all.items ≡ l.seeds ++ map seed_in (take l.world-index l.worlds)
