use Rattle.std.proofs.Common.{◌≤◌, ◌-◌}
use Rattle.abi_services.proofs.Pieces.{AreJudged}
use Rattle.abi_services.proofs.files.size_of_pieces.Given as goal

-- the pieces of the entries done are inside, and have so many bytes
abbrev pub invariant-loop-done : goal.invariant-loop-done
invariant-loop-done g l = record { within : l.done ≤ l.count; so_far : AreJudged (g.G.Guest.at l.guest).config.store.memory l.at l.count l.total l.done }

abbrev pub decreases-loop-done : goal.decreases-loop-done
decreases-loop-done g l = l.count - l.done
