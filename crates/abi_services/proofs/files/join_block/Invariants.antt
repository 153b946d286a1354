use Rattle.abi_services.proofs.Pieces.{AreJoined}
use Rattle.abi_services.proofs.files.join_block.Given as goal

-- the pieces so far stand after the text
abbrev pub invariant-loop-k : goal.invariant-loop-k
invariant-loop-k g l = AreJoined (g.G.Guest.at l.guest).config.store.memory l.at l.count l.initial.text l.text l.k
