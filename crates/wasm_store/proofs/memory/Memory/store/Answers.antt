use Rattle.std.proofs.lemmas.Option.{IfSome_then}
use Rattle.wasm_store.proofs.Lowest.{stored_eight}
use Rattle.wasm_store.proofs.memory.Memory.store.Goals as goal

pub returns-in-8-clause-some : goal.returns-in-8-clause-some
returns-in-8-clause-some c =
    IfSome_then c.write-in-8.result c.write-in-8.ensures.some (λ x h. stored_eight c.args.self.now.bytes c.write-in-8.new.self.bytes c.to_le_bytes-low.result c.args.at c.args.width c.args.v c.in-8.is c.to_le_bytes-low.ensures h)
