use Rattle.wasm_validator.proofs.SeenNames.{told, seen, same}
use Rattle.wasm_validator.proofs.seen.Seen.add.Goals as goal

pub returns-clause-told : goal.returns-clause-told
returns-clause-told c = told c.self.inside.names c.in_ok-key.key c.args.name.now c.args.self.now c.in_ok-is_new.is_new c.self.view_is c.in_ok-key.ensures.ok c.in_ok-is_new.ensures.added

pub returns-clause-seen : goal.returns-clause-seen
returns-clause-seen c = seen c.self.inside.names c.insert.new.self c.in_ok-key.key c.args.name.now c.args.self.now c.self.view_is c.in_ok-key.ensures.ok c.in_ok-is_new.ensures.updates

pub returns-clause-same : goal.returns-clause-same
returns-clause-same c = same c.self.inside.names c.insert.new.self c.args.self.now c.in_ok-is_new.is_new c.self.view_is c.in_ok-is_new.ensures.unchanged
