use Rattle.wasm_reader.proofs.Whole.{is_read, is_answered, is_refused, refuses}
use Rattle.wasm_reader.proofs.module.read_module.Goals as goal

pub returns-clause-read : goal.returns-clause-read
returns-clause-read c = is_read c.args.b.now c.whole.result (λ m. (c.read_is_spelled.ensures c.args.b.now m).0) c.whole.ensures

pub returns-clause-spelled : goal.returns-clause-spelled
returns-clause-spelled c = λ m s. is_answered c.args.b.now c.whole.result m ((c.read_is_spelled.ensures c.args.b.now m).1 s) c.whole.ensures

pub returns-clause-refused : goal.returns-clause-refused
returns-clause-refused c = is_refused c.args.b.now c.whole.result c.whole.ensures

pub returns-clause-faulty : goal.returns-clause-faulty
returns-clause-faulty c = λ number place f. refuses c.args.b.now c.whole.result number place f c.whole.ensures
