use Rattle.std.proofs.Common.{◌≡◌, List, Some, None, ap, subst}
use Rattle.std.specs.Prelude.{slice_get, IfSome, IfNone}
use Rattle.wasm_flat.specs.Flat.{FlatFunction}
use Rattle.wasm_machine.specs.Machines.{View}
use Rattle.wasm_flat.specs.Programs.{type_in}
use Rattle.wasm_flat.proofs.TypesAt.{found_type, found_none}
use Rattle.wasm_machine.proofs.machine.Machine.type_of.Goals as goal

pub returns-clause-some : goal.returns-clause-some
returns-clause-some c =
    let is = subst (λ (fs : List FlatFunction). IfSome c.type_of.result (λ t. type_in (slice_get fs c.args.func) ≡ Some t.now))
    (ap (λ (v : View). v.fixed.functions) c.self.view_is) c.type_of.ensures.some in
    found_type c.type_of.result c.args.self.now.fixed.functions c.args.func is

pub returns-clause-none : goal.returns-clause-none
returns-clause-none c =
    let is = subst (λ (fs : List FlatFunction). IfNone c.type_of.result (type_in (slice_get fs c.args.func) ≡ None))
    (ap (λ (v : View). v.fixed.functions) c.self.view_is) c.type_of.ensures.none in
    found_none c.type_of.result c.args.self.now.fixed.functions c.args.func is
