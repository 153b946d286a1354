use Rattle.std.proofs.Common.{◌≡◌, ◌<◌, ◌∙◌, Some, true, false, length, get_or, sym, ap, arith}
use Rattle.std.specs.Prelude.{slice_get}
use Rattle.std.proofs.lemmas.Option.{get_or_from_slice_get}
use Rattle.wasm_syntax.specs.declared.types.Value.TheVariants as value
use Rattle.wasm_syntax.specs.declared.types.ValueType.TheVariants as type
use Rattle.wasm_machine.specs.Marked.{local_of}
use Rattle.wasm_machine.proofs.Marked.{length-marked, marked-at}
use Rattle.wasm_machine.proofs.locals.Locals.at.Goals as goal

pub index-requires : goal.index-requires
index-requires c =
    let all = length-marked c.self.inside.kinds c.self.inside.given.items c.self.inside.values.items c.self.invariant.marks c.self.invariant.enough in
    omega (arith, c.requires, ap (λ s. length s.members) c.self.view_is, all, c.self.invariant.marks, c.self.inside.given.ok.0)

pub index-requires-then-index : goal.index-requires-then-index
index-requires-then-index c =
    let all = length-marked c.self.inside.kinds c.self.inside.given.items c.self.inside.values.items c.self.invariant.marks c.self.invariant.enough in
    omega (arith, c.requires, ap (λ s. length s.members) c.self.view_is, all, c.self.invariant.enough, c.self.inside.values.ok.0)

pub get-requires : goal.get-requires
get-requires c =
    let all = length-marked c.self.inside.kinds c.self.inside.given.items c.self.inside.values.items c.self.invariant.marks c.self.invariant.enough in
    omega (arith, c.requires, ap (λ s. length s.members) c.self.view_is, all)

pub returns-then-index : goal.returns-then-index
returns-then-index c =
    let inside = c.self.inside in
    let all = length-marked inside.kinds inside.given.items inside.values.items c.self.invariant.marks c.self.invariant.enough in
    let within : c.args.k < length inside.kinds = omega (arith, c.requires, ap (λ s. length s.members) c.self.view_is, all) in
    let is : true ≡ get_or inside.given.items c.args.k c.index.result.now = sym c.if-index.true ∙ c.index.ensures in
    ap (λ s. slice_get s.members c.args.k) (sym c.self.view_is)
    ∙ marked-at inside.kinds inside.given.items inside.values.items c.args.k type.I32 c.index.result.now c.index-then-index.result.now within c.self.invariant.marks c.self.invariant.enough
    ∙ ap (λ g. Some (local_of (get_or inside.kinds c.args.k type.I32) g (get_or inside.values.items c.args.k c.index-then-index.result.now))) (sym is)
    ∙ ap (λ v. Some v) (sym c.index-then-index.ensures)

pub returns-else-index : goal.returns-else-index
returns-else-index c =
    let inside = c.self.inside in
    let all = length-marked inside.kinds inside.given.items inside.values.items c.self.invariant.marks c.self.invariant.enough in
    let within : c.args.k < length inside.kinds = omega (arith, c.requires, ap (λ s. length s.members) c.self.view_is, all) in
    let is : false ≡ get_or inside.given.items c.args.k c.index.result.now = sym c.if-index.false ∙ c.index.ensures in
    let t = c.get.result in
    ap (λ s. slice_get s.members c.args.k) (sym c.self.view_is)
    ∙ marked-at inside.kinds inside.given.items inside.values.items c.args.k t c.index.result.now (value.I32 0) within c.self.invariant.marks c.self.invariant.enough
    ∙ ap (λ g. Some (local_of (get_or inside.kinds c.args.k t) g (get_or inside.values.items c.args.k (value.I32 0)))) (sym is)
    ∙ ap (λ u. Some (local_of u false (value.I32 0))) (get_or_from_slice_get inside.kinds c.args.k t t c.get.ensures)
    ∙ ap (λ v. Some v) (sym c.zero.ensures)
