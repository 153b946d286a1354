use Rattle.std.proofs.Common.{◌≡◌, ◌+◌, ◌<◌, ◌≤◌, ◌∙◌, IfSome, IfNone, length, sym, ap, subst}
use Rattle.wasm_syntax.specs.Memory.{written}
use Rattle.wasm_machine.specs.declared.machine.Mode.TheVariants as mode
use Rattle.wasm_flat.specs.Live.{flat}
use Rattle.wasm_flat.specs.Seen.{seen}
use Rattle.wasm_machine.specs.Machines.{View, config_at, with_memory}
use Rattle.wasm_machine.proofs.Machined.{in_mode, rests_written, some_written, none_written}
use Rattle.wasm_machine.proofs.machine.Machine.write.Goals as goal

pub invariant_of-self : goal.invariant_of-self
invariant_of-self c =
    let inside = c.self.inside in
    let which : inside.mode ≡ mode.Resting = ap (λ (v : View). v.mode) c.self.view_is ∙ c.requires in
    let kept = in_mode inside.mode mode.Resting inside.program inside.state inside.pending.members which c.self.invariant.0 in (
      in_mode mode.Resting inside.mode inside.program c.write.new.self inside.pending.members (sym which)
          (rests_written inside.program inside.state c.write.new.self inside.pending.members (written inside.state.stores.memory c.args.at c.args.bytes.now) _ _ c.write.result c.write.ensures.some c.write.ensures.none kept),
      c.self.invariant.1,
    )

pub returns-clause-some : goal.returns-clause-some
returns-clause-some c =
    let inside = c.self.inside in
    let now = seen (flat inside.program c.write.new.self) in
    subst (λ (v : View). IfSome c.write.result (λ u. (c.args.at + length c.args.bytes.now ≤ length (config_at v).store.memory) × (now ≡ with_memory (written (config_at v).store.memory c.args.at c.args.bytes.now) (config_at v)))) c.self.view_is
    (some_written inside.program inside.state c.write.new.self c.args.at c.args.bytes.now c.write.result c.write.ensures.some)

pub returns-clause-none : goal.returns-clause-none
returns-clause-none c =
    let inside = c.self.inside in
    let now = seen (flat inside.program c.write.new.self) in
    subst (λ (v : View). IfNone c.write.result ((length (config_at v).store.memory < c.args.at + length c.args.bytes.now) × (now ≡ config_at v))) c.self.view_is
    (none_written inside.program inside.state c.write.new.self c.args.at c.args.bytes.now c.write.result c.write.ensures.none)
