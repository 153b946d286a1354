use Rattle.std.proofs.Common.{◌≡◌, ◌∙◌, ℕ, length, refl, sym, ap, subst}
use Rattle.wasm_store.specs.Instances.{Instantiated, IsInstance}
use Rattle.wasm_machine.specs.declared.machine.Mode.TheVariants as mode
use Rattle.wasm_machine.specs.declared.machine.Pending.{Pending}
use Rattle.wasm_machine.specs.Acted.{stores}
use Rattle.wasm_machine.specs.Held.{Held}
use Rattle.wasm_flat.specs.Live.{Fixed, Live, fixed_of, flat}
use Rattle.wasm_machine.specs.Told.{idle_live}
use Rattle.wasm_flat.specs.Room.{IsSmall}
use Rattle.wasm_flat.specs.Seen.{seen}
use Rattle.wasm_machine.specs.Kept.{nested}
use Rattle.wasm_machine.proofs.Machined.{KeptWith, first, first_fits, first_room, first_seen, nested_with, linked_program, linked_config}
use Rattle.wasm_machine.proofs.machine.Machine.new.Goals as goal
use Rattle.wasm_machine.proofs.machine.Machine.new.Goals.{In_ok-new}

instance : (c : In_ok-new) → IsInstance c.args.i
instance c = subst IsInstance c.into_parts-parts.ensures.same c.into_parts-parts.ensures.kept

fixed : (c : In_ok-new) → c.in_ok-program.program ≡ fixed_of c.args.i.of
fixed c = c.in_ok-program.ensures.is ∙ ap (λ (i : Instantiated). fixed_of i.of) c.into_parts-parts.ensures.same

live : (c : In_ok-new) → c.in_ok-state.state ≡ first c.args.i (instance c)
live c =
    let parts = c.into_parts-parts.result in
    c.in_ok-state.ensures
    ∙ ap (λ (n : ℕ). idle_live (stores parts.memory.bytes parts.table parts.globals) parts.memory.most n) (c.count-none.ensures ∙ ap (λ (p : Fixed). length p.functions) (fixed c))
    ∙ ap (λ (i : Instantiated). idle_live (stores i.memory.bytes i.table i.globals) i.memory.most (length (fixed_of c.args.i.of).functions)) c.into_parts-parts.ensures.same

pub invariant_of-result-2 : goal.invariant_of-result-2
invariant_of-result-2 c =
    let i = c.args.i in
    let small = subst IsSmall (fixed c) c.in_ok-program.ensures.small in
    let one : KeptWith mode.Resting (fixed_of i.of) (first i (instance c)) c.in_ok-new.field-0 =
    subst (λ (calls : Held Pending). KeptWith mode.Resting (fixed_of i.of) (first i (instance c)) calls) (sym c.in_ok-new.ensures) ((first_fits i (instance c) small, first_room _ _ _), refl) in
    subst (λ (p : Fixed). KeptWith mode.Resting p c.in_ok-state.state c.in_ok-new.field-0) (sym (c.program.view_is ∙ fixed c))
    (subst (λ (s : Live). KeptWith mode.Resting (fixed_of i.of) s c.in_ok-new.field-0) (sym (live c)) one)

pub returns-clause-program : goal.returns-clause-program
returns-clause-program c =
    let is = c.program.view_is ∙ fixed c in
    (λ k. nested (is k) (live c k)) ∙ nested_with c.args.i.of c.args.i.memory.most

pub returns-clause-config : goal.returns-clause-config
returns-clause-config c =
    let is = c.program.view_is ∙ fixed c in
    (λ k. seen (flat (is k) (live c k))) ∙ first_seen c.args.i (instance c)

pub returns-clause-linked : goal.returns-clause-linked
returns-clause-linked c m pages h =
    let is = c.program.view_is ∙ fixed c in (
      (λ k. nested (is k) (live c k)) ∙ nested_with c.args.i.of c.args.i.memory.most ∙ linked_program m pages c.args.i h,
      (λ k. seen (flat (is k) (live c k))) ∙ first_seen c.args.i (instance c) ∙ linked_config m pages c.args.i h,
    )
