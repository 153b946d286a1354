use Rattle.std.proofs.Common.{◌≡◌, ◌∙◌, ap, sym, subst, ℕ, ◌+◌, ◌≤◌, ◌<◌, List, length, drop, map, replicate, Some, None, arith}
use Rattle.std.specs.List.{position}
use Rattle.std.proofs.lemmas.List.{length-map, at_drop_more}
use Rattle.wasm_syntax.specs.declared.module.Element.{Element}
use Rattle.wasm_syntax.specs.Memory.{written}
use Rattle.wasm_syntax.specs.Stores.{offset_of, table_size, with_element, with_elements}
use Rattle.wasm_store.specs.Linking.{is_element_outside}
use Rattle.wasm_store.proofs.Outside.{element_inside, length-written}
use Rattle.wasm_store.proofs.instance.filled_table.Goals as goal

pub put-requires : goal.put-requires
put-requires c =
    let items = c.as_slice-e-items.result.now in
    let lt : c.loop-e.e-index < length items = c.loop-e-test.true in
    let passed = subst (λ (es : List Element). position (is_element_outside (table_size c.args.m.now)) es ≡ None) (sym c.as_slice-e-items.ensures) c.requires in
    let inside = element_inside (table_size c.args.m.now) items passed c.loop-e.e-index c.e-item.result lt c.e-item.is in
    let at : c.offset.result ≡ offset_of c.e-item.result.offset = c.offset.ensures ∙ ap offset_of c.as_slice.ensures in
    let long : length c.as_slice-in-loop-e.result.now ≡ length c.e-item.result.functions = ap length c.as_slice-in-loop-e.ensures in
    let size = c.loop-e.invariant.size in
    omega (arith, inside, at, long, size)

pub loop-e-preserved : goal.loop-e-preserved
loop-e-preserved c =
    let items = c.as_slice-e-items.result.now in
    let n = c.loop-e.e-index in
    let e = c.e-item.result in
    let table = c.loop-e.table in
    let lt : n < length items = c.loop-e-test.true in
    let set : c.put.new.self ≡ with_element table e =
    c.put.ensures ∙ ap (λ fs. written table c.offset.result (map (λ (f : ℕ). Some f) fs)) c.as_slice-in-loop-e.ensures
    ∙ ap (λ at. written table at (map (λ (f : ℕ). Some f) e.functions)) (c.offset.ensures ∙ ap offset_of c.as_slice.ensures) in
    let more : with_elements table (drop n items) ≡ with_elements (with_element table e) (drop (n + 1) items) =
    at_drop_more (with_elements table) items n e lt ∙ ap (λ x. with_elements (with_element table x) (drop (n + 1) items)) (sym c.e-item.is) in
    let rest : with_elements table (drop n items) ≡ with_elements (replicate (table_size c.args.m.now) None) c.args.m.now.elements =
    ap (λ es. with_elements table (drop n es)) c.as_slice-e-items.ensures ∙ c.loop-e.invariant.rest in
    let passed = subst (λ (es : List Element). position (is_element_outside (table_size c.args.m.now)) es ≡ None) (sym c.as_slice-e-items.ensures) c.requires in
    let inside = element_inside (table_size c.args.m.now) items passed n e lt c.e-item.is in
    let at : c.offset.result ≡ offset_of e.offset = c.offset.ensures ∙ ap offset_of c.as_slice.ensures in
    let fs = map (λ (f : ℕ). Some f) c.as_slice-in-loop-e.result.now in
    let long : length fs ≡ length e.functions = length-map c.as_slice-in-loop-e.result.now (λ (f : ℕ). Some f) ∙ ap length c.as_slice-in-loop-e.ensures in
    let size = c.loop-e.invariant.size in
    let within : c.offset.result + length fs ≤ length table = omega (arith, inside, at, long, size) in
    record {
      rest =
          ap (λ t. with_elements t (drop (n + 1) c.args.m.now.elements)) set
          ∙ ap (λ es. with_elements (with_element table e) (drop (n + 1) es)) (sym c.as_slice-e-items.ensures)
          ∙ sym more ∙ rest;
      size = ap length c.put.ensures ∙ length-written table c.offset.result fs within ∙ size;
    }
