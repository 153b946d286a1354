use Rattle.std.proofs.Common.{◌≡◌, ◌∙◌, ap, sym, subst, ◌*◌, ◌<◌, List, length, None, arith}
use Rattle.std.specs.List.{position}
use Rattle.wasm_syntax.specs.declared.module.Segment.{Segment}
use Rattle.wasm_syntax.specs.Memory.{page}
use Rattle.wasm_syntax.specs.Stores.{offset_of, first_pages}
use Rattle.wasm_store.specs.Linking.{is_segment_outside}
use Rattle.wasm_store.proofs.Outside.{segment_inside}
use Rattle.wasm_store.proofs.instance.filled_memory.Goals as goal

pub unreachable-requires : goal.unreachable-requires
unreachable-requires c =
    let items = c.as_slice-s-items.result.now in
    let lt : c.loop-s.s-index < length items = c.loop-s-test.true in
    let passed = subst (λ (ss : List Segment). position (is_segment_outside (page * first_pages c.args.m.now)) ss ≡ None) (sym c.as_slice-s-items.ensures) c.requires.inside in
    let inside = segment_inside (page * first_pages c.args.m.now) items passed c.loop-s.s-index c.s-item.result lt c.s-item.is in
    let at : c.offset.result ≡ offset_of c.s-item.result.offset = c.offset.ensures ∙ ap offset_of c.as_slice.ensures in
    let long : length c.as_slice-in-loop-s.result.now ≡ length c.s-item.result.bytes = ap length c.as_slice-in-loop-s.ensures in
    let past = c.in-None.ensures.none.0 in
    let size = c.loop-s.invariant.size in
    omega (arith, inside, at, long, past, size)
