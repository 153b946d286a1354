use Rattle.std.proofs.Common.{◌≡◌, refl, ◌∙◌, ap, sym, ℕ, ◌+◌, ◌<◌, length, map, take, Some, slice_index_or, slice_set, arith}
use Rattle.std.proofs.lemmas.List.{length-map, length-take-le}
use Rattle.wasm_syntax.specs.Memory.{written}
use Rattle.wasm_store.proofs.Placing.{written_more, mapped_more}
use Rattle.wasm_store.proofs.table.Table.put.Goals as goal

pub loop-f-preserved : goal.loop-f-preserved
loop-f-preserved c =
    let old = c.self.inside.elements.items in
    let fs = c.args.functions.now in
    let n = c.loop-f.f-index in
    let so_far = map (λ (f : ℕ). Some f) (take n fs) in
    let f = slice_index_or fs n 0 in
    let within : n < length fs = c.loop-f-test.true in
    let long : length so_far ≡ n = length-map (take n fs) (λ (f : ℕ). Some f) ∙ length-take-le n fs (omega arith) in
    let place : c.loop-f.to ≡ c.args.at + length so_far = c.loop-f.invariant.place ∙ ap (λ k. c.args.at + k) (sym long) in
    let fits : c.args.at + length so_far < length old = let r = c.requires in let v = ap length c.self.view_is in omega (arith, long, r, v, within) in
    record {
      place = omega (arith, c.loop-f.invariant.place);
      so_far =
          ap (λ ys. slice_set ys c.loop-f.to (Some f)) c.loop-f.invariant.so_far
          ∙ ap (λ k. slice_set (written old c.args.at so_far) k (Some f)) place
          ∙ written_more old c.args.at so_far (Some f) fits
          ∙ ap (λ ys. written old c.args.at ys) (sym (mapped_more (λ (f : ℕ). Some f) fs n f 0 within refl));
    }
