use Rattle.std.proofs.Common.{◌≡◌, ◌≤◌, ◌+◌, ◌-◌, ◌++◌, ◌∙◌, length, take, drop, ap, arith}
use Rattle.std.specs.Prelude.{reverse}
use Rattle.std.proofs.lemmas.List.{length-reverse}
use Rattle.std.proofs.Math.Seq.{paste}
use Rattle.wasm_flat.specs.Parts.{lowest}
use Rattle.wasm_machine.specs.Held.{held}
use Rattle.wasm_machine.proofs.Reversed.{cut_to}
use Rattle.wasm_machine.proofs.stack.Stack.cut.Goals as goal

pub returns : goal.returns
returns g c =
    let xs = c.self.inside.items.items in
    let all : c.len-count.result ≡ length xs = omega (arith, c.len-count.ensures, c.self.inside.items.ok.0) in
    let seen : length (reverse xs) ≡ length c.args.self.now.members = ap (λ s. length s.members) c.self.view_is in
    let le : c.args.height + c.args.keep ≤ length xs = omega (arith, c.requires, seen, length-reverse xs) in
    let kept : c.len-count.result - (c.len-count.result - c.args.keep) ≡ c.args.keep = omega (arith, all, le) in
    let from : c.len-count.result - c.args.keep ≡ length xs - c.args.keep = omega (arith, all) in
    let moved = c.copy_within.ensures.items ∙ (λ i. paste xs c.args.height (drop (from i) xs) (kept i)) in
    let members = ap reverse (c.truncate.ensures.items ∙ ap (take (c.args.height + c.args.keep)) moved) ∙ cut_to xs c.args.keep c.args.height le in
    let room = c.truncate.ensures.capacity ∙ c.copy_within.ensures.capacity in
    (λ i. held (members i) (room i)) ∙ ap (λ s. held (take c.args.keep s.members ++ lowest c.args.height s.members) s.room) c.self.view_is
