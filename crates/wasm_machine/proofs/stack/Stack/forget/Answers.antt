use Rattle.std.proofs.Common.{◌≡◌, ◌≤◌, ◌-◌, ◌∙◌, ℕ, length, take, drop, sym, ap, arith}
use Rattle.std.specs.Prelude.{reverse}
use Rattle.std.proofs.lemmas.List.{length-reverse}
use Rattle.wasm_machine.specs.Held.{held}
use Rattle.wasm_machine.proofs.Reversed.{without_top}
use Rattle.wasm_machine.proofs.stack.Stack.forget.Goals as goal

pub returns : goal.returns
returns g c =
    let xs = c.self.inside.items.items in
    let all : c.len.result ≡ length xs = omega (arith, c.len.ensures, c.self.inside.items.ok.0) in
    let seen : length (reverse xs) ≡ length c.args.self.now.members = ap (λ s. length s.members) c.self.view_is in
    let le : c.args.count ≤ length xs = omega (arith, c.requires, seen, length-reverse xs) in
    let left : reverse (take (c.len.result - c.args.count) xs) ≡ drop c.args.count (reverse xs) = ap (λ (n : ℕ). reverse (take (n - c.args.count) xs)) all ∙ sym (without_top xs c.args.count le) in
    let members = ap reverse c.truncate.ensures.items ∙ left in
    (λ i. held (members i) (c.truncate.ensures.capacity i)) ∙ ap (λ s. held (drop c.args.count s.members) s.room) c.self.view_is
