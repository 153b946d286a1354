use Rattle.std.proofs.Common.{◌≡◌, ◌≤◌, ◌-◌, length, drop}
use Rattle.wasm_syntax.specs.Grammar.{sections_read, module_made, before_all}
use Rattle.wasm_reader.specs.Steps.{made_from}
use Rattle.wasm_reader.proofs.module.all_sections.Given as goal

abbrev pub invariant-loop : goal.invariant-loop
invariant-loop l =
    (l.place ≤ length l.b) × (made_from l.made (sections_read (length l.b - l.counter) l.before (drop l.place l.b)) ≡ module_made (sections_read (length l.b - l.at) before_all (drop l.at l.b)))
