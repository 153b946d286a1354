use Rattle.std.proofs.Common.{map, string_bytes}
use Rattle.wasm_invoke.proofs.Fitting.{Rests}
use Rattle.wasm_invoke.proofs.arguments.arguments.Given as goal

abbrev pub invariant-loop-i : goal.invariant-loop-i
invariant-loop-i l = Rests l.types (map string_bytes l.words) l.i l.values.items
