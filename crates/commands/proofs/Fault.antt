-- Bytes that are too many for a module.
use Rattle.std.proofs.Common.{◌≡◌, ℕ, ◌<◌, Bool, false, nat_le, if◌then◌else◌, List, length, Option, None, Some, Err, refl, sym, subst, arith}
use Rattle.gate_io.specs.Paths.{told_at, ReadsTold}
use Rattle.gate_io.specs.declared.ends.FileEnd.TheVariants.{TooLong}
use Rattle.wasm_syntax.specs.Grammar.{header, header_read, body_read, most_bytes, module_read, FirstFault}

past_most : (b : List ℕ) → most_bytes < length b → nat_le (length b) most_bytes ≡ false
past_most b long = grind (arith, long)

pub long_is_fault : (b : List ℕ) → most_bytes < length b → FirstFault b 9 0
unfolding module_read
long_is_fault b long = record {
  left = length b;
  reading = subst (λ (t : Bool). (if t then body_read (header_read header b) else Err (record { number = 9; left = length b })) ≡ Err (record { number = 9; left = length b })) (sym (past_most b long)) refl;
  at = omega arith;
}

-- a file that is told is the one that was too long
pub too_long : (told : Option (List (List ℕ × List ℕ))) (path text : List ℕ) → ReadsTold told path most_bytes (Err TooLong) → told_at told path ≡ Some text → FirstFault text 9 0
too_long None path text h e = absurd (cc)
too_long (Some files) path text h e = let same : h.0 ≡ text = cc (h.1) in long_is_fault text (subst (λ (b : List ℕ). most_bytes < length b) same h.2)
