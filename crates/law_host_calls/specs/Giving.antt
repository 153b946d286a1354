-- Handing over to a guest: where the bytes and the numbers go, and each way in which they do not.
use Rattle.std.specs.Prelude.{◌≡◌, ℕ, pos, List, [], ◌∷◌, ◌++◌, None, Some, codes}
use Rattle.abi_memory.specs.Giving.{Gave, gave, refused, no_allocator, gave_trapped, gave_spent, giving, numbering}
use Rattle.abi_memory.specs.declared.give.Place.{Place}
use Rattle.gate_base.specs.declared.cause.Cause.TheVariants.{Unreachable}
use Rattle.wasm_syntax.specs.Nested.{Nested, nothing, simple}
use Rattle.wasm_syntax.specs.declared.instr.Instr.TheVariants as instr
use Rattle.law_host_calls.specs.Scenes.{guest_of, guest, allocates, letters, told}

-- the place of the bytes goes to the first, their size to the second
abbrev pub at : (pointer size : ℕ) → Place
at pointer size = record { pointer = pointer; size = size }

abbrev pub gives_to : Place → List ℕ → Gave
gives_to place bytes = giving bytes place (guest letters 9)

-- allocators that answer 0, and that trap
abbrev pub zero_place : Nested
zero_place = simple (instr.I32Const (pos 0)) nothing

abbrev pub trap : Nested
trap = simple instr.Unreachable nothing

pub record GivingExamples : Type 0 where
  -- three bytes: the guest allocates place 19 for them, which goes to place 4, and the size 3 to place 8
  pub place_and_size : gives_to (at 4 8) (codes "xyz") ≡ gave (guest (told 19 3 (codes "mnopqrsxyzwx")) 6)
  -- the other way round: the place goes to place 8, and the size to place 4
  pub size_and_place : gives_to (at 8 4) (codes "xyz") ≡ gave (guest (told 3 19 (codes "mnopqrsxyzwx")) 6)
  -- the allocator is asked for as many bytes as there are
  pub two_bytes : gives_to (at 4 8) (codes "xy") ≡ gave (guest (told 18 2 (codes "mnopqrxyuvwx")) 6)
  -- no bytes need no allocation: place 0 and size 0
  pub no_bytes : gives_to (at 4 8) [] ≡ gave (guest (told 0 0 (codes "mnopqrstuvwx")) 9)
  pub no_bytes_no_allocator : giving [] (at 4 8) (guest_of None allocates letters 9) ≡ gave (guest_of None allocates (told 0 0 (codes "mnopqrstuvwx")) 9)
  -- the allocator answers 0
  pub place_zero : giving (codes "xyz") (at 4 8) (guest_of (Some 0) zero_place letters 9) ≡ refused (guest_of (Some 0) zero_place letters 8)
  -- five bytes would go to place 21, and end after place 24
  pub outside : gives_to (at 4 8) (codes "vwxyz") ≡ refused (guest letters 6)
  -- four bytes end there
  pub at_the_end : gives_to (at 4 8) (codes "wxyz") ≡ gave (guest (told 20 4 (codes "mnopqrstwxyz")) 6)
  -- a result place is outside: nothing is written
  pub pointer_outside : gives_to (at 21 8) (codes "xyz") ≡ refused (guest letters 6)
  pub size_outside : gives_to (at 4 21) (codes "xyz") ≡ refused (guest letters 6)
  -- no allocator
  pub none : giving (codes "xyz") (at 4 8) (guest_of None allocates letters 9) ≡ no_allocator (guest_of None allocates letters 9)
  -- it traps, or spends the fuel
  pub trapped : giving (codes "xyz") (at 4 8) (guest_of (Some 0) trap letters 9) ≡ gave_trapped Unreachable 8
  pub spent : giving (codes "xyz") (at 4 8) (guest letters 2) ≡ gave_spent 0
  -- a number: four bytes, the lowest first
  pub number : numbering 4 258 (guest letters 9) ≡ gave (guest (codes "abcd" ++ 2 ∷ 1 ∷ 0 ∷ 0 ∷ codes "ijklmnopqrstuvwx") 9)
  pub last_number : numbering 20 7 (guest letters 9) ≡ gave (guest (codes "abcdefghijklmnopqrst" ++ 7 ∷ 0 ∷ 0 ∷ 0 ∷ []) 9)
  pub number_outside : numbering 21 7 (guest letters 9) ≡ refused (guest letters 9)
