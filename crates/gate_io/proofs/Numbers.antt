-- Whether a number is one of a list.
use Rattle.std.proofs.Common.{◌≡◌, ℕ, List, Bool, true, false, IsTrue, ◌↔◌, Contains, nat_eq, arith}
use Rattle.std.specs.List.{IsAnyAnswer}
use Rattle.std.proofs.lemmas.Bool.Decides.{nat_tests}
use Rattle.std.proofs.lemmas.Grind.{common_steps}

pub member : (xs : List ℕ) (n : ℕ) (r : Bool) → IsAnyAnswer (λ y b. nat_eq y n ≡ b) xs r → (IsTrue r ↔ Contains xs n)
member xs n true some = grind (arith, nat_tests, common_steps)
member xs n false none = grind (arith, nat_tests, common_steps)
