-- The pairs of a request whose scheme is put before them.
use Rattle.std.proofs.Common.{◌≡◌, ℕ, suc, ◌==◌, true, ◌&&◌, List, ◌∷◌, Option, codes, sym, ap, ◌∙◌}
use Rattle.std.proofs.lemmas.Bool.{eqb-true}
use Rattle.std.specs.List.{list_all}
use Rattle.header_maps.specs.declared.kind.ListKind.TheVariants as kinds
use Rattle.header_maps.specs.Faults.{Fault, first_fault, are_values_for, is_few, set_fault}
use Rattle.header_maps.specs.Kinds.{is_name_for}
use Rattle.header_maps.specs.Pairs.{Pair}
use Rattle.pair_codec.specs.Lists.{scheme_field, count_of, lacks_scheme, needed_fault}

-- one more than none is one
one_more : (n : ℕ) → (n == 0) ≡ true → (suc n == 1) ≡ true
one_more n is = ap (λ m. suc m == 1) (eqb-true n 0 is)

pub needed_is : (given : List Pair) → lacks_scheme given ≡ true → needed_fault given ≡ set_fault kinds.Request (scheme_field ∷ given)
needed_is given is =
    sym (ap (λ b.
    first_fault
    (list_all (λ (f : Pair). is_name_for kinds.Request f.0) given
    && ((count_of (codes ":method") given == 1) && (b && ((count_of (codes ":authority") given == 1) && ((count_of (codes ":path") given == 1) && true)))))
    (are_values_for kinds.Request given) (is_few given)) (one_more (count_of (codes ":scheme") given) is))

-- a fault that was found without the scheme is the one with it
pub judged_with_scheme : (f : Option Fault) (given : List Pair) → lacks_scheme given ≡ true → f ≡ needed_fault given → f ≡ set_fault kinds.Request (scheme_field ∷ given)
judged_with_scheme f given is found = found ∙ needed_is given is
