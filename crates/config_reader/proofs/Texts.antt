-- From a text to its table.
use Rattle.std.proofs.Common.{◌≡◌, ℕ, ◌^◌, ◌≤◌, List, Bool, true, false, length, nat_lt, Option, Some, None, Ok, Err, codes, refl, ap, sym, ◌∙◌, arith, rules}
use Rattle.std.proofs.lemmas.Bool.Decides.{nat_tests}
use Rattle.std.proofs.lemmas.Str.{IsUtf8-from_is_utf8, is_utf8-from_IsUtf8}
use Rattle.std.specs.Str.{is_utf8, IsUtf8}
use Rattle.toml.specs.Data.{Members}
use Rattle.toml.specs.Parse.{parse_document}
use Rattle.config_reader.specs.Whole.{judge, config_of}

small : (bs : List ℕ) → length bs ≤ 2 ^ 20 → nat_lt (2 ^ 20) (length bs) ≡ false
small bs low = grind (arith, nat_tests)

no_utf8 : (bs : List ℕ) (b : Bool) → is_utf8 bs ≡ b → ¬ (IsUtf8 bs) → is_utf8 bs ≡ false
no_utf8 bs true e n = absurd (n (IsUtf8-from_is_utf8 bs e))
no_utf8 bs false e n = e

pub no_text : (bs : List ℕ) → length bs ≤ 2 ^ 20 → ¬ (IsUtf8 bs) → config_of bs ≡ Err (1, codes "-")
no_text bs low n = rw (small bs low, no_utf8 bs (is_utf8 bs) refl n)

pub some_table : (bs : List ℕ) (o : Option Members) → length bs ≤ 2 ^ 20 → IsUtf8 bs → parse_document bs ≡ o → config_of bs ≡ judge o
some_table bs o low u e = rw (small bs low, is_utf8-from_IsUtf8 bs u, e)
