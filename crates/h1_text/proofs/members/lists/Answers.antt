use Rattle.std.proofs.Common.{ℕ, ◌==◌, bytes_eq, sym, ◌∙◌, rules, tests}
use Rattle.std.proofs.lemmas.Iterator.Search.{any_from_yields_List}
use Rattle.std.proofs.lemmas.Iterator.Splits.{YieldsList-from_slice_split}
use Rattle.std.specs.List.{slice_split}
use Rattle.http_header.specs.Token.{lowercase}
use Rattle.httparse.specs.Grammar.{trim_ows}
use Rattle.h1_text.proofs.Splits.{list_any-map}
use Rattle.h1_text.proofs.members.lists.Goals as goal

pub returns : goal.returns
returns c =
    any_from_yields_List (λ m. bytes_eq (lowercase (trim_ows m)) (lowercase c.args.name.now)) _ _ _ c.any.ensures.ran
    (YieldsList-from_slice_split _ (λ (b : ℕ). b == 44) c.args.value.now c.split.ensures.rest c.split.ensures.done c.split.ensures.closure (λ x r q k. search (rules, tests)))
    (λ x b q k. search (rules, tests))
    ∙ sym (list_any-map (λ x. bytes_eq (lowercase x) (lowercase c.args.name.now)) trim_ows (slice_split (λ (b : ℕ). b == 44) c.args.value.now))
