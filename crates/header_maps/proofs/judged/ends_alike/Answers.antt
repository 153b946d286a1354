use Rattle.std.proofs.Common.{◌≡◌, ℕ, ◌-◌, List, length, get_or, rules, ap, sym, ◌∙◌}
use Rattle.std.proofs.lemmas.List.{length-map}
use Rattle.std.proofs.lemmas.Slice.Eq.{bytes_eq-Decides}
use Rattle.std.proofs.Math.ListN.{get_or-map}
use Rattle.std.specs.Char.{to_ascii_lowercase}
use Rattle.http_header.specs.Token.{lowercase}
use Rattle.header_maps.proofs.judged.ends_alike.Goals as goal

-- the last bytes of texts that are equal but for the case of letters
same_ends : (a b : List ℕ) → lowercase a ≡ lowercase b → to_ascii_lowercase (get_or a (length a - 1) 0) ≡ to_ascii_lowercase (get_or b (length b - 1) 0)
same_ends a b same =
    let n : length a ≡ length b = sym (length-map a to_ascii_lowercase) ∙ ap length same ∙ length-map b to_ascii_lowercase in
    sym (get_or-map to_ascii_lowercase a (length a - 1) 0)
    ∙ ap (λ l. get_or l (length a - 1) 0) same
    ∙ ap (λ k. get_or (lowercase b) (k - 1) 0) n
    ∙ get_or-map to_ascii_lowercase b (length b - 1) 0

pub returns-in-len1-up-len1-up : goal.returns-in-len1-up-len1-up
returns-in-len1-up-len1-up c same =
    let ends = same_ends c.args.a.now c.args.b.now ((bytes_eq-Decides (lowercase c.args.a.now) (lowercase c.args.b.now)).0 same) in
    search rules
