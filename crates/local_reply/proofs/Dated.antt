-- Whether a field of a name goes out.
use Rattle.std.proofs.Common.{◌≡◌, ℕ, Bool, true, false, ◌||◌, ◌&&◌, not, cond, List, [], ◌∷◌, refl, sym, ap, ◌∙◌}
use Rattle.std.specs.List.{list_any}
use Rattle.http_header.specs.Token.{lowercase}
use Rattle.header_maps.proofs.Shapes.{bytes_are}
use Rattle.h1_model.specs.Fields.{Pair, is_named}
use Rattle.h1_model.specs.Wire.{is_left_out, sent_among}

and_false : (b : Bool) → (b && false) ≡ false
and_false true = refl
and_false false = refl

-- all fields of one name go out, or none does
pub named_sent : (name : List ℕ) (all fs : List Pair)
    → list_any (is_named name) (sent_among all fs) ≡ (list_any (is_named name) fs && not (is_left_out all name))
named_sent name all [] = refl
named_sent name all (f ∷ fs) = by_test (is_named name f) refl (named_sent name all fs)
  where
    has : List Pair → Bool
    has gs = list_any (is_named name) gs

    sent : List Pair
    sent = sent_among all fs

    named : (out : Bool) → is_named name f ≡ true → has sent ≡ (has fs && not out) → has (cond (not out) (f ∷ sent) sent) ≡ not out
    named true is later = later ∙ and_false (has fs)
    named false is later = ap (λ t. t || has sent) is

    other : (b : Bool) → is_named name f ≡ false → has (cond b (f ∷ sent) sent) ≡ has sent
    other true is = ap (λ t. t || has sent) is
    other false is = refl

    by_test : (b : Bool) → is_named name f ≡ b → has sent ≡ (has fs && not (is_left_out all name))
        → has (cond (not (is_left_out all (lowercase f.0))) (f ∷ sent) sent) ≡ ((is_named name f || has fs) && not (is_left_out all name))
    by_test true is later =
        ap (λ (n : List ℕ). has (cond (not (is_left_out all n)) (f ∷ sent) sent)) (bytes_are (lowercase f.0) name is)
        ∙ named (is_left_out all name) is later
        ∙ ap (λ t. (t || has fs) && not (is_left_out all name)) (sym is)
    by_test false is later =
        other (not (is_left_out all (lowercase f.0))) is ∙ later ∙ ap (λ t. (t || has fs) && not (is_left_out all name)) (sym is)
