-- How a request is framed, by what it has.
use Rattle.std.proofs.Common.{◌≡◌, ◌<◌, ◌≤◌, ℕ, List, [], ◌∷◌, ◌++◌, length, refl, ap, ◌∙◌, arith, append_assoc}
use Rattle.h1_model.specs.Fields.{Pair}
use Rattle.h1_model.specs.Framing.{no_body, by_length, by_chunks}
use Rattle.callouts.specs.Requests.{framed}

pub chunked : (ts : List Pair) (body : List ℕ) → 0 < length ts → framed ts body ≡ by_chunks
chunked [] body some = absurd (omega (arith, some))
chunked (t ∷ ts) body some = refl

pub lengthed : (ts : List Pair) (body : List ℕ) → length ts ≤ 0 → 0 < length body → framed ts body ≡ by_length (length body)
lengthed [] [] none some = absurd (omega (arith, some))
lengthed [] (b ∷ body) none some = refl
lengthed (t ∷ ts) body none some = absurd (omega (arith, none))

pub bodiless : (ts : List Pair) (body : List ℕ) → length ts ≤ 0 → length body ≤ 0 → framed ts body ≡ no_body
bodiless [] [] none bare = refl
bodiless [] (b ∷ body) none bare = absurd (omega (arith, bare))
bodiless (t ∷ ts) body none bare = absurd (omega (arith, none))

-- five pieces that are put one behind the other
pub five : (o s f r t e o1 o2 o3 o4 o5 : List ℕ) → o1 ≡ o ++ s → o2 ≡ o1 ++ f → o3 ≡ o2 ++ r → o4 ≡ o3 ++ t → o5 ≡ o4 ++ e → o5 ≡ o ++ (s ++ f ++ r ++ t ++ e)
five o s f r t e o1 o2 o3 o4 o5 e1 e2 e3 e4 e5 =
    let two : o2 ≡ o ++ (s ++ f) = e2 ∙ ap (λ (x : List ℕ). x ++ f) e1 ∙ append_assoc o s f in
    let three : o3 ≡ o ++ (s ++ f ++ r) = e3 ∙ ap (λ (x : List ℕ). x ++ r) two ∙ append_assoc o (s ++ f) r in
    let four : o4 ≡ o ++ (s ++ f ++ r ++ t) = e4 ∙ ap (λ (x : List ℕ). x ++ t) three ∙ append_assoc o (s ++ f ++ r) t in
    e5 ∙ ap (λ (x : List ℕ). x ++ e) four ∙ append_assoc o (s ++ f ++ r ++ t) e
