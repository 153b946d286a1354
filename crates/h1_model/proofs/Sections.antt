-- A trailer section, from the size line in front of it and by itself.
use Rattle.std.proofs.Common.{◌≡◌, ℕ, ◌+◌, Bool, List, [], ◌∷◌, length, take, drop, Option, None, Some, refl, sym, ap, ◌∙◌, arith}
use Rattle.h1_model.specs.Fields.{Pair}
use Rattle.h1_model.specs.Lines.{Cut, whole, too_large, unfinished}
use Rattle.h1_model.specs.Chunks as chunks
use Rattle.h1_model.specs.Trailers as trailing
use Rattle.h1_model.specs.Messages.{Item, octet, coded, Due, body, Stop, Step, item, stop, trailers_left, end_step, section_step, StepsTo}
use Rattle.h1_model.proofs.Readings.{item_is_no_stop}

-- the same step, after so many bytes more
abbrev pub further : ℕ → Step → Step
further k (item i used next) = item i (k + used) next
further k (stop why) = stop why

-- the same, after so many bytes more
abbrev pub end_further : ℕ → trailing.ChunkStep → trailing.ChunkStep
end_further k (trailing.carried run) = trailing.carried run
end_further k (trailing.ended fields used) = trailing.ended fields (k + used)
end_further k trailing.not_yet = trailing.not_yet
end_further k (trailing.refused number) = trailing.refused number

end_of_further : (k used : ℕ) (fields : Option (List Pair)) → trailing.end_of (k + used) fields ≡ end_further k (trailing.end_of used fields)
end_of_further k used None = refl
end_of_further k used (Some fields) = refl

before_zero : (n : ℕ) → n ≡ 0 + n
before_zero n = omega arith

at_zero : (n : ℕ) (fields : Option (List Pair)) (c : trailing.ChunkStep) → c ≡ trailing.end_of (0 + n) fields → c ≡ trailing.end_of n fields
at_zero n fields c e = e ∙ ap (λ (m : ℕ). trailing.end_of m fields) (sym (before_zero n))

pub end_behind : (k : ℕ) (text : List ℕ) (cut : Cut) (c : trailing.ChunkStep) → trailing.IsEnd 0 text cut c → trailing.IsEnd k text cut (end_further k c)
end_behind k text (whole len) c x = record {
  trailers = x.trailers;
  section = x.section;
  is = ap (end_further k) (at_zero (length (take len text)) x.trailers c x.is) ∙ sym (end_of_further k (length (take len text)) x.trailers);
}
end_behind k text too_large c x = ap (end_further k) x
end_behind k text unfinished c x = ap (end_further k) x

pub end_before : (k : ℕ) (text : List ℕ) (cut : Cut) (c : trailing.ChunkStep) → trailing.IsEnd k text cut c
    → (d : trailing.ChunkStep) × trailing.IsEnd 0 text cut d × (c ≡ end_further k d)
end_before k text (whole len) c x = (
  trailing.end_of (length (take len text)) x.trailers,
  record { trailers = x.trailers; section = x.section; is = ap (λ (n : ℕ). trailing.end_of n x.trailers) (before_zero (length (take len text))) },
  x.is ∙ end_of_further k (length (take len text)) x.trailers,
)
end_before k text too_large c x = (trailing.refused 400, refl, x)
end_before k text unfinished c x = (trailing.not_yet, refl, x)

end_step_further : (asked : Option (List ℕ)) (k used : ℕ) (fields : List Pair) → end_step asked (k + used) fields ≡ further k (end_step asked used fields)
end_step_further asked k used [] = refl
end_step_further asked k used (f ∷ fields) = refl

-- the step that stands there
pub section_further : (ended : Bool) (asked : Option (List ℕ)) (connection : List (List ℕ)) (k : ℕ) (c : trailing.ChunkStep)
    → section_step ended asked connection (end_further k c) ≡ further k (section_step ended asked connection c)
section_further ended asked connection k (trailing.carried run) = refl
section_further ended asked connection k (trailing.ended fields used) = end_step_further asked k used (trailers_left asked connection fields)
section_further ended asked connection k trailing.not_yet = refl
section_further ended asked connection k (trailing.refused number) = refl

-- after its size line it stops where it stops with it
pub section_stops : (ended : Bool) (asked : Option (List ℕ)) (connection : List (List ℕ)) (k : ℕ) (text : List ℕ) (why : Stop)
    → ((c : trailing.ChunkStep) × trailing.IsEnd k text (trailing.section_cut text) c × (stop why ≡ section_step ended asked connection c))
    → StepsTo ended asked (body (coded connection chunks.section)) text (stop why)
section_stops ended asked connection k text why (c, x, e) =
    let d = end_before k text (trailing.section_cut text) c x in
    (d.0, d.1, stops (section_step ended asked connection d.0) refl)
  where
    stops : (s : Step) → section_step ended asked connection (end_before k text (trailing.section_cut text) c x).0 ≡ s → stop why ≡ s
    stops (item i used next) is =
        absurd (item_is_no_stop i (k + used) next why
        (sym (e ∙ ap (section_step ended asked connection) (end_before k text (trailing.section_cut text) c x).2
        ∙ section_further ended asked connection k (end_before k text (trailing.section_cut text) c x).0 ∙ ap (further k) is)))
    stops (stop reason) is =
        e ∙ ap (section_step ended asked connection) (end_before k text (trailing.section_cut text) c x).2
        ∙ section_further ended asked connection k (end_before k text (trailing.section_cut text) c x).0 ∙ ap (further k) is

-- and what stands there after it, stands there with it
pub section_goes_behind : (ended : Bool) (asked : Option (List ℕ)) (connection : List (List ℕ)) (k : ℕ) (text : List ℕ) (step : Step)
    → StepsTo ended asked (body (coded connection chunks.section)) text step
    → (c : trailing.ChunkStep) × trailing.IsEnd k text (trailing.section_cut text) c × (further k step ≡ section_step ended asked connection c)
section_goes_behind ended asked connection k text step x =
    (end_further k x.0, end_behind k text (trailing.section_cut text) x.0 x.1, ap (further k) x.2 ∙ sym (section_further ended asked connection k x.0))

-- no byte of a body stands there
pub no_section_octet : (ended : Bool) (asked : Option (List ℕ)) (connection : List (List ℕ)) (text : List ℕ) (b used : ℕ) (next : Due)
    → StepsTo ended asked (body (coded connection chunks.section)) text (item (octet b) used next) → ⊥
no_section_octet ended asked connection text b used next (c, x, e) = by_step c e
  where
    by_fields : (n : ℕ) (fields : List Pair) → item (octet b) used next ≡ end_step asked n fields → ⊥
    by_fields n [] e = cc
    by_fields n (f ∷ fields) e = cc

    by_step : (c : trailing.ChunkStep) → item (octet b) used next ≡ section_step ended asked connection c → ⊥
    by_step (trailing.carried run) e = cc
    by_step (trailing.ended fields n) e = by_fields n (trailers_left asked connection fields) e
    by_step trailing.not_yet e = cc
    by_step (trailing.refused number) e = cc
