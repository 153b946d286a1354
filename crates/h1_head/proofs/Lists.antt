-- Lemmas on the fields that spans cover, and on results.
use Rattle.std.proofs.Common.{◌≡◌, ℕ, ◌+◌, ◌<◌, List, ◌∷◌, length, drop, get_or, ap}
use Rattle.std.proofs.lemmas.List.{drop_more}
use Rattle.std.specs.Prelude.{Result, Ok, Err, IfOk}
use Rattle.httparse.specs.declared.spans.HeaderSpan.{HeaderSpan}
use Rattle.httparse.specs.Spans.{header_bytes}
use Rattle.h1_text.specs.Spans.{fields_at}

-- the field at a place, and those after it
pub fields_at-more : (text : List ℕ) (spans : List HeaderSpan) (i : ℕ) (d : HeaderSpan) → i < length spans
    → fields_at text (drop i spans) ≡ header_bytes text (get_or spans i d) ∷ fields_at text (drop (i + 1) spans)
fields_at-more text spans i d lt = ap (fields_at text) (drop_more spans i d lt)

-- what an Ok says, by what another says of it
pub IfOk-map : {A E : Type 0} {P Q : A → Type 0} (r : Result A E) → ((x : A) → P x → Q x) → IfOk r P → IfOk r Q
IfOk-map (Ok x) f h = f x h
IfOk-map (Err e) f h = tt
