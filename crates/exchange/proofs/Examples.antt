-- The worked examples, by computation.
use Rattle.std.proofs.Common.{◌≡◌, ◌<◌, ◌+◌, ℕ, Bool, false, ◌||◌, List, [], ◌∷◌, length, refl, ap, arith}
use Rattle.std.specs.Fmt.{digits}
use Rattle.std.specs.Prelude.{◌==◌, nat_le, slice_set, if◌then◌else◌}
use Rattle.filter_chain.specs.declared.stage.Stage.{Stage}
use Rattle.filter_chain.specs.declared.item.Held.TheVariants as held
use Rattle.filter_chain.specs.declared.item.ChainItem.TheVariants.{Piece, Trailers}
use Rattle.filter_chain.specs.declared.item.PassOutcome.TheVariants as passed
use Rattle.filter_chain.specs.Chains.{fits, with_more}
use Rattle.filter_chain.specs.Items.{size}
use Rattle.h1_model.specs.Moment.{year_from, month_from}
use Rattle.httparse.proofs.OnLiterals.{httparse_on_literals}
use Rattle.httpdate.proofs.OnLiterals.{httpdate_on_literals}
use Rattle.exchange.specs.declared.types.Exchange.{Exchange}
use Rattle.exchange.specs.declared.types.Hub.{Hub}
use Rattle.exchange.specs.Examples.{TooMuchExamples, NoStageExamples, NoBodyExamples, TrailerExamples, at_body, at_head, batch, held_of, host, let_down, stage}
use Rattle.exchange.specs.Passing.{take_put, put_all_to_chain}

-- ---- too much

-- what becomes of the batch where this says whether the piece fits
abbrev with_room : List ℕ → Stage → Exchange × Hub → Bool → Exchange × Hub
with_room bytes s (x, hub) b =
    put_all_to_chain false 1 (Trailers ∷ [])
    (take_put false 1 x hub (if b then (passed.Left [], slice_set x.request 0 (with_more (Piece bytes false ∷ []) s)) else (passed.Over, x.request)))

is_any : (n : ℕ) → 0 < n → (n == 0) ≡ false
is_any n some = grind (arith, some)

past : (n : ℕ) → 1048576 < n → nat_le n 1048576 ≡ false
past n long = grind (arith, long)

body_over : (bytes : List ℕ) → 1048574 < length bytes → fits at_body.1.contexts (size (Piece bytes false ∷ [])) (stage false (held.Body false)) ≡ false
body_over bytes long = λ i. is_any (length bytes + 0) (omega (arith, long)) i || past (2 + (length bytes + 0)) (omega (arith, long)) i

head_over : (bytes : List ℕ) → 1048576 < length bytes → fits host (size (Piece bytes false ∷ [])) (stage false (held.Head false)) ≡ false
head_over bytes long = λ i. is_any (length bytes + 0) (omega (arith, long)) i || past (0 + (length bytes + 0)) (omega (arith, long)) i

at_body_over : (bytes : List ℕ) → 1048574 < length bytes → batch bytes at_body ≡ with_room bytes (stage false (held.Body false)) at_body false
at_body_over bytes long = ap (with_room bytes (stage false (held.Body false)) at_body) (body_over bytes long)

at_head_over : (bytes : List ℕ) → 1048576 < length bytes → batch bytes at_head ≡ with_room bytes (stage false (held.Head false)) at_head false
at_head_over bytes long = ap (with_room bytes (stage false (held.Head false)) at_head) (head_over bytes long)

pub too_much_examples : TooMuchExamples
unfolding httparse_on_literals httpdate_on_literals digits year_from month_from
too_much_examples = record {
  nothing_up = λ bytes long. ap (λ (r : Exchange × Hub). r.1.sent) (at_body_over bytes long);
  no_stage = λ bytes long. ap (λ (r : Exchange × Hub). r.0.request) (at_body_over bytes long);
  nothing_held = λ bytes long. ap held_of (at_body_over bytes long);
  answer_down = λ bytes long. ap (λ (r : Exchange × Hub). (let_down r).1.sent) (at_body_over bytes long);
  no_connection = λ bytes long. ap (λ (r : Exchange × Hub). r.1.sent) (at_head_over bytes long);
  answer_to_head = λ bytes long. ap (λ (r : Exchange × Hub). (let_down r).1.sent) (at_head_over bytes long);
}

-- ---- no stage is left

pub no_stage_examples : NoStageExamples
no_stage_examples = record {
  held_before = refl;
  answered_requests = refl;
  answered_responses = refl;
  answered_holds = refl;
  closed_requests = refl;
  closed_responses = refl;
  closed_holds = refl;
}

-- ---- no body

pub no_body_examples : NoBodyExamples
unfolding httparse_on_literals httpdate_on_literals digits year_from month_from
no_body_examples = record {
  to_get = refl;
  to_head = refl;
  to_head_ends = refl;
  to_head_stays = refl;
  not_modified = refl;
  not_modified_ends = refl;
  not_modified_stays = refl;
  no_content = refl;
}

-- ---- trailers

pub trailer_examples : TrailerExamples
unfolding httparse_on_literals httpdate_on_literals digits year_from month_from
trailer_examples = record { up = refl; down = refl; up_then = refl; down_then = refl; up_late = refl; down_late = refl }
