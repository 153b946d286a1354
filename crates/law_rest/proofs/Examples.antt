-- Worked rooms.
use Rattle.std.proofs.Common.{◌≡◌, false, true, [], ◌∷◌, codes, refl, inl, inr}
use Rattle.std.specs.Prelude.{◌⊎◌}
use Rattle.filter_chain.specs.declared.item.ChainItem.{ChainItem}
use Rattle.filter_chain.specs.declared.item.ChainItem.TheVariants.{Piece}
use Rattle.matchit.proofs.OnLiterals.{matchit_on_literals}
use Rattle.law_rest.specs.Examples.{MovingExample, ReadingExample, EventExample, PausedExample}

pub moving_example : MovingExample
moving_example = record {
  size = refl;
  first = refl;
  before = refl;
  second = refl;
  moved = refl;
  third = refl;
  begun = refl;
  fourth = refl;
  worked = refl;
  paused = refl;
}

pub reading_example : ReadingExample
unfolding matchit_on_literals
reading_example = record { before = refl; behind = refl; next = refl }

pub event_example : EventExample
event_example = record { rested = refl; nothing = refl; begins = refl; brings = refl; size = refl }

no_wait : (p : ChainItem) → (p ∷ [] ≡ []) ⊎ ⊥ → ⊥
no_wait p (inl is) = absurd (cc)
no_wait p (inr never) = never

pub paused_example : PausedExample
paused_example = record {
  at_head = refl;
  head_paused = ((refl, (inr tt, tt), (inl refl, tt)), tt);
  at_trailers = refl;
  nothing_held = refl;
  body_held = refl;
  no_rest = λ (rested : false ≡ true). absurd (cc);
  no_pause = λ rests. no_wait (Piece (codes "ab") true) rests.0.1.0;
}
