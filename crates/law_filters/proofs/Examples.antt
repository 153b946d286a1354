-- A chain of two stages, worked.
use Rattle.std.proofs.Common.{refl, inl, inr}
use Rattle.law_filters.specs.Examples.{HeadExamples}

pub head_examples : HeadExamples
head_examples = record {
  awaits = (record { waiting = refl; holding = refl }, (record { vm_is = refl; context_is = refl; asking = refl }, record { waiting = refl; holding = refl }, tt));
  waits = inl (refl, inl (record { waiting = refl; holding = refl }), (record { vm_is = refl; context_is = refl; asking = refl }, record { waiting = refl; holding = refl }, tt));
  holds = inl (refl, inr refl, (record { vm_is = refl; context_is = refl; asking = refl }, record { waiting = refl; holding = refl }, tt));
  arrives = inr (record { vm_is = refl; context_is = refl; asking = refl }, record { waiting = refl; holding = refl }, tt);
  asked = λ e. elim e [
    | inl here ↦ cc here.2.1.holding
    | inr there ↦ cc there.1.waiting
  ];
  past = λ e. cc e.1.waiting;
}
