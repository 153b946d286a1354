-- What a head says of what is unread next.
use Rattle.std.proofs.Common.{◌≡◌, ℕ, Bool, true, false, List, Some, refl, inl}
use Rattle.h1_head.specs.declared.head.Kind.{Kind}
use Rattle.h1_head.specs.declared.head.Kind.TheVariants as kinds
use Rattle.h1_head.specs.Seen.{Spells}
use Rattle.h1_model.specs.Head.{HeadStep}
use Rattle.h1_model.specs.Messages.{head, SpellsHead, step_from}
use Rattle.h1_model.specs.Unread.{Next, IsNext, by_itself}
use Rattle.h1_stream.specs.Seen.{asked_of}

-- a text of that kind spells it
pub spells_head : (k : Kind) (text : List ℕ) (h : HeadStep) → Spells k text h → SpellsHead (asked_of k) text h
spells_head kinds.Request text h x = x
spells_head (kinds.Response true) text h x = x
spells_head (kinds.Response false) text h x = x

-- a head, or that there is none, is next by itself
pub head_alone : (k : Kind) (ended : Bool) (text : List ℕ) (h : HeadStep) (next : Next) → Spells k text h
    → by_itself (step_from ended (asked_of k) text h) ≡ Some next → IsNext ended (asked_of k) head text next
head_alone k ended text h next x e =
    inl (record { step = step_from ended (asked_of k) text h; there = (h, spells_head k text h x, refl); is = e })
