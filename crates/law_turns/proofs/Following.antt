-- What a course comes to, by what it meets.
use Rattle.std.proofs.Common.{◌≡◌, Bool, true, false, List, [], ◌∷◌, None, refl, inl}
use Rattle.contexts.specs.Making.{no_contexts}
use Rattle.filter_host.specs.Course.{Course, ends, asks, measures, hears, Met, called, measured, heard, Reaches}
use Rattle.filter_host.specs.Heard.{Hears, halts}
use Rattle.gate_base.specs.declared.level.Level.TheVariants.{Info}
use Rattle.h1_model.specs.Head.{not_yet}
use Rattle.h1_model.specs.Messages.{rest, stop}
use Rattle.h1_model.specs.Unread.{new_reading, awaiting_bytes}
use Rattle.worker_model.specs.Turn.{Outcome, outcome}
use Rattle.law_turns.specs.Scenes.{state}
use Rattle.law_turns.specs.Tables.{Call}

-- its end after these, or this where it has none there
abbrev pub end_of : {A : Type 0} → A → List Met → Course A → A
end_of a ms (ends b) = b
end_of a [] (asks vm call k) = a
end_of a (called c ∷ ms) (asks vm call k) = end_of a ms (k c.reply)
end_of a (measured c ∷ ms) (asks vm call k) = a
end_of a (heard h ∷ ms) (asks vm call k) = a
end_of a [] (measures vm call k) = a
end_of a (called c ∷ ms) (measures vm call k) = a
end_of a (measured c ∷ ms) (measures vm call k) = end_of a ms (k c.reply)
end_of a (heard h ∷ ms) (measures vm call k) = a
end_of a [] (hears r k) = a
end_of a (called c ∷ ms) (hears r k) = a
end_of a (measured c ∷ ms) (hears r k) = a
end_of a (heard h ∷ ms) (hears r k) = end_of a ms (k h)

-- it ends after these
abbrev pub ends_there : {A : Type 0} → List Met → Course A → Bool
ends_there [] (ends b) = true
ends_there (m ∷ ms) (ends b) = false
ends_there [] (asks vm call k) = false
ends_there (called c ∷ ms) (asks vm call k) = ends_there ms (k c.reply)
ends_there (measured c ∷ ms) (asks vm call k) = false
ends_there (heard h ∷ ms) (asks vm call k) = false
ends_there [] (measures vm call k) = false
ends_there (called c ∷ ms) (measures vm call k) = false
ends_there (measured c ∷ ms) (measures vm call k) = ends_there ms (k c.reply)
ends_there (heard h ∷ ms) (measures vm call k) = false
ends_there [] (hears r k) = false
ends_there (called c ∷ ms) (hears r k) = false
ends_there (measured c ∷ ms) (hears r k) = false
ends_there (heard h ∷ ms) (hears r k) = ends_there ms (k h)

-- it meets these
abbrev pub Meets : {A : Type 0} → List Met → Course A → Type 0
Meets [] p = Unit {0}
Meets (m ∷ ms) (ends b) = ⊥
Meets (called c ∷ ms) (asks vm call k) = (c.vm ≡ vm) × (c.call ≡ call) × Meets ms (k c.reply)
Meets (measured c ∷ ms) (asks vm call k) = ⊥
Meets (heard h ∷ ms) (asks vm call k) = ⊥
Meets (called c ∷ ms) (measures vm call k) = ⊥
Meets (measured c ∷ ms) (measures vm call k) = (c.vm ≡ vm) × (c.ask ≡ call) × Meets ms (k c.reply)
Meets (heard h ∷ ms) (measures vm call k) = ⊥
Meets (called c ∷ ms) (hears r k) = ⊥
Meets (measured c ∷ ms) (hears r k) = ⊥
Meets (heard h ∷ ms) (hears r k) = Hears r h × Meets ms (k h)

pub reaches_end : {A : Type 0} (a : A) (ms : List Met) (p : Course A) → ends_there ms p ≡ true → Meets ms p → Reaches p ms (ends (end_of a ms p))
reaches_end a [] (ends b) there meets = refl
reaches_end a (m ∷ ms) (ends b) there meets = absurd (cc)
reaches_end a [] (asks vm call k) there meets = absurd (cc)
reaches_end a (called c ∷ ms) (asks vm call k) there meets = (meets.0, meets.1, reaches_end a ms (k c.reply) there meets.2)
reaches_end a (measured c ∷ ms) (asks vm call k) there meets = absurd (cc)
reaches_end a (heard h ∷ ms) (asks vm call k) there meets = absurd (cc)
reaches_end a [] (measures vm call k) there meets = absurd (cc)
reaches_end a (called c ∷ ms) (measures vm call k) there meets = absurd (cc)
reaches_end a (measured c ∷ ms) (measures vm call k) there meets = (meets.0, meets.1, reaches_end a ms (k c.reply) there meets.2)
reaches_end a (heard h ∷ ms) (measures vm call k) there meets = absurd (cc)
reaches_end a [] (hears r k) there meets = absurd (cc)
reaches_end a (called c ∷ ms) (hears r k) there meets = absurd (cc)
reaches_end a (measured c ∷ ms) (hears r k) there meets = absurd (cc)
reaches_end a (heard h ∷ ms) (hears r k) there meets = (meets.0, reaches_end a ms (k h) there meets.1)

-- a reader of which nothing has come waits
pub still_waits : Hears (new_reading None) (halts rest (awaiting_bytes (new_reading None)))
still_waits = record { next = inl (record { step = stop rest; there = (not_yet, refl, refl); is = refl }); is = refl }

-- a turn that does nothing
abbrev pub nothing_done : Outcome (List Call)
nothing_done = outcome (state [] (no_contexts Info [])) []

-- what a turn ends with
abbrev pub end_by : List Met → Course (Outcome (List Call)) → Outcome (List Call)
end_by met course = end_of nothing_done met course

pub reaches_by : (met : List Met) (course : Course (Outcome (List Call))) → ends_there met course ≡ true → Meets met course → Reaches course met (ends (end_by met course))
reaches_by met course there meets = reaches_end nothing_done met course there meets
