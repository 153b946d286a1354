-- A value for tests: one number, which is set under itself.
use Rattle.std.specs.Prelude.{ℕ, ◌+◌, ◌%◌, ◌^◌, ◌==◌, Bool, cond, true, false}
use Rattle.store_model.specs.History.{Acts}
use Rattle.store_model.specs.declared.call.Call.{Call}
use Rattle.store_model.specs.declared.call.Call.TheVariants.{Get, Set, Register, Resolve, Enqueue, Dequeue, Notice}
use Rattle.store_model.specs.declared.call.Reply.{Reply}
use Rattle.store_model.specs.declared.call.Reply.TheVariants.{Value, Done, CasMismatch, Absent, NoneOwed}

pub record Tally : Type 0 where
  pub vm : ℕ
  pub number : ℕ

abbrev pub tally : ℕ → ℕ → Tally
tally vm number = record { vm = vm; number = number }

-- a Set under the number makes it the next one, and is done; under another number it changes nothing
abbrev pub tally_after : Call → Tally → Tally
tally_after (Get key) s = s
tally_after (Set key value number) s = cond (number == s.number) (record s { number = (s.number + 1) % 2 ^ 32 }) s
tally_after (Register name root) s = s
tally_after (Resolve name) s = s
tally_after (Enqueue queue item) s = s
tally_after (Dequeue queue) s = s
tally_after Notice s = s

-- a Get has a copy of its key, and the number
abbrev pub tally_reply : Call → Tally → Reply
tally_reply (Get key) s = Value key s.number
tally_reply (Set key value number) s = cond (number == s.number) (Done ((s.number + 1) % 2 ^ 32)) CasMismatch
tally_reply (Register name root) s = Absent
tally_reply (Resolve name) s = Absent
tally_reply (Enqueue queue item) s = Absent
tally_reply (Dequeue queue) s = Absent
tally_reply Notice s = NoneOwed

-- all but a Get, which copies, and a Register, which is always refused memory
abbrev pub tally_sure : Call → Tally → Bool
tally_sure (Get key) s = false
tally_sure (Set key value number) s = true
tally_sure (Register name root) s = false
tally_sure (Resolve name) s = true
tally_sure (Enqueue queue item) s = true
tally_sure (Dequeue queue) s = true
tally_sure Notice s = true

abbrev pub tally_acts : Acts Tally
tally_acts = record { empty = λ vm. tally vm 0; after = λ who call s. tally_after call s; reply = λ who call s. tally_reply call s; sure = tally_sure }
