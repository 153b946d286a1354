-- What histories say of keys.
use Rattle.std.specs.Prelude.{ℕ, zero, suc, ◌+◌, List, [], ◌∷◌, ◌++◌, Option, Some, if◌then◌else◌}
use Rattle.std.specs.Str.{bytes_eq}
use Rattle.store_model.specs.Keys.{Held}
use Rattle.store_model.specs.declared.call.Call.{Call}
use Rattle.store_model.specs.declared.call.Call.TheVariants.{Set}
use Rattle.store_model.specs.declared.call.Reply.{Reply}
use Rattle.store_model.specs.declared.call.Reply.TheVariants.{Done}
use Rattle.store_model.specs.declared.entry.Entry.{Entry}

-- the key that a Set gives a value, and the value; a Set that was done
abbrev pub was_done : Option Held → List ℕ → Reply → Option Held
was_done was value (Done number) = Some (record { value = value; number = number })
was_done was value _ = was

-- what a key has after an entry, where it had this before
abbrev pub held_after : List ℕ → Option Held → Call → Reply → Option Held
held_after key was (Set k value number) reply = if bytes_eq key k then was_done was value reply else was
held_after key was _ reply = was

-- the value and the number of the last Set of the key in the history that was done; without one, what it had before
abbrev pub last_set : List ℕ → Option Held → List Entry → Option Held
last_set key was [] = was
last_set key was (e ∷ es) = last_set key (held_after key was e.call e.reply) es

-- the number that was drawn, if one was
abbrev pub number_in : Reply → List ℕ
number_in (Done number) = number ∷ []
number_in _ = []

abbrev pub drawn_by : Call → Reply → List ℕ
drawn_by (Set key value number) reply = number_in reply
drawn_by _ reply = []

-- the numbers that the Sets of a history drew, in order
abbrev pub drawn : List Entry → List ℕ
drawn [] = []
drawn (e ∷ es) = drawn_by e.call e.reply ++ drawn es

-- so many numbers from n on, each one more than the one before
abbrev pub rising : ℕ → ℕ → List ℕ
rising n zero = []
rising n (suc k) = n ∷ rising (n + 1) k
