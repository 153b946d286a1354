-- Histories of calls, and what they leave.
use Rattle.std.specs.Prelude.{◌≡◌, ◌==◌, ℕ, Bool, List, [], ◌∷◌, map}
use Rattle.std.specs.List.{filter}
use Rattle.store_model.specs.Store.{Store, empty_store, applied, takes_no_memory}
use Rattle.store_model.specs.declared.call.Call.{Call}
use Rattle.store_model.specs.declared.call.Reply.{Reply}
use Rattle.store_model.specs.declared.entry.Entry.{Entry}

-- Values that calls act on: the one that the histories of a store's number begin with, what a worker's call makes of a value, what it is answered, and whether it is sure to be answered.
pub record Acts (S : Type 0) : Type 0 where
  pub empty : ℕ → S
  pub after : ℕ → Call → S → S
  pub reply : ℕ → Call → S → Reply
  pub sure : Call → S → Bool

abbrev pub entry : ℕ → Call → Reply → Entry
entry who call reply = record { who = who; call = call; reply = reply }

abbrev pub reply_in : Entry → Reply
reply_in e = e.reply

-- the entries of one worker
abbrev pub own : ℕ → List Entry → List Entry
own who h = filter (λ e. e.who == who) h

module _ {S : Type 0} (a : Acts S) where
  abbrev pub value_from : S → List Entry → S
  value_from s [] = s
  value_from s (e ∷ es) = value_from (a.after e.who e.call s) es

  abbrev pub replies_from : S → List Entry → List Reply
  replies_from s [] = []
  replies_from s (e ∷ es) = a.reply e.who e.call s ∷ replies_from (a.after e.who e.call s) es

  -- each entry's reply is that of the value at its place
  abbrev pub IsLegalFrom : S → List Entry → Type 0
  IsLegalFrom s h = map reply_in h ≡ replies_from s h

-- the stores
abbrev pub store_acts : Acts Store
store_acts = record {
  empty = empty_store;
  after = λ who call s. (applied s who call).store;
  reply = λ who call s. (applied s who call).reply;
  sure = takes_no_memory;
}

-- the store of this number after the calls of a history, in order
abbrev pub store_after : ℕ → List Entry → Store
store_after vm h = value_from store_acts (empty_store vm) h

-- each reply is that of the store after the entries before it
abbrev pub IsLegal : ℕ → List Entry → Type 0
IsLegal vm h = IsLegalFrom store_acts (empty_store vm) h
