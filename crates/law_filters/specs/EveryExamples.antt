-- Worked: what begins an exchange and what does not, who is passed over, what counts as asked, and which exchanges are barred.
use Rattle.std.specs.Prelude.{◌≡◌, ℕ, Bool, true, false, List, [], ◌∷◌, None, Some}
use Rattle.exchange.specs.declared.types.Exchange.{Exchange}
use Rattle.filter_chain.specs.declared.item.AskKind.TheVariants as kinds
use Rattle.filter_chain.specs.declared.item.ChainItem.{ChainItem}
use Rattle.filter_host.specs.Course.{heard}
use Rattle.filter_host.specs.Heard.{hands}
use Rattle.gate_config.specs.declared.entries.PluginEntry.{PluginEntry}
use Rattle.h1_model.specs.Head.{Head}
use Rattle.h1_model.specs.Unread.{Reading, head_part, piece}
use Rattle.law_meaning.specs.Walks.{Step}
use Rattle.vm_host.specs.declared.slots.Vms.{Vms}
use Rattle.worker_model.specs.Steps.{Both}
use Rattle.worker_model.specs.declared.types.Asked.{Asked}
use Rattle.worker_model.specs.declared.types.ReadBatch.{ReadBatch}
use Rattle.law_filters.specs.Every.{Begins, IsBarred, WasPassedOver}
use Rattle.law_filters.specs.Heads.{IsAskedOn}

-- Each field says what one of the definitions gives for these configurations, steps and exchanges.
pub record EveryExamples : Type 0 where
  -- the head of a request that a client's reader hands on begins an exchange; a piece of a body does not, nor does what comes from a server
  pub begins : (n : ℕ) (head : Head) (left : Reading) (before after : Both Vms) (batch : List ChainItem) → before.room.reading ≡ Some (record { line = n; up = false; batch = batch })
      → Begins n head (record { before = before; met = heard (hands (head_part head) left) ∷ []; after = after })
  pub piece_begins_none : (n : ℕ) (head : Head) (left : Reading) (bytes : List ℕ) (last : Bool) (s : Step Vms) → s.met ≡ heard (hands (piece bytes last) left) ∷ [] → Begins n head s → ⊥
  pub server_begins_none : (n : ℕ) (head : Head) (r : ReadBatch) (s : Step Vms) → s.before.room.reading ≡ Some r → r.up ≡ true → Begins n head s → ⊥
  -- what fails closed is not passed over
  pub closed : (entry : PluginEntry) (from : Both Vms) (steps : List (Step Vms)) → entry.fail_open ≡ false → WasPassedOver entry from steps → ⊥
  -- who was asked a piece of the body was not asked the head
  pub body : (n vm context : ℕ) (a : Asked) → a.ask.kind ≡ kinds.Piece → IsAskedOn n vm context (Some a) → ⊥
  -- an exchange that runs and was neither answered nor refused is not barred; one that is refused before any filter sees it is
  pub running : (x : Exchange) → x.has_ended ≡ false → x.is_answered ≡ false → x.refusal ≡ None → IsBarred x → ⊥
  pub refused : (x : Exchange) → x.refusal ≡ Some 503 → x.is_entered ≡ false → x.request ≡ [] → IsBarred x
