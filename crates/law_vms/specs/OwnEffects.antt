-- What a callback writes into the log, and what it asks of its worker.
use Rattle.std.specs.Prelude.{◌≡◌, ◌≢◌, ◌≤◌, ℕ, Bool, true, false, List, ◌++◌, All, length, Option, Some}
use Rattle.std.specs.Option.{option_map}
use Rattle.abi_services.specs.Logging.{text_limit}
use Rattle.contexts.specs.declared.parts.Context.{Context}
use Rattle.contexts.specs.declared.parts.Contexts.{Contexts}
use Rattle.contexts.specs.declared.parts.Effect.{Effect}
use Rattle.contexts.specs.declared.parts.EffectKind.{EffectKind}
use Rattle.contexts.specs.declared.parts.EffectKind.TheVariants as what
use Rattle.contexts.specs.declared.parts.ExchangeEntry.{ExchangeEntry}
use Rattle.contexts.specs.Reached.{level_no, context_in, exchange_at}
use Rattle.filter_host.specs.Called.{Called}
use Rattle.filter_host.specs.declared.host.Callback.{Callback}
use Rattle.gate_io.specs.declared.event.Sent.{Sent}
use Rattle.gate_io.specs.declared.event.Sent.TheVariants as sent
use Rattle.vm_host.specs.declared.slots.Vms.{Vms}
use Rattle.vm_host.specs.Slots.{calling}
use Rattle.law_vms.specs.Apart.{AllEnds}
use Rattle.law_vms.specs.OwnChanges.{ArePlaced}

-- A line for the log, not below the level of this number, and no longer than a line may be. Nothing else is sent.
abbrev pub IsLine : (least : ℕ) → Sent → Type 0
IsLine least (sent.Connect line) = ⊥
IsLine least (sent.Bytes line side bytes) = ⊥
IsLine least (sent.Close line side) = ⊥
IsLine least (sent.Log level text) = (least ≤ level_no level) × (length text ≤ text_limit)

-- a context of an exchange; or, where lines are streams of bytes, one whose root is another
abbrev pub IsOnLine : (is_tcp : Bool) → (id : ℕ) → Context → Type 0
IsOnLine false id c = (n : ℕ) × (c.exchange ≡ Some n)
IsOnLine true id c = c.root ≢ id

-- What a context may ask for: that of a line all, and any one a callout, whose request names it and its VM, so that it is told what comes back.
abbrev pub IsAskOf : Contexts → (vm id : ℕ) → Context → EffectKind → Type 0
IsAskOf h vm id c (what.Continue is_response) = IsOnLine h.is_tcp id c
IsAskOf h vm id c what.Close = IsOnLine h.is_tcp id c
IsAskOf h vm id c (what.Answer status fields body) = IsOnLine h.is_tcp id c
IsAskOf h vm id c (what.Call q) = (q.vm ≡ vm) × (q.context ≡ id)

-- an effect of a context of that VM
abbrev pub IsEffectOf : Contexts → (vm : ℕ) → Effect → Type 0
IsEffectOf h vm e = (c : Context) × (context_in h vm e.context ≡ Some c) × IsAskOf h vm e.context c e.what

-- some more after those that were there, each of which is so
abbrev pub GrowsBy : {A : Type 0} → (A → Type 0) → (old new : List A) → Type 0
GrowsBy P old new = (more : List _) × (new ≡ old ++ more) × All P more

-- whether an exchange was answered, has ended, and its response head is out
abbrev pub marks_of : ExchangeEntry → Bool × Bool × Bool
marks_of x = (x.view.is_answered, x.view.has_ended, x.view.is_head_out)

abbrev pub marks_at : Contexts → (n : ℕ) → Option (Bool × Bool × Bool)
marks_at h n = option_map marks_of (exchange_at h.exchanges n)

-- What a callback sends are lines for the log. What it asks its worker to do stands after what was asked before, each of it for a context of
-- its own VM; and by itself it answers no exchange and ends none.
pub record AsksForItsOwn (vm : ℕ) (before : Contexts) (c : Called Vms) : Type 0 where
  pub lines : All (IsLine (level_no before.level)) c.lines
  pub effects : GrowsBy (IsEffectOf before vm) before.effects c.contexts.effects
  pub marks : (n : ℕ) → marks_at c.contexts n ≡ marks_at before n

-- NO CALLBACK ASKS FOR ANOTHER VM
abbrev pub EffectsAreOwn : Type 0
EffectsAreOwn =
    (v : Vms) (vm : ℕ) (name : Callback) (context first second now : ℕ) (contexts : Contexts) → ArePlaced v
    → AllEnds (AsksForItsOwn vm contexts) (calling v vm name context first second now contexts)
