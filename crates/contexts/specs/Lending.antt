-- What contexts end as, of which a part is lent to be written.
use Rattle.std.specs.Prelude.{ℕ, Bool, true, false, Option, Some, slice_set}
use Rattle.std.specs.Option.{option_map}
use Rattle.std.specs.Borrow.{Lends, LendsIf, MutBor, Fml}
use Rattle.contexts.specs.declared.parts.StageBuffer.{StageBuffer}
use Rattle.contexts.specs.declared.parts.Own.{Own}
use Rattle.contexts.specs.declared.parts.ExchangeView.{ExchangeView}
use Rattle.contexts.specs.declared.parts.Contexts.{Contexts}
use Rattle.contexts.specs.contracts.parts.Contexts as contexts
use Rattle.contexts.specs.contracts.parts.Own as own
use Rattle.contexts.specs.contracts.parts.StageBuffer as stage
use Rattle.contexts.specs.contracts.parts.ExchangeView as view
use Rattle.contexts.specs.Reached.{no_changes, put, put_of, exchange_at, with_view}

-- that context has for itself what is written
abbrev pub own_put_of : Contexts → (vm e : ℕ) → Own → Contexts
own_put_of h vm e w = put_of (record no_changes { own = Some w }) vm e h

-- the same of the effective context
abbrev pub own_put : Contexts → ℕ → Own → Contexts
own_put h vm w = put (record no_changes { own = Some w }) vm h

-- the exchange of the effective context has what is written
abbrev pub exchange_put : Contexts → ℕ → ExchangeView → Contexts
exchange_put h vm w = put (record no_changes { exchange = Some w }) vm h

-- the exchange at a place has what is written
abbrev pub exchange_put_at : Contexts → (place : ℕ) → ExchangeView → Contexts
exchange_put_at h place w = record h { exchanges = slice_set h.exchanges place (option_map (with_view w) (exchange_at h.exchanges place)) }

abbrev pub LendsOwnOf : MutBor Contexts → (vm e : ℕ) → Option (MutBor Own) → Fml
LendsOwnOf h vm e r = LendsIf contexts.the_row own.the_row h r (own_put_of h.now vm e) h.now

abbrev pub LendsOwn : MutBor Contexts → ℕ → Option (MutBor Own) → Fml
LendsOwn h vm r = LendsIf contexts.the_row own.the_row h r (own_put h.now vm) h.now

abbrev pub LendsExchange : MutBor Contexts → ℕ → Option (MutBor ExchangeView) → Fml
LendsExchange h vm r = LendsIf contexts.the_row view.the_row h r (exchange_put h.now vm) h.now

abbrev pub LendsExchangeAt : MutBor Contexts → (place : ℕ) → Option (MutBor ExchangeView) → Fml
LendsExchangeAt h place r = LendsIf contexts.the_row view.the_row h r (exchange_put_at h.now place) h.now

-- the stage of a direction
abbrev pub stage_in : Bool → Own → StageBuffer
stage_in false o = o.request
stage_in true o = o.response

abbrev pub with_stage : Bool → StageBuffer → Own → Own
with_stage false t o = record o { request = t }
with_stage true t o = record o { response = t }

-- what a context has for itself ends with what is written to the stage
abbrev pub LendsStage : MutBor Own → Bool → MutBor StageBuffer → Fml
LendsStage o r t = Lends own.the_row stage.the_row o t (λ w. with_stage r w o.now)
