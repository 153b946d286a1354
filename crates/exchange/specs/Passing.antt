-- What becomes of an exchange: items come to its chains, stages go on, its filters' machines die, it is refused.
use Rattle.std.specs.List.{list_any}
use Rattle.std.specs.Prelude.{ℕ, zero, suc, ◌==◌, Bool, true, false, not, ◌&&◌, ◌||◌, List, [], ◌∷◌, length, slice_get, Option, None, Some, position, if◌then◌else◌}
use Rattle.contexts.specs.declared.parts.Contexts.{Contexts}
use Rattle.filter_chain.specs.declared.stage.Stage.{Stage}
use Rattle.filter_chain.specs.declared.item.ChainItem.{ChainItem}
use Rattle.filter_chain.specs.declared.item.PassOutcome.{PassOutcome}
use Rattle.filter_chain.specs.declared.item.PassOutcome.TheVariants as passed
use Rattle.filter_chain.specs.Chains.{put, continued, let_through, paused}
use Rattle.exchange.specs.declared.types.Exchange.{Exchange}
use Rattle.exchange.specs.declared.types.Filter.{Filter}
use Rattle.exchange.specs.declared.types.Hub.{Hub}
use Rattle.exchange.specs.Heads.{closes_line, passes_filters}
use Rattle.exchange.specs.Leaving.{send_items, is_due}
use Rattle.exchange.specs.Answering.{cut_off, answer_directly, with_held, finish_response_put, with_closes, answer}

abbrev pub chain_of : Bool → Exchange → List Stage
chain_of false x = x.request
chain_of true x = x.response

abbrev pub with_chain : Bool → List Stage → Exchange → Exchange
with_chain false stages x = record x { request = stages }
with_chain true stages x = record x { response = stages }

-- ---- what comes of passing items on: too much is 413 in the chain of the request, 500 in that of the response

abbrev pub finish_put : Bool → ℕ → PassOutcome → Exchange → Hub → Exchange × Hub
finish_put false n passed.Over x hub = answer n true 413 [] [] x hub
finish_put false n (passed.Left items) x hub = send_items false n items (x, hub)
finish_put true n p x hub = finish_response_put n p x hub

-- the stages and the contexts, which have what is held, are this then
abbrev pub take_move : Bool → ℕ → Exchange → Hub → PassOutcome × List Stage × Contexts → Exchange × Hub
take_move response n x hub (p, stages, held) = finish_put response n p (with_chain response stages x) (with_held held hub)

abbrev pub take_put : Bool → ℕ → Exchange → Hub → PassOutcome × List Stage → Exchange × Hub
take_put response n x hub (p, stages) = finish_put response n p (with_chain response stages x) hub

-- ---- on an exchange that has not ended

-- Nothing comes to a chain any more: the exchange has ended, or the chain is that of the request, and it was answered. The stages of the
-- request are gone then, so an item would go up past all filters.
abbrev pub takes_nothing : Bool → Exchange → Bool
takes_nothing response x = x.has_ended || (not response && x.is_answered)

-- AN ITEM COMES to a chain. (One item may be too much, and is answered; those after it are dropped.)
abbrev pub put_to_chain : Bool → ℕ → ChainItem → Exchange × Hub → Exchange × Hub
put_to_chain response n item (x, hub) = if takes_nothing response x then (x, hub) else take_put response n x hub (put hub.contexts item (chain_of response x))

abbrev pub put_all_to_chain : Bool → ℕ → List ChainItem → Exchange × Hub → Exchange × Hub
put_all_to_chain response n [] xh = xh
put_all_to_chain response n (item ∷ items) xh = put_all_to_chain response n items (put_to_chain response n item xh)

-- WHAT A STAGE HOLDS GOES ON
abbrev pub resume_held : Bool → ℕ → ℕ → Exchange → Hub → Exchange × Hub
resume_held response n k x hub = if x.has_ended then (x, hub) else take_move response n x hub (continued hub.contexts k (chain_of response x))

-- A STAGE IS LET THROUGH
abbrev pub bypass : Bool → ℕ → ℕ → Exchange → Hub → Exchange × Hub
bypass response n k x hub = if x.has_ended then (x, hub) else take_move response n x hub (let_through hub.contexts k (chain_of response x))

-- what was read comes to a chain, unless the exchange was answered
abbrev pub put_read_items : Bool → List ChainItem → ℕ → Exchange → Hub → Exchange × Hub
put_read_items response items n x hub = if x.is_answered then (x, hub) else put_all_to_chain response n items (x, hub)

-- ---- what callbacks do

-- the place of the stage of a context of a VM
abbrev pub stage_of : ℕ → ℕ → List Stage → Option ℕ
stage_of vm context stages = position (λ (s : Stage). s.vm == vm && s.context == context) stages

abbrev pub resume_place : Bool → ℕ → Option ℕ → Exchange → Hub → Exchange × Hub
resume_place response n None x hub = (x, hub)
resume_place response n (Some k) x hub = resume_held response n k x hub

-- the stage of a context goes on
abbrev pub resume_context : ℕ → ℕ → Bool → ℕ → Exchange → Hub → Exchange × Hub
resume_context vm context response n x hub = resume_place response n (stage_of vm context (chain_of response x)) x hub

-- both connections are closed
abbrev pub close_exchange : ℕ → Exchange → Hub → Exchange × Hub
close_exchange n x hub = if x.has_ended then (x, hub) else cut_off x hub

-- the body callback of a stage has returned
abbrev pub pause_held : Bool → ℕ → Exchange → Hub → Hub
pause_held response k x hub = with_held (paused hub.contexts k (chain_of response x)) hub

-- The action of a callback of a stage is put in force: 0 is Continue. (Where the effects of the callback answered or ended the exchange, that
-- does nothing: a stage of the request is there no more, and one of the response had nothing to do yet.)
abbrev pub apply_action : Bool → ℕ → ℕ → ℕ → Exchange → Hub → Exchange × Hub
apply_action response k value n x hub = if value == 0 then resume_held response n k x (pause_held response k x hub) else (x, pause_held response k x hub)

-- ---- the death of a machine

abbrev pub has_stage_of : ℕ → ℕ → List Stage → Bool
has_stage_of vm context stages = list_any (λ (s : Stage). s.vm == vm && s.context == context) stages

-- the exchange has a stage of this filter, or will have one
abbrev pub is_there : Exchange → Filter → Bool
is_there x f =
    (has_stage_of f.vm f.context x.request || has_stage_of f.vm f.context x.response)
    || (not x.is_entered && not x.is_answered)

abbrev pub fails_closed : ℕ → Exchange → Bool
fails_closed vm x = list_any (λ (f : Filter). (f.vm == vm && not f.fails_open) && is_there x f) x.filters

abbrev pub bypass_vm_at : Bool → ℕ → ℕ → ℕ → Option Stage → Exchange → Hub → Exchange × Hub
bypass_vm_at response vm n k None x hub = (x, hub)
bypass_vm_at response vm n k (Some s) x hub = if s.vm == vm then bypass response n k x hub else (x, hub)

-- the stages of a VM among the first so many are let through, the one nearest to the exit first
abbrev pub bypass_vm_stages : Bool → ℕ → ℕ → ℕ → Exchange × Hub → Exchange × Hub
bypass_vm_stages response vm n zero xh = xh
bypass_vm_stages response vm n (suc k) (x, hub) = bypass_vm_stages response vm n k (bypass_vm_at response vm n k (slice_get (chain_of response x) k) x hub)

abbrev pub bypass_vm_response : ℕ → ℕ → Exchange × Hub → Exchange × Hub
bypass_vm_response vm n (x, hub) = bypass_vm_stages true vm n (length x.response) (x, hub)

-- those of the request first
abbrev pub bypass_vm : ℕ → ℕ → Exchange → Hub → Exchange × Hub
bypass_vm vm n x hub = bypass_vm_response vm n (bypass_vm_stages false vm n (length x.request) (x, hub))

-- A VM DIED: the exchange is answered 503, or its stages are let through
abbrev pub lose_vm : ℕ → ℕ → Exchange → Hub → Exchange × Hub
lose_vm vm n x hub =
    if x.has_ended then (x, hub)
    else if fails_closed vm x then answer_directly n 503 [] [] x hub
    else bypass_vm vm n x hub

-- ---- fixed answers

-- WHAT WAS READ IS REFUSED, no route takes it, or a VM of its route is dead
abbrev pub refuse_exchange : ℕ → ℕ → Exchange → Hub → Exchange × Hub
refuse_exchange status n x hub =
    if x.has_ended || x.is_answered then (x, hub)
    else if passes_filters status then answer n (closes_line status) status [] [] x hub
    else answer_directly n status [] [] (with_closes (closes_line status) x) hub

-- THE HEAD OF THE RESPONSE WAS DUE
abbrev pub expire_exchange : ℕ → Exchange → Hub → Exchange × Hub
expire_exchange n x hub = if is_due hub.moment x then answer n false 504 [] [] x hub else (x, hub)
