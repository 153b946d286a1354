-- Why nothing follows an answer, and no body goes down where none is allowed.
use Rattle.std.proofs.Common.{◌≡◌, ℕ, Bool, true, false, ◌||◌, List, [], ◌∷◌, refl, ap, ◌∙◌}
use Rattle.std.proofs.lemmas.List.{append-nil}
use Rattle.std.specs.Prelude.{if◌then◌else◌}
use Rattle.filter_chain.specs.declared.item.ChainItem.{ChainItem}
use Rattle.filter_chain.specs.Chains.{put}
use Rattle.gate_io.specs.declared.event.Side.TheVariants.{Down}
use Rattle.h1_model.specs.Framing.{Framing, no_body, piece_wire, trailer_wire}
use Rattle.exchange.specs.declared.types.Exchange.{Exchange}
use Rattle.exchange.specs.declared.types.Hub.{Hub}
use Rattle.exchange.specs.Heads.{lacks_body, with_connection}
use Rattle.exchange.specs.Laws.{NoBodyGoesDown}
use Rattle.exchange.specs.Leaving.{out_framing, bytes_sent_to, hub_with_sent, written_framing}
use Rattle.exchange.specs.Maps.{response_trailers}
use Rattle.exchange.specs.Passing.{take_put, put_to_chain, put_all_to_chain, takes_nothing}

-- ---- nothing follows an answer

or_true : (b : Bool) → (b || true) ≡ true
or_true true = refl
or_true false = refl

takes_none : (x : Exchange) → x.is_answered ≡ true → takes_nothing false x ≡ true
takes_none x is = ap (λ b. x.has_ended || b) is ∙ or_true x.has_ended

puts_none : (n : ℕ) (item : ChainItem) (x : Exchange) (hub : Hub) → x.is_answered ≡ true → put_to_chain false n item (x, hub) ≡ (x, hub)
puts_none n item x hub is = ap (λ b. if b then (x, hub) else take_put false n x hub (put hub.contexts item x.request)) (takes_none x is)

pub nothing_follows : (n : ℕ) (items : List ChainItem) (x : Exchange) (hub : Hub) → x.is_answered ≡ true → put_all_to_chain false n items (x, hub) ≡ (x, hub)
nothing_follows n [] x hub is = refl
nothing_follows n (item ∷ items) x hub is = ap (put_all_to_chain false n items) (puts_none n item x hub is) ∙ nothing_follows n items x hub is

-- ---- no body goes down

unwritten : (x : Exchange) → lacks_body x.asked.is_head x.out ≡ true → written_framing x ≡ no_body
unwritten x is = ap (λ b. if b then no_body else out_framing x) is

sends_none : (hub : Hub) → hub_with_sent [] hub ≡ hub
sends_none hub = ap (λ sent. record hub { sent = sent }) (append-nil hub.sent)

pub no_body_down : NoBodyGoesDown
no_body_down = record {
  pieces = λ n bytes end x hub is.
      ap (λ (f : Framing). (record x { has_ended = end }, hub_with_sent (bytes_sent_to n Down (piece_wire f bytes end)) hub)) (unwritten x is)
      ∙ ap (λ (h : Hub). (record x { has_ended = end }, h)) (sends_none hub);
  trailers = λ n x hub is.
      ap (λ (f : Framing). (record x { has_ended = true }, hub_with_sent (bytes_sent_to n Down (trailer_wire f (with_connection x.connection_down (response_trailers x.place hub.contexts).pairs))) hub)) (unwritten x is)
      ∙ ap (λ (h : Hub). (record x { has_ended = true }, h)) (sends_none hub);
}
