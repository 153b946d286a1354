-- What holds of every exchange without request filters, whatever happens to it.
use Rattle.std.specs.Prelude.{◌≡◌, ℕ, Bool, false, List, [], ◌∷◌, ◌++◌, map, None}
use Rattle.h1_model.specs.Framing.{OutItem}
use Rattle.h1_model.specs.Messages.{head}
use Rattle.h1_write.specs.Lines.{OutRequest, out_items, out_wire, in_items}
use Rattle.h1_write.specs.Requests.{IsReadableRequest}
use Rattle.h1_write.specs.Round.{Suits, stop_behind, IsReadAs}
use Rattle.exchange.specs.declared.types.Exchange.{Exchange}
use Rattle.exchange.specs.declared.types.Hub.{Hub}
use Rattle.exchange.specs.Leaving.{request_framing}
use Rattle.law_exchange.specs.Lives.{Deed, Lives, IsFair, IsKin, done_by, items_by, is_over}
use Rattle.law_exchange.specs.Traffic.{Traffic, opens, byte, up_traffic, traffic, IsFront}

-- what went up of a request, of which these items were read
pub record GoesUpOnce (q : OutRequest) (came : List OutItem) (is_over : Bool) (before after : List Traffic) : Type 0 where
  pub went : List Traffic
  pub adds : after ≡ before ++ went
  -- one connection, and the front of the request's bytes
  pub front : IsFront went (opens ∷ map byte (out_wire q))
  -- Where the exchange was neither answered nor has ended: all that was read, and so all of the request where it was read whole. Of one that has
  -- ended, as each does after its response, the front alone is said.
  pub all : is_over ≡ false → went ≡ traffic q.framing came
  pub whole : is_over ≡ false → came ≡ out_items q → went ≡ opens ∷ map byte (out_wire q)
  -- a reader with room for its head reads its bytes back as that request and nothing else
  pub read_back : (ended : Bool) → IsReadableRequest q.framing q.head → Suits q.framing q.pieces q.ending ended []
      → IsReadAs (out_wire q) ended None head (in_items q) (stop_behind ended None)

-- NO SERVER SEES TWO MESSAGES: whatever happens to an exchange without request filters, and the items that are read in that are a front of one
-- request, framed as the exchange frames it, what goes up in that on its line is a front of one connection and that one request's bytes. What was
-- read and sent before is not spoken of: that an exchange begins with nothing read and nothing sent is no premise here.
abbrev pub OneRequestGoesUp : Type 0
OneRequestGoesUp =
    (n : ℕ) (x y : Exchange) (hub after : Hub) (deeds : List Deed) (came : List OutItem) (q : OutRequest) → x.request ≡ [] → Lives n x hub deeds came y after
    → q.framing ≡ request_framing x → IsFront came (out_items q) → GoesUpOnce q came (is_over y) (up_traffic n hub.sent) (up_traffic n after.sent)

-- NOTHING ELSE GOES UP: what brings no item of the request sends nothing up, and leaves the exchange one without request filters that is framed
-- alike.
pub record IsQuiet (n : ℕ) (x : Exchange) (hub : Hub) (y : Exchange) (after : Hub) : Type 0 where
  pub sends : up_traffic n after.sent ≡ up_traffic n hub.sent
  pub kin : IsKin x y

abbrev pub NothingElseGoesUp : Type 0
NothingElseGoesUp =
    (n : ℕ) (deed : Deed) (x : Exchange) (hub : Hub) → x.request ≡ [] → IsFair n deed x hub → items_by deed x hub ≡ []
    → IsQuiet n x hub (done_by n deed x hub).0 (done_by n deed x hub).1
