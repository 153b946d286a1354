-- BODIES PASS THROUGH EXCHANGES.
use Rattle.std.specs.Prelude.{◌≡◌, ◌<◌, ℕ, suc, Bool, List, ◌++◌, length}
use Rattle.exchange.specs.Passing.{chain_of}
use Rattle.filter_chain.specs.Items.{item_bytes}
use Rattle.law_chain.specs.Acts.{behind}
use Rattle.law_body.specs.Deeds.{Deed, Running, standing_of, done_all, left_by, items_put, buffers_by, AreDeeds, AreWritten}
use Rattle.law_chain.specs.PassThrough.{bare_all, bare_in, Thinner, IsInOrder, IsNew, PassesThrough}
use Rattle.law_chain.specs.Sound.{IsSound}

-- What left by deeds and what is after the cut then is what was after it, and what was to pass it; what left and what is in the chain then is what was in it
-- and what came, in order.
pub record GoesOn (response : Bool) (n count : ℕ) (deeds : List Deed) (w : Running) (whole : List ℕ) : Type 0 where
  pub bytes : item_bytes (left_by response n deeds w) ++ behind count (standing_of response (done_all response n deeds w)) ≡ behind count (standing_of response w) ++ whole
  pub order : Thinner (bare_in (chain_of response w.exchange) ++ bare_all (items_put deeds)) (bare_all (left_by response n deeds w) ++ bare_in (chain_of response (done_all response n deeds w).exchange))
  pub sound : IsSound count (standing_of response (done_all response n deeds w))

-- THE PASSED BYTES OF A DIRECTION of an exchange on a line, whatever happens to the exchange while it runs and is not answered, where callbacks for
-- bodies and trailers of the direction answer Continue. Where the last stage with a body callback stands at this place, and callbacks leave the buffers of
-- the stages after it as they were, what passed is what the body callbacks of that stage left, joined; where callbacks leave all buffers of its stages as
-- they were, it is what was read. A stage whose VM died is let through, with what it held and what waited at it. And the exchange writes what leaves the
-- chain, each item of it. From any state between deeds the law goes on, so also where the last stage with a body callback was let through.
pub record ExchangesPassBodies : Type 0 where
  pub last_stage : (response : Bool) (n k : ℕ) (w : Running) (deeds : List Deed) → IsNew (standing_of response w) → k < length (chain_of response w.exchange)
      → AreDeeds response n (suc k) deeds w → IsInOrder (items_put deeds)
      → PassesThrough (items_put deeds) (buffers_by response n k deeds w) (left_by response n deeds w) (behind (suc k) (standing_of response (done_all response n deeds w)))
      (chain_of response (done_all response n deeds w).exchange)
  pub unchanged : (response : Bool) (n : ℕ) (w : Running) (deeds : List Deed) → IsNew (standing_of response w) → AreDeeds response n 0 deeds w → IsInOrder (items_put deeds)
      → PassesThrough (items_put deeds) (item_bytes (items_put deeds)) (left_by response n deeds w) (behind 0 (standing_of response (done_all response n deeds w)))
      (chain_of response (done_all response n deeds w).exchange)
  pub last_goes_on : (response : Bool) (n k : ℕ) (w : Running) (deeds : List Deed) → IsSound (suc k) (standing_of response w) → AreDeeds response n (suc k) deeds w
      → GoesOn response n (suc k) deeds w (buffers_by response n k deeds w)
  pub unchanged_goes_on : (response : Bool) (n : ℕ) (w : Running) (deeds : List Deed) → IsSound 0 (standing_of response w) → AreDeeds response n 0 deeds w
      → GoesOn response n 0 deeds w (item_bytes (items_put deeds))
  pub written : (response : Bool) (n count : ℕ) (w : Running) (deeds : List Deed) → IsSound count (standing_of response w) → AreDeeds response n count deeds w
      → IsInOrder (bare_in (chain_of response w.exchange) ++ bare_all (items_put deeds)) → AreWritten response n deeds w
