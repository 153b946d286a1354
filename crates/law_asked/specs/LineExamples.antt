-- A worked example: the head of a request on its way up through an exchange with four filters.
use Rattle.std.specs.Prelude.{◌≡◌, false, List, [], ◌∷◌, ◌++◌, None, Some, slice_get}
use Rattle.exchange.specs.Examples as exchange
use Rattle.filter_chain.specs.declared.item.Held.TheVariants as held
use Rattle.filter_chain.specs.declared.item.ChainItem.TheVariants.{Head}
use Rattle.filter_chain.specs.Examples.{idle}
use Rattle.gate_io.specs.declared.event.Sent.TheVariants.{Connect}
use Rattle.law_body.specs.Deeds.{Deed, comes, calls, answers, resumes, Running, standing_of, done_all, left_by}
use Rattle.law_asked.specs.Asked.{asked_of, gone_of, AreUnused}
use Rattle.law_asked.specs.Directions.{all_acts, AllMayBe}

-- line 1, with an exchange whose request has four stages, of contexts 2 to 5 of VM 0
abbrev pub start : Running
start = record {
  due = None;
  exchange = record (exchange.uploading held.Nothing) { request = idle 2 ∷ idle 3 ∷ idle 4 ∷ idle 5 ∷ [] };
  hub = exchange.hub_of exchange.host;
}

-- a callback comes and answers Continue, or else Pause
abbrev pub goes : List Deed
goes = calls start.hub ∷ answers 0 ∷ []

abbrev pub holds : List Deed
holds = calls start.hub ∷ answers 1 ∷ []

-- the second filter holds the head, and is resumed later
abbrev pub second_holds : List Deed
second_holds = comes (Head false) ∷ goes ++ holds

abbrev pub three_go : List Deed
three_go = second_holds ++ resumes 0 3 ∷ goes

abbrev pub all_go : List Deed
all_go = three_go ++ goes

pub record LineExample : Type 0 where
  pub unused : AreUnused start.exchange.request
  pub may : AllMayBe false 1 all_go start
  -- while the second holds it the third is not asked, and no connection is opened; nor is it while the fourth is still to be asked
  pub held_asked : asked_of 1 (all_acts false 1 second_holds start) (standing_of false start) ≡ Head false ∷ []
  pub held_next : asked_of 2 (all_acts false 1 second_holds start) (standing_of false start) ≡ []
  pub held_sent : (done_all false 1 second_holds start).hub.sent ≡ []
  pub three_sent : (done_all false 1 three_go start).hub.sent ≡ []
  -- once all have let it go on it goes up, with a connection
  pub all_asked : asked_of 3 (all_acts false 1 all_go start) (standing_of false start) ≡ Head false ∷ []
  pub all_let : gone_of 1 (all_acts false 1 all_go start) (standing_of false start) ≡ Head false ∷ []
  pub all_left : left_by false 1 all_go start ≡ Head false ∷ []
  pub all_sent : slice_get (done_all false 1 all_go start).hub.sent 0 ≡ Some (Connect 1)
