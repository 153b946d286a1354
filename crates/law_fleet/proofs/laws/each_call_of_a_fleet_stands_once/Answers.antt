use Rattle.law_fleet.proofs.Calls.{each_once}
use Rattle.law_fleet.proofs.laws.each_call_of_a_fleet_stands_once.Goals as goal

pub returns : goal.returns
returns g c =
    each_once g.W.World.trace g.W.World.nature g.W.World.faults g.H.Host.calling
    c.seats_go_on_by_lives.ensures c.all_lives_are_meant.ensures c.each_vm_has_one_history.ensures.one c.each_call_and_definition_stands_once.ensures.calls c.each_call_and_definition_stands_once.ensures.definitions
