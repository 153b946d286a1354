use Rattle.callouts.specs.Callouts.{line_in}
use Rattle.callouts.proofs.Once.{if_ok}
use Rattle.callouts.proofs.Places.{within}
use Rattle.callouts.proofs.UnderWay.{ends_at, still_within}
use Rattle.callouts.proofs.under_way.happen_at.Goals as goal

pub come_through_in-requires : goal.come_through_in-requires
come_through_in-requires c = within (line_in c.args.what.now) c.args.at c.args.calls.now c.requires

pub end_at-requires : goal.end_at-requires
end_at-requires c = still_within c.args.at c.args.calls.now c.come_through_in.new.calls (within (line_in c.args.what.now) c.args.at c.args.calls.now c.requires) c.in_ok-next.ensures

pub returns : goal.returns
returns c =
    if_ok c.end_at.result
    (λ fates ends. ends_at (line_in c.args.what.now) c.args.what.now c.args.at c.in_ok-next.next c.args.calls.now c.come_through_in.new.calls c.end_at.new.calls fates c.requires c.in_ok-next.ensures ends)
    c.end_at.ensures
