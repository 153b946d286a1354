-- The configuration may be shared by threads: each part of it may.
use Rattle.std.proofs.Crossing.{crosses}
use denote.Param.Send.{IsSync, sendable}
use Rattle.std.proofs.option.Option.TheSendSync as option
use Rattle.std.proofs.alloc.Global.TheSendSync as heap
use Rattle.slab.proofs.Slab.TheSendSync as slab
use Rattle.matchit.proofs.route.Route.TheSendSync as matched
use Rattle.matchit.proofs.tree.Node.TheLaws.TheKnot as knot
use Rattle.gate_base.proofs.level.Level.TheSendSync as level
use Rattle.gate_base.proofs.members.Members.TheSendSync as members
use Rattle.gate_base.proofs.text.Text.TheSendSync as text
use Rattle.gate_config.proofs.entries.PluginEntry.TheSendSync as plugin
use Rattle.gate_config.proofs.entries.RouteEntry.TheSendSync as route
use Rattle.gate_config.proofs.entries.VmEntry.TheSendSync as vm
use Rattle.gate_config.specs.contracts.config.Config as Config

pub config_sync : IsSync Config.the_row
config_sync =
    search (sendable, crosses, level.the_field_sync, text.the_sync, members.the_sync, vm.the_sync, plugin.the_sync, route.the_sync, option.the_sync, option.the_field_sync, heap.the_sync, heap.the_field_sync, slab.the_sync, matched.the_sync, knot.sync-Node) depth 40 fits 4000
