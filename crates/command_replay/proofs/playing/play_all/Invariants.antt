use Rattle.std.proofs.Common.{◌≡◌, ◌≤◌, List, length}
use Rattle.gate_config.specs.declared.config.Config.{Config}
use Rattle.replay_script.specs.declared.command.Command.{Command}
use Rattle.replay_script.specs.Scripts.{workers_of}
use Rattle.command_replay.specs.Replay.{CanTurn, IsReady, setup_of}
use Rattle.command_replay.proofs.Progresses.{Far}
use Rattle.command_replay.proofs.playing.play_all.Given as goal

abbrev pub invariant-turns : goal.invariant-turns
invariant-turns g l = record {
  can_turn : CanTurn g.H.Host.needs l.crew.workers l.crew.shared;
  count : length l.crew.workers ≡ length l.fn.crew.workers;
  far : (config : Config) (host : g.row.H.Denot) (commands : List Command)
      → IsReady (setup_of g.H.Host.calling g.H.Host.exported g.H.Host.registering config host) commands l.fn.crew.workers l.fn.crew.world l.fn.crew.shared l.fn.crew.last
      → l.whose ≡ workers_of commands
      → Far (setup_of g.H.Host.calling g.H.Host.exported g.H.Host.registering config host) commands l.who-index l.crew.workers l.crew.world l.crew.shared l.crew.last (g.O.Sink.taken l.fn.out) (g.O.Sink.taken l.out)
      l.pending;
  faults : g.O.Sink.faults l.fn.out ≤ g.O.Sink.faults l.out;
}
