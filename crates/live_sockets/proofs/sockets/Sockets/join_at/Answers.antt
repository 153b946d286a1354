use Rattle.std.proofs.Common.{◌<◌, ◌∙◌, Some, length, ap, sym, arith}
use Rattle.live_sockets.proofs.Begun.{stands_at, unused_up}
use Rattle.live_sockets.proofs.sockets.Sockets.join_at.Goals as goal

pub returns : goal.returns
returns g c =
    let lines = c.args.self.now.lines.items in let line = c.index_mut-line.result.now in
    let inside : c.args.at < length lines = let ok = c.args.self.now.lines.ok.0 in let low = c.requires.at in omega arith in
    record {
      connected = record {
        line = line;
        stands = stands_at lines c.args.at line inside ∙ ap Some (sym c.index_mut-line.ensures.value);
        behind = c.join.new.self;
        number = c.join.ensures.number;
        down = c.join.ensures.down;
        fresh = c.join.ensures.fresh;
        refused = c.join.ensures.refused;
        lines = search;
      };
      unused = unused_up g.P.Duplex.gave g.P.Duplex.took c.args.peer c.join.new.self.up c.join.ensures.peer c.requires.unused;
    }
