use Rattle.std.proofs.Common.{length}
use Rattle.device.specs.Board.{graph_of}
use Rattle.device.specs.Layout.{at}
use Rattle.compiler.proofs.Costs.{four-cost}
use Rattle.compiler.proofs.Doings.{can-anywhere}
use Rattle.compiler.proofs.Emit.{emit_none}
use Rattle.compiler.proofs.router.Router.make_way.Goals as goal

pub returns-in_default : goal.returns-in_default
returns-in_default g c =
    let place = c.args.place.now in
    let d = graph_of c.args.self.now.device.now in
    record {
      most = four-cost c.args.gate;
      done = emit_none (length place) d (at place) c.args.room.now c.requires.placed;
      can = can-anywhere (length place) d (at place) c.args.gate c.requires.placed c.requires.fits c.requires.plain c.in_default.not-ControlledNot;
    }
