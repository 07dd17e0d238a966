use Rattle.std.proofs.Common.{◌≡◌, sym, subst, rules, tests}
use Rattle.device.specs.Distances.{Nearer, onward}
use Rattle.device.proofs.Distant.{nearer}
use Rattle.device.proofs.ways.Ways.toward.Goals as goal

pub returns-clause-nearer : goal.returns-clause-nearer
returns-clause-nearer c =
    let w = c.args.self.now in
    let e : c.map_or.result ≡ onward w c.args.a c.args.b = search (rules, tests) in
    λ d all z u. subst (Nearer d w c.args.a c.args.b) (sym e) (nearer d w all c.args.a c.args.b z u)
