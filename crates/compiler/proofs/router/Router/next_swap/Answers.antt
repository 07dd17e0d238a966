use Rattle.std.proofs.Common.{ℕ, sym, ◌∙◌, subst, ap₂}
use Rattle.device.specs.Board.{graph_of}
use Rattle.device.specs.Distances.{onward}
use Rattle.compiler.specs.Swaps.{Affordable}
use Rattle.compiler.proofs.Nearing.{straight_affordable}
use Rattle.compiler.proofs.router.Router.next_swap.Goals as goal

pub returns-in_default : goal.returns-in_default
returns-in_default g c =
    let router = c.args.self.now in
    let d = graph_of router.device.now in
    subst (λ (x : ℕ). Affordable d router.ways c.args.a c.args.b c.args.made x c.args.b) (sym (c.toward.ensures.value ∙ ap₂ (onward router.ways) c.from.ensures c.from-in_default.ensures))
    (straight_affordable d router.ways router.joined router.grown c.args.a c.args.b c.args.made c.requires.inside c.requires.far c.requires.enough)
