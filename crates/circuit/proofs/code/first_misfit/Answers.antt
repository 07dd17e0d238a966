use Rattle.std.proofs.Common.{not, ◌∙◌, rules, tests}
use Rattle.std.proofs.lemmas.Iterator.{YieldsList-from_slice}
use Rattle.std.proofs.lemmas.Iterator.Adapters.{position_from-zero}
use Rattle.std.proofs.lemmas.Iterator.Search.{position_from_yields_List}
use Rattle.circuit.proofs.Codes.{misfit_position}
use Rattle.circuit.proofs.code.first_misfit.Goals as goal
use Rattle.circuit.specs.Circuit.{fits}

pub returns : goal.returns
returns c =
    let gs = c.args.gates.now in
    let n = c.args.qubits in
    position_from_yields_List (λ g. not (fits n g)) _ _ c.position.result c.position.ensures.ran (YieldsList-from_slice gs cc) (λ g b q k. search (rules, tests))
    ∙ (position_from-zero (λ g. not (fits n g)) gs ∙ misfit_position n 0 gs)
