use Rattle.std.proofs.Common.{◌≡◌, ◌==◌, sym, ◌∙◌, rules}
use Rattle.std.specs.List.{count_by}
use Rattle.circuit.proofs.Codes.{mixes_count}
use Rattle.circuit.proofs.code.count_mixes.Goals as goal
use Rattle.circuit.specs.Circuit.{mixed}
use Rattle.circuit.specs.declared.gate.Gate.{Gate}

pub returns : goal.returns
returns c =
    let count : c.count.result ≡ count_by (λ (g : Gate). mixed g == 1) c.args.gates.now = search rules in
    count ∙ sym (mixes_count c.args.gates.now)
