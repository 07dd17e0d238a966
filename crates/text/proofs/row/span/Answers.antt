use Rattle.std.proofs.Common.{◌+◌, unwrap_or, ap, ◌∙◌, rules}
use Rattle.std.proofs.lemmas.Iterator.{YieldsList-from_slice, YieldsList-from_map}
use Rattle.std.proofs.lemmas.Iterator.Consumers.{reduce_from_yields_List}
use Rattle.text.proofs.Rows.{span-is}
use Rattle.text.proofs.row.span.Goals as goal

pub returns : goal.returns
returns c =
    c.unwrap_or.ensures
    ∙ ap (λ o. unwrap_or o 0) (reduce_from_yields_List _ c.map.result _ c.max.ensures.ran (YieldsList-from_map _ (λ q. q + 1) (YieldsList-from_slice c.args.qubits.now cc) c.map.ensures.closure (λ x r q k. search rules)))
    ∙ span-is c.args.qubits.now
