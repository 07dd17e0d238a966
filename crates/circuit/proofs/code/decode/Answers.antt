use Rattle.std.proofs.Common.{◌∙◌, arith}
use Rattle.circuit.proofs.Codes.{decode-all, decode-next, four_gate}
use Rattle.circuit.proofs.code.decode.Goals as goal

pub loop-i-preserved : goal.loop-i-preserved
loop-i-preserved c =
    decode-next c.args.numbers.now c.loop-i.gates c.loop-i.i (omega arith) (omega arith) c.from.result
    (c.from.ensures ∙ four_gate c.args.numbers.now _ c.loop-i.i c.as_chunks.ensures.front (omega (arith, c.as_chunks.ensures.front_len)))
    ∙ c.loop-i.invariant

pub returns : goal.returns
returns c = decode-all c.args.numbers.now c.loop-i.gates c.loop-i.i (omega arith) (omega arith) ∙ c.loop-i.invariant
