use Rattle.std.proofs.Common.{◌≡◌, ◌+◌, length, get_or, take, sym, refl, ap, ◌∙◌, ap₂, arith, length-append}
use Rattle.std.proofs.lemmas.List.{take_all, take_at}
use Rattle.circuit.specs.declared.gate.Gate.TheVariants.{Phase}
use Rattle.compiler.specs.Emits.{over}
use Rattle.compiler.specs.Expand.{expanded, expansion}
use Rattle.compiler.proofs.Expansions.{expanded-more, length-expansion}
use Rattle.compiler.proofs.Over.{over-more}
use Rattle.compiler.proofs.decomposition.decompose.Goals as goal

pub loop-gate-init : goal.loop-gate-init
unfolding expanded
loop-gate-init c = (refl, refl, omega arith)

pub loop-gate-preserved : goal.loop-gate-preserved
loop-gate-preserved c =
    let gates = c.args.gates.now in
    let i = c.loop-gate.gate-index in
    let front = expanded (take i gates) in
    let g = get_or gates i (Phase 0 0) in
    let more = expanded-more gates i (Phase 0 0) c.loop-gate-test.true in (
      over-more front (expansion g) c.args.out.now c.loop-gate.out c.expand-count.new.out c.loop-gate.count c.loop-gate.invariant.0 c.loop-gate.invariant.1 c.expand-count.ensures.written ∙ ap (λ z. over z c.args.out.now) (sym more),
      ap₂ ◌+◌ c.loop-gate.invariant.1 c.expand-count.ensures.count ∙ sym (length-append front (expansion g)) ∙ ap length (sym more),
      omega (arith, c.expand-count.ensures.count, length-expansion g),
    )

pub returns : goal.returns
returns c =
    let gates = c.args.gates.now in
    let all : expanded (take c.loop-gate.gate-index gates) ≡ expanded gates = ap expanded (take_all c.loop-gate.gate-index gates c.loop-gate-test.false) in
    record {
      count = c.loop-gate.invariant.1 ∙ ap length all;
      written = ap (take c.loop-gate.count) c.loop-gate.invariant.0 ∙ take_at (expanded (take c.loop-gate.gate-index gates)) _ c.loop-gate.count (sym c.loop-gate.invariant.1) ∙ all;
    }
