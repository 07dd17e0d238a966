use Rattle.std.proofs.Common.{◌≡◌, ℕ, List, ◌++◌, refl, ap, ◌∙◌}
use Rattle.circuit.specs.Code.{code, codes}
use Rattle.circuit.specs.declared.gate.Gate.{Gate}
use Rattle.circuit.specs.declared.gate.Gate.TheVariants.{ControlledNot}
use Rattle.compiler.specs.Route.{swap_gates}
use Rattle.compiler.proofs.Over.{over-more}
use Rattle.compiler.proofs.swap.Swap.write.Goals as goal

with_gate : (g h : Gate) (behind room : List ℕ) → g ≡ h → room ≡ code g ++ behind → room ≡ code h ++ behind
with_gate g h behind room e w = w ∙ ap (λ k. code k ++ behind) e

pub returns : goal.returns
unfolding codes swap_gates
returns c =
    let one = code (ControlledNot c.args.self.x c.args.self.y) in
    let two = code (ControlledNot c.args.self.y c.args.self.x) in
    over-more (one ++ two) one c.args.room.now _ _ 8
    (over-more one two c.args.room.now _ _ 4 (with_gate _ _ _ _ c.cnot.ensures c.write.ensures) refl (with_gate _ _ _ _ c.cnot-2.ensures c.write-2.ensures))
    refl (with_gate _ _ _ _ c.cnot-3.ensures c.write-3.ensures)
