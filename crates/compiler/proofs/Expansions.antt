-- Expanded circuits, part by part, and how long and how costly they are.
use Rattle.std.proofs.Common.{◌≡◌, ℕ, ◌+◌, ◌*◌, ◌<◌, ◌≤◌, List, [], ◌∷◌, ◌++◌, length, get_or, take, sym, refl, ap, ◌∙◌, append_assoc, append-nil, add_assoc, zero-add, arith, length-append}
use Rattle.std.proofs.lemmas.List.{take_more}
use Rattle.circuit.specs.declared.gate.Gate.{Gate}
use Rattle.circuit.specs.declared.gate.Gate.TheVariants.{Phase, Hadamard, Not, ControlledNot, Toffoli}
use Rattle.compiler.specs.Emits.{cost, costs}
use Rattle.compiler.specs.Expand.{expansion, expanded}

expanded-append : (gs hs : List Gate) → expanded (gs ++ hs) ≡ expanded gs ++ expanded hs
unfolding expanded
expanded-append [] hs = refl
expanded-append (g ∷ gs) hs = ap (λ (k : List Gate). expansion g ++ k) (expanded-append gs hs) ∙ sym (append_assoc (expansion g) (expanded gs) (expanded hs))

-- one gate more
pub expanded-more : (gs : List Gate) (i : ℕ) (e : Gate) → i < length gs → expanded (take (i + 1) gs) ≡ expanded (take i gs) ++ expansion (get_or gs i e)
unfolding expanded
expanded-more gs i e h = ap expanded (take_more gs i e h) ∙ expanded-append (take i gs) (get_or gs i e ∷ []) ∙ ap (λ (k : List Gate). expanded (take i gs) ++ k) (append-nil (expansion (get_or gs i e)))

pub length-expansion : (g : Gate) → length (expansion g) ≤ 15
length-expansion (Phase m q) = omega arith
length-expansion (Hadamard q) = omega arith
length-expansion (Not q) = omega arith
length-expansion (ControlledNot c q) = omega arith
length-expansion (Toffoli a b c) = omega arith

pub length-expanded : (gs : List Gate) → length (expanded gs) ≤ 15 * length gs
unfolding expanded
length-expanded [] = omega arith
length-expanded (g ∷ gs) = omega (arith, length-append (expansion g) (expanded gs), length-expansion g, length-expanded gs)

pub costs-append : (gs hs : List Gate) → costs (gs ++ hs) ≡ costs gs + costs hs
costs-append [] hs = sym (zero-add (costs hs))
costs-append (g ∷ gs) hs = ap (λ k. cost g + k) (costs-append gs hs) ∙ sym (add_assoc (cost g) (costs gs) (costs hs))

cost-expansion : (g : Gate) → costs (expansion g) ≤ 1068
cost-expansion (Phase m q) = omega arith
cost-expansion (Hadamard q) = omega arith
cost-expansion (Not q) = omega arith
cost-expansion (ControlledNot c q) = omega arith
cost-expansion (Toffoli a b c) = omega arith

pub costs-expanded : (gs : List Gate) → costs (expanded gs) ≤ 1068 * length gs
unfolding expanded
costs-expanded [] = omega arith
costs-expanded (g ∷ gs) = omega (arith, costs-append (expansion g) (expanded gs), cost-expansion g, costs-expanded gs)
