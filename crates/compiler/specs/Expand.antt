-- A Toffoli by fifteen gates that a device can do.
use Rattle.std.specs.Prelude.{◌≡◌, ℕ, List, [], ◌∷◌, ◌++◌}
use Rattle.circuit.specs.declared.gate.Gate.{Gate}
use Rattle.circuit.specs.declared.gate.Gate.TheVariants.{Phase, Hadamard, Not, ControlledNot, Toffoli}
use Rattle.circuit.specs.Circuit.{t_count, Fit, AllFit, AlikeBy}
use Rattle.compiler.specs.Route.{AllPlain}

abbrev pub fifteen : ℕ → ℕ → ℕ → List Gate
fifteen a b c =
    Hadamard c ∷ (ControlledNot b c ∷ (Phase 7 c ∷ (ControlledNot a c ∷ (Phase 1 c ∷ (ControlledNot b c ∷ (Phase 7 c ∷ (ControlledNot a c ∷
    (Phase 1 b ∷ (Phase 1 c ∷ (Hadamard c ∷ (ControlledNot a b ∷ (Phase 1 a ∷ (Phase 7 b ∷ (ControlledNot a b ∷ []))))))))))))))

-- each Toffoli by its fifteen gates, the others as they are
abbrev pub expansion : Gate → List Gate
expansion (Phase m q) = Phase m q ∷ []
expansion (Hadamard q) = Hadamard q ∷ []
expansion (Not q) = Not q ∷ []
expansion (ControlledNot c q) = ControlledNot c q ∷ []
expansion (Toffoli a b c) = fifteen a b c

unfoldable pub expanded : List Gate → List Gate
expanded [] = []
expanded (g ∷ gs) = expansion g ++ expanded gs

-- the fifteen do what the one does, with two Hadamards more
abbrev pub FifteenDoes : Type 0
FifteenDoes = (n a b c : ℕ) → Fit n (Toffoli a b c) → AlikeBy (fifteen a b c) (Toffoli a b c ∷ []) 0

-- an expanded circuit does what the circuit does, on the same qubits and with as many T gates, and has no Toffoli
pub record Expansion (n : ℕ) (gs : List Gate) : Type 0 where
  pub same : AlikeBy (expanded gs) gs 0
  pub fit : AllFit n (expanded gs)
  pub turns : t_count (expanded gs) ≡ t_count gs
  pub plain : AllPlain (expanded gs)

abbrev pub ExpandedSame : Type 0
ExpandedSame = (n : ℕ) (gs : List Gate) → AllFit n gs → Expansion n gs

-- without Toffolis it is the circuit
abbrev pub ExpandedPlain : Type 0
ExpandedPlain = (gs : List Gate) → AllPlain gs → expanded gs ≡ gs
