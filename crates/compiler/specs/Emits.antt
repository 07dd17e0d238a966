-- What is written into a room, and how much at most.
use Rattle.std.specs.Prelude.{◌≡◌, ℕ, ◌+◌, ◌≤◌, List, [], ◌∷◌, ◌++◌, length, drop}
use Rattle.circuit.specs.declared.gate.Gate.{Gate}
use Rattle.circuit.specs.declared.gate.Gate.TheVariants.{Phase, Hadamard, Not, ControlledNot, Toffoli}
use Rattle.circuit.specs.Code.{codes}
use Rattle.circuit.specs.Circuit.{Fit}
use Rattle.device.specs.Coupling.{Graph}
use Rattle.device.specs.Layout.{Placed, at}
use Rattle.compiler.specs.Route.{Doing, Plain}

-- a list written over the front of another
abbrev pub over : {X : Type 0} → List X → List X → List X
over xs room = xs ++ drop (length xs) room

-- k numbers are written in front, of device gates that do gs, and what lies behind them is as it was
pub record Emitted (n : ℕ) (d : Graph) (p q : ℕ → ℕ) (gs : List Gate) (room room₁ : List ℕ) (k : ℕ) : Type 0 where
  pub ds : List Gate
  pub doing : Doing n d p q gs ds
  pub wrote : room₁ ≡ over (codes ds) room
  pub count : k ≡ length (codes ds)

-- how many numbers a gate takes at most: fourteen swaps and itself, or itself; a Toffoli its fifteen
abbrev pub cost : Gate → ℕ
cost (Phase m q) = 4
cost (Hadamard q) = 4
cost (Not q) = 4
cost (ControlledNot c q) = 172
cost (Toffoli a b c) = 1068

abbrev pub costs : List Gate → ℕ
costs [] = 0
costs (g ∷ gs) = cost g + costs gs

-- a gate that can be brought onto the device: its qubits are laid, it is no Toffoli, and the room is enough
pub record Routable (d : Graph) (place : List ℕ) (g : Gate) (room : List ℕ) : Type 0 where
  pub placed : Placed (length place) d (at place)
  pub plain : Plain g
  pub fits : Fit (length place) g
  pub enough : cost g ≤ length room
