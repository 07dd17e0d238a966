-- A device's coupling graph: which of its places are joined, and what gates it can do.
use Rattle.std.specs.Prelude.{◌≡◌, ℕ, ◌+◌, ◌*◌, ◌<◌, Bool, true, ◌&&◌, List, [], ◌∷◌, ◌==◌, ◌≢◌, nat_lt, slice_index}
use Rattle.circuit.specs.declared.gate.Gate.{Gate}
use Rattle.circuit.specs.declared.gate.Gate.TheVariants.{Phase, Hadamard, Not, ControlledNot, Toffoli}

pub record Graph : Type 0 where
  pub size : ℕ
  pub joined : ℕ → ℕ → Bool

-- one can go from place to place along wires
pub data Way (d : Graph) (a : ℕ) : ℕ → Type 0 where
  stays : Way d a a
  goes : (b c : ℕ) → Way d a b → c < d.size → d.joined b c ≡ true → Way d a c

-- from any place to any other, and joined the same both ways
pub record Connected (d : Graph) : Type 0 where
  pub way : (a b : ℕ) → a < d.size → b < d.size → Way d a b
  pub even : (a b : ℕ) → a < d.size → b < d.size → d.joined a b ≡ d.joined b a

-- it turns, mixes and flips any qubit, and flips one if another is 1 that it is joined to; nothing else
abbrev pub Can : Graph → Gate → Type 0
Can d (Phase m q) = q < d.size
Can d (Hadamard q) = q < d.size
Can d (Not q) = q < d.size
Can d (ControlledNot c q) = (c < d.size) × (q < d.size) × (c ≢ q) × (d.joined c q ≡ true)
Can d (Toffoli a b q) = ⊥

abbrev pub AllCan : Graph → List Gate → Type 0
AllCan d [] = Unit {0}
AllCan d (g ∷ gs) = Can d g × AllCan d gs

-- the graph that a table of noughts and ones says, size by size
abbrev pub graph_in : ℕ → List ℕ → Graph
graph_in size xs = record { size = size; joined = λ a b. nat_lt a size && (nat_lt b size && slice_index xs (a * size + b) == 1) }
