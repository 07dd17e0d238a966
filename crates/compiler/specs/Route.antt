-- How a circuit is brought onto a device: gates on the places of their qubits, and swaps of two places, one stretch after another.
use Rattle.std.specs.Prelude.{◌≡◌, ℕ, ◌<◌, List, [], ◌∷◌, ◌++◌, ◌≢◌}
use Rattle.circuit.specs.declared.gate.Gate.{Gate}
use Rattle.circuit.specs.declared.gate.Gate.TheVariants.{Phase, Hadamard, Not, ControlledNot, Toffoli}
use Rattle.circuit.specs.Circuit.{Row, State, does, run, mixes, t_count, Fit, AllFit, Same}
use Rattle.laws.specs.Rename.{renamed, other}
use Rattle.device.specs.Coupling.{Graph, Connected, AllCan}
use Rattle.device.specs.Layout.{Placed, laid}
use Rattle.compiler.specs.Promise.{DoneBy}

unfoldable pub swapped : ℕ → ℕ → (ℕ → ℕ) → ℕ → ℕ
swapped x y p k = other x y (p k)

-- a swap of two joined places
unfoldable pub swap_gates : ℕ → ℕ → List Gate
swap_gates x y = ControlledNot x y ∷ (ControlledNot y x ∷ (ControlledNot x y ∷ []))

-- the gates ds, from the layout p, do what gs does, laid out as q says, with no phase and no root
unfoldable pub Exactly : ℕ → Graph → (ℕ → ℕ) → (ℕ → ℕ) → List Gate → List Gate → Type 0
Exactly n d p q gs ds = (s : State) (b : Row) → run ds (laid n d p s) b ≡ laid n d q (run gs s) b

-- no Toffoli
abbrev pub Plain : Gate → Type 0
Plain (Phase m q) = Unit {0}
Plain (Hadamard q) = Unit {0}
Plain (Not q) = Unit {0}
Plain (ControlledNot c q) = Unit {0}
Plain (Toffoli c d q) = ⊥

abbrev pub AllPlain : List Gate → Type 0
AllPlain [] = Unit {0}
AllPlain (g ∷ gs) = Plain g × AllPlain gs

-- the device's gates ds do the circuit gs, from the layout p to the layout q, with as many Hadamards and T gates
pub record Doing (n : ℕ) (d : Graph) (p q : ℕ → ℕ) (gs ds : List Gate) : Type 0 where
  pub can : AllCan d ds
  pub placed : Placed n d q
  pub exact : Exactly n d p q gs ds
  pub turns : t_count ds ≡ t_count gs
  pub roots : mixes ds ≡ mixes gs

-- a gate on the places of its qubits does to a laid-out state what it does to the state
abbrev pub LaidDoes : Type 0
LaidDoes = (n : ℕ) (d : Graph) (p : ℕ → ℕ) (g : Gate) → Placed n d p → Fit n g → (s : State) (b : Row) → does (renamed p g) (laid n d p s) b ≡ laid n d p (does g s) b

-- a swap changes the layout, and nothing else
abbrev pub SwapLays : Type 0
SwapLays = (n : ℕ) (d : Graph) (p : ℕ → ℕ) (x y : ℕ) → x < d.size → y < d.size → (x ≢ y) → Exactly n d p (swapped x y p) [] (swap_gates x y)

abbrev pub SwapPlaced : Type 0
SwapPlaced = (n : ℕ) (d : Graph) (p : ℕ → ℕ) (x y : ℕ) → x < d.size → y < d.size → Placed n d p → Placed n d (swapped x y p)

-- one stretch after another
abbrev pub OnAndOn : Type 0
OnAndOn = (n : ℕ) (d : Graph) (p q r : ℕ → ℕ) (gs hs ds es : List Gate) → Doing n d p q gs ds → Doing n d q r hs es → Doing n d p r (gs ++ hs) (ds ++ es)

-- each circuit without Toffolis is done exactly on a connected device
abbrev pub Routed : Type 0
Routed =
    (n : ℕ) (d : Graph) (p : ℕ → ℕ) (gs : List Gate) → AllFit n gs → AllPlain gs → Connected d → Placed n d p →
    (ds : List Gate) × (q : ℕ → ℕ) × Doing n d p q gs ds

-- what does a circuit does each that is the same
abbrev pub DoneThrough : Type 0
DoneThrough = (n : ℕ) (d : Graph) (p q : ℕ → ℕ) (gs es ds : List Gate) → Same es gs → Doing n d p q es ds → DoneBy n d p q gs ds
