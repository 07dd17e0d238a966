-- Circuits that do the same. Each is a statement whose proof is owed.
use Rattle.std.specs.Prelude.{◌≡◌, ℕ, List, [], ◌∷◌, ◌≢◌}
use Rattle.circuit.specs.declared.gate.Gate.{Gate}
use Rattle.circuit.specs.declared.gate.Gate.TheVariants.{Phase, Hadamard, Not, ControlledNot}
use Rattle.laws.specs.Rename.{other}
use Rattle.circuit.specs.Circuit.{Row, State, run, AlikeBy}

-- two circuits, and the turn of the whole, in eighths, by which the first differs from the second
pub record Identity : Type 0 where
  pub first : List Gate
  pub second : List Gate
  pub turn : ℕ

-- the identities on one qubit: a Not is a half turn between two Hadamards, two Hadamards are nothing, a whole turn is nothing,
-- a turn with a Not on either side and once more without is a turn of the whole, and so is a quarter turn and a Hadamard three times
abbrev pub table : ℕ → List Identity
table q =
    record { first = Not q ∷ []; second = Hadamard q ∷ Phase 4 q ∷ Hadamard q ∷ []; turn = 0 }
    ∷ record { first = Hadamard q ∷ Hadamard q ∷ []; second = []; turn = 0 }
    ∷ record { first = Phase 8 q ∷ []; second = []; turn = 0 }
    ∷ record { first = Not q ∷ Phase 1 q ∷ Not q ∷ Phase 1 q ∷ []; second = []; turn = 1 }
    ∷ record { first = Phase 2 q ∷ Hadamard q ∷ Phase 2 q ∷ Hadamard q ∷ Phase 2 q ∷ Hadamard q ∷ []; second = []; turn = 1 }
    ∷ []

-- all identities of a table hold
abbrev pub AllHold : List Identity → Type 0
AllHold [] = Unit {0}
AllHold (e ∷ es) = AlikeBy e.first e.second e.turn × AllHold es

-- those of the table do, at every qubit
abbrev pub TableHolds : Type 0
TableHolds = (q : ℕ) → AllHold (table q)

-- three controlled Nots, each by the other qubit, exchange the two
abbrev pub Exchanges : Type 0
Exchanges =
    (x y : ℕ) → x ≢ y → (s : State) (b : Row) →
    run (ControlledNot x y ∷ ControlledNot y x ∷ ControlledNot x y ∷ []) s b ≡ s (λ k. b (other x y k))

-- between Hadamards on both its qubits a controlled Not is the one with control and target changed
abbrev pub TurnedRound : Type 0
TurnedRound =
    (c t : ℕ) → c ≢ t →
    AlikeBy (ControlledNot c t ∷ []) (Hadamard c ∷ Hadamard t ∷ ControlledNot t c ∷ Hadamard c ∷ Hadamard t ∷ []) 0
