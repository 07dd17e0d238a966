-- How two circuits are compared, and not what an answer says: one pair of amplitudes after another, row by row. Nobody need read it to know what is promised.
use Rattle.std.specs.Prelude.{◌≡◌, ℕ, ◌+◌, ◌^◌, ◌<◌, ◌≤◌, ◌≢◌, List, Some, None, Option, Ok, Err, Result}
use Rattle.amplitude.specs.declared.Amplitude.{Amplitude}
use Rattle.amplitude.specs.Ring.{nought, turned, rooted}
use Rattle.circuit.specs.declared.gate.Gate.{Gate}
use Rattle.circuit.specs.Circuit.{mixes, AllFit}
use Rattle.circuit.specs.Rows.{amplitude}
use Rattle.equivalence.specs.Compare.{Agrees, Earlier, Before}

-- two circuits that are not refused
pub record Able (n : ℕ) (c d : List Gate) : Type 0 where
  pub some : 1 ≤ n
  pub few : n ≤ 8
  pub fit_c : AllFit n c
  pub fit_d : AllFit n d
  pub short : mixes c + mixes d ≤ 60

-- what a pair of amplitudes at a place tells after others: no turn as long as all are nought, then the turn, and the place where no turn does any more
abbrev pub Tells : ℕ → Option ℕ → Amplitude → Amplitude → Result (Option ℕ) ℕ → Type 0
Tells k None x y (Ok None) = (x ≡ nought) × (y ≡ nought)
Tells k None x y (Ok (Some t)) = (t < 8) × (x ≡ turned t y) × (((x ≡ nought) × (y ≡ nought)) → ⊥)
Tells k None x y (Err j) = (j ≡ k) × ((t : ℕ) → t < 8 → x ≢ turned t y)
Tells k (Some t) x y (Ok o) = (o ≡ Some t) × (x ≡ turned t y)
Tells k (Some t) x y (Err j) = (j ≡ k) × (x ≢ turned t y)

-- an entry of the first circuit's matrix, at a row from a row, with as many roots of two as the second has Hadamards; the circuits change places for one of the second's
abbrev pub entry : ℕ → List Gate → List Gate → ℕ → ℕ → Amplitude
entry n c d at from = rooted (mixes d) (amplitude n c from at)

-- what all pairs before one have told: nothing, where all are nought, or the turn that does for all, the only one that does
abbrev pub Told : ℕ → List Gate → List Gate → ℕ → ℕ → Option ℕ → Type 0
Told n c d at from None = Before n at from (λ i j. (entry n c d i j ≡ nought) × (entry n d c i j ≡ nought))
Told n c d at from (Some t) = (t < 8) × Before n at from (Agrees n c d t) × ((i j : ℕ) × (i < 2 ^ n) × (j < 2 ^ n) × Earlier i j at from × (entry n d c i j ≢ nought))
