-- Rows as numbers: the digits of a row as it is written, qubit 0 first, are the binary digits of its number. So rows go in the order of their numbers.
use Rattle.std.specs.Prelude.{ℕ, zero, suc, ◌+◌, ◌-◌, ◌*◌, ◌/◌, ◌%◌, ◌^◌, false, cond, List, ◌==◌, slice_index_or}
use Rattle.amplitude.specs.declared.Amplitude.{Amplitude}
use Rattle.amplitude.specs.Ring.{nought, unit}
use Rattle.circuit.specs.declared.gate.Gate.{Gate}
use Rattle.circuit.specs.Circuit.{Row, State, run}

-- the number of a row of n qubits
unfoldable pub number : ℕ → Row → ℕ
number zero b = 0
number (suc n) b = 2 * number n b + cond (b n) 1 0

-- the row of n qubits that has the number k
unfoldable pub row : ℕ → ℕ → Row
row zero k q = false
row (suc n) k q = cond (q == n) (k % 2 == 1) (row n (k / 2) q)

-- what a 1 at qubit q adds to the number of a row of n qubits
abbrev pub weight : ℕ → ℕ → ℕ
weight n q = 2 ^ (n - 1 - q)

-- the state of n qubits that a list of amplitudes represents: that of a row stands at its number
unfoldable pub state_of : ℕ → List Amplitude → State
state_of n xs b = slice_index_or xs (number n b) nought

-- the state of n qubits that is 1 at the row with the number k, and 0 at the others
unfoldable pub basis : ℕ → ℕ → State
basis n k b = cond (number n b == k) unit nought

-- the amplitude at a row, begun from a row
unfoldable pub amplitude : ℕ → List Gate → ℕ → ℕ → Amplitude
amplitude n gs from at = run gs (basis n from) (row n at)
