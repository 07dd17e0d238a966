-- Where the qubits of a circuit lie on a device, and a state laid out there.
use Rattle.std.specs.Prelude.{◌≡◌, ℕ, zero, suc, ◌<◌, Bool, true, false, cond, not, ◌&&◌, ◌||◌, List, ◌==◌, nat_lt, slice_index}
use Rattle.amplitude.specs.Ring.{nought}
use Rattle.circuit.specs.Circuit.{Row, State}
use Rattle.device.specs.Coupling.{Graph}

-- the layout that a list of places says
abbrev pub at : List ℕ → ℕ → ℕ
at places k = slice_index places k

-- each of n qubits lies at a place of the device, no two at one
pub record Placed (n : ℕ) (d : Graph) (p : ℕ → ℕ) : Type 0 where
  pub inside : (k : ℕ) → k < n → p k < d.size
  pub apart : (k l : ℕ) → k < n → l < n → p k ≡ p l → k ≡ l

-- none of the first n qubits lies at place x
unfoldable pub free : ℕ → (ℕ → ℕ) → ℕ → Bool
free zero p x = true
free (suc n) p x = not (p n == x) && free n p x

-- all free places below m are 0
unfoldable pub rest_0 : ℕ → ℕ → (ℕ → ℕ) → Row → Bool
rest_0 zero n p b = true
rest_0 (suc m) n p b = (not (free n p m) || not (b m)) && rest_0 m n p b

-- the row that the n qubits have, noughts behind them
unfoldable pub seen : ℕ → (ℕ → ℕ) → Row → Row
seen n p b k = cond (nat_lt k n) (b (p k)) false

-- a state of n qubits laid out on the device, its other places 0
unfoldable pub laid : ℕ → Graph → (ℕ → ℕ) → State → State
laid n d p s b = cond (rest_0 d.size n p b) (s (seen n p b)) nought
