-- The state that a vector of amplitudes represents, and how large its amplitudes are.
use Rattle.std.specs.Prelude.{◌≡◌, ℕ, ◌-◌, ◌^◌, ◌≤◌, cond, ◌&&◌, List}
use Rattle.std.specs.Iterator.{AlwaysYields}
use Rattle.std.specs.declared.option.Option.{Option}
use Rattle.std.specs.Borrow.{Bor}
use Rattle.amplitude.specs.declared.Amplitude.{Amplitude}
use Rattle.amplitude.specs.Ring.{plus, minus, turned, Within}
use Rattle.circuit.specs.declared.gate.Gate.{Gate}
use Rattle.circuit.specs.declared.gate.Gate.TheVariants.{Phase, Hadamard, Not, ControlledNot, Toffoli}
use Rattle.circuit.specs.declared.vector.StateVector.{StateVector}
use Rattle.circuit.specs.Circuit.{Row, State, run, mixes, AllFit}
use Rattle.circuit.specs.Rows.{state_of, basis}

abbrev pub represented : StateVector → State
represented s = state_of s.register.qubits s.amplitudes

-- what a gate makes of the amplitudes at a row whose target is 0 and at the same row with target 1
abbrev pub paired : Gate → Row → Amplitude → Amplitude → Amplitude × Amplitude
paired (Phase m q) b x y = (x, turned m y)
paired (Hadamard q) b x y = (plus x y, minus x y)
paired (Not q) b x y = (y, x)
paired (ControlledNot c q) b x y = cond (b c) (y, x) (x, y)
paired (Toffoli c d q) b x y = cond (b c && b d) (y, x) (x, y)

-- no part of any amplitude is more than m
abbrev pub Bounded : ℕ → State → Type 0
Bounded m s = (b : Row) → Within m (s b)

-- all the gates can be run: each Hadamard has room to double the amplitudes
pub record Ready (gs : List Gate) (s : StateVector) : Type 0 where
  pub fit : AllFit s.register.qubits gs
  pub short : mixes gs ≤ 61
  pub room : Bounded (2 ^ (61 - mixes gs)) (represented s)

-- an iterator over references gives these gates, whichever way it runs
abbrev pub Gives : {I : Type 0} → (I → Option (Bor Gate) → I → Type 0) → I → List Gate → Type 0
Gives steps i gs = AlwaysYields steps (λ g. g.now) i gs

-- a vector of n qubits that is 1 at the row with the number k, and 0 at the others
pub record Basis (n k : ℕ) (s : StateVector) : Type 0 where
  pub qubits_are : s.register.qubits ≡ n
  pub is : (b : Row) → represented s b ≡ basis n k b

-- what the gates make of that basis state
pub record Column (gs : List Gate) (n k : ℕ) (s : StateVector) : Type 0 where
  pub qubits_are : s.register.qubits ≡ n
  pub is : (b : Row) → represented s b ≡ run gs (basis n k) b
  pub bounded : Bounded (2 ^ mixes gs) (represented s)
