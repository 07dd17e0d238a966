-- What is promised of a circuit that is brought onto a device.
use Rattle.std.specs.Prelude.{◌≡◌, ℕ, ◌*◌, ◌≤◌, List, length, take, drop, None}
use Rattle.amplitude.specs.Ring.{turned, rooted}
use Rattle.circuit.specs.declared.gate.Gate.{Gate}
use Rattle.circuit.specs.Circuit.{Row, State, run, mixes, t_count, AllFit}
use Rattle.circuit.specs.Code.{gates_in, fault_from}
use Rattle.device.specs.Coupling.{Graph, Connected, AllCan}
use Rattle.device.specs.Layout.{Placed, laid}

-- the device's gates ds, from the layout p, do what the circuit gs does, laid out as q says, but for a global phase and the counted roots of two
pub record DoneBy (n : ℕ) (d : Graph) (p q : ℕ → ℕ) (gs ds : List Gate) : Type 0 where
  pub turn : ℕ
  pub same : (s : State) (b : Row) → rooted (mixes gs) (run ds (laid n d p s) b) ≡ turned turn (rooted (mixes ds) (laid n d q (run gs s) b))

-- THE MAIN PROMISE, of device gates ds and a final layout q, made of a circuit gs and a layout p
pub record CarriesOut (n : ℕ) (d : Graph) (p q : ℕ → ℕ) (gs ds : List Gate) : Type 0 where
  -- each gate is one that the device can do
  pub can : AllCan d ds
  pub placed : Placed n d q
  pub done : DoneBy n d p q gs ds
  -- with no more T gates than the circuit is worth
  pub cheap : t_count ds ≤ t_count gs

-- in numbers: k gates stand at the front of the room, and what lies behind them is as it was
pub record Filled (n : ℕ) (d : Graph) (p q : ℕ → ℕ) (gs : List Gate) (room room₁ : List ℕ) (k : ℕ) : Type 0 where
  pub fits : 4 * k ≤ length room
  pub long : length room₁ ≡ length room
  pub behind : drop (4 * k) room₁ ≡ drop (4 * k) room
  pub read : fault_from 0 (take (4 * k) room₁) ≡ None
  pub carries : CarriesOut n d p q gs (gates_in (take (4 * k) room₁))

-- every circuit can be done on every connected device that is large enough, from any layout, with no more T gates than it is worth itself
abbrev pub Compilable : Type 0
Compilable =
    (n : ℕ) (d : Graph) (p : ℕ → ℕ) (gs : List Gate) → AllFit n gs → Connected d → Placed n d p →
    (ds : List Gate) × (q : ℕ → ℕ) × CarriesOut n d p q gs ds
