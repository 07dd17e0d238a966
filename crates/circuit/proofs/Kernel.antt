-- Every gate, at a row, is one of four ways to join the amplitude there and that at the row with the gate's qubit flipped.
use Rattle.std.proofs.Common.{◌≡◌, ℕ, Bool, true, false, cond, ◌&&◌, refl}
use Rattle.amplitude.specs.Ring.{plus, minus, turned}
use Rattle.amplitude.specs.declared.Amplitude.{Amplitude}
use Rattle.circuit.specs.Circuit.{target, Row, State, flipped, does}
use Rattle.circuit.specs.declared.gate.Gate.{Gate}
use Rattle.circuit.specs.declared.gate.Gate.TheVariants.{Phase, Hadamard, Not, ControlledNot, Toffoli}

pub data Kern : Type 0 where
  keep : ℕ → Kern
  other : Kern
  sum : Kern
  diff : Kern

abbrev pub act : Kern → Amplitude → Amplitude → Amplitude
act (keep m) x y = turned m x
act other x y = y
act sum x y = plus x y
act diff x y = minus y x

abbrev pub kern : Gate → Row → Kern
kern (Phase m q) b = cond (b q) (keep m) (keep 0)
kern (Hadamard q) b = cond (b q) diff sum
kern (Not q) b = other
kern (ControlledNot c q) b = cond (b c) other (keep 0)
kern (Toffoli c d q) b = cond (b c && b d) other (keep 0)

picked : (t : Bool) (k l : Kern) (x y : Amplitude) → cond t (act k x y) (act l x y) ≡ act (cond t k l) x y
picked true k l x y = refl
picked false k l x y = refl

pub does-is : (g : Gate) (s : State) (b : Row) → does g s b ≡ act (kern g b) (s b) (s (flipped (target g) b))
unfolding does
does-is (Phase m q) s b = picked (b q) (keep m) (keep 0) (s b) (s (flipped q b))
does-is (Hadamard q) s b = picked (b q) diff sum (s b) (s (flipped q b))
does-is (Not q) s b = refl
does-is (ControlledNot c q) s b = picked (b c) other (keep 0) (s b) (s (flipped q b))
does-is (Toffoli c d q) s b = picked (b c && b d) other (keep 0) (s b) (s (flipped q b))
