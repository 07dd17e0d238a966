-- What of one gate, or of two, can be told by looking at them.
use Rattle.std.specs.Prelude.{ℕ, ◌+◌, ◌%◌, Bool, true, false, not, ◌&&◌, ◌||◌, ◌==◌}
use Rattle.circuit.specs.Circuit.{target}
use Rattle.circuit.specs.declared.gate.Gate.{Gate}
use Rattle.circuit.specs.declared.gate.Gate.TheVariants.{Phase, Hadamard, Not, ControlledNot, Toffoli}

-- which of the five a gate is
abbrev pub kind : Gate → ℕ
kind (Phase m q) = 0
kind (Hadamard q) = 1
kind (Not q) = 2
kind (ControlledNot c q) = 3
kind (Toffoli c d q) = 4

-- by how many eighths it turns
abbrev pub eighths : Gate → ℕ
eighths (Phase m q) = m
eighths (Hadamard q) = 0
eighths (Not q) = 0
eighths (ControlledNot c q) = 0
eighths (Toffoli c d q) = 0

-- its controls: a single one counts as the same twice
abbrev pub control : Gate → ℕ
control (Phase m q) = 0
control (Hadamard q) = 0
control (Not q) = 0
control (ControlledNot c q) = c
control (Toffoli c d q) = c

abbrev pub other_control : Gate → ℕ
other_control (Phase m q) = 0
other_control (Hadamard q) = 0
other_control (Not q) = 0
other_control (ControlledNot c q) = c
other_control (Toffoli c d q) = d

-- a turn leaves every row where it is; the others flip their target
abbrev pub still : Gate → Bool
still (Phase m q) = true
still (Hadamard q) = false
still (Not q) = false
still (ControlledNot c q) = false
still (Toffoli c d q) = false

-- whether what a gate does at a row depends on the qubit k
abbrev pub reads : Gate → ℕ → Bool
reads (Phase m q) k = k == q
reads (Hadamard q) k = k == q
reads (Not q) k = false
reads (ControlledNot c q) k = k == c
reads (Toffoli c d q) k = k == c || k == d

-- a gate hinders another if it flips a qubit that the other goes by
abbrev pub hinders : Gate → Gate → Bool
hinders g h = not (still g) && reads h (target g)

-- two that do not hinder each other change places
abbrev pub commutes : Gate → Gate → Bool
commutes g h = not (hinders g h) && not (hinders h g)

-- no control is the target
abbrev pub proper : Gate → Bool
proper (Phase m q) = true
proper (Hadamard q) = true
proper (Not q) = true
proper (ControlledNot c q) = not (c == q)
proper (Toffoli c d q) = not (c == q) && not (d == q)

-- one gate, but for eighths and the order of controls
abbrev pub twin : Gate → Gate → Bool
twin h g =
    kind h == kind g
    && (target h == target g
    && (proper g
    && ((control h == control g && other_control h == other_control g) || (control h == other_control g && other_control h == control g))))

-- what twins become: a turn by their eighths together, which are 0 unless they are turns
abbrev pub merged : Gate → Gate → Gate
merged h g = Phase ((eighths h + eighths g) % 8) (target g)

-- a turn by whole eights, which does nothing
abbrev pub idle : Gate → Bool
idle g = still g && eighths g % 8 == 0

-- with fewer than eight eighths
abbrev pub reduced : Gate → Gate
reduced (Phase m q) = Phase (m % 8) q
reduced (Hadamard q) = Hadamard q
reduced (Not q) = Not q
reduced (ControlledNot c q) = ControlledNot c q
reduced (Toffoli c d q) = Toffoli c d q

-- h flips the qubit that g turns
abbrev pub backs : Gate → Gate → Bool
backs h g = kind h == 2 && (still g && target h == target g)
