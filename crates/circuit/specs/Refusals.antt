-- The numbers of refusals, and how the first that applies is found.
use Rattle.std.specs.Prelude.{◌≡◌, ℕ, ◌+◌, Bool, true, false, cond, ◌&&◌, List, [], ◌∷◌, Some, None, Option, Ok, Err, Result, IfOk, nat_le}
use Rattle.circuit.specs.declared.gate.Gate.{Gate}
use Rattle.circuit.specs.declared.refusal.Refusal.{Refusal}
use Rattle.circuit.specs.declared.register.Register.{Register}
use Rattle.circuit.specs.declared.refusal.Refusal.TheVariants.{Qubits, Length, Number, Layout, Device, Room, Mixes, Text}
use Rattle.circuit.specs.declared.refusal.Refusal.TheVariants as refusal
use Rattle.circuit.specs.Circuit.{fits}

abbrev pub number : Refusal → ℕ
number (Qubits p) = 1
number (Length p) = 2
number (Number p) = 3
number (refusal.Gate p) = 4
number (Layout p) = 5
number (Device p) = 6
number (Room p) = 7
number (Mixes p) = 8
number (Text p) = 9

abbrev pub place : Refusal → ℕ
place (Qubits p) = p
place (Length p) = p
place (Number p) = p
place (refusal.Gate p) = p
place (Layout p) = p
place (Device p) = p
place (Room p) = p
place (Mixes p) = p
place (Text p) = p

-- one check, and then the others
abbrev pub or_else : Option Refusal → Option Refusal → Option Refusal
or_else (Some f) rest = Some f
or_else None rest = rest

-- a refusal unless a test holds
abbrev pub unless : Bool → Refusal → Option Refusal
unless true f = None
unless false f = Some f

-- an answer that is an error exactly where there is a refusal, and then that one
abbrev pub Checked : {T : Type 0} → Option Refusal → Result T Refusal → Type 0
Checked o (Ok _) = o ≡ None
Checked o (Err f) = o ≡ Some f

-- the register of n qubits, refused where there is none or are more than eight
abbrev pub IsRegister : ℕ → Result Register Refusal → Type 0
IsRegister n r = Checked (unless (nat_le 1 n && nat_le n 8) (Qubits 0)) r × IfOk r (λ register. register.qubits ≡ n)

-- a refusal at a place, if there is one
abbrev pub at_place : (ℕ → Refusal) → Option ℕ → Option Refusal
at_place f None = None
at_place f (Some p) = Some (f p)

-- the first gate from the i-th on that does not fit n qubits
unfoldable pub misfit_from : ℕ → ℕ → List Gate → Option ℕ
misfit_from n i [] = None
misfit_from n i (g ∷ gs) = cond (fits n g) (misfit_from n (i + 1) gs) (Some i)
