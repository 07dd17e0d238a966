-- What is so of every gate is kept: that it fits so many qubits, that a device can do it.
use Rattle.std.proofs.Common.{◌≡◌, ℕ, Bool, true, false, not, ◌&&◌, eqb, ltb, List, [], ◌∷◌, sym, arith}
use mathlib.Core.List.{reverse_aux}
use Rattle.std.proofs.lemmas.Bool.{true≢false}
use Rattle.std.proofs.lemmas.Bool.Decides.{nat_tests}
use Rattle.circuit.proofs.Codes.{fit-from_fits, fits_from_fit}
use Rattle.circuit.specs.Circuit.{AllFit, fits}
use Rattle.circuit.specs.declared.gate.Gate.{Gate}
use Rattle.circuit.specs.declared.gate.Gate.TheVariants.{Phase, Hadamard, Not, ControlledNot, Toffoli}
use Rattle.device.specs.Coupling.{Graph, Can, AllCan}
use Rattle.tidy.proofs.Kept.{Each, OfTargets}

pub each_onto : (p : Gate → Bool) (gs c : List Gate) → Each p gs → Each p c → Each p (reverse_aux gs c)
each_onto p [] c a b = b
each_onto p (g ∷ gs) c a b = each_onto p gs (g ∷ c) a.1 (a.0, b)

fits-target : (n : ℕ) → OfTargets (fits n)
fits-target n m (Phase k q) e = e
fits-target n m (Hadamard q) e = e
fits-target n m (Not q) e = e
fits-target n m (ControlledNot c q) e = grind (arith, nat_tests)
fits-target n m (Toffoli c d q) e = grind (arith, nat_tests)

each_fits : (n : ℕ) (gs : List Gate) → AllFit n gs → Each (fits n) gs
each_fits n [] f = tt
each_fits n (g ∷ gs) (h, f) = (fits_from_fit n g h, each_fits n gs f)

all_fit : (n : ℕ) (gs : List Gate) → Each (fits n) gs → AllFit n gs
all_fit n [] e = tt
all_fit n (g ∷ gs) (h, e) = (fit-from_fits n g h, all_fit n gs e)

pub fit-kept : (c d : List Gate) → ((p : Gate → Bool) → OfTargets p → Each p c → Each p d) → (n : ℕ) → AllFit n c → AllFit n d
fit-kept c d k n f = all_fit n d (k (fits n) (fits-target n) (each_fits n c f))

-- what a device can do, as a test
abbrev cans : Graph → Gate → Bool
cans d (Phase m q) = ltb q d.size
cans d (Hadamard q) = ltb q d.size
cans d (Not q) = ltb q d.size
cans d (ControlledNot c q) = ltb c d.size && (ltb q d.size && (not (eqb c q) && d.joined c q))
cans d (Toffoli a b q) = false

cans_target : (d : Graph) → OfTargets (cans d)
cans_target d m (Phase k q) e = e
cans_target d m (Hadamard q) e = e
cans_target d m (Not q) e = e
cans_target d m (ControlledNot c q) e = grind (arith, nat_tests)
cans_target d m (Toffoli a b q) e = absurd (true≢false (sym e))

cans_from_can : (d : Graph) (g : Gate) → Can d g → cans d g ≡ true
cans_from_can d (Phase m q) h = grind (arith, nat_tests)
cans_from_can d (Hadamard q) h = grind (arith, nat_tests)
cans_from_can d (Not q) h = grind (arith, nat_tests)
cans_from_can d (ControlledNot c q) h = grind (arith, nat_tests)
cans_from_can d (Toffoli a b q) h = absurd h

can_from_cans : (d : Graph) (g : Gate) → cans d g ≡ true → Can d g
can_from_cans d (Phase m q) h = grind (arith, nat_tests)
can_from_cans d (Hadamard q) h = grind (arith, nat_tests)
can_from_cans d (Not q) h = grind (arith, nat_tests)
can_from_cans d (ControlledNot c q) h = grind (arith, nat_tests)
can_from_cans d (Toffoli a b q) h = absurd (true≢false (sym h))

each_cans : (d : Graph) (gs : List Gate) → AllCan d gs → Each (cans d) gs
each_cans d [] f = tt
each_cans d (g ∷ gs) (h, f) = (cans_from_can d g h, each_cans d gs f)

all-can : (d : Graph) (gs : List Gate) → Each (cans d) gs → AllCan d gs
all-can d [] e = tt
all-can d (g ∷ gs) (h, e) = (can_from_cans d g h, all-can d gs e)

pub can-kept : (c d : List Gate) → ((p : Gate → Bool) → OfTargets p → Each p c → Each p d) → (graph : Graph) → AllCan graph c → AllCan graph d
can-kept c d k graph f = all-can graph d (k (cans graph) (cans_target graph) (each_cans graph c f))
