-- What the first gates of a circuit cost, and that each fits and is no Toffoli.
use Rattle.std.proofs.Common.{◌≡◌, ℕ, zero, suc, ◌+◌, ◌<◌, ◌≤◌, List, [], ◌∷◌, length, get_or, take, ap, arith}
use Rattle.std.proofs.lemmas.List.{take_more}
use Rattle.circuit.specs.Circuit.{Fit, AllFit}
use Rattle.circuit.specs.declared.gate.Gate.{Gate}
use Rattle.circuit.specs.declared.gate.Gate.TheVariants.{Phase, Hadamard, Not, ControlledNot, Toffoli}
use Rattle.compiler.specs.Emits.{cost, costs}
use Rattle.compiler.specs.Route.{Plain, AllPlain}
use Rattle.compiler.proofs.Expansions.{costs-append}

pub four-cost : (g : Gate) → 4 ≤ cost g
four-cost (Phase m q) = omega arith
four-cost (Hadamard q) = omega arith
four-cost (Not q) = omega arith
four-cost (ControlledNot c q) = omega arith
four-cost (Toffoli a b c) = omega arith

pub costs_front : (gs : List Gate) (i : ℕ) → costs (take i gs) ≤ costs gs
costs_front gs zero = omega arith
costs_front [] (suc i) = omega arith
costs_front (g ∷ gs) (suc i) = omega (arith, costs_front gs i)

pub costs-more : (gs : List Gate) (i : ℕ) (e : Gate) → i < length gs → costs (take (i + 1) gs) ≡ costs (take i gs) + cost (get_or gs i e)
costs-more gs i e h = omega (arith, ap costs (take_more gs i e h), costs-append (take i gs) (get_or gs i e ∷ []))

pub fit_at : (n : ℕ) (gs : List Gate) (i : ℕ) (e : Gate) → i < length gs → AllFit n gs → Fit n (get_or gs i e)
fit_at n [] i e h f = absurd (omega arith)
fit_at n (g ∷ gs) zero e h (f, fs) = f
fit_at n (g ∷ gs) (suc i) e h (f, fs) = fit_at n gs i e (omega arith) fs

pub plain_at : (gs : List Gate) (i : ℕ) (e : Gate) → i < length gs → AllPlain gs → Plain (get_or gs i e)
plain_at [] i e h f = absurd (omega arith)
plain_at (g ∷ gs) zero e h (f, fs) = f
plain_at (g ∷ gs) (suc i) e h (f, fs) = plain_at gs i e (omega arith) fs
