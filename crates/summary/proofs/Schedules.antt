-- The earliest beginnings are a schedule, and none is done sooner.
use Rattle.std.proofs.Common.{◌≡◌, ℕ, zero, suc, ◌+◌, ◌<◌, ◌≤◌, Bool, true, false, cond, List, [], ◌∷◌, length, refl, arith}
use Rattle.std.proofs.lemmas.Bool.Decides.{nat_tests}
use Rattle.circuit.specs.declared.gate.Gate.{Gate}
use Rattle.circuit.specs.declared.gate.Gate.TheVariants.{Phase, Hadamard, Not, ControlledNot, Toffoli}
use Rattle.laws.specs.Rename.{about}
use Rattle.summary.specs.Depth.{listed, ready, freed, earliest, steps, nth, Schedule, DoneWithin, NoSooner, InTime}

-- a gate is not ready before each of its qubits is free
ready-after : (free : ℕ → ℕ) (g : Gate) (k : ℕ) → about g k ≡ true → free k ≤ ready free g
unfolding about
ready-after free (Phase m q) k e = grind (arith, nat_tests)
ready-after free (Hadamard q) k e = grind (arith, nat_tests)
ready-after free (Not q) k e = grind (arith, nat_tests)
ready-after free (ControlledNot c q) k e = grind (arith, nat_tests)
ready-after free (Toffoli c d q) k e = grind (arith, nat_tests)

-- and not later than a step at which they all are
pub ready_by : (free : ℕ → ℕ) (g : Gate) (n : ℕ) → ((k : ℕ) → about g k ≡ true → free k ≤ n) → ready free g ≤ n
unfolding about
ready_by free (Phase m q) n h = let a = h q in grind (arith, nat_tests)
ready_by free (Hadamard q) n h = let a = h q in grind (arith, nat_tests)
ready_by free (Not q) n h = let a = h q in grind (arith, nat_tests)
ready_by free (ControlledNot c q) n h = let a = h q in let b = h c in grind (arith, nat_tests)
ready_by free (Toffoli c d q) n h = let a = h q in let b = h c in let e = h d in grind (arith, nat_tests)

-- a qubit of a gate is free one step after the gate begins, and no qubit is free sooner than before
freed_of : (free : ℕ → ℕ) (g : Gate) (k : ℕ) → about g k ≡ true → freed free g k ≡ ready free g + 1
unfolding freed
freed_of free g k e = rw e

freed_later : (free : ℕ → ℕ) (g : Gate) (k : ℕ) → free k ≤ freed free g k
unfolding freed
freed_later free g k = go (about g k) refl
  where
    go : (t : Bool) → about g k ≡ t → free k ≤ cond t (ready free g + 1) (free k)
    go true e = omega (arith, ready-after free g k e)
    go false e = omega arith

-- no gate of a schedule begins before it is ready
pub freed_by : (free : ℕ → ℕ) (g : Gate) (k s t : ℕ) → ready free g ≤ s → (about g k ≡ true → s < t) → free k ≤ t → freed free g k ≤ t
unfolding freed
freed_by free g k s t r l f = go (about g k) refl
  where
    go : (u : Bool) → about g k ≡ u → cond u (ready free g + 1) (free k) ≤ t
    go true e = omega (arith, l e)
    go false e = f

-- a schedule that waits for the qubits to be free takes as many steps as the earliest beginnings, or more
sooner : (free : ℕ → ℕ) (gs : List Gate) (start : ℕ → ℕ) (n : ℕ) → ((j k : ℕ) → j < length gs → about (nth gs j) k ≡ true → free k ≤ start j) → Schedule gs start → DoneWithin gs start n → steps (earliest free gs) ≤ n
unfolding earliest steps
sooner free [] start n w s d = omega arith
sooner free (g ∷ gs) start n w s d =
    let first : ready free g ≤ start 0 = ready_by free g (start 0) (λ k. w 0 k (omega arith)) in
    let rest =
    sooner (freed free g) gs (λ i. start (suc i)) n
    (λ j k l e. freed_by free g k (start 0) (start (suc j)) first (λ a. s 0 (suc j) k (omega arith) (omega arith) a e) (w (suc j) k (omega arith) e))
    (λ i j k l m. s (suc i) (suc j) k (omega arith) (omega arith))
    (λ i l. d (suc i) (omega arith)) in
    omega (arith, d 0 (omega arith))

pub no_sooner : NoSooner
no_sooner gs start n s d = sooner (λ _. 0) gs start n (λ j k l e. omega arith) s d

-- the earliest beginnings wait for the qubits to be free
waits : (free : ℕ → ℕ) (gs : List Gate) (j k : ℕ) → j < length gs → about (nth gs j) k ≡ true → free k ≤ listed (earliest free gs) j
unfolding earliest
waits free [] j k l e = omega arith
waits free (g ∷ gs) zero k l e = ready-after free g k e
waits free (g ∷ gs) (suc j) k l e = omega (arith, freed_later free g k, waits (freed free g) gs j k (omega arith) e)

scheduled : (free : ℕ → ℕ) (gs : List Gate) → Schedule gs (listed (earliest free gs))
unfolding earliest
scheduled free [] i j k l m a b = omega arith
scheduled free (g ∷ gs) i zero k l m a b = omega arith
scheduled free (g ∷ gs) zero (suc j) k l m a b = omega (arith, freed_of free g k a, waits (freed free g) gs j k (omega arith) b)
scheduled free (g ∷ gs) (suc i) (suc j) k l m a b = scheduled (freed free g) gs i j k (omega arith) (omega arith) a b

done : (free : ℕ → ℕ) (gs : List Gate) → DoneWithin gs (listed (earliest free gs)) (steps (earliest free gs))
unfolding earliest steps
done free [] i l = omega arith
done free (g ∷ gs) zero l = omega arith
done free (g ∷ gs) (suc i) l = omega (arith, done (freed free g) gs i (omega arith))

pub in_time : InTime
in_time gs = (scheduled (λ _. 0) gs, done (λ _. 0) gs)
