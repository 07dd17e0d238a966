-- A gate on a laid-out state.
use Rattle.amplitude.proofs.RingLaws.{turned-nought}
use Rattle.std.proofs.Common.{◌≡◌, ℕ, zero, suc, ◌<◌, Bool, true, false, cond, ◌&&◌, refl, ap, arith}
use mathlib.Core.Path.{fun_ext}
use Rattle.std.proofs.lemmas.Bool.{lt-ltb}
use Rattle.std.proofs.lemmas.Bool.Decides.{nat_tests}
use Rattle.amplitude.specs.Ring.{nought, plus, minus, turned}
use Rattle.amplitude.specs.declared.Amplitude.{Amplitude}
use Rattle.circuit.specs.Circuit.{Row, State, flipped, does, Fit}
use Rattle.circuit.specs.declared.gate.Gate.{Gate}
use Rattle.circuit.specs.declared.gate.Gate.TheVariants.{Phase, Hadamard, Not, ControlledNot, Toffoli}
use Rattle.device.specs.Coupling.{Graph}
use Rattle.device.specs.Layout.{Placed, free, rest_0, seen, laid}
use Rattle.laws.specs.Rename.{renamed}

-- what lies at a qubit's place is what it has
seen_at : (n : ℕ) (p : ℕ → ℕ) (b : Row) (q : ℕ) → q < n → seen n p b q ≡ b (p q)
unfolding seen
seen_at n p b q h = rw (lt-ltb q n h)

-- the place of a qubit is not free
taken : (n : ℕ) (p : ℕ → ℕ) (q : ℕ) → q < n → free n p (p q) ≡ false
unfolding free
taken zero p q h = absurd (omega arith)
taken (suc n) p q h = let ih : q < n → free n p (p q) ≡ false = taken n p q in grind (arith, nat_tests)

rest_flip : (m n : ℕ) (p : ℕ → ℕ) (b : Row) (q : ℕ) → q < n → rest_0 m n p (flipped (p q) b) ≡ rest_0 m n p b
unfolding rest_0 flipped
rest_flip zero n p b q h = refl
rest_flip (suc m) n p b q h = let ih = rest_flip m n p b q h in let t = taken n p q h in grind (arith, nat_tests)

seen_flip : (n : ℕ) (d : Graph) (p : ℕ → ℕ) → Placed n d p → (b : Row) (q : ℕ) → q < n → seen n p (flipped (p q) b) ≡ flipped q (seen n p b)
unfolding seen flipped
seen_flip n d p l b q h = fun_ext (λ k. let a : k < n → p k ≡ p q → k ≡ q = λ u v. l.apart k q u h v in grind (arith, nat_tests))

phase_core : (m : ℕ) (r c : Bool) (a : Amplitude) → cond c (turned m (cond r a nought)) (cond r a nought) ≡ cond r (cond c (turned m a) a) nought
phase_core m true c a = refl
phase_core m false true a = turned-nought m
phase_core m false false a = refl

hadamard_core : (r c : Bool) (a f : Amplitude) → cond c (minus (cond r f nought) (cond r a nought)) (plus (cond r a nought) (cond r f nought)) ≡ cond r (cond c (minus f a) (plus a f)) nought
hadamard_core true c a f = refl
hadamard_core false true a f = refl
hadamard_core false false a f = refl

controlled_core : (r c : Bool) (a f : Amplitude) → cond c (cond r f nought) (cond r a nought) ≡ cond r (cond c f a) nought
controlled_core true c a f = refl
controlled_core false true a f = refl
controlled_core false false a f = refl

-- a state laid out, at a row with the place of a qubit flipped
laid_flip : (n : ℕ) (d : Graph) (p : ℕ → ℕ) → Placed n d p → (s : State) (b : Row) (q : ℕ) → q < n → laid n d p s (flipped (p q) b) ≡ cond (rest_0 d.size n p b) (s (flipped q (seen n p b))) nought
unfolding laid
laid_flip n d p l s b q h = rw (rest_flip d.size n p b q h, seen_flip n d p l b q h)

pub laid-does : (n : ℕ) (d : Graph) (p : ℕ → ℕ) (g : Gate) → Placed n d p → Fit n g → (s : State) (b : Row) → does (renamed p g) (laid n d p s) b ≡ laid n d p (does g s) b
unfolding does laid
laid-does n d p (Phase m q) l f s b = rw (seen_at n p b q f) (phase_core m (rest_0 d.size n p b) (b (p q)) (s (seen n p b)))
laid-does n d p (Hadamard q) l f s b = rw (laid_flip n d p l s b q f, seen_at n p b q f) (hadamard_core (rest_0 d.size n p b) (b (p q)) (s (seen n p b)) (s (flipped q (seen n p b))))
laid-does n d p (Not q) l f s b = laid_flip n d p l s b q f
laid-does n d p (ControlledNot c q) l f s b = rw (laid_flip n d p l s b q f.1, seen_at n p b c f.0) (controlled_core (rest_0 d.size n p b) (b (p c)) (s (seen n p b)) (s (flipped q (seen n p b))))
laid-does n d p (Toffoli c e q) l f s b = rw (laid_flip n d p l s b q f.2, seen_at n p b c f.0, seen_at n p b e f.1) (controlled_core (rest_0 d.size n p b) (b (p c) && b (p e)) (s (seen n p b)) (s (flipped q (seen n p b))))

-- only the places of the first n matter
free_like : (n : ℕ) (p q : ℕ → ℕ) → ((k : ℕ) → k < n → p k ≡ q k) → (x : ℕ) → free n p x ≡ free n q x
unfolding free
free_like zero p q e x = refl
free_like (suc n) p q e x = rw (e n (omega arith), free_like n p q (λ k h. e k (omega arith)) x)

rest_like : (m n : ℕ) (p q : ℕ → ℕ) → ((k : ℕ) → k < n → p k ≡ q k) → (b : Row) → rest_0 m n p b ≡ rest_0 m n q b
unfolding rest_0
rest_like zero n p q e b = refl
rest_like (suc m) n p q e b = rw (free_like n p q e m, rest_like m n p q e b)

seen_like : (n : ℕ) (p q : ℕ → ℕ) → ((k : ℕ) → k < n → p k ≡ q k) → (b : Row) → seen n p b ≡ seen n q b
unfolding seen
seen_like n p q e b = fun_ext (λ k. let h : k < n → b (p k) ≡ b (q k) = λ u. ap b (e k u) in grind (arith, nat_tests))

pub laid_like : (n : ℕ) (d : Graph) (p q : ℕ → ℕ) → ((k : ℕ) → k < n → p k ≡ q k) → (s : State) (b : Row) → laid n d p s b ≡ laid n d q s b
unfolding laid
laid_like n d p q e s b = rw (rest_like d.size n p q e b, seen_like n p q e b)
