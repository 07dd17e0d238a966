-- Two gates change places if neither flips a qubit that the other goes by.
use Rattle.std.proofs.Common.{◌≡◌, ℕ, Bool, true, false, cond, not, ◌&&◌, eqb, sym, refl, ap, ◌∙◌, ap₂}
use Rattle.std.proofs.lemmas.Bool.{and_parts, not-true, or_parts}
use Rattle.amplitude.specs.declared.Amplitude.{Amplitude}
use Rattle.circuit.proofs.Flips.{flipped_swap}
use Rattle.circuit.proofs.Kernel.{keep, act, kern, does-is}
use Rattle.circuit.specs.Circuit.{Row, State, flipped, does, target}
use Rattle.circuit.specs.declared.gate.Gate.{Gate}
use Rattle.circuit.specs.declared.gate.Gate.TheVariants.{Phase, Hadamard, Not, ControlledNot, Toffoli}
use Rattle.laws.proofs.Places.{act-act, off}
use Rattle.tidy.specs.Rules.{Changes}
use Rattle.tidy.specs.Table.{still, reads, hinders}

-- the other row that a gate looks at: a turn looks at none
abbrev moved : Gate → Row → Row
moved g b = cond (still g) b (flipped (target g) b)

kept-first : (t : Bool) (m : ℕ) (x y z : Amplitude) → act (cond t (keep m) (keep 0)) x y ≡ act (cond t (keep m) (keep 0)) x z
kept-first true m x y z = refl
kept-first false m x y z = refl

does-moved : (g : Gate) (s : State) (b : Row) → does g s b ≡ act (kern g b) (s b) (s (moved g b))
does-moved (Phase m q) s b = does-is (Phase m q) s b ∙ kept-first (b q) m (s b) (s (flipped q b)) (s b)
does-moved (Hadamard q) s b = does-is (Hadamard q) s b
does-moved (Not q) s b = does-is (Not q) s b
does-moved (ControlledNot c q) s b = does-is (ControlledNot c q) s b
does-moved (Toffoli c d q) s b = does-is (Toffoli c d q) s b

nor : (x y : Bool) → (not x && not y) ≡ true → (x ≡ false) × (y ≡ false)
nor x y e = let p = and_parts (not x) (not y) e in (not-true x p.0, not-true y p.1)

-- as in the laws, but of what a gate reads and not of all that it is about
kern_off : (g : Gate) (q : ℕ) (b : Row) → reads g q ≡ false → kern g (flipped q b) ≡ kern g b
kern_off (Phase m p) q b e = rw (off q p b e)
kern_off (Hadamard p) q b e = rw (off q p b e)
kern_off (Not p) q b e = refl
kern_off (ControlledNot c p) q b e = rw (off q c b e)
kern_off (Toffoli c d p) q b e = let p = or_parts (eqb q c) (eqb q d) e in rw (off q c b p.0, off q d b p.1)

kern_at : (g : Gate) (t : Bool) (q : ℕ) (b : Row) → (not t && reads g q) ≡ false → kern g (cond t b (flipped q b)) ≡ kern g b
kern_at g true q b e = refl
kern_at g false q b e = kern_off g q b e

swap_at : (t u : Bool) (p q : ℕ) (b : Row) →
    cond t (cond u b (flipped q b)) (flipped p (cond u b (flipped q b))) ≡ cond u (cond t b (flipped p b)) (flipped q (cond t b (flipped p b)))
swap_at true true p q b = refl
swap_at true false p q b = refl
swap_at false true p q b = refl
swap_at false false p q b = flipped_swap p q b

in_two : (g h : Gate) (s : State) (b : Row) → hinders h g ≡ false →
    does h (does g s) b ≡ act (kern h b) (act (kern g b) (s b) (s (moved g b))) (act (kern g b) (s (moved h b)) (s (moved g (moved h b))))
in_two g h s b e =
    does-moved h (does g s) b
    ∙ ap₂ (act (kern h b)) (does-moved g s b) (does-moved g s (moved h b) ∙ ap (λ k. act k (s (moved h b)) (s (moved g (moved h b)))) (kern_at g (still h) (target h) b e))

pub changes : Changes
changes g h e s b =
    in_two g h s b (nor (hinders g h) (hinders h g) e).1
    ∙ act-act (kern h b) (kern g b) (s b) (s (moved g b)) (s (moved h b)) (s (moved g (moved h b)))
    ∙ ap (λ r. act (kern g b) (act (kern h b) (s b) (s (moved h b))) (act (kern h b) (s (moved g b)) (s r))) (swap_at (still g) (still h) (target g) (target h) b)
    ∙ sym (in_two h g s b (nor (hinders g h) (hinders h g) e).0)
