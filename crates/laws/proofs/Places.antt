-- Gates without a qubit in common change places.
use Rattle.std.proofs.Common.{◌≡◌, ℕ, Bool, true, false, ◌||◌, eqb, sym, refl, ap, ◌∙◌, ap₂, eq-eqb}
use borrow.Author.Tests.{eqb-false, both_ways}
use Rattle.amplitude.specs.Ring.{turned}
use Rattle.amplitude.specs.declared.Amplitude.{Amplitude}
use Rattle.circuit.proofs.Flips.{flipped_off, flipped_swap}
use Rattle.circuit.proofs.Kernel.{Kern, keep, other, sum, diff, act, kern, does-is}
use Rattle.circuit.proofs.Linear.{turned_linear, act_linear, act-plus, act-minus}
use Rattle.circuit.specs.Circuit.{Row, State, flipped, does, run, target}
use Rattle.circuit.specs.declared.gate.Gate.{Gate}
use Rattle.circuit.specs.declared.gate.Gate.TheVariants.{Phase, Hadamard, Not, ControlledNot, Toffoli}
use Rattle.laws.specs.Laws.{ChangePlaces}
use Rattle.laws.specs.Rename.{about}

pub act-act : (k l : Kern) (p q r t : Amplitude) → act k (act l p q) (act l r t) ≡ act l (act k p r) (act k q t)
act-act k (keep m) p q r t = act_linear (turned m) (turned_linear m) k p r
act-act k other p q r t = refl
act-act k sum p q r t = act-plus k p q r t
act-act k diff p q r t = act-minus k q p t r

pub or-first : (x y : Bool) → (x || y) ≡ false → x ≡ false
or-first true y e = e
or-first false y e = refl

pub or-second : (x y : Bool) → (x || y) ≡ false → y ≡ false
or-second true y e = absurd (both_ways true e refl)
or-second false y e = e

pub off : (q k : ℕ) (b : Row) → eqb q k ≡ false → flipped q b k ≡ b k
off q k b e = flipped_off q k b (λ p. eqb-false q k e (sym p))

kern_off : (g : Gate) (q : ℕ) (b : Row) → about g q ≡ false → kern g (flipped q b) ≡ kern g b
unfolding about
kern_off (Phase m p) q b e = rw (off q p b e)
kern_off (Hadamard p) q b e = rw (off q p b e)
kern_off (Not p) q b e = refl
kern_off (ControlledNot c p) q b e = rw (off q c b (or-first (eqb q c) (eqb q p) e))
kern_off (Toffoli c d p) q b e =
    rw (off q c b (or-first (eqb q c) (eqb q d || eqb q p) e), off q d b (or-first (eqb q d) (eqb q p) (or-second (eqb q c) (eqb q d || eqb q p) e)))

or_true : (x y : Bool) → y ≡ true → (x || y) ≡ true
or_true true y e = refl
or_true false y e = e

about-target : (g : Gate) → about g (target g) ≡ true
unfolding about
about-target (Phase m q) = eq-eqb q q refl
about-target (Hadamard q) = eq-eqb q q refl
about-target (Not q) = eq-eqb q q refl
about-target (ControlledNot c q) = or_true (eqb q c) (eqb q q) (eq-eqb q q refl)
about-target (Toffoli c d q) = or_true (eqb q c) (eqb q d || eqb q q) (or_true (eqb q d) (eqb q q) (eq-eqb q q refl))

in_two : (g h : Gate) (s : State) (b : Row) → about g (target h) ≡ false →
    does h (does g s) b ≡ act (kern h b) (act (kern g b) (s b) (s (flipped (target g) b))) (act (kern g b) (s (flipped (target h) b)) (s (flipped (target g) (flipped (target h) b))))
in_two g h s b e =
    does-is h (does g s) b
    ∙ ap₂ (act (kern h b)) (does-is g s b) (does-is g s (flipped (target h) b) ∙ ap (λ k. act k (s (flipped (target h) b)) (s (flipped (target g) (flipped (target h) b)))) (kern_off g (target h) b e))

pub change_places : ChangePlaces
unfolding run
change_places g h s b apart =
    in_two g h s b (away (about g (target h)) refl)
    ∙ act-act (kern h b) (kern g b) (s b) (s (flipped (target g) b)) (s (flipped (target h) b)) (s (flipped (target g) (flipped (target h) b)))
    ∙ ap (λ r. act (kern g b) (act (kern h b) (s b) (s (flipped (target h) b))) (act (kern h b) (s (flipped (target g) b)) (s r))) (flipped_swap (target g) (target h) b)
    ∙ sym (in_two h g s b (apart (target g) (about-target g)))
  where
    away : (t : Bool) → about g (target h) ≡ t → about g (target h) ≡ false
    away true e = absurd (both_ways (about h (target h)) (apart (target h) e) (about-target h))
    away false e = e
