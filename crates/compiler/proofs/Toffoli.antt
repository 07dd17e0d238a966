-- Fifteen gates are a Toffoli, but for two roots of two.
use Rattle.std.proofs.Common.{◌≡◌, ℕ, ◌+◌, Bool, true, false, cond, not, ◌&&◌, eqb, List, [], ◌∷◌, sym, refl, ap, ◌∙◌, ap₂, arith}
use mathlib.Core.Path.{fun_ext}
use Rattle.std.proofs.lemmas.Int.{ints}
use Rattle.std.proofs.lemmas.Bool.Decides.{nat_tests}
use Rattle.amplitude.proofs.RingLaws.{parts, rooted_add}
use Rattle.amplitude.specs.Ring.{plus, minus, turned, rooted}
use Rattle.amplitude.specs.declared.Amplitude.{Amplitude}
use Rattle.circuit.proofs.Linear.{run-append, run-rooted}
use Rattle.circuit.specs.Circuit.{Row, State, flipped, does, run, Fit, AllFit, AlikeBy, mixed, mixes}
use Rattle.circuit.specs.declared.gate.Gate.{Gate}
use Rattle.circuit.specs.declared.gate.Gate.TheVariants.{Phase, Hadamard, Not, ControlledNot, Toffoli}
use Rattle.circuit.proofs.Counts.{mixes-append}
use Rattle.compiler.specs.Expand.{fifteen, expansion, expanded, FifteenDoes}

-- what three bits say, each gate on it
abbrev Three : Type 0
Three = Bool → Bool → Bool → Amplitude

abbrev mix_c : Three → Three
mix_c F x y z = cond z (minus (F x y (not z)) (F x y z)) (plus (F x y z) (F x y (not z)))

abbrev if_bc : Three → Three
if_bc F x y z = cond y (F x y (not z)) (F x y z)

abbrev if_ac : Three → Three
if_ac F x y z = cond x (F x y (not z)) (F x y z)

abbrev if_ab : Three → Three
if_ab F x y z = cond x (F x (not y) z) (F x y z)

abbrev turn_a : ℕ → Three → Three
turn_a m F x y z = cond x (turned m (F x y z)) (F x y z)

abbrev turn_b : ℕ → Three → Three
turn_b m F x y z = cond y (turned m (F x y z)) (F x y z)

abbrev turn-c : ℕ → Three → Three
turn-c m F x y z = cond z (turned m (F x y z)) (F x y z)

abbrev all-fifteen : Three → Three
all-fifteen F = if_ab (turn_b 7 (turn_a 1 (if_ab (mix_c (turn-c 1 (turn_b 1 (if_ac (turn-c 7 (if_bc (turn-c 1 (if_ac (turn-c 7 (if_bc (mix_c F))))))))))))))

core : (F : Three) (x y z : Bool) → all-fifteen F x y z ≡ rooted 2 (cond (x && y) (F x y (not z)) (F x y z))
core F true true true = parts (omega (arith, ints))
core F true true false = parts (omega (arith, ints))
core F true false true = parts (omega (arith, ints))
core F true false false = parts (omega (arith, ints))
core F false true true = parts (omega (arith, ints))
core F false true false = parts (omega (arith, ints))
core F false false true = parts (omega (arith, ints))
core F false false false = parts (omega (arith, ints))

module _ (a b c : ℕ) (ab : a ≡ b → ⊥) (ac : a ≡ c → ⊥) (bc : b ≡ c → ⊥) (r : Row) where
  put : Bool → Bool → Bool → Row
  put x y z k = cond (eqb k a) x (cond (eqb k b) y (cond (eqb k c) z (r k)))

  at_a : (x y z : Bool) → put x y z a ≡ x
  unfolding put
  at_a x y z = grind (arith, nat_tests)

  at_b : (x y z : Bool) → put x y z b ≡ y
  unfolding put
  at_b x y z = grind (arith, nat_tests)

  at_c : (x y z : Bool) → put x y z c ≡ z
  unfolding put
  at_c x y z = grind (arith, nat_tests)

  flip_b : (x y z : Bool) → flipped b (put x y z) ≡ put x (not y) z
  unfolding put flipped
  flip_b x y z = fun_ext (λ k. grind (arith, nat_tests))

  flip_c : (x y z : Bool) → flipped c (put x y z) ≡ put x y (not z)
  unfolding put flipped
  flip_c x y z = fun_ext (λ k. grind (arith, nat_tests))

  whole : put (r a) (r b) (r c) ≡ r
  unfolding put
  whole = fun_ext (λ k. grind (arith, nat_tests))

  Is : State → Three → Type 0
  Is t F = (x y z : Bool) → t (put x y z) ≡ F x y z

  does_mix_c : (t : State) (F : Three) → Is t F → Is (does (Hadamard c) t) (mix_c F)
  unfolding Is does
  does_mix_c t F h x y z = rw (at_c x y z, flip_c x y z, h x y z, h x y (not z))

  does_if_bc : (t : State) (F : Three) → Is t F → Is (does (ControlledNot b c) t) (if_bc F)
  unfolding Is does
  does_if_bc t F h x y z = rw (at_b x y z, flip_c x y z, h x y z, h x y (not z))

  does_if_ac : (t : State) (F : Three) → Is t F → Is (does (ControlledNot a c) t) (if_ac F)
  unfolding Is does
  does_if_ac t F h x y z = rw (at_a x y z, flip_c x y z, h x y z, h x y (not z))

  does_if_ab : (t : State) (F : Three) → Is t F → Is (does (ControlledNot a b) t) (if_ab F)
  unfolding Is does
  does_if_ab t F h x y z = rw (at_a x y z, flip_b x y z, h x y z, h x (not y) z)

  does_turn_a : (m : ℕ) (t : State) (F : Three) → Is t F → Is (does (Phase m a) t) (turn_a m F)
  unfolding Is does
  does_turn_a m t F h x y z = rw (at_a x y z, h x y z)

  does_turn_b : (m : ℕ) (t : State) (F : Three) → Is t F → Is (does (Phase m b) t) (turn_b m F)
  unfolding Is does
  does_turn_b m t F h x y z = rw (at_b x y z, h x y z)

  does-turn-c : (m : ℕ) (t : State) (F : Three) → Is t F → Is (does (Phase m c) t) (turn-c m F)
  unfolding Is does
  does-turn-c m t F h x y z = rw (at_c x y z, h x y z)

  fifteen-is : (s : State) → Is (run (fifteen a b c) s) (all-fifteen (λ x y z. s (put x y z)))
  unfolding run Is
  fifteen-is s =
      does_if_ab _ _ (does_turn_b 7 _ _ (does_turn_a 1 _ _ (does_if_ab _ _ (does_mix_c _ _ (does-turn-c 1 _ _ (does_turn_b 1 _ _ (does_if_ac _ _
      (does-turn-c 7 _ _ (does_if_bc _ _ (does-turn-c 1 _ _ (does_if_ac _ _ (does-turn-c 7 _ _ (does_if_bc _ _ (does_mix_c s (λ x y z. s (put x y z)) (λ x y z. refl)))))))))))))))

  other_way : put (r a) (r b) (not (r c)) ≡ flipped c r
  other_way = sym (flip_c (r a) (r b) (r c)) ∙ ap (flipped c) whole

  does-fifteen : (s : State) → run (fifteen a b c) s r ≡ rooted 2 (does (Toffoli a b c) s r)
  unfolding does Is
  does-fifteen s =
      ap (run (fifteen a b c) s) (sym whole)
      ∙ (fifteen-is s (r a) (r b) (r c)
      ∙ (core (λ x y z. s (put x y z)) (r a) (r b) (r c)
      ∙ ap (rooted 2) (ap₂ (cond (r a && r b)) (ap s other_way) (ap s whole))))

toffoli_does : (n a b c : ℕ) → Fit n (Toffoli a b c) → (s : State) (r : Row) → run (fifteen a b c) s r ≡ rooted 2 (does (Toffoli a b c) s r)
toffoli_does n a b c f s r = does-fifteen a b c f.3 f.4 f.5 r s

pub fifteen-does : FifteenDoes
unfolding run mixes
fifteen-does n a b c f s r = toffoli_does n a b c f s r

-- how many roots of two an expanded circuit has more
abbrev more_of : Gate → ℕ
more_of (Phase m q) = 0
more_of (Hadamard q) = 0
more_of (Not q) = 0
more_of (ControlledNot c q) = 0
more_of (Toffoli a b c) = 2

unfoldable more : List Gate → ℕ
more [] = 0
more (g ∷ gs) = more_of g + more gs

expansion-runs : (n : ℕ) (g : Gate) → Fit n g → (s : State) (b : Row) → run (expansion g) s b ≡ rooted (more_of g) (does g s b)
unfolding run
expansion-runs n (Phase m q) f s b = refl
expansion-runs n (Hadamard q) f s b = refl
expansion-runs n (Not q) f s b = refl
expansion-runs n (ControlledNot c q) f s b = refl
expansion-runs n (Toffoli a c q) f s b = toffoli_does n a c q f s b

runs : (n : ℕ) (gs : List Gate) → AllFit n gs → (s : State) (b : Row) → run (expanded gs) s b ≡ rooted (more gs) (run gs s b)
unfolding expanded more run
runs n [] fits s b = refl
runs n (g ∷ gs) (f, fs) s b =
    ap (λ (u : State). u b) (run-append (expansion g) (expanded gs) s)
    ∙ ap (λ (u : State). run (expanded gs) u b) (fun_ext (expansion-runs n g f s))
    ∙ run-rooted (more_of g) (expanded gs) (does g s) b
    ∙ ap (rooted (more_of g)) (runs n gs fs (does g s) b)
    ∙ sym (rooted_add (more_of g) (more gs) (run gs (does g s) b))

mixes-expansion : (g : Gate) → mixes (expansion g) ≡ mixed g + more_of g
unfolding mixes
mixes-expansion (Phase m q) = refl
mixes-expansion (Hadamard q) = refl
mixes-expansion (Not q) = refl
mixes-expansion (ControlledNot c q) = refl
mixes-expansion (Toffoli a b c) = refl

mixes-expanded : (gs : List Gate) → mixes (expanded gs) ≡ mixes gs + more gs
unfolding mixes expanded more
mixes-expanded [] = refl
mixes-expanded (g ∷ gs) = omega (arith, mixes-append (expansion g) (expanded gs), mixes-expansion g, mixes-expanded gs)

pub expanded_alike : (n : ℕ) (gs : List Gate) → AllFit n gs → AlikeBy (expanded gs) gs 0
expanded_alike n gs fits s b =
    ap (rooted (mixes gs)) (runs n gs fits s b)
    ∙ sym (rooted_add (mixes gs) (more gs) (run gs s b))
    ∙ ap (λ k. rooted k (run gs s b)) (sym (mixes-expanded gs))
