-- The table of circuit identities holds: each gate at a row whose bits are known, and then amplitudes.
use Rattle.std.proofs.Common.{◌≡◌, ℕ, Bool, true, false, cond, not, eqb, [], ◌∷◌, sym, refl, ap, ◌∙◌, ap₂, arith}
use mathlib.Core.Path.{fun_ext}
use Rattle.std.proofs.lemmas.Int.{ints}
use Rattle.std.proofs.lemmas.Bool.Decides.{nat_tests}
use Rattle.amplitude.proofs.RingLaws.{parts, turned_8, rooted_2, rooted_add}
use Rattle.amplitude.specs.Ring.{plus, minus, turned, rooted}
use Rattle.amplitude.specs.declared.Amplitude.{Amplitude}
use Rattle.circuit.proofs.Flips.{flipped-at, flipped_off, flipped_twice, flipped_swap}
use Rattle.circuit.specs.Circuit.{Row, State, flipped, does, run, mixes}
use Rattle.circuit.specs.declared.gate.Gate.TheVariants.{Phase, Hadamard, Not, ControlledNot}
use Rattle.laws.specs.Identities.{TableHolds, Exchanges, TurnedRound}
use Rattle.laws.specs.Rename.{other}

-- each gate where its test is known
phase_1 : (m q : ℕ) (s : State) (b : Row) → b q ≡ true → does (Phase m q) s b ≡ turned m (s b)
unfolding does
phase_1 m q s b e = rw e

phase_0 : (m q : ℕ) (s : State) (b : Row) → b q ≡ false → does (Phase m q) s b ≡ s b
unfolding does
phase_0 m q s b e = rw e

mix_1 : (q : ℕ) (s : State) (b : Row) → b q ≡ true → does (Hadamard q) s b ≡ minus (s (flipped q b)) (s b)
unfolding does
mix_1 q s b e = rw e

mix_0 : (q : ℕ) (s : State) (b : Row) → b q ≡ false → does (Hadamard q) s b ≡ plus (s b) (s (flipped q b))
unfolding does
mix_0 q s b e = rw e

if_1 : (c q : ℕ) (s : State) (b : Row) → b c ≡ true → does (ControlledNot c q) s b ≡ s (flipped q b)
unfolding does
if_1 c q s b e = rw e

if_0 : (c q : ℕ) (s : State) (b : Row) → b c ≡ false → does (ControlledNot c q) s b ≡ s b
unfolding does
if_0 c q s b e = rw e

flips : (q : ℕ) (s : State) (b : Row) → does (Not q) s b ≡ s (flipped q b)
unfolding does
flips q s b = refl

ruleset at-known = (phase_1, phase_0, mix_1, mix_0, if_1, if_0, flips, flipped-at, flipped_off, flipped_twice, flipped_swap)

-- so many roots of two
rooted-3 : (a : Amplitude) → rooted 3 a ≡ plus (rooted 1 a) (rooted 1 a)
rooted-3 a = rooted_add 2 1 a ∙ rooted_2 (rooted 1 a)

rooted-4 : (a : Amplitude) → rooted 4 a ≡ plus (plus a a) (plus a a)
rooted-4 a = rooted_add 2 2 a ∙ rooted_2 (rooted 2 a) ∙ ap₂ plus (rooted_2 a) (rooted_2 a)

-- the table, at a row where the qubit is 1 and at one where it is 0
not_is : (x : Bool) (q : ℕ) (s : State) (b : Row) → b q ≡ x → plus (s (flipped q b)) (s (flipped q b)) ≡ run (Hadamard q ∷ Phase 4 q ∷ Hadamard q ∷ []) s b
unfolding run
not_is true q s b e = simp (at-known, e) (parts (omega (arith, ints)))
not_is false q s b e = simp (at-known, e) (parts (omega (arith, ints)))

twice_is : (x : Bool) (q : ℕ) (s : State) (b : Row) → b q ≡ x → run (Hadamard q ∷ Hadamard q ∷ []) s b ≡ plus (s b) (s b)
unfolding run
twice_is true q s b e = simp (at-known, e) (parts (omega (arith, ints)))
twice_is false q s b e = simp (at-known, e) (parts (omega (arith, ints)))

eighths : (x : Bool) (q : ℕ) (s : State) (b : Row) → b q ≡ x → run (Phase 8 q ∷ []) s b ≡ s b
unfolding run
eighths true q s b e = phase_1 8 q s b e ∙ turned_8 (s b)
eighths false q s b e = phase_0 8 q s b e

both-turn : (x : Bool) (q : ℕ) (s : State) (b : Row) → b q ≡ x → run (Not q ∷ Phase 1 q ∷ Not q ∷ Phase 1 q ∷ []) s b ≡ turned 1 (s b)
unfolding run
both-turn true q s b e = simp (at-known, e)
both-turn false q s b e = simp (at-known, e)

thrice_is : (x : Bool) (q : ℕ) (s : State) (b : Row) → b q ≡ x → run (Phase 2 q ∷ Hadamard q ∷ Phase 2 q ∷ Hadamard q ∷ Phase 2 q ∷ Hadamard q ∷ []) s b ≡ turned 1 (plus (rooted 1 (s b)) (rooted 1 (s b)))
unfolding run
thrice_is true q s b e = simp (at-known, e) (parts (omega (arith, ints)))
thrice_is false q s b e = simp (at-known, e) (parts (omega (arith, ints)))

pub table_holds : TableHolds
unfolding mixes run does
table_holds q = (
  (λ s b. rooted_2 (s (flipped q b)) ∙ not_is (b q) q s b refl),
  (
    (λ s b. twice_is (b q) q s b refl ∙ sym (rooted_2 (s b))),
    (
      (λ s b. eighths (b q) q s b refl),
      (
        (λ s b. both-turn (b q) q s b refl),
        (
          (λ s b. thrice_is (b q) q s b refl ∙ ap (turned 1) (sym (rooted-3 (s b)))),
          tt,
        ),
      ),
    ),
  ),
)

-- the row that a controlled Not reads from
cx : ℕ → ℕ → Row → Row
cx c q b k = cond (eqb k q) (cond (b c) (not (b q)) (b q)) (b k)

reads : (c q : ℕ) (s : State) (b : Row) → does (ControlledNot c q) s b ≡ s (cx c q b)
unfolding flipped cx
reads c q s b = go (b c) refl
  where
    go : (v : Bool) → b c ≡ v → does (ControlledNot c q) s b ≡ s (cx c q b)
    go true e = if_1 c q s b e ∙ ap s (fun_ext (λ k. grind (arith, nat_tests)))
    go false e = if_0 c q s b e ∙ ap s (fun_ext (λ k. grind (arith, nat_tests)))

thrice : (x y : ℕ) → (x ≡ y → ⊥) → (b : Row) → cx x y (cx y x (cx x y b)) ≡ (λ k. b (other x y k))
unfolding cx other
thrice x y ne b = fun_ext (λ k. grind (arith, nat_tests))

pub exchanges : Exchanges
unfolding run
exchanges x y ne s b =
    reads x y (does (ControlledNot y x) (does (ControlledNot x y) s)) b
    ∙ reads y x (does (ControlledNot x y) s) (cx x y b)
    ∙ reads x y s (cx y x (cx x y b))
    ∙ ap s (thrice x y ne b)

-- the four rows that two bits make
round : (x y : Bool) (c t : ℕ) (s : State) (b : Row) → b c ≡ x → b t ≡ y → (c ≡ t → ⊥) → (t ≡ c → ⊥) → (a : Amplitude) → a ≡ does (ControlledNot c t) s b → plus (plus a a) (plus a a) ≡ run (Hadamard c ∷ Hadamard t ∷ ControlledNot t c ∷ Hadamard c ∷ Hadamard t ∷ []) s b
unfolding run
round true true c t s b e f n m a g = simp (g, at-known, e, f) (parts (omega (arith, ints)))
round true false c t s b e f n m a g = simp (g, at-known, e, f) (parts (omega (arith, ints)))
round false true c t s b e f n m a g = simp (g, at-known, e, f) (parts (omega (arith, ints)))
round false false c t s b e f n m a g = simp (g, at-known, e, f) (parts (omega (arith, ints)))

pub turned_round : TurnedRound
unfolding mixes run
turned_round c t ne s b = rooted-4 (does (ControlledNot c t) s b) ∙ round (b c) (b t) c t s b refl refl ne (λ e. ne (sym e)) _ refl
