-- Twins, turns that go backwards past a flip, and turns by whole eights.
use Rattle.std.proofs.Common.{◌≡◌, ℕ, zero, suc, ◌+◌, ◌*◌, ◌%◌, Bool, true, false, cond, not, ◌&&◌, eqb, ◌⊎◌, sym, refl, ap, ◌∙◌, subst, inl, inr}
use Rattle.std.proofs.Math.Bool.{or_comm}
use Rattle.std.proofs.lemmas.Bool.{and_parts, eqb-false, eqb-true, not-true, or_cases}
use Rattle.amplitude.proofs.RingLaws.{turned_add, turned_mod, turned-turned, turned_back, rooted_2}
use Rattle.amplitude.specs.Ring.{turned, rooted}
use Rattle.amplitude.specs.declared.Amplitude.{Amplitude}
use Rattle.circuit.proofs.Flips.{flipped-at, flipped_off, flipped_twice}
use Rattle.circuit.specs.Circuit.{Row, State, flipped, does, mixed, target}
use Rattle.circuit.specs.declared.gate.Gate.{Gate}
use Rattle.circuit.specs.declared.gate.Gate.TheVariants.{Phase, Hadamard, Not, ControlledNot, Toffoli}
use Rattle.laws.proofs.Undo.{hadamard_twice, ifs}
use Rattle.laws.specs.Undo.{undone}
use Rattle.tidy.specs.Rules.{TwinsMerge, IdleDrops, Reduces, Backs}
use Rattle.tidy.specs.Table.{kind, eighths, control, other_control, still, hinders, commutes, proper, twin, merged}

-- a gate by its numbers
abbrev shape : ℕ → ℕ → ℕ → ℕ → ℕ → Gate
shape zero m q c d = Phase m q
shape (suc zero) m q c d = Hadamard q
shape (suc (suc zero)) m q c d = Not q
shape (suc (suc (suc zero))) m q c d = ControlledNot c q
shape (suc (suc (suc (suc k)))) m q c d = Toffoli c d q

shaped : (g : Gate) → g ≡ shape (kind g) (eighths g) (target g) (control g) (other_control g)
shaped (Phase m q) = refl
shaped (Hadamard q) = refl
shaped (Not q) = refl
shaped (ControlledNot c q) = refl
shaped (Toffoli c d q) = refl

-- h is g, with eighths of its own, and maybe its controls the other way round
like : (h g : Gate) → twin h g ≡ true →
    (proper g ≡ true) × ((h ≡ shape (kind g) (eighths h) (target g) (control g) (other_control g)) ⊎ (h ≡ shape (kind g) (eighths h) (target g) (other_control g) (control g)))
like h g e =
    let p = and_parts (eqb (kind h) (kind g)) _ e in
    let q = and_parts (eqb (target h) (target g)) _ p.1 in
    let r = and_parts (proper g) _ q.1 in
    (r.0, go (eqb-true (kind h) (kind g) p.0) (eqb-true (target h) (target g) q.0) (or_cases (eqb (control h) (control g) && eqb (other_control h) (other_control g)) (eqb (control h) (other_control g) && eqb (other_control h) (control g)) r.1))
  where
    with : kind h ≡ kind g → target h ≡ target g → (c d : ℕ) → (eqb (control h) c && eqb (other_control h) d) ≡ true → h ≡ shape (kind g) (eighths h) (target g) c d
    with k t c d u =
        let v = and_parts (eqb (control h) c) (eqb (other_control h) d) u in
        let m = eqb-true (control h) c v.0 in
        let n = eqb-true (other_control h) d v.1 in
        shaped h ∙ cc

    go : kind h ≡ kind g → target h ≡ target g → ((eqb (control h) (control g) && eqb (other_control h) (other_control g)) ≡ true) ⊎ ((eqb (control h) (other_control g) && eqb (other_control h) (control g)) ≡ true) →
        (h ≡ shape (kind g) (eighths h) (target g) (control g) (other_control g)) ⊎ (h ≡ shape (kind g) (eighths h) (target g) (other_control g) (control g))
    go k t (inl u) = inl (with k t (control g) (other_control g) u)
    go k t (inr u) = inr (with k t (other_control g) (control g) u)

phased : (t : Bool) (m n : ℕ) (x : Amplitude) → cond t (turned n (cond t (turned m x) x)) (cond t (turned m x) x) ≡ cond t (turned ((m + n) % 8) x) x
phased true m n x = turned-turned n m x ∙ sym (turned_add m n x) ∙ sym (turned_mod (m + n) x)
phased false m n x = refl

-- as `ifs`, with the test of the first gate the other way round
ifs_swap : (t u : Bool) (x y z : Amplitude) → z ≡ x → cond (t && u) (cond (u && t) z y) (cond (u && t) y x) ≡ x
ifs_swap true true x y z e = e
ifs_swap true false x y z e = refl
ifs_swap false true x y z e = refl
ifs_swap false false x y z e = refl

nought-turn : (t : Bool) (x : Amplitude) → cond t (turned 0 x) x ≡ x
nought-turn true x = refl
nought-turn false x = refl

unequal : (c q : ℕ) → not (eqb c q) ≡ true → c ≡ q → ⊥
unequal c q e = eqb-false c q (not-true (eqb c q) e)

abbrev After : Gate → State → Row → Gate → Type 0
After g s b h = does g (does h s) b ≡ rooted (mixed h + mixed g) (does (merged h g) s b)

twice : (g : Gate) (m : ℕ) (s : State) (b : Row) → proper g ≡ true → After g s b (shape (kind g) m (target g) (control g) (other_control g))
unfolding does
twice (Phase n q) m s b h = phased (b q) m n (s b)
twice (Hadamard q) m s b h =
    rw (flipped-at q b) (hadamard_twice (b q) (s b) (s (flipped q b)) (s (flipped q (flipped q b))) (ap s (flipped_twice q b)) ∙ sym (rooted_2 (s b)) ∙ ap (rooted 2) (sym (nought-turn (b q) (s b))))
twice (Not q) m s b h = ap s (flipped_twice q b) ∙ sym (nought-turn (b q) (s b))
twice (ControlledNot c q) m s b h =
    rw (flipped_off q c b (unequal c q h)) (ifs (b c) (s b) (s (flipped q b)) (s (flipped q (flipped q b))) (ap s (flipped_twice q b)) ∙ sym (nought-turn (b q) (s b)))
twice (Toffoli c d q) m s b h =
    let k = and_parts (not (eqb c q)) (not (eqb d q)) h in
    rw (flipped_off q c b (unequal c q k.0), flipped_off q d b (unequal d q k.1)) (ifs (b c && b d) (s b) (s (flipped q b)) (s (flipped q (flipped q b))) (ap s (flipped_twice q b)) ∙ sym (nought-turn (b q) (s b)))

crossed : (g : Gate) (m : ℕ) (s : State) (b : Row) → proper g ≡ true → After g s b (shape (kind g) m (target g) (other_control g) (control g))
unfolding does
crossed (Phase n q) m s b h = twice (Phase n q) m s b h
crossed (Hadamard q) m s b h = twice (Hadamard q) m s b h
crossed (Not q) m s b h = twice (Not q) m s b h
crossed (ControlledNot c q) m s b h = twice (ControlledNot c q) m s b h
crossed (Toffoli c d q) m s b h =
    let k = and_parts (not (eqb c q)) (not (eqb d q)) h in
    rw (flipped_off q c b (unequal c q k.0), flipped_off q d b (unequal d q k.1)) (ifs_swap (b c) (b d) (s b) (s (flipped q b)) (s (flipped q (flipped q b))) (ap s (flipped_twice q b)) ∙ sym (nought-turn (b q) (s b)))

pub twins_merge : TwinsMerge
twins_merge h g e s b = go (like h g e).1
  where
    go : (h ≡ shape (kind g) (eighths h) (target g) (control g) (other_control g)) ⊎ (h ≡ shape (kind g) (eighths h) (target g) (other_control g) (control g)) → After g s b h
    go (inl u) = subst (After g s b) (sym u) (twice g (eighths h) s b (like h g e).0)
    go (inr u) = subst (After g s b) (sym u) (crossed g (eighths h) s b (like h g e).0)

-- a turn, by its test
pub turn_is : (g : Gate) → still g ≡ true → g ≡ Phase (eighths g) (target g)
turn_is (Phase m q) e = refl
turn_is (Hadamard q) e = cc
turn_is (Not q) e = cc
turn_is (ControlledNot c q) e = cc
turn_is (Toffoli c d q) e = cc

backwards : (t : Bool) (m : ℕ) (x : Amplitude) → cond t (turned m x) x ≡ turned m (cond (not t) (turned ((7 * m) % 8) x) x)
backwards true m x = refl
backwards false m x = sym (turned-turned m ((7 * m) % 8) x ∙ turned_mod (7 * m) (turned m x) ∙ turned_back m x)

pub backs_stand : Backs
unfolding does undone
backs_stand h g e s b =
    rw (is-not, turn) (rw (flipped-at (target g) b) (backwards (b (target g)) (eighths g) (s (flipped (target g) b))))
  where
    p : (eqb (kind h) 2 ≡ true) × ((still g && eqb (target h) (target g)) ≡ true)
    p = and_parts (eqb (kind h) 2) (still g && eqb (target h) (target g)) e

    turn : g ≡ Phase (eighths g) (target g)
    turn = turn_is g (and_parts (still g) (eqb (target h) (target g)) p.1).0

    is-not : h ≡ Not (target g)
    is-not = shaped h ∙ ap (λ k. shape k (eighths h) (target h) (control h) (other_control h)) (eqb-true (kind h) 2 p.0) ∙ ap Not (eqb-true (target h) (target g) (and_parts (still g) (eqb (target h) (target g)) p.1).1)

reduced-at : (t : Bool) (m : ℕ) (x : Amplitude) → cond t (turned (m % 8) x) x ≡ cond t (turned m x) x
reduced-at true m x = turned_mod m x
reduced-at false m x = refl

pub reduces : Reduces
unfolding does
reduces (Phase m q) s b = reduced-at (b q) m (s b)
reduces (Hadamard q) s b = refl
reduces (Not q) s b = refl
reduces (ControlledNot c q) s b = refl
reduces (Toffoli c d q) s b = refl

idle-at : (m q : ℕ) (s : State) (b : Row) → m % 8 ≡ 0 → does (Phase m q) s b ≡ s b
unfolding does
idle-at m q s b e = sym (reduced-at (b q) m (s b)) ∙ ap (λ k. cond (b q) (turned k (s b)) (s b)) e ∙ nought-turn (b q) (s b)

pub idle_drops : IdleDrops
idle_drops g e s b =
    let p = and_parts (still g) (eqb (eighths g % 8) 0) e in
    ap (λ (h : Gate). does h s b) (turn_is g p.0) ∙ idle-at (eighths g) (target g) s b (eqb-true (eighths g % 8) 0 p.1)

-- what changes places with a gate does so with its twin
shape_same : (k g : Gate) (m : ℕ) → commutes k (shape (kind g) m (target g) (control g) (other_control g)) ≡ commutes k g
shape_same k (Phase n q) m = refl
shape_same k (Hadamard q) m = refl
shape_same k (Not q) m = refl
shape_same k (ControlledNot c q) m = refl
shape_same k (Toffoli c d q) m = refl

shape_crossed : (k g : Gate) (m : ℕ) → commutes k (shape (kind g) m (target g) (other_control g) (control g)) ≡ commutes k g
shape_crossed k (Phase n q) m = refl
shape_crossed k (Hadamard q) m = refl
shape_crossed k (Not q) m = refl
shape_crossed k (ControlledNot c q) m = refl
shape_crossed k (Toffoli c d q) m =
    ap (λ (x : Bool). not (not (still k) && x) && not (hinders (Toffoli c d q) k)) (or_comm (eqb (target k) d) (eqb (target k) c))

pub twin-commutes : (k h g : Gate) → twin h g ≡ true → commutes k h ≡ commutes k g
twin-commutes k h g e = go (like h g e).1
  where
    go : (h ≡ shape (kind g) (eighths h) (target g) (control g) (other_control g)) ⊎ (h ≡ shape (kind g) (eighths h) (target g) (other_control g) (control g)) → commutes k h ≡ commutes k g
    go (inl u) = ap (commutes k) u ∙ shape_same k g (eighths h)
    go (inr u) = ap (commutes k) u ∙ shape_crossed k g (eighths h)
