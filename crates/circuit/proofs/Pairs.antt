-- What a gate does to a state, it does pair by pair, and so a sweep over the pairs does the gate.
use Rattle.std.proofs.Common.{◌≡◌, ℕ, ◌+◌, ◌^◌, ◌<◌, ◌≤◌, Bool, true, false, cond, not, ◌&&◌, ltb, List, length, get_or, set, sym, refl, ap, ◌∙◌, subst, ap₂, inl, inr, arith, pow_mono}
use Rattle.std.proofs.lemmas.Bool.{lt-ltb, cases_Bool}
use Rattle.amplitude.specs.Ring.{nought, minus, Within}
use Rattle.amplitude.specs.declared.Amplitude.{Amplitude}
use Rattle.circuit.proofs.Flips.{flipped-at, flipped_off, flipped_twice}
use Rattle.circuit.proofs.Numbers.{number-below, more-below, number-row, row_number, number-flipped}
use Rattle.circuit.proofs.Sweep.{Two, both, at, Swept, swept-next, swept-more}
use Rattle.circuit.specs.Circuit.{Row, State, flipped, does, target, Fit}
use Rattle.circuit.specs.Rows.{row, number, weight, state_of}
use Rattle.circuit.specs.Vector.{paired, Bounded}
use Rattle.circuit.specs.declared.gate.Gate.{Gate}
use Rattle.circuit.specs.declared.gate.Gate.TheVariants.{Phase, Hadamard, Not, ControlledNot, Toffoli}

cond_true : {A : Type 0} (t : Bool) (x y : A) → t ≡ true → cond t x y ≡ x
cond_true t x y e = ap (λ (u : Bool). cond u x y) e

cond_false : {A : Type 0} (t : Bool) (x y : A) → t ≡ false → cond t x y ≡ y
cond_false t x y e = ap (λ (u : Bool). cond u x y) e

swap_if : (t : Bool) (x y : Amplitude) → ◌≡◌ {A = Two} (cond t y x, cond t x y) (cond t (y, x) (x, y))
swap_if true x y = refl
swap_if false x y = refl

-- the amplitudes at a row and at the row flipped at q
abbrev two : ℕ → State → Row → Two
two q s b = (s b, s (flipped q b))

swaps : (q : ℕ) (s : State) (b : Row) (t u : Bool) → t ≡ u
    → ◌≡◌ {A = Two} (cond t (s (flipped q b)) (s b), cond u (s (flipped q (flipped q b))) (s (flipped q b))) (cond t (s (flipped q b), s b) (s b, s (flipped q b)))
swaps q s b t u e =
    both refl (ap₂ (λ (v : Bool) (c : Row). cond v (s c) (s (flipped q b))) (sym e) (flipped_twice q b)) ∙ swap_if t (s b) (s (flipped q b))

paired-does : (n : ℕ) (g : Gate) → Fit n g → (s : State) (b : Row) → b (target g) ≡ false
    → two (target g) (does g s) b ≡ paired g b (s b) (s (flipped (target g) b))
unfolding does
paired-does n (Phase m q) f s b h = both (cond_false (b q) _ _ h) (cond_true (flipped q b q) _ _ (flipped-at q b ∙ ap not h))
paired-does n (Hadamard q) f s b h =
    both (cond_false (b q) _ _ h)
    (cond_true (flipped q b q) _ _ (flipped-at q b ∙ ap not h) ∙ ap (λ (c : Row). minus (s c) (s (flipped q b))) (flipped_twice q b))
paired-does n (Not q) f s b h = both refl (ap s (flipped_twice q b))
paired-does n (ControlledNot c q) f s b h = swaps q s b (b c) (flipped q b c) (sym (flipped_off q c b f.2))
paired-does n (Toffoli c d q) f s b h =
    swaps q s b (b c && b d) (flipped q b c && flipped q b d) (ap₂ (λ (t u : Bool). t && u) (sym (flipped_off q c b f.4)) (sym (flipped_off q d b f.5)))

paired_same : (n : ℕ) (g : Gate) → Fit n g → (b c : Row) → ((k : ℕ) → k < n → b k ≡ c k) → (x y : Amplitude) → paired g b x y ≡ paired g c x y
paired_same n (Phase m q) f b c h x y = refl
paired_same n (Hadamard q) f b c h x y = refl
paired_same n (Not q) f b c h x y = refl
paired_same n (ControlledNot a q) f b c h x y = ap (λ (t : Bool). cond t (y, x) (x, y)) (h a f.0)
paired_same n (Toffoli a d q) f b c h x y = ap₂ (λ (t u : Bool). cond (t && u) (y, x) (x, y)) (h a f.0) (h d f.1)

pub target_below : (n : ℕ) (g : Gate) → Fit n g → target g < n
target_below n (Phase m q) f = f
target_below n (Hadamard q) f = f
target_below n (Not q) f = f
target_below n (ControlledNot c q) f = f.1
target_below n (Toffoli c d q) f = f.2

-- a pair's update by a gate
abbrev pub by : ℕ → Gate → ℕ → Two → Two
by n g k t = paired g (row n k) t.0 t.1

-- the rows below r are done by the gate, the others as they were
abbrev pub DoneBelow : ℕ → Gate → List Amplitude → ℕ → List Amplitude → Type 0
DoneBelow n g old r xs = Swept n (target g) (by n g) old r xs

module _ (n : ℕ) (g : Gate) (fit : Fit n g) (old xs : List Amplitude) (s : DoneBelow n g old (2 ^ n) xs) where
  two_is : (ys : List Amplitude) (b : Row) → b (target g) ≡ false → two (target g) (state_of n ys) b ≡ at n (target g) ys (number n b)
  unfolding state_of
  two_is ys b h = both refl (ap (λ (k : ℕ). get_or ys k nought) (number-flipped n (target g) b (target_below n g fit) h))

  two-done : (b : Row) → b (target g) ≡ false → two (target g) (state_of n xs) b ≡ two (target g) (does g (state_of n old)) b
  two-done b h =
      two_is xs b h
      ∙ s (number n b) (number-below n b) (row_number n b (target g) (target_below n g fit) ∙ h)
      ∙ cond_true (ltb (number n b) (2 ^ n)) (by n g (number n b) (at n (target g) old (number n b))) (at n (target g) old (number n b)) (lt-ltb (number n b) (2 ^ n) (number-below n b))
      ∙ paired_same n g fit (row n (number n b)) b (row_number n b) _ _
      ∙ ap (λ (t : Two). paired g b t.0 t.1) (sym (two_is old b h))
      ∙ sym (paired-does n g fit (state_of n old) b h)

  -- THE LOOP DOES THE GATE
  pub swept_all : (b : Row) → state_of n xs b ≡ does g (state_of n old) b
  swept_all b =
      elim (cases_Bool (b (target g))) [
        | inl e ↦ subst (λ (c : Row). state_of n xs c ≡ does g (state_of n old) c) (flipped_twice (target g) b)
            (ap (λ (t : Two). t.1) (two-done (flipped (target g) b) (flipped-at (target g) b ∙ ap not e)))
        | inr e ↦ ap (λ (t : Two). t.0) (two-done b e)
      ]

pub bounded_at : (m n : ℕ) (xs : List Amplitude) (k : ℕ) → Bounded m (state_of n xs) → k < 2 ^ n → Within m (get_or xs k nought)
unfolding state_of
bounded_at m n xs k b l = subst (λ (j : ℕ). Within m (get_or xs j nought)) (number-row n k l) (b (row n k))

-- where the loop is: at a row below 2 ^ n whose target is 0, with the target's weight in `bit`
pub record Here (n : ℕ) (g : Gate) (r bit : ℕ) : Type 0 where
  pub low : r < 2 ^ n
  pub weighs : bit ≡ weight n (target g)
  pub zero_there : row n r (target g) ≡ false

pub here : (n : ℕ) (g : Gate) {t bit end r : ℕ} {x : Bool} → t ≡ target g → bit ≡ weight n t → end ≡ 2 ^ n → r < end → x ≡ row n r t → x ≡ false → Here n g r bit
here n g {r} e w d l h z = record { low = omega arith; weighs = w ∙ ap (λ (x : ℕ). weight n x) e; zero_there = sym (h ∙ ap (row n r) e) ∙ z }

pub partner-below : (n : ℕ) (g : Gate) {r bit : ℕ} → n ≤ 8 → Fit n g → Here n g r bit → r + bit < 256
partner-below n g {r} {bit} few fit at =
    omega (arith, pow_mono few, more-below n r (target g) (target_below n g fit) at.low at.zero_there, at.weighs)

-- one turn of the loop there
module _ (n : ℕ) (g : Gate) (fit : Fit n g) (old xs : List Amplitude) {r bit : ℕ} (here : Here n g r bit) (s : DoneBelow n g old r xs) where
  pub pair_within : (m : ℕ) → Bounded m (state_of n old) → Within m (get_or xs r nought) × Within m (get_or xs (r + bit) nought)
  pair_within m b = (
    subst (Within m) (sym (ap (λ (t : Two). t.0) same)) (bounded_at m n old r b here.low),
    subst (Within m) (sym (ap (λ (x : ℕ). get_or xs (r + x) nought) here.weighs ∙ ap (λ (t : Two). t.1) same))
        (bounded_at m n old (r + weight n (target g)) b (more-below n r (target g) (target_below n g fit) here.low here.zero_there)),
  )
    where
      same : at n (target g) xs r ≡ at n (target g) old r
      same = swept-next n (target g) (by n g) old r xs s here.low here.zero_there

  pub swept_pair : n ≤ 8 → length xs ≡ 256 → (p : Two) → p ≡ paired g (row n r) (get_or xs r nought) (get_or xs (r + bit) nought)
      → DoneBelow n g old (r + 1) (set (set xs r p.0) (r + bit) p.1)
  swept_pair few long =
      subst (λ (x : ℕ). (p : Two) → p ≡ paired g (row n r) (get_or xs r nought) (get_or xs (r + x) nought)
      → DoneBelow n g old (r + 1) (set (set xs r p.0) (r + x) p.1))
      (sym here.weighs)
      (λ p is. swept-more n (target g) (by n g) old r xs s (omega (arith, pow_mono few)) here.low (target_below n g fit) here.zero_there p is)
