-- The gates the other way round, from a row, give that row.
use Rattle.std.proofs.Common.{◌≡◌, ℕ, zero, suc, ◌^◌, ◌<◌, Bool, true, false, cond, not, eqb, ◌⊎◌, List, [], ◌∷◌, reverse, sym, refl, ap, ◌∙◌, ap₂, inl, inr, arith}
use mathlib.Core.List.{reverse-cons}
use mathlib.Core.Path.{fun_ext}
use Rattle.std.proofs.lemmas.Int.{ints}
use Rattle.amplitude.proofs.RingLaws.{parts, plus_comm, plus_nought, minus_self}
use Rattle.amplitude.specs.Ring.{nought, minus}
use Rattle.amplitude.specs.declared.Amplitude.{Amplitude}
use Rattle.circuit.proofs.Flips.{flipped_off}
use Rattle.circuit.proofs.Kernel.{Kern, keep, other, sum, diff, act, kern, does-is}
use Rattle.circuit.proofs.Linear.{run-plus, run-minus, run-turned, run-append}
use Rattle.circuit.specs.Circuit.{Row, State, flipped, does, run, Fit, AllFit, target}
use Rattle.circuit.specs.Rows.{row, amplitude}
use Rattle.circuit.specs.declared.gate.Gate.{Gate}
use Rattle.circuit.specs.declared.gate.Gate.TheVariants.{Phase, Hadamard, Not, ControlledNot, Toffoli}
use Rattle.equivalence.proofs.Basis.{only, only-or, basis-only}
use Rattle.amplitude.proofs.RingLaws.{turned-nought}
use Rattle.equivalence.proofs.Local.{Agree, kern_agree}

minus-nought : (a : Amplitude) → minus a nought ≡ a
minus-nought a = parts (omega (arith, ints))

match_swap : (x y : Bool) → cond x y (not y) ≡ cond y x (not x)
match_swap true true = refl
match_swap true false = refl
match_swap false true = refl
match_swap false false = refl

-- either way round
only_swap : (n : ℕ) (r b : Row) → only n r b ≡ only n b r
unfolding only
only_swap zero r b = refl
only_swap (suc n) r b = λ i. cond (match_swap (r n) (b n) i) (only_swap n r b i) nought

match_flip : (t x y : Bool) → cond (cond t (not x) x) y (not y) ≡ cond x (cond t (not y) y) (not (cond t (not y) y))
match_flip true true true = refl
match_flip true true false = refl
match_flip true false true = refl
match_flip true false false = refl
match_flip false x y = refl

only_flip : (n q : ℕ) (r b : Row) → only n (flipped q r) b ≡ only n r (flipped q b)
unfolding only flipped
only_flip zero q r b = refl
only_flip (suc n) q r b = λ i. cond (match_flip (eqb n q) (r n) (b n) i) (only_flip n q r b i) nought

act-nought : (k : Kern) → act k nought nought ≡ nought
act-nought (keep m) = turned-nought m
act-nought other = refl
act-nought sum = plus_nought nought
act-nought diff = minus_self nought

phased : (m : ℕ) (s t : Bool) (y : Amplitude) → act (cond s (keep m) (keep 0)) nought y ≡ act (cond t (keep m) (keep 0)) nought y
phased m s t y = at s ∙ sym (at t)
  where
    at : (x : Bool) → act (cond x (keep m) (keep 0)) nought y ≡ nought
    at true = turned-nought m
    at false = turned-nought 0

mixed : (s t : Bool) (y : Amplitude) → act (cond s diff sum) nought y ≡ act (cond t diff sum) nought y
mixed s t y = at s ∙ sym (at t)
  where
    at : (x : Bool) → act (cond x diff sum) nought y ≡ y
    at true = minus-nought y
    at false = plus_comm nought y ∙ plus_nought y

-- what comes from the other row is the same both ways
kern_flip : (n : ℕ) (g : Gate) → Fit n g → (b : Row) (y : Amplitude) → act (kern g b) nought y ≡ act (kern g (flipped (target g) b)) nought y
kern_flip n (Phase m q) f b y = phased m (b q) (flipped q b q) y
kern_flip n (Hadamard q) f b y = mixed (b q) (flipped q b q) y
kern_flip n (Not q) f b y = refl
kern_flip n (ControlledNot c q) f b y = rw (flipped_off q c b f.2)
kern_flip n (Toffoli c d q) f b y = rw (flipped_off q c b f.4, flipped_off q d b f.5)

-- a gate on the state that is 1 at one row, by its column
pub does-only : (n : ℕ) (g : Gate) → Fit n g → (r b : Row) → does g (only n r) b ≡ act (kern g r) (only n r b) (only n (flipped (target g) r) b)
does-only n g f r b =
    does-is g (only n r) b
    ∙ at (only-or n r b) (only-or n r (flipped (target g) b))
    ∙ ap (act (kern g r) (only n r b)) (sym (only_flip n (target g) r b))
  where
    at : Agree n r b ⊎ (only n r b ≡ nought) → Agree n r (flipped (target g) b) ⊎ (only n r (flipped (target g) b) ≡ nought) →
        act (kern g b) (only n r b) (only n r (flipped (target g) b)) ≡ act (kern g r) (only n r b) (only n r (flipped (target g) b))
    at (inl h) _ = ap (λ k. act k (only n r b) (only n r (flipped (target g) b))) (sym (kern_agree n g f r b h))
    at (inr e) (inl h) =
        rw e (kern_flip n g f b (only n r (flipped (target g) b)) ∙ ap (λ k. act k nought (only n r (flipped (target g) b))) (sym (kern_agree n g f r (flipped (target g) b) h)))
    at (inr e) (inr p) = rw (e, p) (act-nought (kern g b) ∙ sym (act-nought (kern g r)))

-- a circuit on two states joined
run-act : (k : Kern) (gs : List Gate) (s t : State) (b : Row) → run gs (λ c. act k (s c) (t c)) b ≡ act k (run gs s b) (run gs t b)
run-act (keep m) gs s t b = run-turned m gs s b
run-act other gs s t b = refl
run-act sum gs s t b = ap (λ (u : State). u b) (run-plus gs s t)
run-act diff gs s t b = ap (λ (u : State). u b) (run-minus gs t s)

pub across : (n : ℕ) (gs : List Gate) → AllFit n gs → (r b : Row) → run (reverse gs) (only n b) r ≡ run gs (only n r) b
unfolding run
across n [] _ r b = only_swap n b r
across n (g ∷ gs) (h, f) r b =
    ap (λ (l : List Gate). run l (only n b) r) (reverse-cons g gs)
    ∙ ap (λ (u : State). u r) (run-append (reverse gs) (g ∷ []) (only n b))
    ∙ does-is g (run (reverse gs) (only n b)) r
    ∙ ap₂ (act (kern g r)) (across n gs f r b) (across n gs f (flipped (target g) r) b)
    ∙ sym (run-act (kern g r) gs (only n r) (only n (flipped (target g) r)) b)
    ∙ sym (ap (λ (u : State). run gs u b) (fun_ext (does-only n g h r)))

-- every gate does to rows what it does to columns, so that the gates the other way round, from a row, give that row of what the circuit does
pub row_by_row : (n : ℕ) (gs : List Gate) → AllFit n gs → (at from : ℕ) → at < 2 ^ n → from < 2 ^ n → amplitude n (reverse gs) at from ≡ amplitude n gs from at
unfolding amplitude
row_by_row n gs f at from a h =
    ap (λ (s : State). run (reverse gs) s (row n from)) (basis-only n at a) ∙ across n gs f (row n from) (row n at) ∙ ap (λ (s : State). run gs s (row n at)) (sym (basis-only n from h))
