-- The states that are 1 at one row and 0 elsewhere: enough, and needed.
use Rattle.std.proofs.Common.{◌≡◌, ℕ, zero, suc, ◌+◌, ◌*◌, ◌%◌, ◌^◌, ◌<◌, Bool, true, false, cond, not, eqb, ◌⊎◌, List, sym, refl, ap, ◌∙◌, subst, inl, inr, arith, ne_eqb, eqb-true}
use mathlib.Core.Path.{fun_ext}
use native.Mathlib.Decide.{ℕ_discrete}
use borrow.Author.Tests.{eqb-false}
use Rattle.std.proofs.lemmas.Int.{ints}
use Rattle.amplitude.proofs.RingLaws.{parts, turned_add, turned_mod, turned_back}
use Rattle.amplitude.specs.Ring.{nought, unit, turned, rooted}
use Rattle.amplitude.specs.declared.Amplitude.{Amplitude}
use Rattle.circuit.proofs.Numbers.{number-below, number_same, row_number, number-row}
use Rattle.circuit.specs.Circuit.{Row, State, run, mixes, AllFit, AlikeBy, Same}
use Rattle.circuit.specs.Rows.{number, row, basis, amplitude}
use Rattle.circuit.specs.declared.gate.Gate.{Gate}
use Rattle.equivalence.proofs.Cover.{Each, cover, At, at-closed, at_any}
use Rattle.equivalence.proofs.Local.{Agree, Local, set_bit, set_at, run_local}
use Rattle.equivalence.specs.Compare.{Agrees}

-- the state that is 1 at the rows that agree with r below n, and 0 at the others
unfoldable pub only : ℕ → Row → State
only zero r b = unit
only (suc n) r b = cond (cond (r n) (b n) (not (b n))) (only n r b) nought

pub only_agree : (n : ℕ) (r r' : Row) → Agree n r r' → only n r ≡ only n r'
unfolding only
only_agree zero r r' h = refl
only_agree (suc n) r r' h = λ i b. cond (cond (h n (omega arith) i) (b n) (not (b n))) (only_agree n r r' (λ j l. h j (omega arith)) i b) nought

set_off : (n : ℕ) (x : Bool) (r : Row) → Agree n (set_bit n x r) r
unfolding set_bit
set_off n x r j l = rw (ne_eqb j n (λ e. absurd (omega arith)))

only_set : (n : ℕ) (x : Bool) (r : Row) → only (suc n) (set_bit n x r) ≡ (λ b. cond (cond x (b n) (not (b n))) (only n r b) nought)
unfolding only
only_set n x r = λ i b. cond (cond (set_at n x r i) (b n) (not (b n))) (only_agree n (set_bit n x r) r (set_off n x r) i b) nought

pub each-only : (n : ℕ) (Q : State → Type 0) → ((r : Row) → Q (only n r)) → Each n Q
each-only zero Q h = unfold only in h (λ _. false)
each-only (suc n) Q h = (
  each-only n (λ u. Q (λ b. cond (b n) (u b) nought)) (λ r. subst Q (only_set n true r) (h (set_bit n true r))),
  each-only n (λ u. Q (λ b. cond (not (b n)) (u b) nought)) (λ r. subst Q (only_set n false r) (h (set_bit n false r))),
)

only_self : (n : ℕ) (r : Row) → only n r r ≡ unit
unfolding only
only_self zero r = refl
only_self (suc n) r = go (r n) ∙ only_self n r
  where
    go : (x : Bool) → cond (cond x x (not x)) (only n r r) nought ≡ only n r r
    go true = refl
    go false = refl

agree_suc : (n : ℕ) (r b : Row) → Agree n r b → r n ≡ b n → Agree (suc n) r b
agree_suc n r b h e j l = go (ℕ_discrete j n)
  where
    go : Dec (j ≡ n) → r j ≡ b j
    go (yes p) = rw p e
    go (no ne) = h j (omega arith)

-- the rows agree, or it is nought there
pub only-or : (n : ℕ) (r b : Row) → Agree n r b ⊎ (only n r b ≡ nought)
unfolding only
only-or zero r b = inl (λ j l. absurd (omega arith))
only-or (suc n) r b = go (r n) (b n) refl refl (only-or n r b)
  where
    go : (x y : Bool) → r n ≡ x → b n ≡ y → Agree n r b ⊎ (only n r b ≡ nought) → Agree (suc n) r b ⊎ (cond (cond x y (not y)) (only n r b) nought ≡ nought)
    go true true p q (inl h) = inl (agree_suc n r b h (p ∙ sym q))
    go true true p q (inr e) = inr e
    go true false p q _ = inr refl
    go false true p q _ = inr refl
    go false false p q (inl h) = inl (agree_suc n r b h (p ∙ sym q))
    go false false p q (inr e) = inr e

-- the state that is 1 at one row, by its number
pub basis-only : (n k : ℕ) → k < 2 ^ n → basis n k ≡ only n (row n k)
unfolding basis
basis-only n k h = fun_ext (λ b. go b (eqb (number n b) k) refl)
  where
    go : (b : Row) (t : Bool) → eqb (number n b) k ≡ t → cond t unit nought ≡ only n (row n k) b
    go b true e =
        sym (ap (λ (u : State). u b) (only_agree n (row n k) b (λ j l. ap (λ m. row n m j) (sym (eqb-true (number n b) k e)) ∙ row_number n b j l)) ∙ only_self n b)
    go b false e = at (only-or n (row n k) b)
      where
        at : Agree n (row n k) b ⊎ (only n (row n k) b ≡ nought) → nought ≡ only n (row n k) b
        at (inl a) = absurd (eqb-false (number n b) k e (sym (number_same n (row n k) b a) ∙ number-row n k h))
        at (inr p) = sym p

basis_local : (n k : ℕ) → Local n (basis n k)
unfolding basis
basis_local n k b b' h = ap (λ m. cond (eqb m k) unit nought) (number_same n b b' h)

only-numbered : (n : ℕ) (Q : State → Type 0) → ((m : ℕ) → m < 2 ^ n → Q (basis n m)) → (r : Row) → Q (only n r)
only-numbered n Q h r =
    subst Q (basis-only n (number n r) (number-below n r) ∙ only_agree n (row n (number n r)) r (row_number n r)) (h (number n r) (number-below n r))

-- where they agree from each of the 2 ^ n rows, at each of them, they do for every state and row
pub basis-enough :
    (n : ℕ) (c d : List Gate) (t : ℕ) → AllFit n c → AllFit n d → ((at from : ℕ) → at < 2 ^ n → from < 2 ^ n → Agrees n c d t at from) → AlikeBy c d t
unfolding amplitude
basis-enough n c d t fc fd h =
    at_any n c d fc fd t (cover n (At c d t) (at-closed c d t) (each-only n (At c d t) (only-numbered n (At c d t) (λ m l b.
    ap (rooted (mixes d)) (sym (run_local n c fc (basis n m) (basis_local n m) (row n (number n b)) b (row_number n b)))
    ∙ h (number n b) m (number-below n b) l
    ∙ ap (λ x. turned t (rooted (mixes c) x)) (run_local n d fd (basis n m) (basis_local n m) (row n (number n b)) b (row_number n b))))))

-- and the other way, with a turn below 8
pub basis_needed : (n : ℕ) (c d : List Gate) (e : Same c d) (at from : ℕ) → Agrees n c d (e.turn % 8) at from
unfolding amplitude
basis_needed n c d e at from =
    e.same (basis n from) (row n at) ∙ sym (turned_mod e.turn (rooted (mixes c) (run d (basis n from) (row n at))))

-- what a turn by less than 8 leaves as it is is nought
fields : {a b : Amplitude} → a ≡ b → (a.one ≡ b.one) × (a.w ≡ b.w) × (a.w2 ≡ b.w2) × (a.w3 ≡ b.w3)
fields e = (ap (λ (x : Amplitude). x.one) e, ap (λ (x : Amplitude). x.w) e, ap (λ (x : Amplitude). x.w2) e, ap (λ (x : Amplitude). x.w3) e)

module _ (a : Amplitude) where
  still : (k : ℕ) → k < 7 → turned (suc k) a ≡ a → a ≡ nought
  still zero h e = let f = fields e in parts (omega (arith, ints))
  still (suc zero) h e = let f = fields e in parts (omega (arith, ints))
  still (suc (suc zero)) h e = let f = fields e in parts (omega (arith, ints))
  still (suc (suc (suc zero))) h e = let f = fields e in parts (omega (arith, ints))
  still (suc (suc (suc (suc zero)))) h e = let f = fields e in parts (omega (arith, ints))
  still (suc (suc (suc (suc (suc zero))))) h e = let f = fields e in parts (omega (arith, ints))
  still (suc (suc (suc (suc (suc (suc zero)))))) h e = let f = fields e in parts (omega (arith, ints))
  still (suc (suc (suc (suc (suc (suc (suc k))))))) h e = absurd (omega arith)

-- an amplitude that is not nought tells the turn
pub turn-told : (s t : ℕ) (a : Amplitude) → (a ≡ nought → ⊥) → turned s a ≡ turned t a → s % 8 ≡ t % 8
turn-told s t a ne e = go ((7 * t + s) % 8) refl
  where
    back : turned ((7 * t + s) % 8) a ≡ a
    back = turned_mod (7 * t + s) a ∙ turned_add (7 * t) s a ∙ ap (turned (7 * t)) e ∙ turned_back t a

    go : (k : ℕ) → (7 * t + s) % 8 ≡ k → s % 8 ≡ t % 8
    go zero h = omega arith
    go (suc k) h = absurd (ne (still a k (omega arith) (ap (λ x. turned x a) (sym h) ∙ back)))
