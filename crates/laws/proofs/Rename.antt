-- Other qubits put in, no two the same: what was the same is the same.
use Rattle.std.proofs.Common.{◌≡◌, ℕ, zero, suc, ◌+◌, ◌<◌, Bool, true, false, cond, not, eqb, List, [], ◌∷◌, sym, refl, ap, ◌∙◌, ap₂, arith, eqb-true}
use mathlib.Core.Path.{fun_ext}
use borrow.Author.Tests.{eqb-false}
use Rattle.circuit.proofs.Flips.{flipped-at, flipped_off}
use Rattle.circuit.proofs.Kernel.{act, kern, does-is}
use Rattle.circuit.proofs.Pairs.{target_below}
use Rattle.circuit.specs.Circuit.{Row, State, flipped, does, run, mixed, mixes, Fit, AllFit, target}
use Rattle.circuit.specs.declared.gate.Gate.{Gate}
use Rattle.circuit.specs.declared.gate.Gate.TheVariants.{Phase, Hadamard, Not, ControlledNot, Toffoli}
use Rattle.laws.specs.Laws.{RenamedSame}
use Rattle.laws.specs.Rename.{renamed, all_renamed}

-- the row b with r written over it, where f says
unfoldable pub put : (ℕ → ℕ) → ℕ → Row → Row → Row
put f zero r b x = b x
put f (suc n) r b x = cond (eqb x (f n)) (r n) (put f n r b x)

abbrev pub OneToOne : ℕ → (ℕ → ℕ) → Type 0
OneToOne n f = (k l : ℕ) → k < n → l < n → f k ≡ f l → k ≡ l

picked_same : (t : Bool) {x y z : Bool} → (t ≡ true → x ≡ z) → (t ≡ false → y ≡ z) → cond t x y ≡ z
picked_same true p q = p refl
picked_same false p q = q refl

put-at : (f : ℕ → ℕ) (n : ℕ) (r b : Row) → OneToOne n f → (k : ℕ) → k < n → put f n r b (f k) ≡ r k
unfolding put
put-at f zero r b inj k h = absurd (omega arith)
put-at f (suc n) r b inj k h =
    picked_same (eqb (f k) (f n))
    (λ e. ap r (sym (inj k n h (omega arith) (eqb-true (f k) (f n) e))))
    (λ e. put-at f n r b (λ k l p q. inj k l (omega arith) (omega arith)) k (below e))
  where
    below : eqb (f k) (f n) ≡ false → k < n
    below e = let ne : k ≡ n → ⊥ = λ p. eqb-false (f k) (f n) e (ap f p) in omega arith

pub put_self : (f : ℕ → ℕ) (n : ℕ) (b : Row) (x : ℕ) → put f n (λ k. b (f k)) b x ≡ b x
unfolding put
put_self f zero b x = refl
put_self f (suc n) b x = picked_same (eqb x (f n)) (λ e. ap b (sym (eqb-true x (f n) e))) (λ e. put_self f n b x)

picked_both : (t : Bool) {x y x' y' : Bool} → (t ≡ true → x ≡ x') → y ≡ y' → cond t x y ≡ cond t x' y'
picked_both true p q = p refl
picked_both false p q = q

put_off : (f : ℕ → ℕ) (n : ℕ) (r b : Row) (q x : ℕ) → eqb x (f q) ≡ false → put f n (flipped q r) b x ≡ put f n r b x
unfolding put
put_off f zero r b q x e = refl
put_off f (suc n) r b q x e =
    picked_both (eqb x (f n)) (λ p. flipped_off q n r (λ i. eqb-false x (f q) e (eqb-true x (f n) p ∙ ap f i))) (put_off f n r b q x e)

-- to flip where f says is to flip what was written
put-flipped : (f : ℕ → ℕ) (n : ℕ) (r b : Row) → OneToOne n f → (q : ℕ) → q < n → flipped (f q) (put f n r b) ≡ put f n (flipped q r) b
put-flipped f n r b inj q h = fun_ext (λ x. at x (eqb x (f q)) refl)
  where
    at : (x : ℕ) (t : Bool) → eqb x (f q) ≡ t → flipped (f q) (put f n r b) x ≡ put f n (flipped q r) b x
    at x true e =
        rw (eqb-true x (f q) e)
        (flipped-at (f q) (put f n r b) ∙ ap not (put-at f n r b inj q h) ∙ sym (put-at f n (flipped q r) b inj q h ∙ flipped-at q r))
    at x false e = flipped_off (f q) x (put f n r b) (eqb-false x (f q) e) ∙ sym (put_off f n r b q x e)

pub target-renamed : (f : ℕ → ℕ) (g : Gate) → target (renamed f g) ≡ f (target g)
target-renamed f (Phase m q) = refl
target-renamed f (Hadamard q) = refl
target-renamed f (Not q) = refl
target-renamed f (ControlledNot c q) = refl
target-renamed f (Toffoli c d q) = refl

module _ (f : ℕ → ℕ) (n : ℕ) (inj : OneToOne n f) (b : Row) where
  kern_renamed : (g : Gate) → Fit n g → (r : Row) → kern (renamed f g) (put f n r b) ≡ kern g r
  kern_renamed (Phase m q) h r = rw (put-at f n r b inj q h)
  kern_renamed (Hadamard q) h r = rw (put-at f n r b inj q h)
  kern_renamed (Not q) h r = refl
  kern_renamed (ControlledNot c q) h r = rw (put-at f n r b inj c h.0)
  kern_renamed (Toffoli c d q) h r = rw (put-at f n r b inj c h.0, put-at f n r b inj d h.1)

  does-renamed : (g : Gate) → Fit n g → (s : State) (r : Row) → does (renamed f g) s (put f n r b) ≡ does g (λ r. s (put f n r b)) r
  does-renamed g h s r =
      does-is (renamed f g) s (put f n r b)
      ∙ ap₂ (λ k x. act k (s (put f n r b)) (s x)) (kern_renamed g h r) (ap (λ q. flipped q (put f n r b)) (target-renamed f g) ∙ put-flipped f n r b inj (target g) (target_below n g h))
      ∙ sym (does-is g (λ r. s (put f n r b)) r)

  run-renamed : (gs : List Gate) → AllFit n gs → (s : State) (r : Row) → run (all_renamed f gs) s (put f n r b) ≡ run gs (λ r. s (put f n r b)) r
  unfolding run all_renamed
  run-renamed [] _ s r = refl
  run-renamed (g ∷ gs) (h, fs) s r = run-renamed gs fs (does (renamed f g) s) r ∙ ap (λ (u : State). run gs u r) (fun_ext (does-renamed g h s))

pub mixed-renamed : (f : ℕ → ℕ) (g : Gate) → mixed (renamed f g) ≡ mixed g
mixed-renamed f (Phase m q) = refl
mixed-renamed f (Hadamard q) = refl
mixed-renamed f (Not q) = refl
mixed-renamed f (ControlledNot c q) = refl
mixed-renamed f (Toffoli c d q) = refl

mixes-renamed : (f : ℕ → ℕ) (gs : List Gate) → mixes (all_renamed f gs) ≡ mixes gs
unfolding mixes all_renamed
mixes-renamed f [] = refl
mixes-renamed f (g ∷ gs) = ap₂ (λ (x y : ℕ). x + y) (mixed-renamed f g) (mixes-renamed f gs)

-- at any row: it is itself, written over itself
pub run_there : (f : ℕ → ℕ) (n : ℕ) → OneToOne n f → (gs : List Gate) → AllFit n gs → (s : State) (b : Row) → run (all_renamed f gs) s b ≡ run gs (λ r. s (put f n r b)) (λ k. b (f k))
run_there f n inj gs fs s b = ap (run (all_renamed f gs) s) (sym (fun_ext (put_self f n b))) ∙ run-renamed f n inj b gs fs s (λ k. b (f k))

pub renamed-same : RenamedSame
renamed-same n f c d fc fd inj e = record {
  turn = e.turn;
  same = λ s b.
      rw (mixes-renamed f c, mixes-renamed f d, run_there f n inj c fc s b, run_there f n inj d fd s b) (e.same (λ r. s (put f n r b)) (λ k. b (f k)));
}

-- what is written over b depends on r below n only
pub put-below : (f : ℕ → ℕ) (n : ℕ) (r r' b : Row) → ((j : ℕ) → j < n → r j ≡ r' j) → (x : ℕ) → put f n r b x ≡ put f n r' b x
unfolding put
put-below f zero r r' b h x = refl
put-below f (suc n) r r' b h x = picked_both (eqb x (f n)) (λ _. h n (omega arith)) (put-below f n r r' b (λ j k. h j (omega arith)) x)

renamed_id : (g : Gate) → renamed (λ k. k) g ≡ g
renamed_id (Phase m q) = refl
renamed_id (Hadamard q) = refl
renamed_id (Not q) = refl
renamed_id (ControlledNot c q) = refl
renamed_id (Toffoli c d q) = refl

pub all_renamed_id : (gs : List Gate) → all_renamed (λ k. k) gs ≡ gs
unfolding all_renamed
all_renamed_id [] = refl
all_renamed_id (g ∷ gs) = ap₂ {C = List Gate} (λ x xs. x ∷ xs) (renamed_id g) (all_renamed_id gs)
