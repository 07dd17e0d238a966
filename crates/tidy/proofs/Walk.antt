-- The walk back, by index.
use Rattle.std.proofs.Common.{◌≡◌, ℕ, ◌<◌, Bool, true, false, cond, eqb, List, [], ◌∷◌, ◌++◌, reverse, length, take, set, Some, None, sym, refl, ap, ◌∙◌, arith, eqb-true}
use mathlib.Core.List.{reverse-append, reverse-cons, reverse-reverse}
use lib.ListN.{length-reverse}
use lib.Seq.{take-set-lt}
use borrow.Author.Tests.{eqb-false}
use Rattle.std.proofs.lemmas.List.{length-take, set_at, set-append_left}
use Rattle.circuit.specs.declared.gate.Gate.{Gate}
use Rattle.tidy.specs.Engine.{maybe, partner, put}
use Rattle.tidy.specs.Rules.{rule, passed}
use Rattle.tidy.specs.declared.rules.Carried.{Carried}

-- one step back: past the newest gate, or to it
pub partner_back : (c : Carried) (xs : List Gate) (h : Gate) →
    partner c (reverse (xs ++ (h ∷ []))) ≡ maybe (rule h c.gate) (λ k. Some (record { at = length xs; gate = k; turn = c.turn })) (maybe (passed h c) (λ d. partner d (reverse xs)) None)
unfolding partner
partner_back c xs h =
    ap (partner c) (reverse-append xs (h ∷ []))
    ∙ ap (λ n. maybe (rule h c.gate) (λ k. Some (record { at = n; gate = k; turn = c.turn })) (maybe (passed h c) (λ d. partner d (reverse xs)) None)) (length-reverse xs)

-- a gate written into its place
pub put_back : (hs : List Gate) (n : ℕ) (v : Gate) → n < length hs → reverse (set (reverse hs) n v) ≡ put n v hs
unfolding put
put_back [] n v l = refl
put_back (h ∷ hs) n v l = ap (λ xs. reverse (set xs n v)) (reverse-cons h hs) ∙ go (eqb (length hs) n) refl (put_back hs n v)
  where
    go : (x : Bool) → eqb (length hs) n ≡ x → (n < length hs → reverse (set (reverse hs) n v) ≡ put n v hs) → reverse (set (reverse hs ++ (h ∷ [])) n v) ≡ cond x (v ∷ hs) (h ∷ put n v hs)
    go true e ih =
        ap reverse (set_at (reverse hs) h [] v n (length-reverse hs ∙ eqb-true (length hs) n e))
        ∙ reverse-append (reverse hs) (v ∷ [])
        ∙ ap (λ xs. v ∷ xs) (reverse-reverse hs)
    go false e ih =
        let m : n < length hs = omega (arith, eqb-false (length hs) n e) in
        let k : n < length (reverse hs) = omega (arith, length-reverse hs) in
        ap reverse (set-append_left (reverse hs) (h ∷ []) n v k)
        ∙ reverse-append (set (reverse hs) n v) (h ∷ [])
        ∙ ap (λ xs. h ∷ xs) (ih m)

pub put_row : (xs : List Gate) (n i : ℕ) (v : Gate) → i < length (take n xs) → reverse (take n (set xs i v)) ≡ put i v (reverse (take n xs))
put_row xs n i v l =
    let k : i < length (reverse (take n xs)) = omega (arith, length-reverse (take n xs)) in
    ap reverse (take-set-lt n xs i v (omega (arith, length-take n xs)))
    ∙ ap (λ (ys : List Gate). reverse (set ys i v)) (sym (reverse-reverse (take n xs)))
    ∙ put_back (reverse (take n xs)) i v k
