use Rattle.std.proofs.Common.{◌≡◌, ℕ, ◌<◌, Bool, ◌&&◌, ltb, ap, arith}
use mathlib.Core.Path.{fun_ext}
use Rattle.std.proofs.lemmas.Bool.Decides.{nat_tests}
use Rattle.device.proofs.couple.device_from.Goals as goal

-- what is asked of places within, asked once more
within : (n x k : ℕ) (v w : Bool) → (x < n → k < n → v ≡ (ltb x n && (ltb k n && w))) → (ltb x n && (ltb k n && v)) ≡ (ltb x n && (ltb k n && w))
within n x k v w h = grind (arith, nat_tests)

pub returns : goal.returns
returns c =
    let n = c.args.size in
    let i = c.loop-a.invariant in
    ap (λ (j : ℕ → ℕ → Bool). record { size = n; joined = j })
    (fun_ext (λ x. fun_ext (λ k. within n x k _ _ (λ hx hk. i.1 x (omega (arith, i.0, c.requires.small)) k (omega (arith, c.requires.small))))))
