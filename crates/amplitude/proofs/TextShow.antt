-- The four parts of an amplitude, one after another, are its text.
use Rattle.std.proofs.Common.{◌≡◌, ℕ, Bool, true, false, cond, ◌&&◌, List, [], ◌++◌, ℤ, pos, codes, int_eq, refl, ◌∙◌, append-nil}
use Rattle.std.proofs.lemmas.Bool.{and_parts, cond_both, false≢true}
use Rattle.std.specs.Cmp.{signed_Decides}
use Rattle.amplitude.specs.declared.Amplitude.{Amplitude}
use Rattle.amplitude.specs.Written.{amplitude_text, is_zero, part}
use Rattle.amplitude.proofs.TextRead.{is-zero-zero}

-- what == tells of an amplitude that is not 0
abbrev pub SomePart : Amplitude → Type 0
SomePart a = false ≡ (int_eq a.one (pos 0) && (int_eq a.w (pos 0) && (int_eq a.w2 (pos 0) && int_eq a.w3 (pos 0))))

equal : (z : ℤ) → is_zero z ≡ true → int_eq z (pos 0) ≡ true
equal z e = (signed_Decides z (pos 0)).1 (is-zero-zero z e)

all_four : (x y z w : Bool) → x ≡ true → y ≡ true → z ≡ true → w ≡ true → (x && (y && (z && w))) ≡ true
all_four x y z w p q r s = rw (p, q, r, s)

-- no 0 is written for it
no_zero : (a : Amplitude) → SomePart a → cond (is_zero a.one && is_zero a.w && is_zero a.w2 && is_zero a.w3) (codes "0") [] ≡ []
no_zero a h =
    cond_both (is_zero a.one && is_zero a.w && is_zero a.w2 && is_zero a.w3) (codes "0") [] (λ (bs : List ℕ). bs ≡ [])
    (λ e.
    let p = and_parts (is_zero a.one && is_zero a.w && is_zero a.w2) (is_zero a.w3) e in
    let q = and_parts (is_zero a.one && is_zero a.w) (is_zero a.w2) p.0 in
    let r = and_parts (is_zero a.one) (is_zero a.w) q.0 in
    absurd (false≢true (h ∙ all_four _ _ _ _ (equal a.one r.0) (equal a.w r.1) (equal a.w2 q.1) (equal a.w3 p.1))))
    (λ e. refl)

-- four parts, each first as long as those before it are 0
pub four_parts : (a : Amplitude) (z z1 z2 z3 : ℤ) (f1 f2 f3 : Bool) (b1 b2 b3 : List ℕ) → SomePart a → z ≡ a.one → z1 ≡ a.w → z2 ≡ a.w2 → z3 ≡ a.w3 → f1 ≡ is_zero z → f2 ≡ (f1 && is_zero z1) → f3 ≡ (f2 && is_zero z2) → b1 ≡ codes "w" → b2 ≡ codes "w^2" → b3 ≡ codes "w^3" → part true z [] ++ (part f1 z1 b1 ++ (part f2 z2 b2 ++ part f3 z3 b3)) ≡ amplitude_text a
four_parts a z z1 z2 z3 f1 f2 f3 b1 b2 b3 h e e1 e2 e3 g1 g2 g3 p1 p2 p3 = cc (no_zero a h, append-nil (part (is_zero a.one && is_zero a.w && is_zero a.w2) a.w3 (codes "w^3")))
