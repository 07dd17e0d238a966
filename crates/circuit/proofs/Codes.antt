-- Circuits in numbers and back, the first fault and the first misfit.
use Rattle.std.proofs.Common.{◌≡◌, ℕ, zero, suc, ◌+◌, ◌*◌, ◌/◌, ◌<◌, ◌≤◌, Bool, true, false, cond, not, List, [], ◌∷◌, ◌++◌, ◌==◌, length, get_or, take, drop, set, Some, None, Option, sym, refl, ap, ◌∙◌, ap₂, arith, rules, drop-drop}
use Rattle.std.specs.List.{count_by, position_from}
use Rattle.std.specs.Simd.{first_chunks}
use Rattle.std.proofs.lemmas.List.Recursion.{is_count_by}
use Rattle.std.proofs.lemmas.List.{get_or-drop, get_or-take, append-nil, append_assoc, take_all, take_more_set, drop_all, drop_more}
use Rattle.std.proofs.lemmas.Bool.{true≢false}
use Rattle.std.proofs.lemmas.Bool.Decides.{nat_tests}
use Rattle.circuit.specs.Circuit.{Fit, AllFit, fits, mixed, mixes}
use Rattle.circuit.specs.Code.{code, codes, gate_of, gates_in, fault_of, first_of, fault_from}
use Rattle.circuit.specs.Refusals.{misfit_from}
use Rattle.circuit.specs.declared.gate.Gate.{Gate}
use Rattle.circuit.specs.declared.gate.Gate.TheVariants.{Phase, Hadamard, Not, ControlledNot, Toffoli}

pub codes-append : (a b : List Gate) → codes (a ++ b) ≡ codes a ++ codes b
unfolding codes
codes-append [] b = refl
codes-append (g ∷ a) b = ap (λ (xs : List ℕ). code g ++ xs) (codes-append a b) ∙ sym (append_assoc (code g) (codes a) (codes b))

pub gates_in-codes : (gs : List Gate) → gates_in (codes gs) ≡ gs
unfolding codes gates_in
gates_in-codes [] = refl
gates_in-codes (Phase m q ∷ gs) = ap (λ (xs : List Gate). Phase m q ∷ xs) (gates_in-codes gs)
gates_in-codes (Hadamard q ∷ gs) = ap (λ (xs : List Gate). Hadamard q ∷ xs) (gates_in-codes gs)
gates_in-codes (Not q ∷ gs) = ap (λ (xs : List Gate). Not q ∷ xs) (gates_in-codes gs)
gates_in-codes (ControlledNot c q ∷ gs) = ap (λ (xs : List Gate). ControlledNot c q ∷ xs) (gates_in-codes gs)
gates_in-codes (Toffoli c d q ∷ gs) = ap (λ (xs : List Gate). Toffoli c d q ∷ xs) (gates_in-codes gs)

pub fault_from-codes : (i : ℕ) (gs : List Gate) → fault_from i (codes gs) ≡ None
unfolding codes fault_from
fault_from-codes i [] = refl
fault_from-codes i (Phase m q ∷ gs) = fault_from-codes (i + 4) gs
fault_from-codes i (Hadamard q ∷ gs) = fault_from-codes (i + 4) gs
fault_from-codes i (Not q ∷ gs) = fault_from-codes (i + 4) gs
fault_from-codes i (ControlledNot c q ∷ gs) = fault_from-codes (i + 4) gs
fault_from-codes i (Toffoli c d q ∷ gs) = fault_from-codes (i + 4) gs

pub length-codes : (gs : List Gate) → length (codes gs) ≡ 4 * length gs
unfolding codes
length-codes [] = refl
length-codes (Phase m q ∷ gs) = omega (arith, length-codes gs)
length-codes (Hadamard q ∷ gs) = omega (arith, length-codes gs)
length-codes (Not q ∷ gs) = omega (arith, length-codes gs)
length-codes (ControlledNot c q ∷ gs) = omega (arith, length-codes gs)
length-codes (Toffoli c d q ∷ gs) = omega (arith, length-codes gs)

pub length-gates_in : (xs : List ℕ) → length (gates_in xs) ≡ length xs / 4
unfolding gates_in
length-gates_in [] = refl
length-gates_in (k ∷ []) = refl
length-gates_in (k ∷ (a ∷ [])) = refl
length-gates_in (k ∷ (a ∷ (b ∷ []))) = refl
length-gates_in (k ∷ (a ∷ (b ∷ (c ∷ xs)))) = omega (arith, length-gates_in xs)

-- a gate fits where its test says so
pub fit-from_fits : (n : ℕ) (g : Gate) → fits n g ≡ true → Fit n g
fit-from_fits n (Phase m q) h = grind (arith, nat_tests)
fit-from_fits n (Hadamard q) h = grind (arith, nat_tests)
fit-from_fits n (Not q) h = grind (arith, nat_tests)
fit-from_fits n (ControlledNot c q) h = grind (arith, nat_tests)
fit-from_fits n (Toffoli c d q) h = grind (arith, nat_tests)

pub fits_from_fit : (n : ℕ) (g : Gate) → Fit n g → fits n g ≡ true
fits_from_fit n (Phase m q) h = grind (arith, nat_tests)
fits_from_fit n (Hadamard q) h = grind (arith, nat_tests)
fits_from_fit n (Not q) h = grind (arith, nat_tests)
fits_from_fit n (ControlledNot c q) h = grind (arith, nat_tests)
fits_from_fit n (Toffoli c d q) h = grind (arith, nat_tests)

-- no gate misfits where all fit
pub fit_from_misfit : (n i : ℕ) (gs : List Gate) → misfit_from n i gs ≡ None → AllFit n gs
unfolding misfit_from
fit_from_misfit n i [] h = tt
fit_from_misfit n i (g ∷ gs) h = go (fits n g) refl h (fit_from_misfit n (i + 1) gs)
  where
    go : (t : Bool) → fits n g ≡ t → cond t (misfit_from n (i + 1) gs) (Some i) ≡ None → (misfit_from n (i + 1) gs ≡ None → AllFit n gs) → Fit n g × AllFit n gs
    go true e m rest = (fit-from_fits n g e, rest m)
    go false e m rest = absurd (true≢false cc)

pub misfit_from-fit : (n i : ℕ) (gs : List Gate) → AllFit n gs → misfit_from n i gs ≡ None
unfolding misfit_from
misfit_from-fit n i [] f = refl
misfit_from-fit n i (g ∷ gs) f = rw (fits_from_fit n g f.0) (misfit_from-fit n (i + 1) gs f.1)

-- the first gate that misfits is the first that a test passes over
pub misfit_position : (n i : ℕ) (gs : List Gate) → position_from (λ g. not (fits n g)) i gs ≡ misfit_from n i gs
unfolding misfit_from
misfit_position n i [] = refl
misfit_position n i (g ∷ gs) = go (fits n g) (misfit_position n (i + 1) gs)
  where
    go : (t : Bool) → position_from (λ h. not (fits n h)) (i + 1) gs ≡ misfit_from n (i + 1) gs
        → cond (not t) (Some i) (position_from (λ h. not (fits n h)) (i + 1) gs) ≡ cond t (misfit_from n (i + 1) gs) (Some i)
    go true e = e
    go false e = refl

-- Hadamards counted
pub mixes_count : (gs : List Gate) → mixes gs ≡ count_by (λ (g : Gate). mixed g == 1) gs
unfolding mixes
mixes_count = is_count_by mixes (λ (g : Gate). mixed g == 1) refl more
  where
    more : (g : Gate) (gs : List Gate) → mixed g + mixes gs ≡ cond (mixed g == 1) (1 + mixes gs) (mixes gs)
    more (Phase m q) gs = search rules
    more (Hadamard q) gs = search rules
    more (Not q) gs = search rules
    more (ControlledNot c q) gs = search rules
    more (Toffoli c d q) gs = search rules

-- numbers by fours
fours_at : (n : ℕ) (xs : List ℕ) (i : ℕ) (d : List ℕ) → i < n → get_or (first_chunks 4 n xs) i d ≡ take 4 (drop (4 * i) xs)
fours_at zero xs i d l = absurd (omega arith)
fours_at (suc n) xs zero d l = refl
fours_at (suc n) xs (suc i) d l =
    fours_at n (drop 4 xs) i d (omega arith) ∙ ap (take 4) (drop-drop (4 * i) 4 xs ∙ ap (λ (k : ℕ). drop k xs) (omega arith))

module _ (xs : List ℕ) (fours : List (List ℕ)) (i : ℕ) (cut : fours ≡ first_chunks 4 (length xs / 4) xs) (l : i < length xs / 4) where
  four_at : (j k : ℕ) → j < 4 → 4 * i + j ≡ k → get_or (get_or fours i []) j 0 ≡ get_or xs k 0
  four_at j k h is =
      ap (λ (ys : List (List ℕ)). get_or (get_or ys i []) j 0) cut
      ∙ ap (λ (ys : List ℕ). get_or ys j 0) (fours_at (length xs / 4) xs i [] l)
      ∙ get_or-take 4 (drop (4 * i) xs) j 0 h
      ∙ get_or-drop (4 * i) xs j 0
      ∙ ap (λ (m : ℕ). get_or xs m 0) is

  pub four_gate : gate_of (get_or (get_or fours i []) 0 0) (get_or (get_or fours i []) 1 0) (get_or (get_or fours i []) 2 0) (get_or (get_or fours i []) 3 0)
      ≡ gate_of (get_or xs (4 * i) 0) (get_or xs (4 * i + 1) 0) (get_or xs (4 * i + 2) 0) (get_or xs (4 * i + 3) 0)
  four_gate = rw (four_at 0 (4 * i) (omega arith) (omega arith), four_at 1 (4 * i + 1) (omega arith) refl, four_at 2 (4 * i + 2) (omega arith) refl, four_at 3 (4 * i + 3) (omega arith) refl) refl

  pub four_fault : fault_of (get_or (get_or fours i []) 0 0) (get_or (get_or fours i []) 1 0) (get_or (get_or fours i []) 2 0) (get_or (get_or fours i []) 3 0)
      ≡ fault_of (get_or xs (4 * i) 0) 0 (get_or xs (4 * i + 2) 0) (get_or xs (4 * i + 3) 0)
  four_fault = rw (four_at 0 (4 * i) (omega arith) (omega arith), four_at 2 (4 * i + 2) (omega arith) refl, four_at 3 (4 * i + 3) (omega arith) refl) refl

-- four numbers, and what is left
drop_four : (xs : List ℕ) (k : ℕ) → k + 4 ≤ length xs → drop k xs ≡ get_or xs k 0 ∷ (get_or xs (k + 1) 0 ∷ (get_or xs (k + 2) 0 ∷ (get_or xs (k + 3) 0 ∷ drop (k + 4) xs)))
drop_four xs k l =
    let two : k + 1 + 1 ≡ k + 2 = omega arith in
    let three : k + 2 + 1 ≡ k + 3 = omega arith in
    let four : k + 3 + 1 ≡ k + 4 = omega arith in
    drop_more xs k 0 (omega arith)
    ∙ ap (λ (ys : List ℕ). get_or xs k 0 ∷ ys) (drop_more xs (k + 1) 0 (omega arith)
    ∙ ap (λ (ys : List ℕ). get_or xs (k + 1) 0 ∷ ys) (ap (λ (j : ℕ). drop j xs) two ∙ drop_more xs (k + 2) 0 (omega arith)
    ∙ ap (λ (ys : List ℕ). get_or xs (k + 2) 0 ∷ ys) (ap (λ (j : ℕ). drop j xs) three ∙ drop_more xs (k + 3) 0 (omega arith)
    ∙ ap (λ (j : ℕ). get_or xs (k + 3) 0 ∷ drop j xs) four)))

pub gates-next : (xs : List ℕ) (k : ℕ) → k + 4 ≤ length xs
    → gates_in (drop k xs) ≡ gate_of (get_or xs k 0) (get_or xs (k + 1) 0) (get_or xs (k + 2) 0) (get_or xs (k + 3) 0) ∷ gates_in (drop (k + 4) xs)
unfolding gates_in
gates-next xs k l = ap gates_in (drop_four xs k l)

pub fault_next : (xs : List ℕ) (k : ℕ) → k + 4 ≤ length xs → (o : Option ℕ) → o ≡ fault_of (get_or xs k 0) 0 (get_or xs (k + 2) 0) (get_or xs (k + 3) 0)
    → fault_from k (drop k xs) ≡ first_of o k (fault_from (k + 4) (drop (k + 4) xs))
unfolding fault_from
fault_next xs k l o e = ap (fault_from k) (drop_four xs k l) ∙ ap (λ (p : Option ℕ). first_of p k (fault_from (k + 4) (drop (k + 4) xs))) (sym e)

-- a rest of fewer than four numbers
pub fault_short : (i : ℕ) (xs : List ℕ) → length xs < 4 → fault_from i xs ≡ None
unfolding fault_from
fault_short i [] l = refl
fault_short i (k ∷ []) l = refl
fault_short i (k ∷ (a ∷ [])) l = refl
fault_short i (k ∷ (a ∷ (b ∷ []))) l = refl
fault_short i (k ∷ (a ∷ (b ∷ (c ∷ xs)))) l = absurd (omega arith)

-- one gate more is written, and at the end all are
pub decode-next : (xs : List ℕ) (gs : List Gate) (i : ℕ) → 4 * length gs ≡ length xs → i < length gs → (g : Gate)
    → g ≡ gate_of (get_or xs (4 * i) 0) (get_or xs (4 * i + 1) 0) (get_or xs (4 * i + 2) 0) (get_or xs (4 * i + 3) 0)
    → take (i + 1) (set gs i g) ++ gates_in (drop (4 * (i + 1)) xs) ≡ take i gs ++ gates_in (drop (4 * i) xs)
decode-next xs gs i e l g is =
    let next : 4 * (i + 1) ≡ 4 * i + 4 = omega arith in
    ap₂ (λ (ys : List Gate) (k : ℕ). ys ++ gates_in (drop k xs)) (take_more_set gs i g l) next
    ∙ append_assoc (take i gs) (g ∷ []) (gates_in (drop (4 * i + 4) xs))
    ∙ ap (λ (h : Gate). take i gs ++ h ∷ gates_in (drop (4 * i + 4) xs)) is
    ∙ ap (λ (ys : List Gate). take i gs ++ ys) (sym (gates-next xs (4 * i) (omega arith)))

pub decode-all : (xs : List ℕ) (gs : List Gate) (i : ℕ) → 4 * length gs ≡ length xs → length gs ≤ i → gs ≡ take i gs ++ gates_in (drop (4 * i) xs)
unfolding gates_in
decode-all xs gs i e l =
    sym (append-nil gs) ∙ ap₂ (λ (ys : List Gate) (zs : List ℕ). ys ++ gates_in zs) (sym (take_all i gs l)) (sym (drop_all (4 * i) xs (omega arith)))
