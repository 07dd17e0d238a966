-- Where a text ends, byte by byte.
use Rattle.std.proofs.Common.{◌≡◌, ℕ, zero, suc, ◌+◌, ◌-◌, ◌≤◌, Bool, true, false, cond, ◌&&◌, ◌||◌, ◌==◌, List, [], ◌∷◌, length, get_or, drop, codes, Some, Option, sym, refl, ap, ◌∙◌, add-zero, zero-add, arith, tests, rules}
use Rattle.std.proofs.lemmas.List.{drop_more, drop_all}
use Rattle.std.specs.List.{find, prefix_len, range_with_len}
use Rattle.std.specs.Option.{unwrap_or}
use Rattle.job.specs.Split.{space, begins, device_line, starts_device, starts_line, text_length}

one-more : (n : ℕ) → 1 + n ≡ suc n
one-more n = omega arith

-- the first word begins behind the spaces
pub past-spaces : (bs : List ℕ) → begins (codes "device") (drop (prefix_len space bs) bs) ≡ device_line bs
past-spaces [] = refl
past-spaces (b ∷ bs) =
    elim (space b) as (λ t. begins (codes "device") (drop (cond t (1 + prefix_len space bs) 0) (b ∷ bs)) ≡ cond t (device_line bs) (begins (codes "device") (b ∷ bs)))
    [ true ↦ ap (λ k. begins (codes "device") (drop k (b ∷ bs))) (one-more (prefix_len space bs)) ∙ past-spaces bs | false ↦ refl ]

-- a text ends within its job
pub text-within : (start : Bool) (bs : List ℕ) → text_length start bs ≤ length bs
text-within start [] = omega arith
text-within true (b ∷ bs) =
    elim (device_line (b ∷ bs)) as (λ t. cond t 0 (suc (text_length (b == 10) bs)) ≤ suc (length bs))
    [ true ↦ omega arith | false ↦ omega (arith, text-within (b == 10) bs) ]
text-within false (b ∷ bs) = omega (arith, text-within (b == 10) bs)

-- what the bytes from k on make of those before the device
turn : (k n b : ℕ) (bs : List ℕ) (o : Option ℕ) (start : Bool) → k + 1 + text_length (b == 10) bs ≡ unwrap_or o n
    → k + text_length start (b ∷ bs) ≡ unwrap_or (cond (start && device_line (b ∷ bs)) (Some k) o) n
turn k n b bs o true h =
    elim (device_line (b ∷ bs)) as (λ t. k + cond t 0 (suc (text_length (b == 10) bs)) ≡ unwrap_or (cond t (Some k) o) n)
    [ true ↦ add-zero k | false ↦ omega (arith, h) ]
turn k n b bs o false h = omega (arith, h)

module _ (job : List ℕ) where
  starts-more : (k : ℕ) → (get_or job k 0 == 10) ≡ starts_line job (k + 1)
  starts-more k =
      ap (λ j. get_or job j 0 == 10) (let e : k ≡ k + 1 - 1 = omega arith in e)
      ∙ ap (λ t. t || get_or job (k + 1 - 1) 0 == 10) (let e : false ≡ (k + 1 == 0) = search (rules, tests, arith) in e)

  text-from : (m k : ℕ) → k + m ≡ length job → k + text_length (starts_line job k) (drop k job) ≡ unwrap_or (find (starts_device job) (range_with_len k m)) (length job)
  text-from zero k e = ap (λ bs. k + text_length (starts_line job k) bs) (drop_all k job (omega arith)) ∙ omega arith
  text-from (suc m) k e =
      let b = get_or job k 0 in
      let more = drop_more job k 0 (omega arith) in
      let o = find (starts_device job) (range_with_len (k + 1) m) in
      ap (λ bs. k + text_length (starts_line job k) bs) more
      ∙ turn k (length job) b (drop (k + 1) job) o (starts_line job k)
      (ap (λ t. k + 1 + text_length t (drop (k + 1) job)) (starts-more k) ∙ text-from m (k + 1) (omega arith))
      ∙ ap (λ bs. unwrap_or (cond (starts_line job k && device_line bs) (Some k) o) (length job)) (sym more)

  -- the text's bytes, by the first of the places that begins the device
  pub text-is : text_length true job ≡ unwrap_or (find (starts_device job) (range_with_len 0 (length job))) (length job)
  text-is = sym (zero-add (text_length true job)) ∙ text-from (length job) 0 (zero-add (length job))
