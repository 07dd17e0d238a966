-- The digits of a number are a word that says it.
use Rattle.std.proofs.Common.{◌≡◌, ℕ, ◌+◌, ◌-◌, ◌*◌, ◌%◌, ◌^◌, ◌<◌, ◌≤◌, true, cond, ◌&&◌, leb, List, [], ◌∷◌, ◌++◌, length, decimal, refl, ap, ◌∙◌, subst, arith, length-append}
use Rattle.std.proofs.lemmas.Fmt.{decimal_by_steps}
use Rattle.std.proofs.lemmas.Bool.Decides.{nat_tests}
use Rattle.std.proofs.lemmas.Bool.{cond-true, le-leb}
use Rattle.text.specs.declared.token.Token.{Token}
use Rattle.text.specs.declared.token.Token.TheVariants.{Number, Other}
use Rattle.text.specs.declared.token.Class.TheVariants.{Alphanumeric}
use Rattle.text.specs.Spelling.{digit, digits, value, number_of, class, word_of, Run, Stops, Spells, word}

abbrev Figures : List ℕ → Type 0
Figures [] = Unit {0}
Figures (b ∷ bs) = ((48 ≤ b) × (b ≤ 57)) × Figures bs

figures_more : (w : List ℕ) (b : ℕ) → Figures w → 48 ≤ b → b ≤ 57 → Figures (w ++ b ∷ [])
figures_more [] b f l h = ((l, h), tt)
figures_more (x ∷ w) b f l h = (f.0, figures_more w b f.1 l h)

value-more : (n : ℕ) (w : List ℕ) (b : ℕ) → value n (w ++ b ∷ []) ≡ 10 * value n w + (b - 48)
value-more n [] b = refl
value-more n (x ∷ w) b = value-more (10 * n + (x - 48)) w b

-- what is written of a number
abbrev Writes : ℕ → List ℕ → Type 0
Writes n w = (0 < length w) × Figures w × (value 0 w ≡ n)

decimal_writes : (n : ℕ) → n < 2 ^ 64 → Writes n (decimal n)
decimal_writes = decimal_by_steps Writes
    (λ n l. (omega arith, ((omega arith, omega arith), tt), omega arith))
    (λ n w l h. (omega (arith, length-append w ((48 + n % 10) ∷ [])), figures_more w (48 + n % 10) h.1 (omega arith) (omega arith), value-more 0 w (48 + n % 10) ∙ omega (arith, h.2)))

plain : (b : ℕ) → 48 ≤ b → b ≤ 57 → class b ≡ Alphanumeric
plain b l h = grind (arith, nat_tests)

figures_run : (w : List ℕ) → Figures w → Run w
figures_run [] f = tt
figures_run (b ∷ w) f = (plain b f.0.0 f.0.1, figures_run w f.1)

is_digit : (b : ℕ) → 48 ≤ b → b ≤ 57 → digit b ≡ true
is_digit b l h = grind (arith, nat_tests)

figures_digits : (w : List ℕ) → Figures w → digits w ≡ true
figures_digits [] f = refl
figures_digits (b ∷ w) f = ap (λ t. t && digits w) (is_digit b f.0.0 f.0.1) ∙ figures_digits w f.1

no_word : (b : ℕ) (w : List ℕ) → 48 ≤ b → b ≤ 57 → word_of (b ∷ w) ≡ number_of (b ∷ w)
no_word b w l h = grind (arith, nat_tests)

says-number : (w : List ℕ) (n : ℕ) → n < 256 → digits w ≡ true → value 0 w ≡ n → number_of w ≡ Number n
says-number w n h d e = ap (λ t. cond (t && leb (value 0 w) 255) (Number (value 0 w)) Other) d ∙ ap (λ k. cond (leb k 255) (Number k) Other) e ∙ cond-true _ _ _ (le-leb n 255 (omega arith))

written-word : (n : ℕ) (w bs : List ℕ) (ts : List Token) → n < 256 → Writes n w → Stops bs → Spells bs ts → Spells (w ++ bs) (Number n ∷ ts)
written-word n [] bs ts h f stop s = absurd (omega (arith, f.0))
written-word n (b ∷ w) bs ts h f stop s =
    subst (λ t. Spells (b ∷ (w ++ bs)) (t ∷ ts))
    (no_word b w f.1.0.0 f.1.0.1 ∙ says-number (b ∷ w) n h (figures_digits (b ∷ w) f.1) f.2)
    (word b w (figures_run (b ∷ w) f.1) stop s)

pub number_word : (n : ℕ) {bs : List ℕ} {ts : List Token} → n < 256 → Stops bs → Spells bs ts → Spells (decimal n ++ bs) (Number n ∷ ts)
number_word n {bs = bs} {ts = ts} h stop s = written-word n (decimal n) bs ts h (decimal_writes n (omega arith)) stop s
