-- As many signs stand before a sign as its number says.
use Rattle.std.proofs.Common.{◌≡◌, ℕ, zero, suc, ◌+◌, ◌≤◌, Bool, true, false, cond, List, [], ◌∷◌, ◌++◌, length, get_or, take, drop, sym, refl, ap, ◌∙◌, arith, length-append, not, ◌&&◌, ◌-◌, ◌==◌, nat_lt, add-zero, zero-add, reverse}
use Rattle.std.proofs.lemmas.Bool.{lt-ltb}
use Rattle.std.proofs.lemmas.List.{drop_more, drop_all, reverse-append, reverse-reverse}
use Rattle.std.proofs.lemmas.List.Recursion.{is_sum_by}
use Rattle.std.specs.List.{count_by, filter, prefix_len, range_with_len, slice_get, suffix_len}
use Rattle.std.specs.Option.{unwrap_or}
use Rattle.text.specs.declared.token.Class.{Class}
use Rattle.text.specs.declared.token.Class.TheVariants.{Alphanumeric, Blank, Mark}
use Rattle.text.specs.Cut.{cut, flushed, by_class}
use Rattle.text.specs.Spelling.{class}
use Rattle.message.specs.Compiled.{newlines}
use Rattle.message.specs.Where.{begins_here, begins, begins_sign, column_after, in_word, line_after, by_kind, start_of, Starts, after}

-- the word so far is not empty exactly if one is inside
abbrev word : Bool → List ℕ → Type 0
word true w = length (flushed w) ≡ 1
word false w = w ≡ []

flushed-more : (w : List ℕ) (b : ℕ) → length (flushed (w ++ b ∷ [])) ≡ 1
flushed-more [] b = refl
flushed-more (x ∷ w) b = refl

flushed-is : (inside : Bool) (w : List ℕ) → word inside w → length (flushed w) ≡ cond inside 1 0
flushed-is true w k = k
flushed-is false w k = ap (λ (v : List ℕ). length (flushed v)) k

-- what a byte makes of the signs behind it
cut-is : (c : Class) (w : List ℕ) (b : ℕ) (xs : List ℕ) → class b ≡ c → length (cut w (b ∷ xs)) ≡ length (by_class c (flushed w) (cut [] xs) (cut (w ++ b ∷ []) xs))
cut-is c w b xs e = ap (λ (k : Class). length (by_class k (flushed w) (cut [] xs) (cut (w ++ b ∷ []) xs))) e

abbrev In : List ℕ → Type 0
In bs = (inside : Bool) (w : List ℕ) (i : ℕ) → word inside w → cond inside 1 0 + i ≤ length (cut w bs) → length (cut w (take (start_of inside i bs) bs)) ≡ cond inside 1 0 + i

in_step : (b : ℕ) (bs : List ℕ) → In bs → (c : Class) → class b ≡ c → (inside : Bool) (w : List ℕ) (i : ℕ) → word inside w
    → cond inside 1 0 + i ≤ length (by_class c (flushed w) (cut [] bs) (cut (w ++ b ∷ []) bs))
    → length (cut w (take (by_kind c inside i (λ within j. start_of within j bs)) (b ∷ bs))) ≡ cond inside 1 0 + i
in_step b bs ih Alphanumeric e true w i k h =
    cut-is Alphanumeric w b (take (start_of true i bs) bs) e ∙ ih true (w ++ b ∷ []) i (flushed-more w b) h
in_step b bs ih Alphanumeric e false w zero k h = flushed-is false w k
in_step b bs ih Alphanumeric e false w (suc j) k h =
    cut-is Alphanumeric w b (take (start_of true j bs) bs) e ∙ ih true (w ++ b ∷ []) j (flushed-more w b) (omega arith) ∙ omega arith
in_step b bs ih Blank e inside w i k h =
    cut-is Blank w b (take (start_of false i bs) bs) e
    ∙ length-append (flushed w) (cut [] (take (start_of false i bs) bs))
    ∙ omega (arith, flushed-is inside w k, ih false [] i refl (omega (arith, flushed-is inside w k, length-append (flushed w) (cut [] bs))))
in_step b bs ih (Mark t) e inside w zero k h = flushed-is inside w k ∙ omega arith
in_step b bs ih (Mark t) e inside w (suc j) k h =
    cut-is (Mark t) w b (take (start_of false j bs) bs) e
    ∙ length-append (flushed w) (t ∷ cut [] (take (start_of false j bs) bs))
    ∙ omega (arith, flushed-is inside w k, ih false [] j refl (omega (arith, flushed-is inside w k, length-append (flushed w) (t ∷ cut [] bs))))

starts_in : (bs : List ℕ) → In bs
unfolding start_of
starts_in [] inside w i k h = omega (arith, flushed-is inside w k)
starts_in (b ∷ bs) inside w i k h = in_step b bs (starts_in bs) (class b) refl inside w i k h

pub starts : Starts
starts bs i h = starts_in bs false [] i refl (omega arith) ∙ omega arith

within-turn : (t : Bool) (i n : ℕ) (on : ℕ → ℕ) → ((j : ℕ) → on j ≤ n) → cond t (begins_here i on) (suc (on i)) ≤ suc n
within-turn true zero n on h = omega arith
within-turn true (suc j) n on h = omega (arith, h j)
within-turn false i n on h = omega (arith, h i)

-- a sign begins within its text
pub start-within : (inside : Bool) (i : ℕ) (bs : List ℕ) → start_of inside i bs ≤ length bs
unfolding start_of
start-within inside i [] = omega arith
start-within inside i (b ∷ bs) = within-turn (begins (class b) inside) i (length bs) (λ j. start_of (in_word (class b)) j bs) (λ j. start-within (in_word (class b)) j bs)

-- what the signs from byte k on make of those before it
turn : (k n i : ℕ) (t : Bool) (on : ℕ → ℕ) (rest : List ℕ) → ((j : ℕ) → k + 1 + on j ≡ unwrap_or (slice_get rest j) n)
    → k + cond t (begins_here i on) (suc (on i)) ≡ unwrap_or (slice_get (cond t (k ∷ rest) rest) i) n
turn k n zero true on rest h = add-zero k
turn k n (suc j) true on rest h = omega (arith, h j)
turn k n i false on rest h = omega (arith, h i)

module _ (text : List ℕ) where
  abbrev inside : ℕ → Bool
  inside k = nat_lt 0 k && in_word (class (get_or text (k - 1) 0))

  inside-more : (k : ℕ) → in_word (class (get_or text k 0)) ≡ inside (k + 1)
  inside-more k = ap (λ j. in_word (class (get_or text j 0))) (let e : k ≡ k + 1 - 1 = omega arith in e) ∙ ap (λ t. t && in_word (class (get_or text (k + 1 - 1) 0))) (sym (lt-ltb 0 (k + 1) (omega arith)))

  abbrev begun : ℕ → ℕ → List ℕ
  begun k m = filter (begins_sign text) (range_with_len k m)

  start-from : (m k : ℕ) → k + m ≡ length text → (i : ℕ) → k + start_of (inside k) i (drop k text) ≡ unwrap_or (slice_get (begun k m) i) (length text)
  unfolding start_of
  start-from zero k e i = omega (arith, ap (start_of (inside k) i) (drop_all k text (omega arith)))
  start-from (suc m) k e i =
      let c = class (get_or text k 0) in
      ap (λ (bs : List ℕ). k + start_of (inside k) i bs) (drop_more text k 0 (omega arith))
      ∙ turn k (length text) i (begins c (inside k)) (λ j. start_of (in_word c) j (drop (k + 1) text)) (begun (k + 1) m)
      (λ j. ap (λ w. k + 1 + start_of w j (drop (k + 1) text)) (inside-more k) ∙ start-from m (k + 1) (omega arith) j)

  -- the bytes before a sign, by the bytes that begin one
  pub start-is : (i : ℕ) → start_of false i text ≡ unwrap_or (slice_get (begun 0 (length text)) i) (length text)
  start-is i = sym (zero-add (start_of false i text)) ∙ start-from (length text) 0 (zero-add (length text)) i

pub newlines-are : (bs : List ℕ) → newlines bs ≡ count_by (λ b. b == 10) bs
newlines-are = is_sum_by newlines (λ b. cond (b == 10) 1 0) refl (λ _ _. refl)

-- a line is one more than the newlines before it
pub line_is : (l : ℕ) (bs : List ℕ) → line_after l bs ≡ l + newlines bs
unfolding after
line_is l [] = sym (add-zero l)
line_is l (b ∷ bs) =
    elim (b == 10) as (λ (t : Bool). line_after (cond t (l + 1) l) bs ≡ l + (cond t 1 0 + newlines bs))
    [ true ↦ line_is (l + 1) bs ∙ omega arith | false ↦ line_is l bs ∙ omega arith ]

-- a column is one more than the bytes behind the last newline
after-push : (f : ℕ → ℕ → ℕ) (k : ℕ) (xs : List ℕ) (x : ℕ) → after f k (xs ++ x ∷ []) ≡ f (after f k xs) x
unfolding after
after-push f k [] x = refl
after-push f k (y ∷ xs) x = after-push f (f k y) xs x

column-back : (bs : List ℕ) → column_after 1 (reverse bs) ≡ 1 + prefix_len (λ b. not (b == 10)) bs
unfolding after
column-back [] = refl
column-back (b ∷ bs) =
    ap (column_after 1) (reverse-append (b ∷ []) bs) ∙ after-push (λ k b. cond (b == 10) 1 (k + 1)) 1 (reverse bs) b
    ∙ elim (b == 10) as (λ (t : Bool). cond t 1 (column_after 1 (reverse bs) + 1) ≡ 1 + cond (not t) (1 + prefix_len (λ b. not (b == 10)) bs) 0)
    [ true ↦ refl | false ↦ omega (arith, column-back bs) ]

pub column-is : (bs : List ℕ) → column_after 1 bs ≡ 1 + suffix_len (λ b. not (b == 10)) bs
column-is bs = ap (column_after 1) (sym (reverse-reverse bs)) ∙ column-back (reverse bs)
