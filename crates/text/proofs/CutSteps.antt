-- Cutting a text, step by step.
use Rattle.std.proofs.Common.{◌≡◌, ℕ, ◌+◌, ◌<◌, ◌≤◌, List, [], ◌∷◌, ◌++◌, length, get_or, drop, sym, refl, ap, ◌∙◌, append_assoc}
use Rattle.std.proofs.lemmas.List.{at_drop_more}
use Rattle.std.proofs.lemmas.List.Edits.{between_more, between_none}
use Rattle.std.specs.List.{between}
use Rattle.text.specs.declared.token.Token.{Token}
use Rattle.text.specs.declared.token.Class.{Class}
use Rattle.text.specs.declared.token.Class.TheVariants.{Alphanumeric, Blank, Mark}
use Rattle.text.specs.Spelling.{class}
use Rattle.text.specs.Cut.{flushed, by_class, cut}

-- what is cut before a byte that is of no word, and after it
by_class-parts : (c : Class) (word rest : List Token) → (c ≡ Alphanumeric → ⊥) → by_class c word [] word ++ rest ≡ by_class c word rest word
by_class-parts Alphanumeric word rest h = absurd (h refl)
by_class-parts Blank word rest h = append_assoc word [] rest
by_class-parts (Mark t) word rest h = append_assoc word (t ∷ []) rest

by_class-on : (c : Class) (word rest on other : List Token) → (c ≡ Alphanumeric → ⊥) → by_class c word rest on ≡ by_class c word rest other
by_class-on Alphanumeric word rest on other h = absurd (h refl)
by_class-on Blank word rest on other h = refl
by_class-on (Mark t) word rest on other h = refl

module _ (out : List Token) (text : List ℕ) (start i : ℕ) (before : start ≤ i) (more : i < length text) where
  -- a byte of a word
  pub on-plain : class (get_or text i 0) ≡ Alphanumeric → out ++ cut (between start (i + 1) text) (drop (i + 1) text) ≡ out ++ cut (between start i text) (drop i text)
  on-plain e = ap (λ r. out ++ r) (ap (λ w. cut w (drop (i + 1) text)) (between_more text start i 0 before more)
      ∙ sym (at_drop_more (cut (between start i text)) text i 0 more ∙ ap (λ c. by_class c (flushed (between start i text)) (cut [] (drop (i + 1) text)) (cut (between start i text ++ get_or text i 0 ∷ []) (drop (i + 1) text))) e))

  -- a byte after a word
  pub on-other : (c : Class) → c ≡ class (get_or text i 0) → (c ≡ Alphanumeric → ⊥) → (out ++ by_class c (flushed (between start i text)) [] (flushed (between start i text))) ++ cut (between (i + 1) (i + 1) text) (drop (i + 1) text) ≡ out ++ cut (between start i text) (drop i text)
  on-other c e h =
      ap (λ w. (out ++ by_class c (flushed (between start i text)) [] (flushed (between start i text))) ++ cut w (drop (i + 1) text)) (between_none text (i + 1))
      ∙ append_assoc out (by_class c (flushed (between start i text)) [] (flushed (between start i text))) (cut [] (drop (i + 1) text))
      ∙ ap (λ r. out ++ r) (by_class-parts c (flushed (between start i text)) (cut [] (drop (i + 1) text)) h
      ∙ by_class-on c _ _ _ (cut (between start i text ++ get_or text i 0 ∷ []) (drop (i + 1) text)) h
      ∙ sym (at_drop_more (cut (between start i text)) text i 0 more ∙ ap (λ d. by_class d (flushed (between start i text)) (cut [] (drop (i + 1) text)) (cut (between start i text ++ get_or text i 0 ∷ []) (drop (i + 1) text))) (sym e)))
