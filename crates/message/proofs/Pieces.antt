-- A text that a loop puts together, a piece for each element of a list.
use Rattle.std.proofs.Common.{◌≡◌, ℕ, ◌+◌, ◌<◌, List, [], ◌∷◌, ◌++◌, map, length, get_or, take, ap, ◌∙◌, append-nil}
use Rattle.std.proofs.lemmas.List.{map_more}
use Rattle.std.proofs.lemmas.List.Folds.{concat-append}
use Rattle.std.specs.List.{concat}

-- one piece more
pub pieces_more : {A : Type 0} (f : A → List ℕ) (xs : List A) (i : ℕ) (d : A) → i < length xs → concat (map f (take (i + 1) xs)) ≡ concat (map f (take i xs)) ++ f (get_or xs i d)
pieces_more f xs i d h =
    ap concat (map_more f xs i d h) ∙ concat-append (map f (take i xs)) (f (get_or xs i d) ∷ []) ∙ ap (λ (w : List ℕ). concat (map f (take i xs)) ++ w) (append-nil (f (get_or xs i d)))
