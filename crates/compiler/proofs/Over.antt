-- Lists written one behind another through parts of one slice.
use Rattle.std.proofs.Common.{◌≡◌, ℕ, ◌-◌, ◌≤◌, List, ◌++◌, length, take, drop, sym, ap, ◌∙◌, ap₂, append_assoc, append-nil, arith, length-append, length-drop}
use borrow.Rule.Slice.PartMut.{put_mid}
use Rattle.std.proofs.lemmas.List.{take_at, drop_at, drop_all, take_rest, drop-drop}
use Rattle.std.specs.List.{between}
use Rattle.compiler.specs.Emits.{over}

to_end : {X : Type 0} (a : ℕ) (xs ys : List X) → put_mid a (length xs - a) xs ys ≡ take a xs ++ ys
to_end a xs ys = let h : length (drop a xs) ≤ length xs - a = simp length-drop (omega arith) in rw (drop_all (length xs - a) (drop a xs) h, append-nil ys)

pub over-more : {X : Type 0} (A B room room1 ys : List X) (k : ℕ) → room1 ≡ over A room → k ≡ length A → ys ≡ over B (between k (length room1) room1) → put_mid k (length room1 - k) room1 ys ≡ over (A ++ B) room
over-more A B room room1 ys k e1 e2 e4 =
    to_end k room1 ys
    ∙ (ap₂ ◌++◌ (ap (take k) e1 ∙ take_at A _ k (sym e2)) (e4 ∙ ap (over B) (take_rest room1 k ∙ (ap (drop k) e1 ∙ drop_at A _ k (sym e2))))
    ∙ simp (append_assoc, length-append, drop-drop))
