-- The number of the block falls at each call.
use Rattle.std.proofs.Common.{◌≡◌, ℕ, Bool, true, cond, eqb, List, [], ◌∷◌, ◌++◌, length, take, sym, ap, ◌∙◌, subst, ⊎_elim, arith}
use Rattle.std.proofs.lemmas.List.{get_or_append_left, get_or_push, take-append-le, take_all}
use Rattle.std.proofs.lemmas.Bool.{cases_lt, cond-true, cond-false, eq-eqb, ne_eqb, ltb-true}
use Rattle.text.specs.Program.{Program, nothing, gate, next, times, undo, call, none, and, count, Known, unknown, flat, known, body, checks, blocks_checks, AllTrue, CallsBelow, CallsFall}
use Rattle.text.proofs.Written.{count-known}

all_left : (xs ys : List Bool) → AllTrue (xs ++ ys) → AllTrue xs
all_left [] ys a = tt
all_left (x ∷ xs) ys a = (a.0, all_left xs ys a.1)

all_right : (xs ys : List Bool) → AllTrue (xs ++ ys) → AllTrue ys
all_right [] ys a = a
all_right (x ∷ xs) ys a = all_right xs ys a.1

calls : (n : ℕ) (ks : List Known) (p : Program) → AllTrue (checks n ks p) → CallsBelow (length ks) p
calls n ks nothing a = tt
calls n ks (gate g) a = tt
calls n ks (next p q) a = (calls n ks p (all_left (checks n ks p) (checks n ks q) a), calls n ks q (all_right (checks n ks p) (checks n ks q) a))
calls n ks (times m p) a = calls n ks p (all_left (checks n ks p) (true ∷ []) a.1.1.1)
calls n ks (undo p) a = calls n ks p (all_left (checks n ks p) (true ∷ []) a.1.1)
calls n ks (call k qs) a = ltb-true k (length ks) a.1.0

pub calls_fall : CallsFall
calls_fall none a k h = absurd (omega arith)
calls_fall (and bs n p) a k h =
    let ks = known bs in
    let last : Known = record { size = n; row = flat ks p } in
    let many = count-known bs in
    ⊎_elim
    (λ lt.
    let rest = calls_fall bs (all_left (blocks_checks bs) _ a) k lt in
    let same : cond (eqb k (count bs)) p (body bs k) ≡ body bs k = cond-false _ _ _ (ne_eqb k (count bs) (λ e. omega arith)) in (
      subst (CallsBelow k) (sym same) rest.0,
      ap (λ x. x.row) (get_or_append_left ks (last ∷ []) unknown k (omega arith)) ∙ rest.1 ∙ (λ i. flat (sym (take-append-le k ks (last ∷ []) (omega arith)) i) (sym same i)),
    ))
    (λ ge.
    let here : k ≡ length ks = omega arith in
    let same : cond (eqb k (count bs)) p (body bs k) ≡ p = cond-true _ _ _ (eq-eqb k (count bs) (omega arith)) in
    let inner = all_left (checks n ks p) (true ∷ []) (all_right (blocks_checks bs) _ a).1.1.1.1.1 in
    let front : take k (ks ++ last ∷ []) ≡ ks = take-append-le k ks (last ∷ []) (omega arith) ∙ take_all k ks (omega arith) in (
      subst (CallsBelow k) (sym same) (subst (λ j. CallsBelow j p) (sym here) (calls n ks p inner)),
      ap (λ x. x.row) (get_or_push ks last unknown k (sym here)) ∙ (λ i. flat (sym front i) (sym same i)),
    ))
    (cases_lt k (count bs))
