-- A tree takes in one more place.
use Rattle.std.proofs.Common.{◌≡◌, ℕ, zero, suc, ◌+◌, ◌<◌, ◌≤◌, true, ◌⊎◌, ◌≢◌, List, [], ◌∷◌, length, get_or, set, replicate, sym, refl, ap, ◌∙◌, subst, ap₂, inl, inr, arith, length-set, get_or-set_other, get_or-set_same, below_more}
use lib.ListN.{get_or-replicate}
use Rattle.std.proofs.lemmas.Bool.Decides.{nat_tests}
use Rattle.std.proofs.lemmas.Bool.{cases_eq}
use Rattle.device.specs.Coupling.{Graph, Way, stays, goes}
use Rattle.device.specs.Trees.{reached, Grown, Spread, Closed, Shut}

-- midway through a sweep: what is reached in e steps and lies below y has its neighbours reached too
pub record Swept (d : Graph) (far : List ℕ) (e y : ℕ) : Type 0 where
  pub shut : (x k : ℕ) → x < d.size → k < d.size → get_or far x 0 < e → d.joined x k ≡ true → get_or far k 0 < 255
  pub edge : (x : ℕ) → x < d.size → get_or far x 0 < 255 → get_or far x 0 ≤ e + 1
  pub done : (x : ℕ) → x < y → x < d.size → (k : ℕ) → k < d.size → get_or far x 0 ≡ e → d.joined x k ≡ true → get_or far k 0 < 255

-- none of the places below y is reached in e steps
abbrev pub Bare : Graph → List ℕ → ℕ → ℕ → Type 0
Bare d far e y = (x : ℕ) → x < y → x < d.size → get_or far x 0 ≡ e → ⊥

-- at most all are reached
pub reached_most : (xs : List ℕ) → reached xs ≤ length xs
reached_most [] = omega arith
reached_most (x ∷ xs) = let h = reached_most xs in grind (arith, nat_tests)

reached-set : (xs : List ℕ) (i v : ℕ) → i < length xs → get_or xs i 0 ≡ 255 → v < 255 → reached (set xs i v) ≡ reached xs + 1
reached-set [] i v h e u = absurd (omega arith)
reached-set (x ∷ xs) zero v h e u = grind (arith, nat_tests)
reached-set (x ∷ xs) (suc i) v h e u = let k : reached (set xs i v) ≡ reached xs + 1 = reached-set xs i v (omega arith) e u in omega arith

-- an element of a list with one element changed
at_set : (xs : List ℕ) (i v k : ℕ) → i < length xs → ((k ≡ i) × (get_or (set xs i v) k 0 ≡ v)) ⊎ ((k ≡ i → ⊥) × (get_or (set xs i v) k 0 ≡ get_or xs k 0))
at_set xs i v k h = elim (cases_eq k i) [ inl e ↦ inl (e, ap (λ z. get_or (set xs i v) z 0) e ∙ get_or-set_same xs i v 0 h) | inr n ↦ inr (n, get_or-set_other xs i k v 0 n) ]

module _ (d : Graph) (a : ℕ) (far up : List ℕ) (g : Grown d a far up) (le : d.size ≤ 16)
    (x y : ℕ) (hx : x < d.size) (hy : y < d.size) (fx : get_or far x 0 < 255) (fy : get_or far y 0 ≡ 255) (jn : d.joined x y ≡ true) where
  small : get_or far x 0 + 1 < 17
  small = omega (arith, g.low x hx fx, reached_most far, g.wide)

  count : reached (set far y (get_or far x 0 + 1)) ≡ reached far + 1
  count = reached-set far y (get_or far x 0 + 1) (omega (arith, g.wide)) fy (omega (arith, small))

  -- it is fifteen steps away at most
  pub short : get_or far x 0 + 1 < 16
  short = omega (arith, g.low x hx fx, count, reached_most (set far y (get_or far x 0 + 1)), length-set far y (get_or far x 0 + 1), g.wide)

  -- what holds of far at k holds of the new one, at the new place and at the others
  at : (k : ℕ) → ((k ≡ y) × (get_or (set far y (get_or far x 0 + 1)) k 0 ≡ get_or far x 0 + 1)) ⊎ ((k ≡ y → ⊥) × (get_or (set far y (get_or far x 0 + 1)) k 0 ≡ get_or far k 0))
  at k = at_set far y (get_or far x 0 + 1) k (omega (arith, g.wide))

  up_at : (k : ℕ) → ((k ≡ y) × (get_or (set up y x) k 0 ≡ x)) ⊎ ((k ≡ y → ⊥) × (get_or (set up y x) k 0 ≡ get_or up k 0))
  up_at k = at_set up y x k (omega (arith, g.high))

  up_here : (k : ℕ) → k ≡ y → get_or (set up y x) k 0 ≡ x
  up_here k e = elim (up_at k) [ inl u ↦ u.1 | inr u ↦ absurd (u.0 e) ]

  up_there : (k : ℕ) → (k ≡ y → ⊥) → get_or (set up y x) k 0 ≡ get_or up k 0
  up_there k e = elim (up_at k) [ inl u ↦ absurd (e u.0) | inr u ↦ u.1 ]

  old : (k : ℕ) → get_or far k 0 < 255 → get_or (set far y (get_or far x 0 + 1)) k 0 ≡ get_or far k 0
  old k h = elim (at k) [ inl e ↦ absurd (omega (arith, ap (λ i. get_or far i 0) e.0)) | inr e ↦ e.1 ]

  pub grown_more : Grown d a (set far y (get_or far x 0 + 1)) (set up y x)
  grown_more = record {
    wide = length-set far y (get_or far x 0 + 1) ∙ g.wide;
    high = length-set up y x ∙ g.high;
    at = g.at;
    root = elim (at a) [ inl e ↦ absurd (omega (arith, ap (λ z. get_or far z 0) e.0, g.root)) | inr e ↦ e.1 ∙ g.root ];
    only = λ k hk z. elim (at k) [ inl e ↦ absurd (omega (arith, e.1)) | inr e ↦ g.only k hk (sym e.1 ∙ z) ];
    low = λ k hk z. elim (at k) [ inl e ↦ omega (arith, e.1, count, g.low x hx fx) | inr e ↦ omega (arith, e.1, count, g.low k hk (omega (arith, e.1))) ];
    inside = λ k hk z u. elim (at k) [
      | inl e ↦ subst (λ i. i < d.size) (sym (up_here k e.0)) hx
      | inr e ↦ subst (λ i. i < d.size) (sym (up_there k e.0)) (g.inside k hk (omega (arith, e.1)) (omega (arith, e.1)))
    ];
    linked = λ k hk z u. elim (at k) [
      | inl e ↦ ap₂ d.joined (up_here k e.0) e.0 ∙ jn
      | inr e ↦ ap (λ i. d.joined i k) (up_there k e.0) ∙ g.linked k hk (omega (arith, e.1)) (omega (arith, e.1))
    ];
    step = λ k hk z u. elim (at k) [
      | inl e ↦ ap (λ i. get_or (set far y (get_or far x 0 + 1)) i 0 + 1) (up_here k e.0) ∙ (ap (λ i. i + 1) (old x fx) ∙ sym e.1)
      | inr e ↦
          let st : get_or far (get_or up k 0) 0 + 1 ≡ get_or far k 0 = g.step k hk (omega (arith, e.1)) (omega (arith, e.1)) in
          ap (λ i. get_or (set far y (get_or far x 0 + 1)) i 0 + 1) (up_there k e.0) ∙ (ap (λ i. i + 1) (old (get_or up k 0) (omega (arith, e.1))) ∙ (st ∙ sym e.1))
    ];
  }

  pub spread_more : (was : List ℕ) → get_or was x 0 < 255 → Spread d was far x y → Spread d was (set far y (get_or far x 0 + 1)) x (y + 1)
  spread_more was hw sp = record {
    kept = λ k hk z. elim (at k) [ inl e ↦ absurd (omega (arith, sp.kept k hk z, ap (λ i. get_or far i 0) e.0)) | inr e ↦ e.1 ∙ sp.kept k hk z ];
    new = λ k hk z. elim (at k) [
      | inl e ↦ inr (e.1 ∙ ap (λ i. i + 1) (sp.kept x hx hw))
      | inr e ↦ elim (sp.new k hk (omega (arith, e.1))) [ inl u ↦ inl (e.1 ∙ u) | inr u ↦ inr (e.1 ∙ u) ]
    ];
    near = below_more (λ k. d.joined x k ≡ true → get_or (set far y (get_or far x 0 + 1)) k 0 < 255) y
        (λ k hk u. elim (at k) [ inl e ↦ omega (arith, e.1, small) | inr e ↦ omega (arith, e.1, sp.near k hk u) ])
        (λ u. elim (at y) [ inl e ↦ omega (arith, e.1, small) | inr e ↦ absurd (e.0 refl) ]);
  }

pub spread_same : (d : Graph) (was far : List ℕ) (x y : ℕ) → Spread d was far x y → (d.joined x y ≡ true → get_or far y 0 < 255) → Spread d was far x (y + 1)
spread_same d was far x y sp h = record { kept = sp.kept; new = sp.new; near = below_more (λ k. d.joined x k ≡ true → get_or far k 0 < 255) y sp.near h }

-- a sweep goes on by a place that it spreads from or by one that it leaves
pub sweep_more : (d : Graph) (far far1 : List ℕ) (e x : ℕ) → x < d.size → e < 200 → get_or far x 0 ≡ e → Swept d far e x → Spread d far far1 x d.size → Swept d far1 e (x + 1)
sweep_more d far far1 e x hx he fx sw sp = record {
  shut = λ y k hy hk z u. elim (sp.new y hy (omega arith)) [
    | inl v ↦ keep k hk (sw.shut y k hy hk (omega arith) u)
    | inr v ↦ absurd (omega arith)
  ];
  edge = λ y hy z. elim (sp.new y hy z) [ inl v ↦ omega (arith, sw.edge y hy (omega arith)) | inr v ↦ omega arith ];
  done = below_more (λ y. y < d.size → (k : ℕ) → k < d.size → get_or far1 y 0 ≡ e → d.joined y k ≡ true → get_or far1 k 0 < 255) x
      (λ y hy hm k hk z u. elim (sp.new y hm (omega arith)) [
        | inl v ↦ keep k hk (sw.done y hy hm k hk (sym v ∙ z) u)
        | inr v ↦ absurd (omega arith)
      ])
      (λ hm k hk z u. sp.near k hk u);
}
  where
    keep : (k : ℕ) → k < d.size → get_or far k 0 < 255 → get_or far1 k 0 < 255
    keep k hk z = omega (arith, sp.kept k hk z)

pub sweep_same : (d : Graph) (far : List ℕ) (e x : ℕ) → (get_or far x 0 ≡ e → ⊥) → Swept d far e x → Swept d far e (x + 1)
sweep_same d far e x n sw = record { shut = sw.shut; edge = sw.edge; done = below_more (λ y. y < d.size → (k : ℕ) → k < d.size → get_or far y 0 ≡ e → d.joined y k ≡ true → get_or far k 0 < 255) x sw.done (λ hm k hk z. absurd (n z)) }

-- the tree that has its root alone
abbrev pub blank : List ℕ
blank = replicate 16 255

module _ (d : Graph) (a : ℕ) (le : d.size ≤ 16) (ha : a < d.size) where
  at0 : (k : ℕ) → k < d.size → ((k ≡ a) × (get_or (set blank a 0) k 0 ≡ 0)) ⊎ ((k ≡ a → ⊥) × (get_or (set blank a 0) k 0 ≡ 255))
  at0 k hk = elim (at_set blank a 0 k (omega arith)) [ inl e ↦ inl e | inr e ↦ inr (e.0, e.1 ∙ get_or-replicate 16 k 255 0 (omega arith)) ]

  pub grown_one : (up : List ℕ) → length up ≡ 16 → Grown d a (set blank a 0) up
  grown_one up high = record {
    wide = length-set blank a 0;
    high = high;
    at = ha;
    root = elim (at0 a ha) [ inl e ↦ e.1 | inr e ↦ absurd (e.0 refl) ];
    only = λ k hk z. elim (at0 k hk) [ inl e ↦ e.0 | inr e ↦ absurd (omega (arith, e.1)) ];
    low = λ k hk z. elim (at0 k hk) [ inl e ↦ omega (arith, e.1, reached-set blank a 0 (omega arith) (get_or-replicate 16 a 255 0 (omega arith)) (omega arith)) | inr e ↦ absurd (omega (arith, e.1)) ];
    inside = λ k hk z u. absurd (neither k hk z u);
    linked = λ k hk z u. absurd (neither k hk z u);
    step = λ k hk z u. absurd (neither k hk z u);
  }
    where
      neither : (k : ℕ) → k < d.size → 0 < get_or (set blank a 0) k 0 → get_or (set blank a 0) k 0 < 255 → ⊥
      neither k hk z u = elim (at0 k hk) [ inl e ↦ omega (arith, e.1) | inr e ↦ omega (arith, e.1) ]

  pub closed-one : Closed d (set blank a 0) 0
  closed-one = record { shut = λ x k hx hk z. absurd (omega arith); edge = λ x hx z. elim (at0 x hx) [ inl e ↦ omega (arith, e.1) | inr e ↦ absurd (omega (arith, e.1)) ] }

-- sixteen levels are all
pub all-shut : (d : Graph) (a : ℕ) (far up : List ℕ) → Grown d a far up → (e : ℕ) → 16 ≤ e → Closed d far e → Shut d far
all-shut d a far up g e he c x k hx hk z u = c.shut x k hx hk (omega (arith, g.low x hx z, reached_most far, g.wide)) u

-- a level that has no place is the last
pub bare-shut : (d : Graph) (a : ℕ) (far up : List ℕ) → Grown d a far up → (e y : ℕ) → d.size ≤ y → e < 200 → Swept d far e y → Bare d far e y → Shut d far
bare-shut d a far up g e y hy he s b x k hx hk z u = s.shut x k hx hk (omega (arith, s.edge x hx z, b x (omega arith) hx, beyond)) u
  where
    beyond : get_or far x 0 ≡ e + 1 → ⊥
    beyond f = let i = g.inside x hx (omega arith) z in b (get_or up x 0) (omega arith) i (omega (arith, g.step x hx (omega arith) z))

-- what is reached can be gone to, and what is not cannot
way_by : (d : Graph) (a : ℕ) (far up : List ℕ) → Grown d a far up → (n x : ℕ) → x < d.size → get_or far x 0 < 255 → get_or far x 0 ≡ n → Way d a x
way_by d a far up g zero x hx z e = subst (λ y. Way d a y) (sym (g.only x hx e)) stays
way_by d a far up g (suc n) x hx z e =
    let st : get_or far (get_or up x 0) 0 + 1 ≡ get_or far x 0 = g.step x hx (omega arith) z in
    goes (get_or up x 0) x (way_by d a far up g n (get_or up x 0) (g.inside x hx (omega arith) z) (omega arith) (omega arith)) hx (g.linked x hx (omega arith) z)

pub way_to : (d : Graph) (a : ℕ) (far up : List ℕ) → Grown d a far up → (x : ℕ) → x < d.size → get_or far x 0 < 255 → Way d a x
way_to d a far up g x hx z = way_by d a far up g (get_or far x 0) x hx z refl

reaches : (d : Graph) (a : ℕ) (far : List ℕ) → a < d.size → get_or far a 0 < 255 → Shut d far → (x : ℕ) → Way d a x → (x < d.size) × (get_or far x 0 < 255)
reaches d a far ha fa sh z stays = (ha, fa)
reaches d a far ha fa sh z (goes e x w hx j) = let r = reaches d a far ha fa sh e w in (hx, sh e x r.0 hx r.1 j)

pub way-reached : (d : Graph) (a : ℕ) (far up : List ℕ) → Grown d a far up → Shut d far → (x : ℕ) → Way d a x → get_or far x 0 < 255
way-reached d a far up g sh x w = (reaches d a far g.at (omega (arith, g.root)) sh x w).1

pub no_way : (d : Graph) (a : ℕ) (far up : List ℕ) → Grown d a far up → Shut d far → (x : ℕ) → (get_or far x 0 < 255 → ⊥) → Way d a x → ⊥
no_way d a far up g sh x n w = n (way-reached d a far up g sh x w)

-- one hop towards the root
pub record Onward (d : Graph) (a : ℕ) (far : List ℕ) (x y : ℕ) : Type 0 where
  pub inside : y < d.size
  pub linked : d.joined y x ≡ true
  pub less : get_or far y 0 + 1 ≡ get_or far x 0
  pub moves : y ≢ x
  pub away : x ≢ a
  pub short : 1 < get_or far x 0 → y ≢ a

pub hop : (d : Graph) (a : ℕ) (far up : List ℕ) → Grown d a far up → (x : ℕ) → x < d.size → 0 < get_or far x 0 → get_or far x 0 < 255 → Onward d a far x (get_or up x 0)
hop d a far up g x hx z u =
    let st : get_or far (get_or up x 0) 0 + 1 ≡ get_or far x 0 = g.step x hx z u in
    record {
      inside = g.inside x hx z u;
      linked = g.linked x hx z u;
      less = st;
      moves = λ e. omega (arith, ap (λ i. get_or far i 0) e);
      away = λ e. omega (arith, ap (λ i. get_or far i 0) e, g.root);
      short = λ t e. omega (arith, ap (λ i. get_or far i 0) e, g.root);
    }

-- and the last one
pub last_hop : (d : Graph) (a : ℕ) (far up : List ℕ) → Grown d a far up → (x : ℕ) → x < d.size → get_or far x 0 ≡ 1 → d.joined a x ≡ true
last_hop d a far up g x hx e =
    let st : get_or far (get_or up x 0) 0 + 1 ≡ get_or far x 0 = g.step x hx (omega arith) (omega arith) in
    ap (λ i. d.joined i x) (sym (g.only (get_or up x 0) (g.inside x hx (omega arith) (omega arith)) (omega arith))) ∙ g.linked x hx (omega arith) (omega arith)
