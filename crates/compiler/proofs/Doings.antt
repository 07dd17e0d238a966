-- Circuits without Toffolis done on a connected device: gates where their qubits are joined, and swaps along a way until they are.
use Rattle.std.proofs.Common.{◌≡◌, ℕ, ◌+◌, ◌<◌, true, List, [], ◌∷◌, ◌++◌, sym, refl, ap, ◌∙◌, subst, ap₂, inl, inr, arith}
use mathlib.Core.Path.{fun_ext}
use Rattle.std.proofs.lemmas.Bool.{cases_eq}
use Rattle.std.proofs.lemmas.Bool.Decides.{nat_tests}
use Rattle.circuit.proofs.Counts.{mixes-append, t_count-append}
use Rattle.circuit.proofs.Linear.{run-append}
use Rattle.circuit.specs.Circuit.{State, run, mixes, worth, t_count, Fit}
use Rattle.circuit.specs.declared.gate.Gate.{Gate}
use Rattle.circuit.specs.declared.gate.Gate.TheVariants.{Phase, Hadamard, Not, ControlledNot, Toffoli}
use Rattle.device.specs.Coupling.{Graph, Way, stays, goes, Connected, Can, AllCan}
use Rattle.device.specs.Layout.{Placed, laid}
use Rattle.laws.proofs.Rename.{mixed-renamed}
use Rattle.laws.specs.Rename.{renamed, other}
use Rattle.compiler.specs.Route.{swapped, swap_gates, Exactly, Plain, Doing, Routed, OnAndOn}
use Rattle.compiler.proofs.Laid.{laid-does, laid_like}
use Rattle.compiler.proofs.Swapping.{swap_lays, swap_placed}

can-append : (d : Graph) (ds es : List Gate) → AllCan d ds → AllCan d es → AllCan d (ds ++ es)
can-append d [] es u v = v
can-append d (g ∷ ds) es (c, u) v = (c, can-append d ds es u v)

-- one stretch after another
exactly_on : (n : ℕ) (d : Graph) (p q r : ℕ → ℕ) (gs hs ds es : List Gate) → Exactly n d p q gs ds → Exactly n d q r hs es → Exactly n d p r (gs ++ hs) (ds ++ es)
unfolding Exactly
exactly_on n d p q r gs hs ds es u v s b =
    ap (λ (t : State). t b) (run-append ds es (laid n d p s))
    ∙ (ap (λ (t : State). run es t b) (fun_ext (u s))
    ∙ (v (run gs s) b
    ∙ ap (λ (t : State). laid n d r t b) (sym (run-append gs hs s))))

pub on-and-on : OnAndOn
on-and-on n d p q r gs hs ds es m k = record {
  can = can-append d ds es m.can k.can;
  placed = k.placed;
  exact = exactly_on n d p q r gs hs ds es m.exact k.exact;
  turns = t_count-append ds es ∙ (ap₂ ◌+◌ m.turns k.turns ∙ sym (t_count-append gs hs));
  roots = mixes-append ds es ∙ (ap₂ ◌+◌ m.roots k.roots ∙ sym (mixes-append gs hs));
}

pub after : {n : ℕ} {d : Graph} {p q r : ℕ → ℕ} {gs hs ds es : List Gate} → Doing n d p q gs ds → Doing n d q r hs es → Doing n d p r (gs ++ hs) (ds ++ es)
after {n} {d} {p} {q} {r} {gs} {hs} {ds} {es} m k = on-and-on n d p q r gs hs ds es m k

pub nothing-done : (n : ℕ) (d : Graph) (p : ℕ → ℕ) → Placed n d p → Doing n d p p [] []
unfolding Exactly run
nothing-done n d p l = record { can = tt; placed = l; exact = λ s b. refl; turns = refl; roots = refl }

pub swap_done : (n : ℕ) (d : Graph) (p : ℕ → ℕ) (x y : ℕ) → x < d.size → y < d.size → (x ≡ y → ⊥) → d.joined x y ≡ true → d.joined y x ≡ d.joined x y → Placed n d p → Doing n d p (swapped x y p) [] (swap_gates x y)
unfolding swap_gates t_count mixes
swap_done n d p x y hx hy ne j even l = record {
  can = ((hx, hy, ne, j), ((hy, hx, (λ e. ne (sym e)), even ∙ j), ((hx, hy, ne, j), tt)));
  placed = swap_placed n d p x y hx hy l;
  exact = swap_lays n d p x y hx hy ne;
  turns = refl;
  roots = refl;
}

worth-renamed : (f : ℕ → ℕ) (g : Gate) → worth (renamed f g) ≡ worth g
worth-renamed f (Phase m q) = refl
worth-renamed f (Hadamard q) = refl
worth-renamed f (Not q) = refl
worth-renamed f (ControlledNot c q) = refl
worth-renamed f (Toffoli c d q) = refl

-- a gate on the places of its qubits
pub gate-done : (n : ℕ) (d : Graph) (p : ℕ → ℕ) (g : Gate) → Placed n d p → Fit n g → Can d (renamed p g) → Doing n d p p (g ∷ []) (renamed p g ∷ [])
unfolding Exactly run t_count mixes
gate-done n d p g l f k = record {
  can = (k, tt);
  placed = l;
  exact = laid-does n d p g l f;
  turns = ap (λ k. k + 0) (worth-renamed p g);
  roots = ap (λ k. k + 0) (mixed-renamed p g);
}

-- what is no controlled NOT can be done wherever its qubit lies
pub can-anywhere : (n : ℕ) (d : Graph) (p : ℕ → ℕ) (g : Gate) → Placed n d p → Fit n g → Plain g → ((c q : ℕ) → g ≡ ControlledNot c q → ⊥) → Can d (renamed p g)
can-anywhere n d p (Phase m q) l f k h = l.inside q f
can-anywhere n d p (Hadamard q) l f k h = l.inside q f
can-anywhere n d p (Not q) l f k h = l.inside q f
can-anywhere n d p (ControlledNot c q) l f k h = absurd (h c q refl)
can-anywhere n d p (Toffoli a c q) l f k h = absurd k

-- and a controlled NOT where its qubits are joined
pub can-joined : (n : ℕ) (d : Graph) (p : ℕ → ℕ) (c q : ℕ) → Placed n d p → Fit n (ControlledNot c q) → d.joined (p c) (p q) ≡ true → Can d (renamed p (ControlledNot c q))
can-joined n d p c q l f j = (l.inside c f.0, l.inside q f.1, (λ e. f.2 (l.apart c q f.0 f.1 e)), j)

-- only the places of the first n matter
pub doing_like : {n : ℕ} {d : Graph} {p q : ℕ → ℕ} {gs ds : List Gate} (r : ℕ → ℕ) → Doing n d p q gs ds → ((k : ℕ) → k < n → q k ≡ r k) → Doing n d p r gs ds
unfolding Exactly
doing_like {n} {d} {p} {q} {gs} {ds} r m e = record {
  can = m.can;
  placed = record {
    inside = λ k h. subst (λ x. x < d.size) (e k h) (m.placed.inside k h);
    apart = λ k l hk hl u. m.placed.apart k l hk hl (e k hk ∙ (u ∙ sym (e l hl)));
  };
  exact = λ s b. m.exact s b ∙ laid_like n d q r e (run gs s) b;
  turns = m.turns;
  roots = m.roots;
}

-- qubit q brought along a way until the place of qubit c is joined to its own
record Brought (n : ℕ) (d : Graph) (p : ℕ → ℕ) (c q : ℕ) : Type 0 where
  ds : List Gate
  to : ℕ → ℕ
  doing : Doing n d p to [] ds
  near : d.joined (to c) (to q) ≡ true

way-inside : (d : Graph) (a b : ℕ) → a < d.size → Way d a b → b < d.size
way-inside d a z h stays = h
way-inside d a z h (goes e b w k j) = k

pub other-here : (x y : ℕ) → other x y y ≡ x
unfolding other
other-here x y = grind (arith, nat_tests)

pub other_away : (x y k : ℕ) → (k ≡ x → ⊥) → (k ≡ y → ⊥) → other x y k ≡ k
unfolding other
other_away x y k u v = grind (arith, nat_tests)

brought : (n : ℕ) (d : Graph) → Connected d → (c q : ℕ) → c < n → q < n → (c ≡ q → ⊥) → (a b : ℕ) → a < d.size → Way d a b → (p : ℕ → ℕ) → Placed n d p → p c ≡ a → p q ≡ b → Brought n d p c q
unfolding swapped
brought n d cd c q hc hq ne a z ha stays p l ea eb = absurd (ne (l.apart c q hc hq (ea ∙ sym eb)))
brought n d cd c q hc hq ne a z ha (goes e b w hb j) p l ea eb =
    elim (cases_eq e a) [
      | inl u ↦ record { ds = []; to = p; doing = nothing-done n d p l; near = ap₂ d.joined (ea ∙ sym u) eb ∙ j }
      | inr u ↦ elim (cases_eq e b) [
        | inl v ↦ brought n d cd c q hc hq ne a e ha w p l ea (eb ∙ sym v)
        | inr v ↦
            let m = swap_done n d p e b (way-inside d a e ha w) hb v j (cd.even b e hb (way-inside d a e ha w)) l in
            let r = brought n d cd c q hc hq ne a e ha w (swapped e b p) m.placed (ap (other e b) ea ∙ other_away e b a (λ t. u (sym t)) (λ t. ne (l.apart c q hc hq (ea ∙ (t ∙ sym eb))))) (ap (other e b) eb ∙ other-here e b) in
            record { ds = swap_gates e b ++ r.ds; to = r.to; doing = after m r.doing; near = r.near }
      ]
    ]

one-gate : (n : ℕ) (d : Graph) (p : ℕ → ℕ) (g : Gate) → Fit n g → Plain g → Connected d → Placed n d p → (ds : List Gate) × (q : ℕ → ℕ) × Doing n d p q (g ∷ []) ds
one-gate n d p (Phase m q) f k cd l = (_, p, gate-done n d p (Phase m q) l f (l.inside q f))
one-gate n d p (Hadamard q) f k cd l = (_, p, gate-done n d p (Hadamard q) l f (l.inside q f))
one-gate n d p (Not q) f k cd l = (_, p, gate-done n d p (Not q) l f (l.inside q f))
one-gate n d p (ControlledNot c q) f k cd l =
    let r = brought n d cd c q f.0 f.1 f.2 (p c) (p q) (l.inside c f.0) (cd.way (p c) (p q) (l.inside c f.0) (l.inside q f.1)) p l refl refl in
    let t = r.doing.placed in
    (_, r.to, after r.doing (gate-done n d r.to (ControlledNot c q) t f (can-joined n d r.to c q t f r.near)))
one-gate n d p (Toffoli a c q) f k cd l = absurd k

pub routed : Routed
routed n d p [] fits plain cd l = ([], p, nothing-done n d p l)
routed n d p (g ∷ gs) (f, fs) (k, ks) cd l =
    let m = one-gate n d p g f k cd l in
    let r = routed n d m.1 gs fs ks cd m.2.placed in
    (m.0 ++ r.0, r.1, after m.2 r.2)
