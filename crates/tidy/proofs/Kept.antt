-- What each step of tidying keeps, on circuits newest gate first.
use Rattle.std.proofs.Common.{◌≡◌, ℕ, ◌+◌, ◌*◌, ◌%◌, ◌<◌, ◌≤◌, Bool, true, false, cond, ◌||◌, eqb, ◌⊎◌, List, [], ◌∷◌, length, Some, None, Option, sym, refl, ap, ◌∙◌, subst, inl, inr, arith, eq-eqb, ne_eqb}
use mathlib.Core.List.{reverse_aux}
use mathlib.Core.Path.{fun_ext}
use Rattle.amplitude.proofs.RingLaws.{turned_add, turned_mod, rooted_add, rooted_turned}
use Rattle.amplitude.specs.Ring.{turned, rooted}
use Rattle.circuit.proofs.Linear.{turned_linear, rooted_linear, does_linear}
use Rattle.circuit.specs.Circuit.{Row, State, does, mixed, mixes, worth, t_count, target}
use Rattle.circuit.specs.declared.gate.Gate.{Gate}
use Rattle.circuit.specs.declared.gate.Gate.TheVariants.{Phase, Hadamard, Not, ControlledNot, Toffoli}
use Rattle.laws.specs.Undo.{undone}
use Rattle.tidy.proofs.Places.{changes}
use Rattle.std.proofs.lemmas.Bool.{and_parts, or_cases}
use Rattle.tidy.proofs.Twins.{twins_merge, backs_stand, reduces, idle_drops, turn_is}
use Rattle.tidy.specs.Engine.{maybe, start, partner, put, placed, inserted, swept}
use Rattle.tidy.specs.Rules.{rule, passed}
use Rattle.tidy.specs.Table.{eighths, still, commutes, twin, merged, idle, reduced, backs}
use Rattle.tidy.specs.declared.rules.Carried.{Carried}
use Rattle.tidy.specs.declared.engine.Partner.{Partner}

-- what is so of each gate
abbrev pub Each : (Gate → Bool) → List Gate → Type 0
Each p [] = Unit {0}
Each p (g ∷ gs) = (p g ≡ true) × Each p gs

-- what is so of a gate is so of any turn of its target: to be about qubits that are there, to be what a device can do
abbrev pub OfTargets : (Gate → Bool) → Type 0
OfTargets p = (m : ℕ) (g : Gate) → p g ≡ true → p (Phase m (target g)) ≡ true

-- what a circuit does, newest gate first
unfoldable pub back : List Gate → State → State
back [] s = s
back (g ∷ gs) s = does g (back gs s)

-- the circuit c, turned by t, is the circuit d turned by u, and d is no worse
pub record Kept (t u : ℕ) (c d : List Gate) : Type 0 where
  pub roots : ℕ
  pub counted : mixes c ≡ roots + mixes d
  pub cheap : t_count d ≤ t_count c
  pub brief : length d ≤ length c
  pub same : (s : State) (b : Row) → turned t (back c s b) ≡ turned u (rooted roots (back d s b))
  pub fits : (p : Gate → Bool) → OfTargets p → Each p c → Each p d

pub kept_refl : (t : ℕ) (c : List Gate) → Kept t t c c
kept_refl t c = record { roots = 0; counted = omega arith; cheap = omega arith; brief = omega arith; same = λ s b. refl; fits = λ p o a. a }

pub kept_on : {t u v : ℕ} {c d e : List Gate} → Kept t u c d → Kept u v d e → Kept t v c e
kept_on {t} {u} {v} {c} {d} {e} p q =
    record {
      roots = p.roots + q.roots;
      counted = omega (arith, p.counted, q.counted);
      cheap = omega (arith, p.cheap, q.cheap);
      brief = omega (arith, p.brief, q.brief);
      same = λ s b.
          p.same s b
          ∙ sym (rooted_turned p.roots u (back d s b))
          ∙ ap (rooted p.roots) (q.same s b)
          ∙ rooted_turned p.roots v (rooted q.roots (back e s b))
          ∙ ap (turned v) (sym (rooted_add p.roots q.roots (back e s b)));
      fits = λ f o a. q.fits f o (p.fits f o a);
    }

pub kept_cons : {t u : ℕ} {c d : List Gate} (g : Gate) → Kept t u c d → Kept t u (g ∷ c) (g ∷ d)
unfolding back mixes t_count
kept_cons {t} {u} {c} {d} g p =
    record {
      roots = p.roots;
      counted = omega (arith, p.counted);
      cheap = omega (arith, p.cheap);
      brief = omega (arith, p.brief);
      same = λ s b.
          ap (λ (x : State). x b)
          (sym (does_linear (turned t) (turned_linear t) g (back c s))
          ∙ ap (does g) (fun_ext (p.same s))
          ∙ does_linear (turned u) (turned_linear u) g (λ r. rooted p.roots (back d s r))
          ∙ ap {B = State} (λ (x : State) r. turned u (x r)) (does_linear (rooted p.roots) (rooted_linear p.roots) g (back d s)));
      fits = λ f o a. (a.0, p.fits f o a.1);
    }

pub kept_onto : {t u : ℕ} {c d : List Gate} (gs : List Gate) → Kept t u c d → Kept t u (reverse_aux gs c) (reverse_aux gs d)
kept_onto [] p = p
kept_onto (g ∷ gs) p = kept_onto gs (kept_cons g p)

-- with no roots: a step that leaves what is done, on the newest gates, as it is
plain : {t u : ℕ} {c d : List Gate} → mixes c ≡ mixes d → t_count d ≤ t_count c → length d ≤ length c → ((s : State) (b : Row) → turned t (back c s b) ≡ turned u (back d s b)) → ((p : Gate → Bool) → OfTargets p → Each p c → Each p d) → Kept t u c d
plain p q r e f = record { roots = 0; counted = omega (arith, p); cheap = q; brief = r; same = e; fits = f }

past_changes : (t : ℕ) (h g : Gate) (hs : List Gate) → commutes h g ≡ true → Kept t t (g ∷ h ∷ hs) (h ∷ g ∷ hs)
unfolding back mixes t_count
past_changes t h g hs e = plain (omega arith) (omega arith) (omega arith) (λ s b. ap (turned t) (changes h g e (back hs s) b)) (λ p o a. (a.1.0, (a.0, a.1.1)))

past_idle : (t : ℕ) (h g : Gate) (hs : List Gate) → idle h ≡ true → Kept t t (g ∷ h ∷ hs) (h ∷ g ∷ hs)
unfolding back mixes t_count
past_idle t h g hs e =
    plain (omega arith) (omega arith) (omega arith)
    (λ s b. ap (turned t) (ap (λ (x : State). does g x b) (fun_ext (idle_drops h e (back hs s))) ∙ sym (idle_drops h e (does g (back hs s)) b))) (λ p o a. (a.1.0, (a.0, a.1.1)))

mixed-undone : (g : Gate) → mixed (undone g) ≡ mixed g
unfolding undone
mixed-undone (Phase m q) = refl
mixed-undone (Hadamard q) = refl
mixed-undone (Not q) = refl
mixed-undone (ControlledNot c q) = refl
mixed-undone (Toffoli c d q) = refl

worth-undone : (g : Gate) → worth (undone g) ≡ worth g
unfolding undone
worth-undone (Phase m q) = omega arith
worth-undone (Hadamard q) = refl
worth-undone (Not q) = refl
worth-undone (ControlledNot c q) = refl
worth-undone (Toffoli c d q) = refl

fits-undone : (p : Gate → Bool) → OfTargets p → (g : Gate) → p g ≡ true → p (undone g) ≡ true
unfolding undone
fits-undone p o (Phase m q) e = o ((7 * m) % 8) (Phase m q) e
fits-undone p o (Hadamard q) e = e
fits-undone p o (Not q) e = e
fits-undone p o (ControlledNot c q) e = e
fits-undone p o (Toffoli c d q) e = e

past_backs : (t : ℕ) (h g : Gate) (hs : List Gate) → backs h g ≡ true → Kept t ((t + eighths g) % 8) (g ∷ h ∷ hs) (h ∷ undone g ∷ hs)
unfolding back mixes t_count
past_backs t h g hs e =
    plain (omega (arith, mixed-undone g)) (omega (arith, worth-undone g)) (omega arith)
    (λ s b. ap (turned t) (backs_stand h g e (back hs s) b)
    ∙ sym (turned_add t (eighths g) (does h (does (undone g) (back hs s)) b))
    ∙ sym (turned_mod (t + eighths g) (does h (does (undone g) (back hs s)) b)))
    (λ p o a. (a.1.0, (fits-undone p o g a.0, a.1.1)))

worth-least : (g : Gate) → eighths g % 2 ≤ worth g
worth-least (Phase m q) = omega arith
worth-least (Hadamard q) = omega arith
worth-least (Not q) = omega arith
worth-least (ControlledNot c q) = omega arith
worth-least (Toffoli c d q) = omega arith

join : (t : ℕ) (h g : Gate) (hs : List Gate) → twin h g ≡ true → Kept t t (g ∷ h ∷ hs) (merged h g ∷ hs)
unfolding back mixes t_count
join t h g hs e =
    record { roots = mixed h + mixed g; counted = omega arith; cheap = omega (arith, worth-least h, worth-least g); brief = omega arith; same = λ s b. ap (turned t) (twins_merge h g e (back hs s) b); fits = λ p o a. (o ((eighths h + eighths g) % 8) g a.0, a.1.1) }

still-mixed : (g : Gate) → still g ≡ true → mixed g ≡ 0
still-mixed g e = ap mixed (turn_is g e)

pub dropped : (t : ℕ) (g : Gate) (hs : List Gate) → idle g ≡ true → Kept t t (g ∷ hs) hs
unfolding back mixes t_count
dropped t g hs e =
    plain (omega (arith, still-mixed g (and_parts (still g) (eqb (eighths g % 8) 0) e).0)) (omega arith) (omega arith) (λ s b. ap (turned t) (idle_drops g e (back hs s) b)) (λ p o a. a.1)

mixed-reduced : (g : Gate) → mixed (reduced g) ≡ mixed g
mixed-reduced (Phase m q) = refl
mixed-reduced (Hadamard q) = refl
mixed-reduced (Not q) = refl
mixed-reduced (ControlledNot c q) = refl
mixed-reduced (Toffoli c d q) = refl

worth-reduced : (g : Gate) → worth (reduced g) ≡ worth g
worth-reduced (Phase m q) = omega arith
worth-reduced (Hadamard q) = refl
worth-reduced (Not q) = refl
worth-reduced (ControlledNot c q) = refl
worth-reduced (Toffoli c d q) = refl

fits-reduced : (p : Gate → Bool) → OfTargets p → (g : Gate) → p g ≡ true → p (reduced g) ≡ true
fits-reduced p o (Phase m q) e = o (m % 8) (Phase m q) e
fits-reduced p o (Hadamard q) e = e
fits-reduced p o (Not q) e = e
fits-reduced p o (ControlledNot c q) e = e
fits-reduced p o (Toffoli c d q) e = e

lessened : (t : ℕ) (g : Gate) (hs : List Gate) → Kept t t (g ∷ hs) (reduced g ∷ hs)
unfolding back mixes t_count
lessened t g hs =
    plain (omega (arith, mixed-reduced g)) (omega (arith, worth-reduced g)) (omega arith) (λ s b. ap (turned t) (sym (reduces g (back hs s) b))) (λ p o a. (fits-reduced p o g a.0, a.1))

-- THE RULES ARE SOUND, and so is passing
pub rule-kept : (t : ℕ) (h g k : Gate) (hs : List Gate) → rule h g ≡ Some k → Kept t t (g ∷ h ∷ hs) (k ∷ hs)
rule-kept t h g k hs e = go (twin h g) refl e
  where
    go : (x : Bool) → twin h g ≡ x → cond x (Some (merged h g)) None ≡ Some k → Kept t t (g ∷ h ∷ hs) (k ∷ hs)
    go true u v = let w : merged h g ≡ k = cc in subst (λ x. Kept t t (g ∷ h ∷ hs) (x ∷ hs)) w (join t h g hs u)
    go false u v = cc

pub passed-kept : (h : Gate) (c d : Carried) (hs : List Gate) → passed h c ≡ Some d → Kept c.turn d.turn (c.gate ∷ h ∷ hs) (h ∷ d.gate ∷ hs)
passed-kept h c d hs e = go (idle h || commutes h c.gate) (backs h c.gate) refl refl e
  where
    go : (x y : Bool) → (idle h || commutes h c.gate) ≡ x → backs h c.gate ≡ y →
        cond x (Some c) (cond y (Some (record { gate = undone c.gate; turn = (c.turn + eighths c.gate) % 8 })) None) ≡ Some d →
        Kept c.turn d.turn (c.gate ∷ h ∷ hs) (h ∷ d.gate ∷ hs)
    go true y u v w = let z : c ≡ d = cc in subst (λ (k : Carried). Kept c.turn k.turn (c.gate ∷ h ∷ hs) (h ∷ k.gate ∷ hs)) z (past (or_cases (idle h) (commutes h c.gate) u))
      where
        past : (idle h ≡ true) ⊎ (commutes h c.gate ≡ true) → Kept c.turn c.turn (c.gate ∷ h ∷ hs) (h ∷ c.gate ∷ hs)
        past (inl i) = past_idle c.turn h c.gate hs i
        past (inr i) = past_changes c.turn h c.gate hs i
    go false true u v w =
        let z : ◌≡◌ {A = Carried} (record { gate = undone c.gate; turn = (c.turn + eighths c.gate) % 8 }) d = cc in
        subst (λ (k : Carried). Kept c.turn k.turn (c.gate ∷ h ∷ hs) (h ∷ k.gate ∷ hs)) z (past_backs c.turn h c.gate hs v)
    go false false u v w = cc

-- what is found is before, and putting the two together keeps the circuit
pub record Found (c : Carried) (hs : List Gate) (p : Partner) : Type 0 where
  pub before : p.at < length hs
  pub keeps : Kept c.turn p.turn (c.gate ∷ hs) (put p.at p.gate hs)

found_here : (c : Carried) (h k : Gate) (hs : List Gate) → rule h c.gate ≡ Some k → Found c (h ∷ hs) (record { at = length hs; gate = k; turn = c.turn })
unfolding put
found_here c h k hs e = record { before = omega arith; keeps = rw (eq-eqb (length hs) (length hs) refl) (rule-kept c.turn h c.gate k hs e) }

found_on : (c d : Carried) (h : Gate) (hs : List Gate) (p : Partner) → passed h c ≡ Some d → Found d hs p → Found c (h ∷ hs) p
unfolding put
found_on c d h hs p e f =
    record { before = omega (arith, f.before); keeps = rw (ne_eqb (length hs) p.at (λ q. omega (arith, f.before, q))) (kept_on (passed-kept h c d hs e) (kept_cons h f.keeps)) }

pub found : (c : Carried) (hs : List Gate) (p : Partner) → partner c hs ≡ Some p → Found c hs p
unfolding partner
found c [] p e = cc
found c (h ∷ hs) p e = step (rule h c.gate) (passed h c) refl refl e (λ d i. found d hs p i)
  where
    step : (x : Option Gate) (y : Option Carried) → rule h c.gate ≡ x → passed h c ≡ y →
        maybe x (λ k. Some (record { at = length hs; gate = k; turn = c.turn })) (maybe y (λ d. partner d hs) None) ≡ Some p →
        ((d : Carried) → partner d hs ≡ Some p → Found d hs p) → Found c (h ∷ hs) p
    step (Some k) y u v w ih =
        let z : ◌≡◌ {A = Partner} (record { at = length hs; gate = k; turn = c.turn }) p = cc in subst (Found c (h ∷ hs)) z (found_here c h k hs u)
    step None (Some d) u v w ih = found_on c d h hs p v (ih d w)
    step None None u v w ih = cc

-- from a turn of the whole that is there already
shifted : (t u : ℕ) (c d : List Gate) → Kept 0 u c d → Kept t ((t + u) % 8) c d
shifted t u c d p =
    record {
      roots = p.roots;
      counted = p.counted;
      cheap = p.cheap;
      brief = p.brief;
      fits = p.fits;
      same = λ s b.
          ap (turned t) (p.same s b) ∙ sym (turned_add t u (rooted p.roots (back d s b))) ∙ sym (turned_mod (t + u) (rooted p.roots (back d s b)));
    }

pub inserted-kept : (t : ℕ) (g : Gate) (gs : List Gate) → Kept t (inserted t g gs).1 (g ∷ gs) (inserted t g gs).0
inserted-kept t g gs = go (idle g) refl (partner (start (reduced g)) gs) refl
  where
    go : (x : Bool) → idle g ≡ x → (o : Option Partner) → partner (start (reduced g)) gs ≡ o →
        Kept t (cond x (gs, t) (placed t (reduced g) gs o)).1 (g ∷ gs) (cond x (gs, t) (placed t (reduced g) gs o)).0
    go true e o f = dropped t g gs e
    go false e None f = lessened t g gs
    go false e (Some p) f = kept_on (lessened t g gs) (shifted t p.turn (reduced g ∷ gs) (put p.at p.gate gs) (found (start (reduced g)) gs p f).keeps)

pub swept_kept : (t : ℕ) (done gs : List Gate) → Kept t (swept t done gs).1 (reverse_aux gs done) (swept t done gs).0
unfolding swept
swept_kept t done [] = kept_refl t done
swept_kept t done (g ∷ gs) = kept_on (kept_onto gs (inserted-kept t g done)) (swept_kept (inserted t g done).1 (inserted t g done).0 gs)
