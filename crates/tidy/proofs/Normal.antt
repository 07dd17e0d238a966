-- A sweep that takes nothing away leaves a tidy circuit, and leaves a tidy circuit as it is.
use Rattle.std.proofs.Common.{◌≡◌, ℕ, suc, ◌+◌, ◌%◌, ◌≤◌, Bool, true, false, cond, eqb, List, [], ◌∷◌, ◌++◌, reverse, length, Some, None, Option, sym, refl, ap, ◌∙◌, subst, arith}
use mathlib.Core.List.{reverse_aux, reverse_aux-append, reverse_aux-eq, reverse-reverse}
use lib.ListN.{length-reverse}
use Rattle.std.proofs.lemmas.Bool.{or_right}
use Rattle.amplitude.proofs.RingLaws.{rooted_add, rooted_turned}
use Rattle.amplitude.specs.Ring.{turned, rooted}
use Rattle.circuit.proofs.Counts.{mixes-reverse}
use Rattle.circuit.specs.Circuit.{Row, State, run, mixes, t_count}
use Rattle.circuit.specs.declared.gate.Gate.{Gate}
use Rattle.circuit.specs.declared.gate.Gate.TheVariants.{Phase, Hadamard, Not, ControlledNot, Toffoli}
use Rattle.tidy.proofs.Fits.{each_onto, fit-kept, can-kept}
use Rattle.tidy.proofs.Kept.{Each, OfTargets, back, Kept}
use Rattle.tidy.proofs.Twins.{twin-commutes}
use Rattle.tidy.specs.Engine.{maybe, start, partner, put, placed, inserted, swept}
use Rattle.tidy.specs.Promise.{Tidied, Settled, AllSettled, AllChange, NoRule, through, NoWay, NoRuleBefore}
use Rattle.tidy.specs.Rules.{rule, passed}
use Rattle.tidy.specs.Table.{twin, commutes, idle, reduced}
use Rattle.tidy.specs.declared.rules.Carried.{Carried}
use Rattle.tidy.specs.declared.engine.Partner.{Partner}

picked_length : (x : Bool) (g h : Gate) (us vs : List Gate) → length vs ≡ length us → length (cond x (g ∷ us) (h ∷ vs)) ≡ suc (length us)
picked_length true g h us vs e = refl
picked_length false g h us vs e = ap suc e

pub put-length : (n : ℕ) (g : Gate) (hs : List Gate) → length (put n g hs) ≡ length hs
unfolding put
put-length n g [] = refl
put-length n g (h ∷ hs) = picked_length (eqb (length hs) n) g h hs (put n g hs) (put-length n g hs)

reduced_twice : (g : Gate) → reduced (reduced g) ≡ reduced g
reduced_twice (Phase m q) = ap (λ k. Phase k q) (omega arith)
reduced_twice (Hadamard q) = refl
reduced_twice (Not q) = refl
reduced_twice (ControlledNot c q) = refl
reduced_twice (Toffoli c d q) = refl

idle-reduced : (g : Gate) → idle (reduced g) ≡ idle g
idle-reduced (Phase m q) = let e : m % 8 % 8 ≡ m % 8 = omega arith in ap (λ k. eqb k 0) e
idle-reduced (Hadamard q) = refl
idle-reduced (Not q) = refl
idle-reduced (ControlledNot c q) = refl
idle-reduced (Toffoli c d q) = refl

-- what an insertion comes to: a gate less, or a settled gate more
pub record Added (g : Gate) (gs : List Gate) (r : List Gate) : Type 0 where
  pub most : length r ≤ suc (length gs)
  pub full : length r ≡ suc (length gs) → Settled (reduced g) gs × (r ≡ reduced g ∷ gs)

pub added : (t : ℕ) (g : Gate) (gs : List Gate) → Added g gs (inserted t g gs).0
added t g gs = go (idle g) refl (partner (start (reduced g)) gs) refl
  where
    go : (x : Bool) → idle g ≡ x → (o : Option Partner) → partner (start (reduced g)) gs ≡ o → Added g gs (cond x (gs, t) (placed t (reduced g) gs o)).0
    go true e o f = record { most = omega arith; full = λ h. absurd (omega arith) }
    go false e None f = record { most = omega arith; full = λ h. (record { busy = idle-reduced g ∙ e; least = reduced_twice g; alone = f }, refl) }
    go false e (Some p) f = let l = put-length p.at p.gate gs in record { most = omega arith; full = λ h. absurd (omega arith) }

pub swept-length : (t : ℕ) (done gs : List Gate) → length (swept t done gs).0 ≤ length gs + length done
unfolding swept
swept-length t done [] = omega arith
swept-length t done (g ∷ gs) =
    let l = swept-length (inserted t g done).1 (inserted t g done).0 gs in let m = (added t g done).most in omega arith

pub swept-settled : (t : ℕ) (done gs : List Gate) → AllSettled done → length (swept t done gs).0 ≡ length gs + length done → AllSettled (swept t done gs).0
unfolding swept
swept-settled t done [] a e = a
swept-settled t done (g ∷ gs) a e =
    let l = swept-length (inserted t g done).1 (inserted t g done).0 gs in
    let m = (added t g done).most in
    let n : length (inserted t g done).0 ≡ suc (length done) = omega arith in
    let f = (added t g done).full n in
    swept-settled (inserted t g done).1 (inserted t g done).0 gs (subst AllSettled (sym f.1) (f.0, a)) (omega arith)

-- what is settled stays so without what came after
pub settled_of : (gs c : List Gate) → AllSettled (reverse_aux gs c) → AllSettled c
settled_of [] c a = a
settled_of (g ∷ gs) c a = (settled_of gs (g ∷ c) a).1

placed_same : (t : ℕ) (g : Gate) (gs : List Gate) (x : Bool) (h : Gate) (o : Option Partner) → x ≡ false → h ≡ g → o ≡ None →
    cond x (gs, t) (placed t h gs o) ≡ (g ∷ gs, t)
placed_same t g gs x h o e f k = rw (e, f, k)

pub inserted_same : (t : ℕ) (g : Gate) (gs : List Gate) → Settled g gs → inserted t g gs ≡ (g ∷ gs, t)
inserted_same t g gs s =
    placed_same t g gs (idle g) (reduced g) (partner (start (reduced g)) gs) s.busy s.least (ap (λ (h : Gate). partner (start h) gs) s.least ∙ s.alone)

pub swept_same : (t : ℕ) (done gs : List Gate) → AllSettled (reverse_aux gs done) → swept t done gs ≡ (reverse_aux gs done, t)
unfolding swept
swept_same t done [] a = refl
swept_same t done (g ∷ gs) a =
    ap (λ (r : List Gate × ℕ). swept r.1 r.0 gs) (inserted_same t g done (settled_of gs (g ∷ done) a).0) ∙ swept_same t (g ∷ done) gs a

-- NO RULE APPLIES
first-none : {B C : Type 0} (o : Option B) (f : B → C) (x : Option C) → maybe o (λ b. Some (f b)) x ≡ None → o ≡ None
first-none None f x e = refl
first-none (Some b) f x e = cc

rule-none : (c : Carried) (h : Gate) (hs : List Gate) → partner c (h ∷ hs) ≡ None → rule h c.gate ≡ None
unfolding partner
rule-none c h hs e = first-none (rule h c.gate) (λ k. record { at = length hs; gate = k; turn = c.turn }) (maybe (passed h c) (λ d. partner d hs) None) e

back_none : (g h : Gate) (hs : List Gate) → commutes h g ≡ true → partner (start g) (h ∷ hs) ≡ None → partner (start g) hs ≡ None
unfolding partner
back_none g h hs e f =
    let p : passed h (start g) ≡ Some (start g) = rw (or_right (idle h) (commutes h g) e) in
    ap (λ o. maybe o (λ d. partner d hs) None) (sym p)
    ∙ ap (λ o. maybe o (λ k. Some (record { at = length hs; gate = k; turn = 0 })) (maybe (passed h (start g)) (λ d. partner d hs) None)) (sym (rule-none (start g) h hs f))
    ∙ f

all_back : (g : Gate) (m c : List Gate) → AllChange g m → partner (start g) (reverse_aux m c) ≡ None → partner (start g) c ≡ None
all_back g [] c a e = e
all_back g (k ∷ m) c a e = back_none g k c a.0 (all_back g m (k ∷ c) a.1 e)

pub no_rule : NoRule
no_rule a m e h g t c =
    rule-none (start g) h (reverse a) (all_back g m (h ∷ reverse a) c (settled_of e (g ∷ reverse_aux m (h ∷ reverse a)) (subst AllSettled way t)).0.alone)
  where
    way : reverse (a ++ (h ∷ (m ++ (g ∷ e)))) ≡ reverse_aux e (g ∷ reverse_aux m (h ∷ reverse a))
    way = reverse_aux-append a (h ∷ (m ++ (g ∷ e))) [] ∙ reverse_aux-append m (g ∷ e) (h ∷ reverse a)

way-none : (ms hs : List Gate) (c d : Carried) (h : Gate) → partner c (ms ++ (h ∷ hs)) ≡ None → through c ms ≡ Some d → rule h d.gate ≡ None
unfolding partner
way-none [] hs c d h e f = let z : c ≡ d = cc in subst (λ (k : Carried). rule h k.gate ≡ None) z (rule-none c h hs e)
way-none (k ∷ ms) hs c d h e f = step (rule k c.gate) (passed k c) e f (λ x u v. way-none ms hs x d h u v)
  where
    step : (x : Option Gate) (y : Option Carried) →
        maybe x (λ r. Some (record { at = length (ms ++ (h ∷ hs)); gate = r; turn = c.turn })) (maybe y (λ b. partner b (ms ++ (h ∷ hs))) None) ≡ None →
        maybe y (λ b. through b ms) None ≡ Some d →
        ((b : Carried) → partner b (ms ++ (h ∷ hs)) ≡ None → through b ms ≡ Some d → rule h d.gate ≡ None) → rule h d.gate ≡ None
    step (Some r) y u v ih = cc
    step None (Some b) u v ih = ih b u v
    step None None u v ih = cc

pub no_way : NoWay
no_way a m e h g d t f =
    way-none (reverse m) (reverse a) (start g) d h
    (ap (partner (start g)) (sym (reverse_aux-eq m (h ∷ reverse a))) ∙ (settled_of e (g ∷ reverse_aux m (h ∷ reverse a)) (subst AllSettled way t)).0.alone) f
  where
    way : reverse (a ++ (h ∷ (m ++ (g ∷ e)))) ≡ reverse_aux e (g ∷ reverse_aux m (h ∷ reverse a))
    way = reverse_aux-append a (h ∷ (m ++ (g ∷ e))) [] ∙ reverse_aux-append m (g ∷ e) (h ∷ reverse a)

all-twin : (h g : Gate) (m : List Gate) → twin h g ≡ true → AllChange h m → AllChange g m
all-twin h g [] e a = tt
all-twin h g (k ∷ m) e a = (sym (twin-commutes k h g e) ∙ a.0, all-twin h g m e a.1)

pub no_rule_before : NoRuleBefore
no_rule_before a m e h g t c = go (twin h g) refl
  where
    go : (x : Bool) → twin h g ≡ x → rule h g ≡ None
    go true u = no_rule a m e h g t (all-twin h g m u c)
    go false u = rw u

-- FROM NEWEST FIRST TO OLDEST FIRST
back_onto : (gs c : List Gate) (s : State) → back (reverse_aux gs c) s ≡ run gs (back c s)
unfolding back run
back_onto [] c s = refl
back_onto (g ∷ gs) c s = back_onto gs (g ∷ c) s

back_run : (gs : List Gate) (s : State) → back (reverse gs) s ≡ run gs s
unfolding back
back_run gs s = back_onto gs [] s

t_count_onto : (gs c : List Gate) → t_count (reverse_aux gs c) ≡ t_count gs + t_count c
unfolding t_count
t_count_onto [] c = omega arith
t_count_onto (g ∷ gs) c = let h = t_count_onto gs (g ∷ c) in omega arith

t_count-reverse : (gs : List Gate) → t_count (reverse gs) ≡ t_count gs
unfolding t_count
t_count-reverse gs = let h = t_count_onto gs [] in omega arith

pub tidied : (t : ℕ) (c d : List Gate) → Kept 0 t (reverse c) (reverse d) → Tidied t c d
tidied t c d k =
    record {
      same = same;
      brief = omega (arith, k.brief, length-reverse c, length-reverse d);
      cheap = omega (arith, k.cheap, t_count-reverse c, t_count-reverse d);
      mixing = omega (arith, k.counted, mixes-reverse c, mixes-reverse d);
      fit = fit-kept c d each;
      can = can-kept c d each;
    }
  where
    each : (p : Gate → Bool) → OfTargets p → Each p c → Each p d
    each p o a = subst (Each p) (reverse-reverse d) (each_onto p (reverse d) [] (k.fits p o (each_onto p c [] a tt)) tt)

    counted : mixes d + k.roots ≡ mixes c
    counted = omega (arith, k.counted, mixes-reverse c, mixes-reverse d)

    first : (s : State) (b : Row) → run c s b ≡ turned t (rooted k.roots (run d s b))
    first s b =
        ap (λ (x : State). x b) (sym (back_run c s)) ∙ k.same s b ∙ ap (λ (x : State). turned t (rooted k.roots (x b))) (back_run d s)

    same : (s : State) (b : Row) → rooted (mixes d) (run c s b) ≡ turned t (rooted (mixes c) (run d s b))
    same s b =
        ap (rooted (mixes d)) (first s b)
        ∙ rooted_turned (mixes d) t (rooted k.roots (run d s b))
        ∙ ap (turned t) (sym (rooted_add (mixes d) k.roots (run d s b)) ∙ ap (λ n. rooted n (run d s b)) counted)
