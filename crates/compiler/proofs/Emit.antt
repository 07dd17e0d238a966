-- What is written goes on.
use Rattle.std.proofs.Common.{◌≡◌, ℕ, ◌+◌, ◌-◌, ◌<◌, true, List, [], ◌∷◌, ◌++◌, length, get_or, drop, sym, refl, ap, ◌∙◌, subst, ap₂, length-append}
use borrow.Rule.Slice.PartMut.{put_mid}
use Rattle.std.specs.List.{between}
use Rattle.circuit.proofs.Codes.{codes-append, length-codes}
use Rattle.circuit.specs.Circuit.{Fit}
use Rattle.circuit.specs.Code.{code, codes}
use Rattle.circuit.specs.declared.gate.Gate.{Gate}
use Rattle.circuit.specs.declared.gate.Gate.TheVariants.{Phase, Hadamard, Not, ControlledNot, Toffoli}
use Rattle.device.specs.Coupling.{Graph, Can}
use Rattle.device.specs.Layout.{Placed, at}
use Rattle.compiler.specs.Emits.{Emitted, over}
use Rattle.laws.specs.Rename.{renamed, other}
use Rattle.compiler.specs.Route.{swapped, swap_gates, Doing}
use Rattle.compiler.proofs.Doings.{after, nothing-done, swap_done, gate-done, doing_like}
use Rattle.compiler.proofs.Over.{over-more}

pub emit_none : (n : ℕ) (d : Graph) (p : ℕ → ℕ) (room : List ℕ) → Placed n d p → Emitted n d p p [] room room 0
unfolding codes
emit_none n d p room l = record { ds = []; doing = nothing-done n d p l; wrote = refl; count = refl }

-- more gates, written from the next free place on
emit_more : {n : ℕ} {d : Graph} {p q r : ℕ → ℕ} {gs hs es : List Gate} {room room1 : List ℕ} {k : ℕ} (ys : List ℕ) (l : ℕ)
    → Emitted n d p q gs room room1 k → Doing n d q r hs es → ys ≡ over (codes es) (between k (length room1) room1) → l ≡ length (codes es)
    → Emitted n d p r (gs ++ hs) room (put_mid k (length room1 - k) room1 ys) (k + l)
emit_more {es = es} {room = room} {room1 = room1} {k = k} ys l e m w c = record {
  ds = e.ds ++ es;
  doing = after e.doing m;
  wrote = over-more (codes e.ds) (codes es) room room1 ys k e.wrote e.count w ∙ ap (λ (bs : List ℕ). over bs room) (sym (codes-append e.ds es));
  count = ap₂ ◌+◌ e.count c ∙ (sym (length-append (codes e.ds) (codes es)) ∙ ap length (sym (codes-append e.ds es)));
}

-- and a swap
pub emit_swap : {n : ℕ} {d : Graph} {p : ℕ → ℕ} {room room1 : List ℕ} {k : ℕ} (place place1 ys : List ℕ) (x y : ℕ) → x < d.size → y < d.size → (x ≡ y → ⊥) → d.joined x y ≡ true → d.joined y x ≡ d.joined x y
    → ((j : ℕ) → j < n → get_or place1 j 0 ≡ other x y (get_or place j 0))
    → ys ≡ over (codes (swap_gates x y)) (between k (length room1) room1)
    → Emitted n d p (at place) [] room room1 k → Emitted n d p (at place1) [] room (put_mid k (length room1 - k) room1 ys) (k + 12)
unfolding codes swap_gates swapped
emit_swap {n = n} {d = d} place place1 ys x y hx hy ne j even h w e =
    emit_more ys 12 e (doing_like (at place1) (swap_done n d (at place) x y hx hy ne j even e.doing.placed) (λ i hi. sym (h i hi))) w refl

-- the four numbers of a gate
one_code : (g : Gate) (room : List ℕ) → code g ++ drop 4 room ≡ over (codes (g ∷ [])) room
unfolding codes
one_code (Phase m q) room = refl
one_code (Hadamard q) room = refl
one_code (Not q) room = refl
one_code (ControlledNot c q) room = refl
one_code (Toffoli c d q) room = refl

-- a gate on the places of its qubits, which the device can do there
pub emit_gate : {n : ℕ} {d : Graph} {p q : ℕ → ℕ} {room room1 : List ℕ} {k : ℕ} (ys : List ℕ) (g h : Gate) → Fit n g → Can d (renamed q g)
    → h ≡ renamed q g → ys ≡ code h ++ drop 4 (between k (length room1) room1)
    → Emitted n d p q [] room room1 k → Emitted n d p q (g ∷ []) room (put_mid k (length room1 - k) room1 ys) (k + 4)
emit_gate {n = n} {d = d} {q = q} {room1 = room1} {k = k} ys g h f can is w e =
    emit_more ys 4 e (gate-done n d q g e.doing.placed f can) (w ∙ ap (λ i. code i ++ drop 4 (between k (length room1) room1)) is ∙ one_code (renamed q g) _) (sym (length-codes (renamed q g ∷ [])))

-- what was written behind goes with what was written before
pub emit_then : {n n1 : ℕ} {d : Graph} {p q r : ℕ → ℕ} {gs hs : List Gate} {room room1 ys : List ℕ} {k l : ℕ} → n1 ≡ n
    → Emitted n d p q gs room room1 k → Emitted n1 d q r hs (between k (length room1) room1) ys l
    → Emitted n d p r (gs ++ hs) room (put_mid k (length room1 - k) room1 ys) (k + l)
emit_then {d = d} {q = q} {r = r} {hs = hs} {ys = ys} {l = l} h e f = emit_more ys l e (subst (λ i. Doing i d q r hs f.ds) h f.doing) f.wrote f.count

-- the same gates
pub emit_same : {n : ℕ} {d : Graph} {p q : ℕ → ℕ} {room room1 : List ℕ} {k : ℕ} (gs hs : List Gate) → gs ≡ hs → Emitted n d p q gs room room1 k → Emitted n d p q hs room room1 k
emit_same {n} {d} {p} {q} {room} {room1} {k} gs hs e m = subst (λ s. Emitted n d p q s room room1 k) e m
