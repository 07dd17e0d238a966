-- What is written reads back as what was meant.
use Rattle.std.proofs.Common.{◌≡◌, ℕ, ◌*◌, ◌/◌, ◌≤◌, List, length, take, drop, sym, ap, ◌∙◌, subst, arith, length-append, length-drop}
use Rattle.std.proofs.lemmas.List.{take_at, drop_at}
use Rattle.circuit.proofs.Codes.{gates_in-codes, fault_from-codes, length-codes}
use Rattle.circuit.specs.Circuit.{AllFit}
use Rattle.circuit.specs.Code.{codes, gates_in, fault_from}
use Rattle.circuit.specs.declared.gate.Gate.{Gate}
use Rattle.device.specs.Coupling.{Graph}
use Rattle.device.specs.Layout.{at}
use Rattle.compiler.specs.Emits.{Emitted}
use Rattle.compiler.specs.Expand.{expanded}
use Rattle.compiler.specs.Promise.{CarriesOut, Filled}
use Rattle.compiler.proofs.Main.{carried}

emitted_fills : (n : ℕ) (d : Graph) (p q : ℕ → ℕ) (gs : List Gate) (room room1 : List ℕ) (m k : ℕ) → AllFit n gs → m ≤ length room → Emitted n d p q (expanded gs) room room1 m → 4 * k ≡ m → Filled n d p q gs room room1 k
emitted_fills n d p q gs room room1 m k fits h e four =
    let whole : 4 * k ≡ length (codes e.ds) = four ∙ e.count in
    let front : take (4 * k) room1 ≡ codes e.ds = ap (take (4 * k)) e.wrote ∙ take_at (codes e.ds) _ (4 * k) (sym whole) in
    let reads : gates_in (take (4 * k) room1) ≡ e.ds = ap gates_in front ∙ gates_in-codes e.ds in
    record {
      fits = omega arith;
      long = ap length e.wrote ∙ (length-append (codes e.ds) (drop (length (codes e.ds)) room) ∙ omega (arith, length-drop (length (codes e.ds)) room));
      behind = ap (drop (4 * k)) e.wrote ∙ drop_at (codes e.ds) _ (4 * k) (sym whole) ∙ ap (λ i. drop i room) (sym whole);
      read = ap (fault_from 0) front ∙ fault_from-codes 0 e.ds;
      carries = subst (CarriesOut n d p q gs) (sym reads) (carried n d p q gs e.ds fits e.doing);
    }

-- what is written is whole gates
emitted_fours : {n : ℕ} {d : Graph} {p q : ℕ → ℕ} {gs : List Gate} {room room1 : List ℕ} {m : ℕ} → (e : Emitted n d p q gs room room1 m) → m ≡ 4 * length e.ds
emitted_fours e = e.count ∙ length-codes e.ds

pub compiled_fills : (n : ℕ) (d d1 : Graph) (place place1 out1 : List ℕ) (gs es : List Gate) (room room1 : List ℕ) (m : ℕ)
    → d1 ≡ d → place1 ≡ place → length place ≡ n → es ≡ expanded gs → AllFit n gs → m ≤ length room
    → Emitted (length place1) d1 (at place1) (at out1) es room room1 m → Filled n d (at place) (at out1) gs room room1 (m / 4)
compiled_fills n d d1 place place1 out1 gs es room room1 m ed ep en eg fits h e =
    let e1 = subst (λ (g : Graph). Emitted (length place1) g (at place1) (at out1) es room room1 m) ed e in
    let e2 = subst (λ (p : List ℕ). Emitted (length p) d (at p) (at out1) es room room1 m) ep e1 in
    let e3 = subst (λ k. Emitted k d (at place) (at out1) es room room1 m) en e2 in
    let e4 = subst (λ (g : List Gate). Emitted n d (at place) (at out1) g room room1 m) eg e3 in
    emitted_fills n d (at place) (at out1) gs room room1 m (m / 4) fits h e4 (omega (arith, emitted_fours e4))
