use Rattle.std.proofs.Common.{◌≡◌, ◌++◌, List, [], ◌∷◌, reverse, Option, Bor, Iter, ap, ◌∙◌, rules}
use Rattle.std.proofs.lemmas.Iterator.{YieldsList, YieldsList-from_slice, YieldsList-from_map}
use Rattle.std.proofs.lemmas.Iterator.Adapters.{YieldsList-from_rev_slice, items_from_extend}
use Rattle.std.proofs.lemmas.Result.{on_ok_weaker}
use Rattle.std.specs.Iterator.Adapters.{map_source, rev_source, rev_steps}
use Rattle.std.specs.Slice.Iter.{iter_rest, iter_steps, iter_steps_back}
use Rattle.std.specs.declared.iter.Rev.{Rev}
use Rattle.circuit.specs.Vector.{Gives}
use Rattle.circuit.specs.declared.gate.Gate.{Gate}
use Rattle.laws.specs.Undo.{undone}
use Rattle.text.proofs.Rows.{backwards-is}
use Rattle.text.proofs.row.append_undone.Goals as goal

-- Which gates an iterator over a slice lends: as it is, reversed, and reversed twice more. `returns` settles no case: a search picks it by the iterator's type, and what is then left to prove is the order.
data Lends : (S : Type 0) → S → List Gate → Type 1 where
  in_order : {s : Iter Gate} (gs : List Gate) → iter_rest s ≡ gs → Lends (Iter Gate) s gs
  in_reverse : {s : Rev (Iter Gate)} (gs : List Gate) → iter_rest (rev_source s) ≡ gs → Lends (Rev (Iter Gate)) s (reverse gs)
  reversed_twice : {S : Type 0} {s : Rev (Rev S)} (gs : List Gate) → Lends S (rev_source (rev_source s)) gs → Lends (Rev (Rev S)) s gs

-- what is reversed twice gives what it gave
twice : {S : Type 0} (steps : S → Option (Bor Gate) → S → Type 0) (s : Rev (Rev S)) (gs : List Gate) → Gives steps (rev_source (rev_source s)) gs → Gives (rev_steps (rev_steps steps)) s gs
twice steps s [] given = λ g t. given g (rev_source (rev_source t))
twice steps s (g ∷ gs) given = (λ t. given.0 (rev_source (rev_source t)), λ h t p. let rest = given.1 h (rev_source (rev_source t)) p in (rest.0, twice steps t gs rest.1))

-- that it yields them, with its steps, which a search would leave open as an index of `Lends`
yields : {S : Type 0} {s : S} {gs : List Gate} → Lends S s gs → (steps : S → Option (Bor Gate) → S → Type 0) × YieldsList steps (λ g. g.now) s gs
yields (in_order gs e) = (iter_steps, YieldsList-from_slice gs e)
yields (in_reverse gs e) = (rev_steps iter_steps_back, YieldsList-from_rev_slice gs e)
yields (reversed_twice {s = s} gs lent) = let given = yields lent in (rev_steps (rev_steps given.0), record { runs = twice given.0 s gs given.1.runs })

pub returns : goal.returns
unfolding yields
returns c =
    let lent : Lends _ (map_source c.map.result) (reverse c.args.inner.now) = search (in_order, in_reverse, reversed_twice, rules) in
    let h = items_from_extend c.extend.result c.extend.ensures.ran (YieldsList-from_map _ undone (yields lent).1 c.map.ensures.closure (λ x r q k. search rules)) in
    on_ok_weaker c.extend.result (λ e. e.0 ∙ ap (λ r. c.args.row.now.items ++ r) (backwards-is c.args.inner.now)) h
