use Rattle.std.proofs.Common.{◌≡◌, ℕ, ◌<◌, List, [], length, None, Option, get_or, subst, inl, inr, arith, rules}
use Rattle.std.proofs.Math.ListN.{get_or-eq_default}
use Rattle.std.proofs.lemmas.Bool.{cases_lt}
use Rattle.device.specs.Board.{graph_of}
use Rattle.device.specs.Coupling.{Graph}
use Rattle.device.specs.Distances.{TreeFrom}
use Rattle.device.specs.Hops.{far}
use Rattle.device.specs.declared.hop.Hop.{Hop}
use Rattle.device.proofs.Tables.{made_by}
use Rattle.device.proofs.between.all_ways.Goals as goal

-- no way leads from a row past the end
all_within : (d : Graph) (rows : List (List (Option Hop))) → length rows ≡ 16 → ((a : ℕ) → a < 16 → TreeFrom d a (get_or rows a [])) → (a b : ℕ) → far (get_or (get_or rows a []) b None) < 255 → (a < d.size) × (b < d.size)
all_within d rows n trees a b h = elim (cases_lt a 16) [
  | inl l ↦ (trees a l).within b h
  | inr g ↦ let e : get_or rows a [] ≡ [] = get_or-eq_default rows [] (omega (arith, n, g)) in absurd (omega (arith, subst (λ (r : List (Option Hop)). far (get_or r b None) < 255) e h))
]

pub returns : goal.returns
returns c =
    let d = graph_of c.args.device.now in
    let rows = c.from_fn-hops.result in
    let trees : (a : ℕ) → a < 16 → TreeFrom d a (get_or rows a []) = made_by _ (TreeFrom d) _ (λ a h q k. search rules) rows [] 16 c.from_fn-hops.ensures.items in
    record {
      small = omega arith;
      within = all_within d rows c.from_fn-hops.ensures.items.long trees;
      each = λ a h. (trees a (omega arith)).grown h;
      shut = λ a h. (trees a (omega arith)).shut h;
    }
