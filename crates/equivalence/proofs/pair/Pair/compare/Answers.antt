use Rattle.std.proofs.Common.{◌≡◌, ℕ, ◌^◌, sym, subst, arith}
use Rattle.equivalence.proofs.Refusing.{unrefused}
use Rattle.equivalence.proofs.Scanning.{all_told}
use Rattle.equivalence.specs.Compare.{Answers}
use Rattle.equivalence.specs.Scan.{Told}
use Rattle.equivalence.specs.declared.comparison.Comparison.TheVariants.{Alike}
use Rattle.equivalence.proofs.pair.Pair.compare.Goals as goal

pub returns : goal.returns
returns c =
    let p = c.args.self.now in
    let able = unrefused p.register.qubits p.c.gates.now p.d.gates.now p.taken in
    let w = c.rows-rows.ensures in
    let e : c.loop-row.row ≡ 2 ^ p.register.qubits = omega arith in
    let u = c.unwrap_or.ensures in
    subst (λ (t : ℕ). Answers p.register.qubits p.c.gates.now p.d.gates.now (Alike t)) (sym u)
    (all_told p.register.qubits p.c.gates.now p.d.gates.now able.fit_c able.fit_d c.loop-row.told (subst (λ k. Told p.register.qubits p.c.gates.now p.d.gates.now k 0 c.loop-row.told) e c.loop-row.invariant))
