use Rattle.std.proofs.Common.{◌≡◌, ℕ, ◌^◌, ◌<◌, List, ◌++◌, get_or, codes, decimal, sym, ap, ◌∙◌, subst, ap₂}
use Rattle.amplitude.specs.Ring.{nought}
use Rattle.circuit.specs.Circuit.{AllFit}
use Rattle.circuit.specs.Rows.{number, amplitude}
use Rattle.simulation.specs.Playing.{row_of, lines}
use Rattle.simulation.proofs.Lines.{lines_of}
use Rattle.simulation.proofs.Ready.{playable}
use Rattle.simulation.proofs.play.show_amplitudes.Goals as goal

pub column-state-requires : goal.column-state-requires
column-state-requires c =
    let ok = c.in_ok-register.ensures in
    let p = playable c.args.qubits c.args.row.now c.args.gates.now ok.refused in
    record {
      inside = subst (λ (n : ℕ). c.number_of.result < 2 ^ n) (p.long ∙ sym ok.register) c.number_of.ensures.inside;
      fit = subst (λ (n : ℕ). AllFit n c.args.gates.now) (sym ok.register) p.fit;
      short = p.short;
    }

pub returns : goal.returns
returns c =
    let n = c.args.qubits in
    let ds = c.args.row.now in
    let gs = c.args.gates.now in
    let ok = c.in_ok-register.ensures in
    let p = playable n ds gs ok.refused in
    let from : c.number_of.result ≡ number n (row_of ds) = c.number_of.ensures.exact ∙ ap (λ (m : ℕ). number m (row_of ds)) p.long in
    let told : lines c.column-state.result.register.qubits (λ k. get_or c.column-state.result.amplitudes k nought) (2 ^ c.column-state.result.register.qubits) ≡ lines n (amplitude n gs (number n (row_of ds))) (2 ^ n) =
    lines_of c.in_ok-register.register.qubits gs c.number_of.result c.column-state.result c.column-state.ensures
    ∙ ap₂ (λ (m k : ℕ). lines m (amplitude m gs k) (2 ^ m)) ok.register from in
    (ok.refused, c.in_ok-format.ensures.ok ∙ ap₂ (λ (xs : List ℕ) (m : ℕ). xs ++ (codes "with " ++ (decimal m ++ codes " mixes\n"))) told c.count_mixes-mixes.ensures)
