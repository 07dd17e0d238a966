use Rattle.std.proofs.Common.{◌≡◌, ◌<◌, List, ℕ, string_bytes, sym, subst, rules}
use Rattle.std.proofs.ByRecursion.{All-from_get_or}
use Rattle.message.specs.Statements.{printed}
use Rattle.message.specs.RoundTrip.{Tells}
use Rattle.message.proofs.Told.{print_tells}
use Rattle.message.proofs.show.show_compiled.Goals as goal

pub returns-clause-told : goal.returns-clause-told
returns-clause-told c =
    let exact : string_bytes c.write.new.self ≡ printed c.args.gates.now c.args.layout.now = search rules in
    subst (λ (out : List ℕ). Tells out c.args.gates.now c.args.layout.now) (sym exact)
    (print_tells c.args.gates.now c.args.layout.now c.in_ok-out.ensures.small (All-from_get_or (λ p. p < 256) c.args.layout.now 0 (λ i l. (c.type_inv.layout i).fits)))
