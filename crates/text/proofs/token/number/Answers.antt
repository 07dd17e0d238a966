use Rattle.std.proofs.Common.{◌≡◌, sym, ap, ◌∙◌, rules}
use Rattle.std.specs.Option.{MatchOption}
use Rattle.text.specs.declared.token.Token.TheVariants.{Number, Other}
use Rattle.text.proofs.Decimal.{decimal, decimal-is, folded, stopped, as_number}
use Rattle.text.proofs.token.number.Goals as goal

pub returns : goal.returns
returns c =
    let r = c.try_fold.ensures.ran in
    let m : MatchOption c.try_fold.result (c.map_or.result ≡ Other) (λ n. c.map_or.result ≡ Number n) = search rules in
    as_number c.try_fold.result c.map_or.result m
    ∙ sym (stopped r.1 r.4.0 _ r.3 c.try_fold.result r.4.2 (λ k. search rules) (λ x k. (search rules, search rules)) r.6)
    ∙ sym (folded _ _ (λ n x q k. search rules) r.0 c.iter.result r.4.0 0 (r.2, r.3) r.4.1 r.5).1
    ∙ ap (decimal 0) c.iter.ensures.rest
    ∙ decimal-is c.args.w.now
