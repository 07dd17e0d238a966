use Rattle.std.proofs.Common.{◌≡◌, unwrap_or, ap, ◌∙◌, rules}
use Rattle.std.specs.Option.{MatchOption}
use Rattle.text.specs.Spelling.{number_of}
use Rattle.text.proofs.Words.{if_found, settled}
use Rattle.text.proofs.token.word.Goals as goal

pub returns : goal.returns
returns c =
    let n = number_of c.args.w.now in
    let m : MatchOption c.look_up.result (c.unwrap_or_else.result ≡ n) (λ x. c.unwrap_or_else.result ≡ x) = search rules in
    settled c.look_up.result c.unwrap_or_else.result n m ∙ ap (λ o. unwrap_or o n) c.look_up.ensures ∙ simp if_found
