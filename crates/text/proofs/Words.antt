-- A word, looked up in a table.
use Rattle.std.proofs.Common.{◌≡◌, Bool, true, false, cond, Some, None, Option, option_map, unwrap_or, refl}
use Rattle.std.specs.Option.{MatchOption}
use Rattle.text.specs.declared.token.Token.{Token}

pub if_found : {E : Type 0} (b : Bool) (e : E) (o : Option E) (sign : E → Token) (n : Token) → unwrap_or (option_map sign (cond b (Some e) o)) n ≡ cond b (sign e) (unwrap_or (option_map sign o) n)
if_found true e o sign n = refl
if_found false e o sign n = refl

pub settled : (o : Option Token) (r n : Token) → MatchOption o (r ≡ n) (λ x. r ≡ x) → r ≡ unwrap_or o n
settled None r n e = e
settled (Some x) r n e = e
