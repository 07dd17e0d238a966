use Rattle.std.proofs.Common.{not, ◌&&◌, find, sym, ap, ◌∙◌, rules, tests}
use Rattle.std.proofs.lemmas.Iterator.{YieldsList-from_slice}
use Rattle.std.proofs.lemmas.Iterator.Search.{find_from_yields_List}
use Rattle.text.specs.Spelling.{digit}
use Rattle.diagnosis.proofs.Causes.{starts, ends, started, ended, digits-are}
use Rattle.diagnosis.proofs.cause.is_number.Goals as goal

pub returns-then-is_some_and : goal.returns-then-is_some_and
returns-then-is_some_and c =
    let bs = c.args.bytes.now in
    let past = find_from_yields_List (λ b. not (digit b)) _ _ c.find-after.result c.find-after.ensures.ran (YieldsList-from_slice bs cc) (λ x b q k. search (rules, tests)) in
    let first = started c.copied.result c.is_some_and.result c.is_some_and.ensures ∙ ap starts (c.copied.ensures ∙ c.first.ensures.value) in
    ended c.copied-then-is_some_and.result c.is_none_or.result c.is_none_or.ensures ∙ ap ends (c.copied-then-is_some_and.ensures ∙ past) ∙ ap (λ b. b && ends (find (λ b. not (digit b)) bs)) (sym c.if-is_some_and.true ∙ first) ∙ digits-are bs

pub returns-else-is_some_and : goal.returns-else-is_some_and
returns-else-is_some_and c =
    let bs = c.args.bytes.now in
    let first = started c.copied.result c.is_some_and.result c.is_some_and.ensures ∙ ap starts (c.copied.ensures ∙ c.first.ensures.value) in
    c.if-is_some_and.false ∙ ap (λ b. b && ends (find (λ b. not (digit b)) bs)) (sym c.if-is_some_and.false ∙ first) ∙ digits-are bs
