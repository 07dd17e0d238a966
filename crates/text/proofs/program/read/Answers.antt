use Rattle.std.proofs.Common.{Err, vec_items, sym, ap, ◌∙◌, subst}
use Rattle.std.proofs.lemmas.Result.{err_from_is_err_and}
use Rattle.text.specs.Reading.{view, reading, Runs}
use Rattle.text.proofs.Answered.{answers_error, answers_settled}
use Rattle.text.proofs.program.read.Goals as goal

pub returns-in_err-parse : goal.returns-in_err-parse
returns-in_err-parse c =
    let p = err_from_is_err_and c.from_residual-in_err-parse.result c.from_residual-in_err-parse.ensures.1 in
    rw (p.1, p.2) (answers_error c.args.limit c.args.text.now (vec_items c.in_ok-tokens.tokens) c.in_ok-tokens.ensures c.in_err-parse.field-0.0
    (subst (λ ts. Runs (Err c.in_err-parse.field-0.0) (reading c.args.limit ts)) c.deref.ensures.value c.in_err-parse.ensures))

pub returns : goal.returns
returns c =
    answers_settled c.args.limit c.args.text.now (vec_items c.in_ok-tokens.tokens) c.in_ok-tokens.ensures (view c.in_ok-parse.field-0)
    (ap (reading c.args.limit) (sym c.deref.ensures.value) ∙ c.in_ok-parse.ensures) c.circuit.result c.circuit.ensures
