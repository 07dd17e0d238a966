use Rattle.std.proofs.Common.{◌==◌, length, drop, Err, sym, ap, ◌∙◌, subst, rules, tests, arith}
use Rattle.std.proofs.lemmas.Iterator.Consumers.{YieldsList-at, YieldsList-from_enumerate, YieldsList-turn, YieldsList-end}
use Rattle.std.proofs.lemmas.Iterator.Splits.{YieldsList-from_slice_split}
use Rattle.std.proofs.lemmas.List.{at_drop_all, length_push}
use Rattle.std.proofs.lemmas.List.FromFn.{length-enumerate_from}
use Rattle.std.proofs.lemmas.Result.{err_from_is_err_and}
use Rattle.job.specs.Builders.{view}
use Rattle.job.specs.Plan.{Answers, follow, ended, nothing}
use Rattle.job.proofs.PlanSteps.{parts, lines-are, line-done, line-fails}
use Rattle.job.proofs.plan.read_plan.Goals as goal

pub loop-at-preserved : goal.loop-at-preserved
loop-at-preserved c =
    let turn = YieldsList-turn (YieldsList-at c.into_iter-at-iterator.ensures.into_iter_gives (YieldsList-from_enumerate (YieldsList-at c.enumerate-at-items.ensures.source (YieldsList-from_slice_split _ (λ b. b == 10) c.args.lines.now c.split.ensures.rest c.split.ensures.done c.split.ensures.closure (λ x b q k. search (rules, tests)))) c.enumerate-at-items.ensures.count)) c.loop-at.yielded _ c.loop-at.yielded_by _ _ (c.in-Some.at, c.in-Some.line) c.in-Some.is c.next.ensures.steps in
    let ls = parts c.args.lines.now in
    ap (λ k. follow k (drop k ls) (view c.take_line.new.self)) (length_push c.loop-at.yielded (c.in-Some.at, c.in-Some.line))
    ∙ line-done ls (length c.loop-at.yielded) c.in-Some.at c.in-Some.line.now turn (view c.loop-at.builder) (view c.take_line.new.self) c.in_ok-take_line.ensures
    ∙ c.loop-at.invariant

pub returns-in_err-take_line : goal.returns-in_err-take_line
returns-in_err-take_line c =
    let turn = YieldsList-turn (YieldsList-at c.into_iter-at-iterator.ensures.into_iter_gives (YieldsList-from_enumerate (YieldsList-at c.enumerate-at-items.ensures.source (YieldsList-from_slice_split _ (λ b. b == 10) c.args.lines.now c.split.ensures.rest c.split.ensures.done c.split.ensures.closure (λ x b q k. search (rules, tests)))) c.enumerate-at-items.ensures.count)) c.loop-at.yielded _ c.loop-at.yielded_by _ _ (c.in-Some.at, c.in-Some.line) c.in-Some.is c.next.ensures.steps in
    let p = err_from_is_err_and c.from_residual.result c.from_residual.ensures.1 in
    let e = c.in_err-take_line.field-0.0 in
    let here = ap ended (c.loop-at.invariant ∙ ap (λ ls. follow 0 ls nothing) (sym (lines-are c.args.lines.now))) in
    rw (p.1, p.2) (subst (Answers (Err e)) here (line-fails (parts c.args.lines.now) (length c.loop-at.yielded) c.in-Some.at c.in-Some.line.now turn (view c.loop-at.builder) (view c.take_line.new.self) e c.in_err-take_line.ensures))

pub returns : goal.returns
returns c =
    let end = YieldsList-end (YieldsList-at c.into_iter-at-iterator.ensures.into_iter_gives (YieldsList-from_enumerate (YieldsList-at c.enumerate-at-items.ensures.source (YieldsList-from_slice_split _ (λ b. b == 10) c.args.lines.now c.split.ensures.rest c.split.ensures.done c.split.ensures.closure (λ x b q k. search (rules, tests)))) c.enumerate-at-items.ensures.count)) c.loop-at.yielded _ c.loop-at.yielded_by _ _ c.in-None.is c.next.ensures.steps in
    let k = length c.loop-at.yielded in
    let s = view c.loop-at.builder in
    let here = ap ended (sym (at_drop_all (λ ls. follow k ls s) (parts c.args.lines.now) k (omega (arith, end.1, length-enumerate_from 0 (parts c.args.lines.now)))) ∙ c.loop-at.invariant ∙ ap (λ ls. follow 0 ls nothing) (sym (lines-are c.args.lines.now))) in
    subst (Answers c.finish.result) here c.finish.ensures
