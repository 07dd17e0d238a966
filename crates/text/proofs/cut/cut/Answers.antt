use Rattle.std.proofs.Common.{◌≡◌, ◌+◌, drop, vec_items, sym, ◌∙◌, arith, rules, tests}
use Rattle.std.specs.List.{between}
use Rattle.text.specs.declared.token.Class.TheVariants.{Alphanumeric}
use Rattle.text.specs.Cut.{cut}
use Rattle.text.proofs.CutSteps.{on-plain, on-other}
use Rattle.text.proofs.cut.cut.Goals as goal
use Rattle.text.proofs.cut.cut.Goals.{then-ne+in_ok-put+else-len-most, else-ne}

pub loop-i-preserved : goal.loop-i-preserved
loop-i-preserved c =
    elim c.if-ne.branch [
      | then-ne+in_ok-put+else-len-most w ↦
          let off : c.class_of-class.result ≡ Alphanumeric → ⊥ = search (rules, tests) in
          let e = on-other (vec_items c.loop-i.out) c.args.text.now c.loop-i.start c.loop-i.i c.loop-i.invariant.0 c.loop-i-test.true c.class_of-class.result c.class_of-class.ensures off in
          (omega (arith, w.start-is), rw (w.out-is, w.start-is) (rw w.in_ok-put.ensures (e ∙ c.loop-i.invariant.1)))
      | else-ne w ↦
          let on : c.class_of-class.result ≡ Alphanumeric = search (rules, tests) in
          let e = on-plain (vec_items c.loop-i.out) c.args.text.now c.loop-i.start c.loop-i.i c.loop-i.invariant.0 c.loop-i-test.true (sym c.class_of-class.ensures ∙ on) in
          (omega (arith, w.start-is), rw (w.out-is, w.start-is) (e ∙ c.loop-i.invariant.1))
    ]

pub returns-then-len-most : goal.returns-then-len-most
returns-then-len-most c =
    let off : c.class_of-class.result ≡ Alphanumeric → ⊥ = search (rules, tests) in
    record {
      rest = cut (between (c.loop-i.i + 1) (c.loop-i.i + 1) c.args.text.now) (drop (c.loop-i.i + 1) c.args.text.now);
      parts = rw c.in_ok-put.ensures (on-other (vec_items c.loop-i.out) c.args.text.now c.loop-i.start c.loop-i.i c.loop-i.invariant.0 c.loop-i-test.true c.class_of-class.result c.class_of-class.ensures off ∙ c.loop-i.invariant.1);
      whole = λ h. absurd (omega (arith, c.put.new.out.ok.0));
    }
