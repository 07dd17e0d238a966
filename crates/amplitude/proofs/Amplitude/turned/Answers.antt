use Rattle.std.proofs.Common.{sym, refl, ◌∙◌, rules}
use Rattle.amplitude.proofs.Arms.{arm, kept, kept_neg, twice}
use Rattle.amplitude.proofs.RingLaws.{parts}
use Rattle.amplitude.proofs.Amplitude.turned.Goals as goal

pub returns-in-0 : goal.returns-in-0
returns-in-0 c = arm c.args.eighths 0 c.args.self _ c.in-0.is refl

pub returns-in-1 : goal.returns-in-1
returns-in-1 c = arm c.args.eighths 1 c.args.self _ c.in-1.is (c.of.ensures ∙ parts (kept_neg c.args.self.w3 c.requires.of_w3, kept c.args.self.one c.requires.of_one, kept c.args.self.w c.requires.of_w, kept c.args.self.w2 c.requires.of_w2))

pub returns-in-2 : goal.returns-in-2
returns-in-2 c = arm c.args.eighths 2 c.args.self _ c.in-2.is (c.of-in-2.ensures ∙ parts (kept_neg c.args.self.w2 c.requires.of_w2, kept_neg c.args.self.w3 c.requires.of_w3, kept c.args.self.one c.requires.of_one, kept c.args.self.w c.requires.of_w))

pub returns-in-3 : goal.returns-in-3
returns-in-3 c = arm c.args.eighths 3 c.args.self _ c.in-3.is (c.of-in-3.ensures ∙ parts (kept_neg c.args.self.w c.requires.of_w, kept_neg c.args.self.w2 c.requires.of_w2, kept_neg c.args.self.w3 c.requires.of_w3, kept c.args.self.one c.requires.of_one))

pub returns-in-4 : goal.returns-in-4
returns-in-4 c = arm c.args.eighths 4 c.args.self _ c.in-4.is (c.of-in-4.ensures ∙ parts (kept_neg c.args.self.one c.requires.of_one, kept_neg c.args.self.w c.requires.of_w, kept_neg c.args.self.w2 c.requires.of_w2, kept_neg c.args.self.w3 c.requires.of_w3))

pub returns-in-5 : goal.returns-in-5
returns-in-5 c = arm c.args.eighths 5 c.args.self _ c.in-5.is (c.of-in-5.ensures ∙ parts (kept c.args.self.w3 c.requires.of_w3 ∙ sym (twice c.args.self.w3), kept_neg c.args.self.one c.requires.of_one, kept_neg c.args.self.w c.requires.of_w, kept_neg c.args.self.w2 c.requires.of_w2))

pub returns-in-6 : goal.returns-in-6
returns-in-6 c = arm c.args.eighths 6 c.args.self _ c.in-6.is (c.of-in-6.ensures ∙ parts (kept c.args.self.w2 c.requires.of_w2 ∙ sym (twice c.args.self.w2), kept c.args.self.w3 c.requires.of_w3 ∙ sym (twice c.args.self.w3), kept_neg c.args.self.one c.requires.of_one, kept_neg c.args.self.w c.requires.of_w))

pub returns-in_default : goal.returns-in_default
returns-in_default c = arm c.args.eighths 7 c.args.self _ (search rules) (c.of-in_default.ensures ∙ parts (kept c.args.self.w c.requires.of_w ∙ sym (twice c.args.self.w), kept c.args.self.w2 c.requires.of_w2 ∙ sym (twice c.args.self.w2), kept c.args.self.w3 c.requires.of_w3 ∙ sym (twice c.args.self.w3), kept_neg c.args.self.one c.requires.of_one))
