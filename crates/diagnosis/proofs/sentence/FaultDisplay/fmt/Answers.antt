use Rattle.std.proofs.Common.{◌≡◌, ℕ, List, ◌++◌, codes, decimal, sym, ap, ◌∙◌, subst}
use Rattle.std.specs.declared.fmt.Formatter.{Formatter}
use Rattle.std.specs.Fmt.{HasWritten}
use Rattle.diagnosis.specs.declared.fault.Fault.{Fault}
use Rattle.diagnosis.specs.Sentences.{noun, sentence}
use Rattle.diagnosis.proofs.sentence.FaultDisplay.fmt.Goals as goal

-- what is written of a fault is what is said of it
module _ {W : Type 0} {took : W → List ℕ → W → Type 0} {f h : Formatter W} where
  put_fault : (x y : Fault) → x ≡ y → HasWritten took f (sentence y) h → HasWritten took f (sentence x) h
  put_fault x y e = subst (λ bs. HasWritten took f bs h) (sym (ap sentence e))

  put-noun : (a : List ℕ) (k : ℕ) (b : List ℕ) (n : ℕ) (word : List ℕ) → word ≡ noun n → HasWritten took f (a ++ (decimal k ++ (b ++ (decimal n ++ (codes " " ++ word))))) h → HasWritten took f (a ++ (decimal k ++ (b ++ (decimal n ++ (codes " " ++ noun n))))) h
  put-noun a k b n word e = subst (λ w. HasWritten took f (a ++ (decimal k ++ (b ++ (decimal n ++ (codes " " ++ w))))) h) e

pub returns-in-TooManySigns-clause-writes : goal.returns-in-TooManySigns-clause-writes
returns-in-TooManySigns-clause-writes g c p ok = put_fault _ _ c.in-TooManySigns.is (c.write.ensures.writes p ok)

pub returns-in-TooManyGates-clause-writes : goal.returns-in-TooManyGates-clause-writes
returns-in-TooManyGates-clause-writes g c p ok = put_fault _ _ c.in-TooManyGates.is (c.write-in-TooManyGates.ensures.writes p ok)

pub returns-in-EndsTooSoon-clause-writes : goal.returns-in-EndsTooSoon-clause-writes
returns-in-EndsTooSoon-clause-writes g c p ok = put_fault _ _ c.in-EndsTooSoon.is (c.write-in-EndsTooSoon.ensures.writes p ok)

pub returns-in-NumberTooLarge-clause-writes : goal.returns-in-NumberTooLarge-clause-writes
returns-in-NumberTooLarge-clause-writes g c p ok = put_fault _ _ c.in-NumberTooLarge.is (c.write-in-NumberTooLarge.ensures.writes p ok)

pub returns-in-NotNext-clause-writes : goal.returns-in-NotNext-clause-writes
returns-in-NotNext-clause-writes g c p ok = put_fault _ _ c.in-NotNext.is (c.write-in-NotNext.ensures.writes p ok)

pub returns-in-NoBlock-clause-writes : goal.returns-in-NoBlock-clause-writes
returns-in-NoBlock-clause-writes g c p ok = put_fault _ _ c.in-NoBlock.is (c.write-in-NoBlock.ensures.writes p ok)

pub returns-in-NoQubit-clause-writes : goal.returns-in-NoQubit-clause-writes
returns-in-NoQubit-clause-writes g c p ok = put_fault _ _ c.in-NoQubit.is (put-noun (codes "there is no qubit ") c.in-NoQubit.qubit (codes " here: this block has only ") c.in-NoQubit.qubits c.noun-noun.result.now c.noun-noun.ensures (c.write-in-NoQubit.ensures.writes p ok))

pub returns-in-Twice-clause-writes : goal.returns-in-Twice-clause-writes
returns-in-Twice-clause-writes g c p ok = put_fault _ _ c.in-Twice.is (c.write-in-Twice.ensures.writes p ok)

pub returns-in-TooManyQubits-clause-writes : goal.returns-in-TooManyQubits-clause-writes
returns-in-TooManyQubits-clause-writes g c p ok = put_fault _ _ c.in-TooManyQubits.is (put-noun (codes "block ") c.in-TooManyQubits.block (codes " has only ") c.in-TooManyQubits.qubits c.noun-noun-in-TooManyQubits.result.now (c.noun-noun-in-TooManyQubits.ensures ∙ ap noun c.from.ensures) (c.write-in-TooManyQubits.ensures.writes p ok))

pub returns-in-TooFewQubits-clause-writes : goal.returns-in-TooFewQubits-clause-writes
returns-in-TooFewQubits-clause-writes g c p ok = put_fault _ _ c.in-TooFewQubits.is (put-noun (codes "block ") c.in-TooFewQubits.block (codes " has ") c.in-TooFewQubits.qubits c.noun-noun-in-TooFewQubits.result.now (c.noun-noun-in-TooFewQubits.ensures ∙ ap noun c.from-in-TooFewQubits.ensures) (c.write-in-TooFewQubits.ensures.writes p ok))

pub returns-in-NotOpened-clause-writes : goal.returns-in-NotOpened-clause-writes
returns-in-NotOpened-clause-writes g c p ok = put_fault _ _ c.in-NotOpened.is (c.write-in-NotOpened.ensures.writes p ok)

pub returns-in-LateBlock-clause-writes : goal.returns-in-LateBlock-clause-writes
returns-in-LateBlock-clause-writes g c p ok = put_fault _ _ c.in-LateBlock.is (c.write-in-LateBlock.ensures.writes p ok)

pub returns-in-JobLine-clause-writes : goal.returns-in-JobLine-clause-writes
returns-in-JobLine-clause-writes g c p ok = put_fault _ _ c.in-JobLine.is (c.write-in-JobLine.ensures.writes p ok)
