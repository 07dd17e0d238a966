-- Which signs a reader would take next.
use Rattle.std.specs.Prelude.{ℕ, Bool, is_some, slice_index_or}
use Rattle.text.specs.declared.token.Token.{Token}
use Rattle.text.specs.Reading.{State, no_block, step}

-- this sign may come next; how many gates are taken and where the sign stands makes no difference
abbrev pub accepts : State → Token → Bool
accepts s t = is_some (step 0 0 s t)

-- how many qubits a block has, 0 if there is none
abbrev pub size_of : State → ℕ → ℕ
size_of s k = (slice_index_or s.blocks k no_block).size
