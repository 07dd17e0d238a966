-- THE RULES, and what each says. A statement's proof is owed.
use Rattle.std.specs.Prelude.{◌≡◌, ◌+◌, ◌%◌, true, cond, ◌||◌, Some, None, Option}
use Rattle.amplitude.specs.Ring.{turned, rooted}
use Rattle.circuit.specs.Circuit.{Row, State, does, mixed}
use Rattle.circuit.specs.declared.gate.Gate.{Gate}
use Rattle.laws.specs.Undo.{undone}
use Rattle.tidy.specs.Table.{eighths, commutes, twin, merged, idle, reduced, backs}
use Rattle.tidy.specs.declared.rules.Carried.{Carried}

-- what two gates side by side become, h done first: twins are one turn
abbrev pub rule : Gate → Gate → Option Gate
rule h g = cond (twin h g) (Some (merged h g)) None

-- how a gate goes back past h: as it is where h does nothing or the two change places, a turn backwards past a flip of its qubit, which leaves a turn of the whole
abbrev pub passed : Gate → Carried → Option Carried
passed h c =
    cond (idle h || commutes h c.gate) (Some c)
    (cond (backs h c.gate) (Some (record { gate = undone c.gate; turn = (c.turn + eighths c.gate) % 8 })) None)

-- turns of one qubit merge, and other twins cancel each other
abbrev pub TwinsMerge : Type 0
TwinsMerge = (h g : Gate) → twin h g ≡ true → (s : State) (b : Row) → does g (does h s) b ≡ rooted (mixed h + mixed g) (does (merged h g) s b)

-- a turn by whole eights is nothing
abbrev pub IdleDrops : Type 0
IdleDrops = (g : Gate) → idle g ≡ true → (s : State) (b : Row) → does g s b ≡ s b

-- whole eights drop out of a turn
abbrev pub Reduces : Type 0
Reduces = (g : Gate) (s : State) (b : Row) → does (reduced g) s b ≡ does g s b

-- gates that do not hinder each other change places
abbrev pub Changes : Type 0
Changes = (g h : Gate) → commutes g h ≡ true → (s : State) (b : Row) → does h (does g s) b ≡ does g (does h s) b

-- a turn passes a flip of its qubit by going backwards, with a turn of the whole
abbrev pub Backs : Type 0
Backs = (h g : Gate) → backs h g ≡ true → (s : State) (b : Row) → does g (does h s) b ≡ turned (eighths g) (does h (does (undone g) s) b)
