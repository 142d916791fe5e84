-- The words of guards, as numbers and as what they say.
use Rattle.std.specs.Prelude.{ℕ, List, map, Option}
use Rattle.format.specs.Words.{numbers_in}
use Rattle.units.specs.declared.guards.Guard.{Guard}
use Rattle.units.specs.declared.guards.Guards.{Guards}
use Rattle.units.specs.declared.guards.Word.{Word}
use Rattle.units.specs.Guards.{leading, word_of}

-- the numbers of the words
abbrev pub numbers_of : Guards → List ℕ
numbers_of gs = numbers_in gs.words.now

-- what each word says; one that says nothing ends a guard
abbrev pub said_by : Guards → List (Option Word)
said_by gs = map (word_of gs.switches) (numbers_of gs)

-- the words of a guard that are still to come
abbrev pub left_of : Guard → List Word
left_of g = leading (said_by g.0)
