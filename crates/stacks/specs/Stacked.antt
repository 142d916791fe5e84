-- The first n items of a list, turned round: a stack that grows at the list's end, with its top first.
use Rattle.std.specs.Prelude.{ℕ, List, reverse, take}

abbrev pub stacked : {X : Type 0} → ℕ → List X → List X
stacked n xs = reverse (take n xs)
