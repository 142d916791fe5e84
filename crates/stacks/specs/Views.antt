-- A stack as the list of its items, the top first.
use Rattle.std.specs.Prelude.{ℕ, List}
use Rattle.stacks.specs.declared.stack.Stack.{Stack}
use Rattle.stacks.specs.Stacked.{stacked}

abbrev pub items_of : {T : Type 0} {N : ℕ} → Stack T N → List T
items_of s = stacked s.len s.items
