use Rattle.std.proofs.Common.{◌≡◌, length}
use Rattle.stacks.specs.Views.{items_of}
use Rattle.units.specs.GuardWords.{left_of}
use Rattle.delivery.specs.Bounds.{Balanced}
use Rattle.delivery.specs.Views.{model_of}
use Rattle.plain.specs.Guards.{evaluated, holds}
use Rattle.plain.proofs.guards.guard_holds.Given as goal

-- the words left decide, with the operands so far
abbrev pub invariant-loop-word : goal.invariant-loop-word
invariant-loop-word l = record {
  balanced : Balanced (length (items_of l.operands)) (left_of l.word-iterator);
  same : holds (model_of l.delivery) l.number l.guard ≡ evaluated l.number (left_of l.word-iterator) (items_of l.operands);
}
