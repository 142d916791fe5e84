use Rattle.std.proofs.Common.{◌≡◌, ◌≤◌, drop}
use Rattle.format.specs.Words.{numbers_in}
use Rattle.units.specs.Guards.{guard_valid}
use Rattle.units.proofs.guards.Guards.first_is_valid.Given as goal

-- what is left of the guard decides, with the operands held so far
abbrev pub invariant-loop-word : goal.invariant-loop-word
invariant-loop-word l =
    (l.held ≤ 16)
    × (guard_valid l.self.switches 0 (numbers_in l.self.words.now) ≡ guard_valid l.self.switches l.held (drop l.word-index (numbers_in l.self.words.now)))
