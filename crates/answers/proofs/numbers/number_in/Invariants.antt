use Rattle.std.proofs.Common.{◌≡◌, ◌<◌, drop}
use Rattle.answers.specs.Decimals.{number_in}
use Rattle.answers.proofs.Spelled.{spelled_behind}
use Rattle.answers.proofs.numbers.number_in.Given as goal

-- the digits left decide, behind the value so far
abbrev pub invariant-loop-b : goal.invariant-loop-b
invariant-loop-b l = (l.value < 4294967296) × (number_in l.text ≡ spelled_behind l.value (drop l.b-index l.text))
