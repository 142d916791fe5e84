-- The outcome that the code tells, with the stack that it leaves.
use Rattle.std.specs.Prelude.{ℕ, List, Ok, Err, Result}
use Rattle.plain.specs.declared.automaton.Move.{Move}
use Rattle.plain.specs.declared.automaton.Move.TheVariants.{Shift, Reduce, Accept}
use Rattle.plain.specs.declared.automaton.Reason.{Reason}
use Rattle.plain.specs.Automaton.{Outcome, shifts, reduces, accepts, fails}

abbrev pub shown_by : Result Move Reason → List ℕ → Outcome
shown_by (Ok Shift) stack = shifts stack
shown_by (Ok Reduce) stack = reduces stack
shown_by (Ok Accept) stack = accepts
shown_by (Err r) stack = fails r
