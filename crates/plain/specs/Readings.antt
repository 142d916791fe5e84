-- The plain reading of one configuration: what an LR parser does on the tokens that the configuration has.
use Rattle.std.specs.Prelude.{ℕ, zero, suc, ◌+◌, List, [], ◌∷◌, Some, None, Option}
use Rattle.units.specs.declared.records.Record.{Record}
use Rattle.units.specs.declared.records.Record.TheVariants.{Token, If, Elif, Else, End}
use Rattle.delivery.specs.Model.{Model, record_at}
use Rattle.plain.specs.declared.automaton.Reason.{Reason}
use Rattle.plain.specs.Automaton.{Outcome, shifts, reduces, accepts, fails, outcome}
use Rattle.plain.specs.Branches.{next_place}

-- the terminal of a token; the unit's end is terminal 0
abbrev pub terminal_of : Option Record → ℕ
terminal_of None = 0
terminal_of (Some (Token t)) = t
terminal_of (Some (If g)) = 0
terminal_of (Some (Elif g)) = 0
terminal_of (Some Else) = 0
terminal_of (Some End) = 0

-- where a reading stands: at a token's place with a stack, or it has just accepted or failed at a place, or it was over before
pub data Reading : Type 0 where
  standing : ℕ → List ℕ → Reading
  accepted : Reading
  failed : ℕ → Reason → Reading
  over : Reading

module _ (m : Model) (k : ℕ) where
  -- what an outcome at place p leads to
  abbrev pub moved : ℕ → Outcome → Reading
  moved p (shifts stack) = standing (next_place m k (p + 1)) stack
  moved p (reduces stack) = standing p stack
  moved p accepts = accepted
  moved p (fails r) = failed p r

  -- one action more
  abbrev pub next : Reading → Reading
  next (standing p stack) = moved p (outcome m (terminal_of (record_at m p)) stack)
  next accepted = over
  next (failed p r) = over
  next over = over

  -- after so many actions; the stack starts as state 0 alone
  abbrev pub reading : ℕ → Reading
  reading zero = standing (next_place m k 0) (0 ∷ [])
  reading (suc j) = next (reading j)
