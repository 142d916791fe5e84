-- One action of an LR parser.
use Rattle.std.specs.Prelude.{ℕ, cond, List, ◌∷◌, length, drop, Some, None, Option, nat_lt}
use Rattle.std.specs.List.{slice_get}
use Rattle.std.specs.Option.{unwrap_or}
use Rattle.tables.specs.declared.actions.Action.{Action}
use Rattle.tables.specs.declared.actions.Action.TheVariants.{None as NoSuch, Shift, Reduce, Accept}
use Rattle.tables.specs.declared.productions.Production.{Production}
use Rattle.delivery.specs.Model.{Model, action_at, goto_at, production_at}
use Rattle.plain.specs.declared.automaton.Reason.{Reason}
use Rattle.plain.specs.declared.automaton.Reason.TheVariants.{NoAction, NoState, NoGoto, NoRoom}

abbrev pub reason_number : Reason → ℕ
reason_number NoAction = 1
reason_number NoState = 2
reason_number NoGoto = 3
reason_number NoRoom = 4

-- what an action makes of a stack, whose top stands first
pub data Outcome : Type 0 where
  shifts : List ℕ → Outcome
  reduces : List ℕ → Outcome
  accepts : Outcome
  fails : Reason → Outcome

-- the stack of a reading is never empty
abbrev pub top : List ℕ → ℕ
top stack = unwrap_or (slice_get stack 0) 0

-- a stack holds at most 128 states
abbrev pub pushed : (List ℕ → Outcome) → ℕ → List ℕ → Outcome
pushed made q stack = cond (nat_lt (length stack) 128) (made (q ∷ stack)) (fails NoRoom)

-- what is left of the stack goes on to a state
abbrev pub gone : Option ℕ → List ℕ → Outcome
gone None left = fails NoGoto
gone (Some q) left = pushed reduces q left

module _ (m : Model) (stack : List ℕ) where
  -- a reduction drops as many states as the production's right side is long, and must leave one
  abbrev pub reduced : Option Production → Outcome
  reduced None = fails NoAction
  reduced (Some p) =
      let left = drop p.length stack in
      cond (nat_lt p.length (length stack)) (gone (goto_at m (top left) p.left) left) (fails NoState)

  abbrev pub acted : Action → Outcome
  acted NoSuch = fails NoAction
  acted (Shift q) = pushed shifts q stack
  acted (Reduce p) = reduced (production_at m p)
  acted Accept = accepts

-- what a parser with this stack does at a terminal
abbrev pub outcome : Model → ℕ → List ℕ → Outcome
outcome m t stack = acted m stack (action_at m (top stack) t)
