-- What a delivery holds, as data: the tables as lists, and the records and the guards' words as what they say.
use Rattle.std.specs.Prelude.{ℕ, ◌+◌, ◌*◌, cond, List, length, drop, None, Option, nat_lt, slice_index_or}
use Rattle.std.specs.List.{slice_get}
use Rattle.tables.specs.declared.actions.Action.{Action}
use Rattle.tables.specs.declared.actions.Action.TheVariants.{None as NoAction}
use Rattle.tables.specs.declared.productions.Production.{Production}
use Rattle.units.specs.declared.records.Record.{Record}
use Rattle.units.specs.declared.guards.Word.{Word}
pub use Rattle.units.specs.Guards.{leading}

pub record Model : Type 0 where
  pub states : ℕ
  pub terminals : ℕ
  pub nonterminals : ℕ
  pub switches : ℕ
  -- state by state, at each state terminal by terminal
  pub actions : List Action
  -- state by state, at each state nonterminal by nonterminal
  pub gotos : List (Option ℕ)
  pub productions : List Production
  pub records : List Record
  -- a word that says nothing ends a guard
  pub guards : List (Option Word)

-- what a parser does at a state and a terminal: nothing where there is no such state or terminal
abbrev pub action_at : Model → ℕ → ℕ → Action
action_at m q t = cond (nat_lt t m.terminals) (slice_index_or m.actions (q * m.terminals + t) NoAction) NoAction

-- the state to which a state goes at a nonterminal, if it goes to one
abbrev pub goto_at : Model → ℕ → ℕ → Option ℕ
goto_at m q n = cond (nat_lt n m.nonterminals) (slice_index_or m.gotos (q * m.nonterminals + n) None) None

abbrev pub production_at : Model → ℕ → Option Production
production_at m p = slice_get m.productions p

abbrev pub record_at : Model → ℕ → Option Record
record_at m i = slice_get m.records i

abbrev pub word_at : Model → ℕ → Option Word
word_at m i = slice_index_or m.guards i None

-- the guard that begins at a word
abbrev pub guard_at : Model → ℕ → List Word
guard_at m i = leading (drop i m.guards)

-- the place behind the last record, where the unit ends
abbrev pub finish : Model → ℕ
finish m = length m.records
