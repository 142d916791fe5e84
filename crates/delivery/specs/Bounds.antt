-- What holds of every checked delivery.
use Rattle.std.specs.Prelude.{◌≡◌, ℕ, ◌+◌, ◌<◌, ◌≤◌, Bool, List, [], ◌∷◌, length, IfSome, Some}
use Rattle.format.specs.declared.heads.Counts.{Counts}
use Rattle.tables.specs.declared.actions.Action.{Action}
use Rattle.tables.specs.declared.actions.Action.TheVariants.{None as NoAction, Shift, Reduce, Accept}
use Rattle.tables.specs.declared.productions.Production.{Production}
use Rattle.units.specs.declared.records.Record.{Record}
use Rattle.units.specs.declared.records.Record.TheVariants.{Token, If, Elif, Else, End}
use Rattle.units.specs.declared.guards.Word.{Word}
use Rattle.units.specs.declared.guards.Word.TheVariants.{Switch, Not, And, Or, Whole, Nothing}
use Rattle.units.specs.Guards.{held_behind}
use Rattle.units.specs.Scans.{begun, nested}
use Rattle.delivery.specs.Model.{Model, action_at, goto_at, guard_at, production_at, record_at, word_at}

-- the counts of a model
pub record Counted (m : Model) (c : Counts) : Type 0 where
  pub states : c.states ≡ m.states
  pub terminals : c.terminals ≡ m.terminals
  pub nonterminals : c.nonterminals ≡ m.nonterminals
  pub productions : c.productions ≡ length m.productions
  pub records : c.records ≡ length m.records
  pub guards : c.guard_words ≡ length m.guards
  pub switches : c.switches ≡ m.switches

pub record Limited (c : Counts) : Type 0 where
  pub states : (1 ≤ c.states) × (c.states ≤ 256)
  pub terminals : (1 ≤ c.terminals) × (c.terminals ≤ 64)
  pub nonterminals : (1 ≤ c.nonterminals) × (c.nonterminals ≤ 64)
  pub productions : c.productions ≤ 256
  pub records : c.records ≤ 4096
  pub guards : c.guard_words ≤ 4096
  pub switches : c.switches ≤ 24

-- a shift goes to a state that there is, and never at terminal 0, at which alone a parser accepts; a reduction is by a production that there is
abbrev pub ActionBound : Model → ℕ → Action → Type 0
ActionBound m t NoAction = Unit {0}
ActionBound m t (Shift q) = (q < m.states) × (0 < t)
ActionBound m t (Reduce p) = p < length m.productions
ActionBound m t Accept = t ≡ 0

-- a goto is to a state that there is
abbrev pub GotoBound : Model → ℕ → Type 0
GotoBound m to = to < m.states

abbrev pub ProductionBound : Model → Production → Type 0
ProductionBound m p = (p.left < m.nonterminals) × (p.length ≤ 16)

-- a guard in postfix order, where so many operands are held: it never lacks an operand, never holds more than 16, and ends with one
abbrev pub Balanced : ℕ → List Word → Type 0
Balanced held [] = held ≡ 1
Balanced held (w ∷ ws) = (behind : ℕ) × ((held_behind w held ≡ Some behind) × Balanced behind ws)

abbrev pub RecordBound : Model → Record → Type 0
RecordBound m (Token t) = (0 < t) × (t < m.terminals)
RecordBound m (If g) = (g < length m.guards) × Balanced 0 (guard_at m g)
RecordBound m (Elif g) = (g < length m.guards) × Balanced 0 (guard_at m g)
RecordBound m Else = Unit {0}
RecordBound m End = Unit {0}

abbrev pub WordBound : Model → Word → Type 0
WordBound m (Switch i) = i < m.switches
WordBound m Not = Unit {0}
WordBound m And = Unit {0}
WordBound m Or = Unit {0}
WordBound m Whole = Unit {0}
WordBound m Nothing = Unit {0}

-- each record may stand where it does, with these conditionals open in front of it, and none is open behind the last
abbrev pub WellNested : List Bool → List Record → Type 0
WellNested os [] = os ≡ []
WellNested os (r ∷ rs) = (open' : List Bool) × ((nested r os ≡ Some open') × WellNested open' rs)

abbrev pub branches : List Record → ℕ
branches [] = 0
branches (r ∷ rs) = begun r + branches rs

pub record Bounded (m : Model) : Type 0 where
  pub states : (1 ≤ m.states) × (m.states ≤ 256)
  pub terminals : (1 ≤ m.terminals) × (m.terminals ≤ 64)
  pub nonterminals : (1 ≤ m.nonterminals) × (m.nonterminals ≤ 64)
  pub productions : length m.productions ≤ 256
  pub records : length m.records ≤ 4096
  pub guards : length m.guards ≤ 4096
  pub switches : m.switches ≤ 24
  pub action : (q t : ℕ) → ActionBound m t (action_at m q t)
  pub goto : (q n : ℕ) → IfSome (goto_at m q n) (GotoBound m)
  pub production : (p : ℕ) → IfSome (production_at m p) (ProductionBound m)
  pub «record» : (i : ℕ) → IfSome (record_at m i) (RecordBound m)
  pub word : (i : ℕ) → IfSome (word_at m i) (WordBound m)
  pub nesting : WellNested [] m.records
  pub branching : branches m.records ≤ 256
