-- Worked examples of the definitions, each checked by computation.
use Rattle.std.specs.Prelude.{◌≡◌, ℕ, true, false, List, [], ◌∷◌, Some, None, Option, refl}
use Rattle.tables.specs.declared.actions.Action.{Action}
use Rattle.tables.specs.declared.actions.Action.TheVariants.{None as NoSuch, Shift, Reduce, Accept}
use Rattle.units.specs.declared.records.Record.{Record}
use Rattle.units.specs.declared.records.Record.TheVariants.{Token, If, Elif, Else, End}
use Rattle.units.specs.declared.guards.Word.{Word}
use Rattle.units.specs.declared.guards.Word.TheVariants.{Switch, Not, And, Or, Whole, Nothing}
use Rattle.delivery.specs.Model.{Model}
use Rattle.plain.specs.declared.automaton.Reason.TheVariants.{NoAction, NoState, NoGoto, NoRoom}
use Rattle.plain.specs.Branches.{next_place, presence, token_count}
use Rattle.plain.specs.Guards.{holds}
use Rattle.plain.specs.Parser as parser
use Rattle.plain.specs.Parser.{parsed, tokens}
use Rattle.plain.specs.Readings.{standing, accepted, failed, over, reading}

-- lists of the terminal 1: one nonterminal, made of one 1, or of itself and one 1 more; terminal 2 stands nowhere
abbrev pub lists : List Record → List (Option Word) → ℕ → Model
lists records guards switches = record {
  states = 4;
  terminals = 3;
  nonterminals = 1;
  switches = switches;
  actions =
      NoSuch ∷ Shift 1 ∷ NoSuch
      ∷ Reduce 0 ∷ Reduce 0 ∷ NoSuch
      ∷ Accept ∷ Shift 3 ∷ NoSuch
      ∷ Reduce 1 ∷ Reduce 1 ∷ NoSuch ∷ [];
  gotos = Some 2 ∷ None ∷ None ∷ None ∷ [];
  productions = record { left = 0; length = 1 } ∷ record { left = 0; length = 2 } ∷ [];
  records = records;
  guards = guards;
}

-- a 1, and then a 1 where switch 0 is on, else a 2
abbrev pub either : Model
either = lists (Token 1 ∷ If 0 ∷ Token 1 ∷ Else ∷ Token 2 ∷ End ∷ []) (Some (Switch 0) ∷ None ∷ []) 1

on_has : presence either 1 [] either.records ≡ true ∷ false ∷ true ∷ false ∷ false ∷ false ∷ []
on_has = refl

off_has : presence either 0 [] either.records ≡ true ∷ false ∷ false ∷ false ∷ true ∷ false ∷ []
off_has = refl

-- with the switch on: shift, reduce, shift, reduce, accept
on_stands : reading either 1 3 ≡ standing 6 (3 ∷ 2 ∷ 0 ∷ [])
on_stands = refl

on_accepts : reading either 1 5 ≡ accepted
on_accepts = refl

on_over : reading either 1 6 ≡ over
on_over = refl

-- with the switch off: shift, and then no action at the 2
off_fails : reading either 0 2 ≡ failed 4 NoAction
off_fails = refl

off_count : token_count either 0 ≡ 2
off_count = refl

-- the same by the list of the tokens: a 1 at place 0, a 1 at place 2, and the end at place 6
on_tokens : tokens either 1 ≡ record { place = 0; terminal = 1 } ∷ record { place = 2; terminal = 1 } ∷ record { place = 6; terminal = 0 } ∷ []
on_tokens = refl

on_parsed : parsed either (tokens either 1) 5 ≡ parser.accepted
on_parsed = refl

-- if both switches are on; else if switch 0 is on: inside it, unless switch 1 is on; else
abbrev pub nest : Model
nest = lists
    (If 0 ∷ Token 1 ∷ Elif 4 ∷ Token 1 ∷ If 6 ∷ Token 1 ∷ End ∷ Else ∷ Token 2 ∷ End ∷ [])
    (Some (Switch 0) ∷ Some (Switch 1) ∷ Some And ∷ None ∷ Some (Switch 0) ∷ None ∷ Some (Switch 1) ∷ Some Not ∷ None ∷ []) 2

both_holds : holds nest 3 0 ≡ true
both_holds = refl

one_holds : holds nest 1 0 ≡ false
one_holds = refl

-- one of two, in which the second is on; every configuration; none
abbrev pub words : List (Option Word)
words = Some (Switch 0) ∷ Some (Switch 1) ∷ Some Or ∷ None ∷ Some Whole ∷ None ∷ Some Nothing ∷ None ∷ []

or_holds : holds (lists [] words 2) 2 0 ≡ true
or_holds = refl

or_fails : holds (lists [] words 2) 0 0 ≡ false
or_fails = refl

whole_holds : holds (lists [] words 2) 0 4 ≡ true
whole_holds = refl

nothing_fails : holds (lists [] words 2) 3 6 ≡ false
nothing_fails = refl

-- the second guard holds too where both are on, but the first branch has them
nest_both : presence nest 3 [] nest.records ≡ false ∷ true ∷ false ∷ false ∷ false ∷ false ∷ false ∷ false ∷ false ∷ false ∷ []
nest_both = refl

nest_first : presence nest 1 [] nest.records ≡ false ∷ false ∷ false ∷ true ∷ false ∷ true ∷ false ∷ false ∷ false ∷ false ∷ []
nest_first = refl

nest_second : next_place nest 2 0 ≡ 8
nest_second = refl

-- no token: nothing can be done at the end
empty_fails : reading (lists [] [] 0) 0 1 ≡ failed 0 NoAction
empty_fails = refl

-- a parser with one state, at the end of an empty unit
abbrev pub alone : Action → Option ℕ → ℕ → Model
alone action goto length = record {
  states = 1;
  terminals = 1;
  nonterminals = 1;
  switches = 0;
  actions = action ∷ [];
  gotos = goto ∷ [];
  productions = record { left = 0; length = length } ∷ [];
  records = [];
  guards = [];
}

leaves_none : reading (alone (Reduce 0) (Some 0) 1) 0 1 ≡ failed 0 NoState
leaves_none = refl

goes_nowhere : reading (alone (Reduce 0) None 0) 0 1 ≡ failed 0 NoGoto
goes_nowhere = refl

-- 127 reductions fill the stack, and the next one fails
fills_up : reading (alone (Reduce 0) (Some 0) 0) 0 128 ≡ failed 0 NoRoom
fills_up = refl
