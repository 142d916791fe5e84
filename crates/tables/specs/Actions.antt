-- What an action word says, and which may stand where.
use Rattle.std.specs.Prelude.{ℕ, ◌-◌, ◌*◌, ◌%◌, Bool, cond, not, ◌&&◌, List, is_some, Option, ◌==◌, nat_le, nat_lt}
use Rattle.std.specs.declared.option.Option.TheVariants as option
use Rattle.tables.specs.declared.actions.Action.{Action}
use Rattle.tables.specs.declared.actions.Action.TheVariants.{None, Shift, Reduce, Accept}
use Rattle.format.specs.Firsts.{first_bad, numbered_by}
use Rattle.format.specs.Words.{u16_in}

-- where there are so many states and productions, the word at a terminal says this, or it is not allowed there
abbrev pub action_of : ℕ → ℕ → ℕ → ℕ → Option Action
action_of states productions terminal word =
    cond (word == 0) (option.Some None)
    (cond (nat_le word 256 && (nat_le word states && not (terminal == 0))) (option.Some (Shift (word - 1)))
    (cond (nat_le 1000 word && (nat_le word 1255 && nat_lt (word - 1000) productions)) (option.Some (Reduce (word - 1000)))
    (cond (word == 2000 && terminal == 0) (option.Some Accept)
    option.None)))

-- what the word at index i of the part says; the table has a row for each state, and in it a word for each terminal
abbrev pub action_in : List ℕ → ℕ → ℕ → ℕ → ℕ → Option Action
action_in part states terminals productions i = action_of states productions (i % terminals) (u16_in part (2 * i))

abbrev pub action_good : List ℕ → ℕ → ℕ → ℕ → ℕ → Bool
action_good part states terminals productions i = is_some (action_in part states terminals productions i)

abbrev pub actions_refusal : List ℕ → ℕ → ℕ → ℕ → Option (ℕ × ℕ)
actions_refusal part states terminals productions = numbered_by 4 (first_bad (action_good part states terminals productions) (states * terminals))
