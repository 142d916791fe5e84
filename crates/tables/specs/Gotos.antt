-- What a goto word says, and which are allowed.
use Rattle.std.specs.Prelude.{ℕ, ◌-◌, ◌*◌, Bool, cond, List, Some, None, Option, ◌==◌, nat_le}
use Rattle.format.specs.Firsts.{first_bad, numbered_by}
use Rattle.format.specs.Words.{u16_in}

-- the state to which the word goes, if it goes to one
abbrev pub goto_of : ℕ → Option ℕ
goto_of word = cond (word == 0) None (Some (word - 1))

-- the word at index i of the part goes to none, or to one of the states
abbrev pub goto_good : List ℕ → ℕ → ℕ → Bool
goto_good part states i = nat_le (u16_in part (2 * i)) states

abbrev pub gotos_refusal : List ℕ → ℕ → ℕ → Option (ℕ × ℕ)
gotos_refusal part states nonterminals = numbered_by 5 (first_bad (goto_good part states) (states * nonterminals))
