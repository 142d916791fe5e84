-- What a production's two words say, and which are allowed.
use Rattle.std.specs.Prelude.{ℕ, ◌+◌, ◌*◌, Bool, cond, ◌&&◌, List, is_some, Some, None, Option, nat_le, nat_lt}
use Rattle.tables.specs.declared.productions.Production.{Production}
use Rattle.format.specs.Firsts.{first_bad, numbered_by}
use Rattle.format.specs.Words.{u16_in}

abbrev pub production_of : ℕ → ℕ → ℕ → Option Production
production_of nonterminals left size = cond (nat_lt left nonterminals && nat_le size 16) (Some (record { left = left; length = size })) None

-- the production at index i of the part
abbrev pub production_in : List ℕ → ℕ → ℕ → Option Production
production_in part nonterminals i = production_of nonterminals (u16_in part (4 * i)) (u16_in part (4 * i + 2))

abbrev pub production_good : List ℕ → ℕ → ℕ → Bool
production_good part nonterminals i = is_some (production_in part nonterminals i)

abbrev pub productions_refusal : List ℕ → ℕ → ℕ → Option (ℕ × ℕ)
productions_refusal part nonterminals productions = numbered_by 6 (first_bad (production_good part nonterminals) productions)
