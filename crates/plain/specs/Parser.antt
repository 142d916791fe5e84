-- An ordinary LR parser on a list of tokens, and the tokens of a configuration: what the plain reading comes to.
use Rattle.std.specs.Prelude.{ℕ, zero, suc, ◌+◌, cond, ◌&&◌, List, [], ◌∷◌, Some}
use Rattle.units.specs.declared.records.Record.{Record}
use Rattle.delivery.specs.Model.{Model}
use Rattle.plain.specs.declared.automaton.Reason.{Reason}
use Rattle.plain.specs.declared.tokens.Token.{Token}
use Rattle.plain.specs.Automaton.{Outcome, shifts, reduces, accepts, fails, outcome}
use Rattle.plain.specs.Branches.{Branch, behind, has, is_token}
use Rattle.plain.specs.Readings.{terminal_of}

-- where a parser is: with these tokens ahead and this stack, or it has just accepted or failed at a place, or it was over before
pub data Parser : Type 0 where
  ahead : List Token → List ℕ → Parser
  accepted : Parser
  failed : ℕ → Reason → Parser
  over : Parser

module _ (m : Model) where
  -- a shift takes the first token, and a reduction leaves it
  abbrev pub moved : Token → List Token → Outcome → Parser
  moved t ts (shifts stack) = ahead ts stack
  moved t ts (reduces stack) = ahead (t ∷ ts) stack
  moved t ts accepts = accepted
  moved t ts (fails r) = failed t.place r

  abbrev pub next : Parser → Parser
  next (ahead [] stack) = over
  next (ahead (t ∷ ts) stack) = moved t ts (outcome m t.terminal stack)
  next accepted = over
  next (failed p r) = over
  next over = over

  -- after so many actions on these tokens
  abbrev pub parsed : List Token → ℕ → Parser
  parsed ts zero = ahead ts (0 ∷ [])
  parsed ts (suc j) = next (parsed ts j)

module _ (m : Model) (k : ℕ) where
  -- the tokens that k has among these records, of which the first is at place p and inside these branches; and the end
  abbrev pub tokens_from : ℕ → List Branch → List Record → List Token
  tokens_from p bs [] = record { place = p; terminal = 0 } ∷ []
  tokens_from p bs (r ∷ rs) =
      let rest = tokens_from (p + 1) (behind r bs) rs in
      cond (is_token r && has m k bs) (record { place = p; terminal = terminal_of (Some r) } ∷ rest) rest

-- the tokens of configuration k, the end last
abbrev pub tokens : Model → ℕ → List Token
tokens m k = tokens_from m k 0 [] m.records
