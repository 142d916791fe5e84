-- What is told of a configuration's reading.
use Rattle.std.specs.Prelude.{◌≡◌, ℕ, ◌+◌, ◌^◌, ◌≤◌, Bool, true, false, List, length, Option, Result, nat_lt}
use Rattle.format.specs.Firsts.{unless}
use Rattle.format.specs.Refusals.{refused_by}
use Rattle.delivery.specs.Model.{Model}
use Rattle.plain.specs.declared.configuration.Fault.{Fault}
use Rattle.plain.specs.declared.configuration.Fault.TheVariants.{OutOfRange}
use Rattle.plain.specs.declared.tokens.Token.{Token}
use Rattle.plain.specs.declared.reader.Ending.{Ending}
use Rattle.plain.specs.declared.reader.Ending.TheVariants as ending
use Rattle.plain.specs.declared.reader.Report.{Report}
use Rattle.plain.specs.declared.reader.Status.{Status}
use Rattle.plain.specs.declared.reader.Status.TheVariants.{Standing, Accepted, Failed}
use Rattle.plain.specs.Branches.{token_count}
use Rattle.plain.specs.Parser as parser
use Rattle.plain.specs.Parser.{parsed, tokens}
use Rattle.plain.specs.Readings.{Reading, standing, accepted, failed, reading}

abbrev pub is_standing : Status → Bool
is_standing Standing = true
is_standing Accepted = false
is_standing (Failed r) = false

abbrev pub shown_as : Status → ℕ → List ℕ → Reading
shown_as Standing p stack = standing p stack
shown_as Accepted p stack = accepted
shown_as (Failed r) p stack = failed p r

abbrev pub ending_as : Status → ℕ → Ending
ending_as Standing p = ending.Spent
ending_as Accepted p = ending.Accepted
ending_as (Failed r) p = ending.Failed p r

-- a fault as its number and its place
abbrev pub numbered : Fault → ℕ × ℕ
numbered OutOfRange = (22, 0)

-- why configuration k is not read, if it is not
abbrev pub fault_of : Model → ℕ → Option (ℕ × ℕ)
fault_of m k = unless (nat_lt k (2 ^ m.switches)) (22, 0)

-- what a call refused, if it did
abbrev pub fault_in : {X : Type 0} → Result X Fault → Option (ℕ × ℕ)
fault_in r = refused_by numbered r

-- configuration k's reading has just ended so after so many actions, or it is not over yet and all the budget is spent
abbrev pub Ends : Model → ℕ → ℕ → ℕ → Ending → Type 0
Ends m k budget actions ending.Accepted = reading m k actions ≡ accepted
Ends m k budget actions (ending.Failed p r) = reading m k actions ≡ failed p r
Ends m k budget actions ending.Spent = (actions ≡ budget) × ((p : ℕ) × ((stack : List ℕ) × (reading m k budget ≡ standing p stack)))

-- the same of an ordinary LR parser on the tokens of configuration k
abbrev pub Parses : Model → ℕ → ℕ → ℕ → Ending → Type 0
Parses m k budget actions ending.Accepted = parsed m (tokens m k) actions ≡ parser.accepted
Parses m k budget actions (ending.Failed p r) = parsed m (tokens m k) actions ≡ parser.failed p r
Parses m k budget actions ending.Spent = (actions ≡ budget) × ((ts : List Token) × ((stack : List ℕ) × (parsed m (tokens m k) budget ≡ parser.ahead ts stack)))

-- what is told of configuration k's reading, with a budget of actions
pub record Told (m : Model) (k budget : ℕ) (r : Report) : Type 0 where
  pub tokens : r.tokens ≡ token_count m k
  -- the end is one token more
  pub listed : r.tokens + 1 ≡ length (parser.tokens m k)
  pub few : r.actions ≤ budget
  pub ends : Ends m k budget r.actions r.ending
  pub parses : Parses m k budget r.actions r.ending
