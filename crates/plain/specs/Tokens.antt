-- The tokens of a configuration as a list, without the end.
use Rattle.std.specs.Prelude.{ℕ, ◌+◌, Bool, cond, ◌&&◌, List, [], ◌∷◌, drop, Some, None, Option}
use Rattle.std.specs.List.{cons_option, slice_get}
use Rattle.std.specs.Option.{unwrap_or}
use Rattle.units.specs.declared.records.Record.{Record}
use Rattle.delivery.specs.Model.{Model, finish}
use Rattle.plain.specs.declared.tokens.Token.{Token}
use Rattle.plain.specs.Branches.{Branch, around, behind, has, is_token}
use Rattle.plain.specs.Readings.{terminal_of}

-- the token that a record is at place p, where the configuration has what is here
abbrev pub token_of : ℕ → Record → Bool → Option Token
token_of p r here = cond (is_token r && here) (Some (record { place = p; terminal = terminal_of (Some r) })) None

module _ (m : Model) (k : ℕ) where
  -- those that k has among these records, of which the first is at place p and inside these branches
  abbrev pub tokens_among : ℕ → List Branch → List Record → List Token
  tokens_among p bs [] = []
  tokens_among p bs (r ∷ rs) = cons_option (token_of p r (has m k bs)) (tokens_among (p + 1) (behind r bs) rs)

-- those of k from place p on
abbrev pub tokens_ahead : Model → ℕ → ℕ → List Token
tokens_ahead m k p = tokens_among m k p (around m p) (drop p m.records)

-- the first of these tokens, or the unit's end where there is none
abbrev pub first_or_end : Model → List Token → Token
first_or_end m ts = unwrap_or (slice_get ts 0) (record { place = finish m; terminal = 0 })
