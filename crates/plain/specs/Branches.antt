-- Which tokens of a unit a configuration has: in each conditional, those of the first branch whose guard holds.
use Rattle.std.specs.Prelude.{ℕ, ◌+◌, Bool, true, false, cond, not, ◌&&◌, ◌||◌, List, [], ◌∷◌, ◌++◌, take, drop, Some, None, Option}
use Rattle.std.specs.Option.{option_to_list}
use Rattle.units.specs.declared.records.Record.{Record}
use Rattle.units.specs.declared.records.Record.TheVariants.{Token, If, Elif, Else, End}
use Rattle.delivery.specs.Model.{Model}
use Rattle.plain.specs.Guards.{holds}

-- a branch: its guard, which an else has not, and the guards of the earlier branches of its conditional
pub record Branch : Type 0 where
  pub guard : Option ℕ
  pub earlier : List ℕ

abbrev pub guards : Branch → List ℕ
guards b = option_to_list b.guard ++ b.earlier

-- the branches around what comes behind a record, the innermost first, from those around the record
abbrev pub behind : Record → List Branch → List Branch
behind (Token t) bs = bs
behind (If g) bs = record { guard = Some g; earlier = [] } ∷ bs
behind (Elif g) [] = []
behind (Elif g) (b ∷ bs) = record { guard = Some g; earlier = guards b } ∷ bs
behind Else [] = []
behind Else (b ∷ bs) = record { guard = None; earlier = guards b } ∷ bs
behind End [] = []
behind End (b ∷ bs) = bs

abbrev pub behind_all : List Branch → List Record → List Branch
behind_all bs [] = bs
behind_all bs (r ∷ rs) = behind_all (behind r bs) rs

-- the branches around a place
abbrev pub around : Model → ℕ → List Branch
around m p = behind_all [] (take p m.records)

abbrev pub is_token : Record → Bool
is_token (Token t) = true
is_token (If g) = false
is_token (Elif g) = false
is_token Else = false
is_token End = false

module _ (m : Model) (k : ℕ) where
  abbrev pub any_holds : List ℕ → Bool
  any_holds [] = false
  any_holds (g ∷ gs) = holds m k g || any_holds gs

  abbrev pub own_holds : Option ℕ → Bool
  own_holds None = true
  own_holds (Some g) = holds m k g

  -- configuration k has a branch if the guard holds in it, no earlier guard of that conditional does, and it has what encloses the branch
  abbrev pub has : List Branch → Bool
  has [] = true
  has (b ∷ bs) = (own_holds b.guard && not (any_holds b.earlier)) && has bs

  -- which of these records, inside these branches, are tokens that k has
  abbrev pub presence : List Branch → List Record → List Bool
  presence bs [] = []
  presence bs (r ∷ rs) = (is_token r && has bs) ∷ presence (behind r bs) rs

-- the place of the first that is present, where the first of all is at place p; behind them all where none is
abbrev pub first_from : ℕ → List Bool → ℕ
first_from p [] = p
first_from p (b ∷ bs) = let later = first_from (p + 1) bs in cond b p later

-- the place of the first token of k from place p on, or the unit's end
abbrev pub next_place : Model → ℕ → ℕ → ℕ
next_place m k p = first_from p (drop p (presence m k [] m.records))

abbrev pub ones : List Bool → ℕ
ones [] = 0
ones (b ∷ bs) = cond b 1 0 + ones bs

-- how many tokens k has, without the end
abbrev pub token_count : Model → ℕ → ℕ
token_count m k = ones (presence m k [] m.records)
