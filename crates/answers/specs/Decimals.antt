-- Decimal numbers.
use Rattle.std.specs.Prelude.{ℕ, ◌+◌, ◌-◌, ◌*◌, min, Bool, true, cond, ◌&&◌, List, [], ◌∷◌, Some, None, Option, nat_le}

-- the digits 0 to 9 are the bytes 48 to 57
abbrev pub are_digits : List ℕ → Bool
are_digits [] = true
are_digits (b ∷ bs) = (nat_le 48 b && nat_le b 57) && are_digits bs

-- the value of digits behind a value
abbrev pub value_behind : ℕ → List ℕ → ℕ
value_behind v [] = v
value_behind v (b ∷ bs) = value_behind (v * 10 + (b - 48)) bs

-- the number that the bytes spell, held below 2^32
abbrev pub number_in : List ℕ → Option ℕ
number_in [] = None
number_in (b ∷ bs) = cond (are_digits (b ∷ bs)) (Some (min (value_behind 0 (b ∷ bs)) 4294967295)) None
