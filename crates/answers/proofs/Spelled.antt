-- A decimal number, digit by digit.
use Rattle.std.proofs.Common.{◌≡◌, ℕ, ◌+◌, ◌-◌, ◌*◌, ◌≤◌, min, cond, List, [], ◌∷◌, Some, None, Option, sym, ap, arith}
use Rattle.std.proofs.lemmas.Bool.{le-leb}
use Rattle.answers.specs.Decimals.{are_digits, value_behind}

-- what the digits left make of the value so far, which may be held
abbrev pub spelled_behind : ℕ → List ℕ → Option ℕ
spelled_behind v bs = cond (are_digits bs) (Some (min (value_behind v bs) 4294967295)) None

-- to hold the value on the way changes nothing
pub min-value_behind : (v w : ℕ) (bs : List ℕ) → min v 4294967295 ≡ min w 4294967295 → min (value_behind v bs) 4294967295 ≡ min (value_behind w bs) 4294967295
min-value_behind v w [] e = e
min-value_behind v w (b ∷ bs) e = min-value_behind (v * 10 + (b - 48)) (w * 10 + (b - 48)) bs (omega arith)

-- one digit more
pub spelled_more : (v b : ℕ) (bs : List ℕ) → 48 ≤ b → b ≤ 57 → (w : ℕ) → min w 4294967295 ≡ min (v * 10 + (b - 48)) 4294967295 → spelled_behind v (b ∷ bs) ≡ spelled_behind w bs
spelled_more v b bs low high w e =
    rw (le-leb 48 b low, le-leb b 57 high) (ap (λ n. cond (are_digits bs) (Some n) None) (min-value_behind (v * 10 + (b - 48)) w bs (sym e)))
