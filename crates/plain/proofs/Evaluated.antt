-- A guard, word by word.
use Rattle.std.proofs.Common.{◌≡◌, ℕ, ◌^◌, ◌<◌, ◌≤◌, Bool, false, List, [], ◌∷◌, length, Some, sym, ap, subst, arith, pow_mono}
use native.Mathlib.Nat.{div-eq_of_lt}
use Rattle.units.specs.declared.guards.Word.{Word}
use Rattle.units.specs.declared.guards.Word.TheVariants.{Switch, Not, And, Or, Whole, Nothing}
use Rattle.units.specs.Configurations.{on}
use Rattle.units.specs.Guards.{held_behind}
use Rattle.delivery.specs.Bounds.{Balanced}
use Rattle.plain.specs.Guards.{evaluated, worked}

-- no switch from the 32nd on is on in a number of 32 bits
pub off_above : (i k : ℕ) → 32 ≤ i → k < 2 ^ 32 → on i k ≡ false
off_above i k h l =
    let below : k < 2 ^ i = omega (arith, pow_mono h) in
    rw (div-eq_of_lt below)

-- a word leaves as many operands as it says
pub held_worked : (k : ℕ) (w : Word) (xs : List Bool) (behind : ℕ) → held_behind w (length xs) ≡ Some behind → length (worked k w xs) ≡ behind
held_worked k (Switch i) xs behind e = grind arith
held_worked k Not [] behind e = grind arith
held_worked k Not (x ∷ xs) behind e = grind arith
held_worked k And [] behind e = grind arith
held_worked k And (y ∷ []) behind e = grind arith
held_worked k And (y ∷ x ∷ xs) behind e = grind arith
held_worked k Or [] behind e = grind arith
held_worked k Or (y ∷ []) behind e = grind arith
held_worked k Or (y ∷ x ∷ xs) behind e = grind arith
held_worked k Whole xs behind e = grind arith
held_worked k Nothing xs behind e = grind arith

-- one word of a balanced guard
module _ (k : ℕ) (ws : List Word) (w : Word) (left : List Word) (e : ws ≡ w ∷ left) (xs : List Bool) (b : Balanced (length xs) ws) where
  ahead : Balanced (length xs) (w ∷ left)
  ahead = subst (Balanced (length xs)) e b

  pub word_balanced : Balanced (length (worked k w xs)) left
  word_balanced = subst (λ n. Balanced n left) (sym (held_worked k w xs ahead.0 ahead.1.0)) ahead.1.1

  pub word_evaluated : evaluated k ws xs ≡ evaluated k left (worked k w xs)
  word_evaluated = ap (λ us. evaluated k us xs) e
