-- A stack in fixed memory under its operations.
use Rattle.std.proofs.Common.{◌≡◌, ℕ, ◌-◌, ◌<◌, ◌≤◌, ◌⊎◌, List, ◌++◌, reverse, length, take, drop, sym, ap, ◌∙◌, inl, inr, arith}
use mathlib.Core.List.{reverse-append}
use Rattle.std.proofs.lemmas.Bool.{cases_lt}
use Rattle.std.proofs.lemmas.List.{length-reverse, length-take-le, length-drop, take-append-drop, take-take, drop_at, drop_all}
use Rattle.stacks.specs.Stacked.{stacked}

module _ {X : Type 0} (xs : List X) (n : ℕ) where
  pub length-stacked : n ≤ length xs → length (stacked n xs) ≡ n
  length-stacked h = length-reverse (take n xs) ∙ length-take-le n xs h

  pub stacked_behind : (k : ℕ) → n ≤ length xs → stacked (n - k) xs ≡ drop k (stacked n xs)
  stacked_behind k h = by (cases_lt n k)
    where
      by : (n < k) ⊎ (k ≤ n) → stacked (n - k) xs ≡ drop k (stacked n xs)
      by (inr l) =
          let less : n - k ≤ n = omega arith in
          let split : stacked n xs ≡ reverse (drop (n - k) (take n xs)) ++ stacked (n - k) xs =
          ap reverse (sym (take-append-drop (n - k) (take n xs))) ∙ reverse-append (take (n - k) (take n xs)) _ ∙ ap (λ ys. reverse (drop (n - k) (take n xs)) ++ reverse ys) (take-take (n - k) n xs less) in
          let long : length (reverse (drop (n - k) (take n xs))) ≡ k = length-reverse _ ∙ length-drop (n - k) (take n xs) ∙ ap (λ z. z - (n - k)) (length-take-le n xs h) ∙ omega arith in
          sym (ap (drop k) split ∙ drop_at _ _ k long)
      by (inl l) =
          let none : n - k ≡ 0 = omega arith in
          let past : length (stacked n xs) ≤ k = omega (arith, length-stacked h) in
          ap (λ z. stacked z xs) none ∙ sym (drop_all k (stacked n xs) past)
