-- The first of a list that a check refuses.
use Rattle.std.proofs.Common.{◌≡◌, ℕ, ◌<◌, Bool, not, List, length, get_or, position, Option, sym, ap, ◌∙◌, subst}
use Rattle.format.specs.Firsts.{first_bad, numbered_by}
use Rattle.format.proofs.Firsts.{first_bad-position}

-- where the items pass a test as their indices are good, what is found first is what is refused first
pub refuses_first : {X : Type 0} (number n : ℕ) (good : ℕ → Bool) (test : X → Bool) (xs : List X) (d : X) (found : Option ℕ) → length xs ≡ n → ((i : ℕ) → i < n → test (get_or xs i d) ≡ good i) → found ≡ position (λ x. not (test x)) xs → numbered_by number found ≡ numbered_by number (first_bad good n)
refuses_first number n good test xs d found long same at =
    ap (numbered_by number)
    (at ∙ sym (first_bad-position good test xs d (λ i h. same i (subst (λ k. i < k) long h))) ∙ ap (first_bad good) long)
