-- What `first_bad` finds.
use Rattle.std.proofs.Common.{◌≡◌, ℕ, zero, suc, ◌<◌, ◌≤◌, ◌⊎◌, Bool, true, false, not, List, length, get_or, position, Some, None, Option, sym, refl, ap, inl, inr, ⊎_elim, ◌∙◌, arith}
use Rattle.std.specs.List.{position_or_len}
use Rattle.std.proofs.lemmas.List.Sums.{fails_before_first, passes_at_first}
use Rattle.std.proofs.lemmas.Bool.{cases_eq, cases_lt, le-ltb, lt-ltb, not-false, not-true}
use Rattle.format.specs.Firsts.{first_bad, numbered_by, or_else, unless}

-- where neither is there, neither part is
pub none_parts : {X : Type 0} (a b : Option X) → or_else a b ≡ None → (a ≡ None) × (b ≡ None)
none_parts None b e = (refl, e)
none_parts (Some x) b e = grind arith

-- where nothing is refused, the test passed
pub unless-none : {X : Type 0} (b : Bool) (x : X) → unless b x ≡ None → b ≡ true
unless-none true x e = refl
unless-none false x e = grind arith

pub numbered_by-none : (n : ℕ) (o : Option ℕ) → numbered_by n o ≡ None → o ≡ None
numbered_by-none n None e = refl
numbered_by-none n (Some i) e = grind arith

module _ (good : ℕ → Bool) where
  -- each index passes, so none is found
  pub first_bad-none : (n : ℕ) → ((k : ℕ) → k < n → good k ≡ true) → first_bad good n ≡ None
  first_bad-none zero all = refl
  first_bad-none (suc n) all = rw (first_bad-none n (λ k h. all k (omega arith)), all n (omega arith))

  -- each index below i passes, and i does not
  pub first_bad-some : (n i : ℕ) → i < n → ((k : ℕ) → k < i → good k ≡ true) → good i ≡ false → first_bad good n ≡ Some i
  first_bad-some zero i h all bad = absurd (omega arith)
  first_bad-some (suc n) i h all bad =
      ⊎_elim
      (λ e. let b : good n ≡ false = cc in rw (first_bad-none n (λ k l. all k (omega arith)), b) (ap Some (sym e)))
      (λ ne. rw (first_bad-some n i (omega arith) all bad))
      (cases_eq i n)

  -- where none is found, each index passes
  pub all_good : (n : ℕ) → first_bad good n ≡ None → (k : ℕ) → k < n → good k ≡ true
  all_good zero e k h = absurd (omega arith)
  all_good (suc n) e k h =
      let p = none_parts (first_bad good n) (unless (good n) n) e in
      let here = unless-none (good n) n p.1 in
      ⊎_elim (λ same. rw same here) (λ ne. all_good n p.0 k (omega arith)) (cases_eq k n)

-- where the items of a list stand for the indices, the first item that fails a test is at the first index that is bad
pub first_bad-position : {X : Type 0} (good : ℕ → Bool) (test : X → Bool) (xs : List X) (d : X) → ((i : ℕ) → i < length xs → test (get_or xs i d) ≡ good i) → first_bad good (length xs) ≡ position (λ x. not (test x)) xs
first_bad-position {X} good test xs d same = by (cases_lt at (length xs))
  where
    bad : X → Bool
    bad x = not (test x)

    at : ℕ
    at = position_or_len bad xs

    passes : (upto : ℕ) → upto ≤ at → upto ≤ length xs → (i : ℕ) → i < upto → good i ≡ true
    passes upto h l i k = sym (same i (omega arith)) ∙ not-false (test (get_or xs i d)) (fails_before_first bad xs i d (omega arith))

    by : (at < length xs) ⊎ (length xs ≤ at) → first_bad good (length xs) ≡ position bad xs
    by (inl h) = rw (lt-ltb at (length xs) h) (first_bad-some good (length xs) at h (passes at (omega arith) (omega arith)) (sym (same at h) ∙ not-true (test (get_or xs at d)) (passes_at_first bad xs d h)))
    by (inr h) = rw (le-ltb at (length xs) h) (first_bad-none good (length xs) (passes (length xs) h (omega arith)))
