-- A list made from a function of the index, read at any index.
use Rattle.std.proofs.Common.{◌≡◌, ℕ, ◌<◌, ◌≤◌, ◌⊎◌, map, length, get_or, IfSome, Some, None, sym, ap, ◌∙◌, subst, inl, inr, zero-add}
use Rattle.std.specs.List.{slice_get, range_with_len}
use Rattle.std.proofs.lemmas.List.FromFn.{get_or-map-range_with_len, length-map-range_with_len}
use Rattle.std.proofs.lemmas.List.{get_or_past}
use Rattle.std.proofs.lemmas.Option.{slice_get-get_or, slice_get_past}
use Rattle.std.proofs.lemmas.Bool.{cases_lt}

module _ {X : Type 0} (f : ℕ → X) (n : ℕ) where
  pub length-counted : length (map f (range_with_len 0 n)) ≡ n
  length-counted = length-map-range_with_len f 0 n

  module _ (i : ℕ) where
    pub get_or-counted : (d : X) → i < n → get_or (map f (range_with_len 0 n)) i d ≡ f i
    get_or-counted d h = get_or-map-range_with_len f 0 n i i d h (zero-add i)

    pub get_or-counted_past : (d : X) → n ≤ i → get_or (map f (range_with_len 0 n)) i d ≡ d
    get_or-counted_past d h = get_or_past (map f (range_with_len 0 n)) i d (rw length-counted h)

    pub slice_get-counted : i < n → slice_get (map f (range_with_len 0 n)) i ≡ Some (f i)
    slice_get-counted h = slice_get-get_or (map f (range_with_len 0 n)) i (f i) (rw length-counted h) ∙ ap Some (get_or-counted (f i) h)

    pub slice_get-counted_past : n ≤ i → slice_get (map f (range_with_len 0 n)) i ≡ None
    slice_get-counted_past h = slice_get_past (map f (range_with_len 0 n)) i (rw length-counted h)

    -- what holds of the value at the index, and of the default, holds of what is read
    pub read_counted : (P : X → Type 0) (d : X) → P d → (i < n → P (f i)) → P (get_or (map f (range_with_len 0 n)) i d)
    read_counted P d none some = by (cases_lt i n)
      where
        by : (i < n) ⊎ (n ≤ i) → P (get_or (map f (range_with_len 0 n)) i d)
        by (inl h) = subst P (sym (get_or-counted d h)) (some h)
        by (inr h) = subst P (sym (get_or-counted_past d h)) none

    pub found_counted : (P : X → Type 0) → (i < n → P (f i)) → IfSome (slice_get (map f (range_with_len 0 n)) i) P
    found_counted P some = by (cases_lt i n)
      where
        by : (i < n) ⊎ (n ≤ i) → IfSome (slice_get (map f (range_with_len 0 n)) i) P
        by (inl h) = subst (λ o. IfSome o P) (sym (slice_get-counted h)) (some h)
        by (inr h) = subst (λ o. IfSome o P) (sym (slice_get-counted_past h)) tt
