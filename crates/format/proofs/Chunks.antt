-- A part's bytes as rows of so many each, and the numbers in them.
use Rattle.std.proofs.Common.{◌≡◌, ℕ, zero, suc, ◌+◌, ◌*◌, ◌<◌, ◌≤◌, List, [], length, get_or, take, drop, sym, refl, ap, ap₂, subst, ◌∙◌, zero-add, arith}
use Rattle.std.specs.Simd.{first_chunks}
use Rattle.std.proofs.lemmas.List.{drop-drop, ext_get_or, get_or-drop, get_or-map, get_or-take, length-map}
use Rattle.std.proofs.lemmas.List.FromFn.{get_or-map-range_with_len, length-map-range_with_len}
use Rattle.format.specs.Words.{numbers_in, u16_in, words_in}

module _ {X : Type 0} (n : ℕ) where
  -- row i has the items from n * i on
  pub get_or-first_chunks : (k i : ℕ) (xs : List X) (d : List X) → i < k → get_or (first_chunks n k xs) i d ≡ take n (drop (n * i) xs)
  get_or-first_chunks zero i xs d h = absurd (omega arith)
  get_or-first_chunks (suc k) zero xs d h = ap (λ at. take n (drop at xs)) (let z : 0 ≡ n * 0 = omega arith in z)
  get_or-first_chunks (suc k) (suc i) xs d h =
      get_or-first_chunks k i (drop n xs) d (omega arith)
      ∙ ap (take n) (drop-drop (n * i) n xs ∙ ap (λ at. drop at xs) (omega arith))

-- the number at byte o of row i
pub u16_in-row : (n k i o at : ℕ) (bs : List ℕ) (d : List ℕ) → i < k → o + 2 ≤ n → n * i + o ≡ at → u16_in (get_or (first_chunks n k bs) i d) o ≡ u16_in bs at
u16_in-row n k i o at bs d h l e =
    ap (λ row. u16_in row o) (get_or-first_chunks n k i bs d h)
    ∙ ap₂ (λ x y. x + y * 256) (byte o at (omega arith) e) (byte (o + 1) (at + 1) (omega arith) (omega arith))
  where
    byte : (j at' : ℕ) → j < n → n * i + j ≡ at' → get_or (take n (drop (n * i) bs)) j 0 ≡ get_or bs at' 0
    byte j at' m q = get_or-take n (drop (n * i) bs) j 0 m ∙ get_or-drop (n * i) bs j 0 ∙ ap (λ a. get_or bs a 0) q

pub length-first_chunks : {X : Type 0} (n k : ℕ) (xs : List X) → length (first_chunks n k xs) ≡ k
length-first_chunks n zero xs = refl
length-first_chunks n (suc k) xs = ap suc (length-first_chunks n k (drop n xs))

module _ (part : List ℕ) (words : ℕ) where
  pub length-words_in : length (words_in part words) ≡ words
  length-words_in = length-map-range_with_len (λ i. u16_in part (2 * i)) 0 words

  pub get_or-words_in : (i : ℕ) → i < words → get_or (words_in part words) i 0 ≡ u16_in part (2 * i)
  get_or-words_in i h = get_or-map-range_with_len (λ i. u16_in part (2 * i)) 0 words i i 0 h (zero-add i)

  -- the part in rows of two bytes has its words
  pub numbers_in-rows : numbers_in (first_chunks 2 words part) ≡ words_in part words
  numbers_in-rows = ext_get_or 0 _ _ (long ∙ sym length-words_in) (λ i h. same i (subst (λ n. i < n) long h))
    where
      long : length (numbers_in (first_chunks 2 words part)) ≡ words
      long = length-map (first_chunks 2 words part) _ ∙ length-first_chunks 2 words part

      same : (i : ℕ) → i < words → get_or (numbers_in (first_chunks 2 words part)) i 0 ≡ get_or (words_in part words) i 0
      same i h =
          get_or-map (λ row. u16_in row 0) (first_chunks 2 words part) i [] 0 (rw (length-first_chunks 2 words part) h)
          ∙ u16_in-row 2 words i 0 (2 * i) part [] h (omega arith) (omega arith)
          ∙ sym (get_or-words_in i h)

-- where rows of two bytes are those of a part, they spell its words
pub numbers_of_part : (part : List ℕ) (words : ℕ) (rows : List (List ℕ)) → rows ≡ first_chunks 2 words part → numbers_in rows ≡ words_in part words
numbers_of_part part words rows e = ap numbers_in e ∙ numbers_in-rows part words
