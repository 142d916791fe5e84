-- Little-endian numbers at a place of a list of bytes.
use Rattle.std.specs.Prelude.{ℕ, ◌+◌, ◌*◌, List, [], ◌∷◌, map, Option, slice_index}
use Rattle.std.specs.List.{range_with_len, slice_get}
use Rattle.std.specs.Option.{option_map}

abbrev pub u16_in : List ℕ → ℕ → ℕ
u16_in xs at = slice_index xs at + slice_index xs (at + 1) * 256

abbrev pub u32_in : List ℕ → ℕ → ℕ
u32_in xs at = slice_index xs at + slice_index xs (at + 1) * 256 + slice_index xs (at + 2) * 65536 + slice_index xs (at + 3) * 16777216

-- the words of a part
abbrev pub words_in : List ℕ → ℕ → List ℕ
words_in part words = map (λ i. u16_in part (2 * i)) (range_with_len 0 words)

-- the numbers that rows of two bytes spell
abbrev pub numbers_in : List (List ℕ) → List ℕ
numbers_in rows = map (λ row. u16_in row 0) rows

-- the two words of a row of four bytes, if there is such a row
abbrev pub row_at : List (List ℕ) → ℕ → Option (List ℕ)
row_at rows i = option_map (λ row. u16_in row 0 ∷ u16_in row 2 ∷ []) (slice_get rows i)
