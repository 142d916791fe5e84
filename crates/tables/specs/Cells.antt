-- The cells of a table.
use Rattle.std.specs.Prelude.{ℕ, ◌+◌, ◌*◌, cond, List, None, Option, nat_lt}
use Rattle.std.specs.List.{slice_get}
use Rattle.format.specs.Words.{numbers_in}
use Rattle.tables.specs.declared.table.Table.{Table}

-- the words, row by row
abbrev pub cells_of : Table → List ℕ
cells_of t = numbers_in t.words.now

-- the word in a row and a column, if there is one
abbrev pub cell_at : Table → ℕ → ℕ → Option ℕ
cell_at t row column = cond (nat_lt column t.columns) (slice_get (cells_of t) (row * t.columns + column)) None
