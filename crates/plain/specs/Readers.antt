-- Where the code's reader stands.
use Rattle.std.specs.Prelude.{◌≡◌, ℕ, zero, suc}
use Rattle.stacks.specs.Views.{items_of}
use Rattle.delivery.specs.Model.{Model}
use Rattle.plain.specs.declared.reader.Ending.{Ending}
use Rattle.plain.specs.declared.reader.Reader.{Reader}
use Rattle.plain.specs.Places.{At}
use Rattle.plain.specs.Readings.{Reading, next, reading}
use Rattle.plain.specs.Standing.{ending_as, shown_as}

-- the reading that a reader shows
abbrev pub shown : Reader → Reading
shown r = shown_as r.status r.cursor.place (items_of r.stack)

-- the same one action later
abbrev pub shown_next : Model → Reader → Reading
shown_next m r = next m r.configuration (shown r)

-- the same so many actions later
abbrev pub shown_after : Model → ℕ → Reader → Reading
shown_after m zero r = shown r
shown_after m (suc n) r = next m r.configuration (shown_after m n r)

-- the reader's place is one of this model, and its frames are those there
abbrev pub Placed : Model → Reader → Type 0
Placed m r = At m r.configuration r.cursor.place (items_of r.cursor.frames)

-- a reader stands where its configuration's reading is after j actions
pub record Stands (m : Model) (j : ℕ) (r : Reader) : Type 0 where
  pub shows : reading m r.configuration j ≡ shown r
  pub at : At m r.configuration r.cursor.place (items_of r.cursor.frames)

abbrev pub ending_of : Reader → Ending
ending_of r = ending_as r.status r.cursor.place
