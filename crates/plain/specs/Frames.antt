-- The branches around a place as the reader holds them: a frame for each, the innermost first.
use Rattle.std.specs.Prelude.{ℕ, Bool, true, not, ◌&&◌, ◌||◌, List, [], ◌∷◌}
use Rattle.units.specs.declared.records.Record.{Record}
use Rattle.units.specs.declared.records.Record.TheVariants.{Token, If, Elif, Else, End}
use Rattle.delivery.specs.Model.{Model}
use Rattle.plain.specs.declared.frame.Frame.{Frame}
use Rattle.plain.specs.Branches.{Branch, any_holds, guards, has}
use Rattle.plain.specs.Guards.{holds}

-- the innermost branch is one that the configuration has
abbrev pub has_innermost : List Frame → Bool
has_innermost [] = true
has_innermost (f ∷ fs) = f.here

-- the frame at a conditional's first branch, from whether the configuration has what encloses it and whether the guard holds
abbrev pub first : Bool → Bool → Frame
first a g = record { around = a; taken = g; here = g && a }

-- at a later branch, from whether its guard holds
abbrev pub later : Frame → Bool → Frame
later f g = record { around = f.around; taken = g || f.taken; here = (g && not f.taken) && f.around }

-- at the branch that has no guard
abbrev pub last : Frame → Frame
last f = record { around = f.around; taken = f.taken; here = not f.taken && f.around }

module _ (m : Model) (k : ℕ) where
  -- the frames behind a record
  abbrev pub framed : Record → List Frame → List Frame
  framed (Token t) fs = fs
  framed (If g) fs = first (has_innermost fs) (holds m k g) ∷ fs
  framed (Elif g) [] = []
  framed (Elif g) (f ∷ fs) = later f (holds m k g) ∷ fs
  framed Else [] = []
  framed Else (f ∷ fs) = last f ∷ fs
  framed End [] = []
  framed End (f ∷ fs) = fs

  -- the frames of branches
  abbrev pub frames_of : List Branch → List Frame
  frames_of [] = []
  frames_of (b ∷ bs) = record { around = has m k bs; taken = any_holds m k (guards b); here = has m k (b ∷ bs) } ∷ frames_of bs
