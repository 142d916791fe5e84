-- A place of a unit, with the frames there.
use Rattle.std.specs.Prelude.{◌≡◌, ℕ, ◌≤◌, List}
use Rattle.delivery.specs.Model.{Model, finish}
use Rattle.plain.specs.declared.frame.Frame.{Frame}
use Rattle.plain.specs.Branches.{around, next_place}
use Rattle.plain.specs.Frames.{frames_of}

-- the frames are those of configuration k at place p, which is inside the unit or at its end
pub record At (m : Model) (k p : ℕ) (fs : List Frame) : Type 0 where
  pub within : p ≤ finish m
  pub frames : fs ≡ frames_of m k (around m p)

-- the next place from p on was found, with the frames there
pub record Found (m : Model) (k p q : ℕ) (fs : List Frame) : Type 0 where
  pub place : q ≡ next_place m k p
  pub at : At m k q fs
