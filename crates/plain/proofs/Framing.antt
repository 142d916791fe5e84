-- The frames that the reader holds are those of the branches around its place.
use Rattle.std.proofs.Common.{◌≡◌, ℕ, suc, List, [], ◌∷◌, length, refl, ap, arith}
use Rattle.std.proofs.Math.Bool.{and-true, or-false}
use Rattle.units.specs.declared.records.Record.{Record}
use Rattle.units.specs.declared.records.Record.TheVariants.{Token, If, Elif, Else, End}
use Rattle.delivery.specs.Model.{Model}
use Rattle.plain.specs.Branches.{Branch, behind, has}
use Rattle.plain.specs.Frames.{framed, frames_of, has_innermost}

module _ (m : Model) (k : ℕ) where
  pub innermost_has : (bs : List Branch) → has_innermost (frames_of m k bs) ≡ has m k bs
  innermost_has [] = refl
  innermost_has (b ∷ bs) = refl

  pub length-frames_of : (bs : List Branch) → length (frames_of m k bs) ≡ length bs
  length-frames_of [] = refl
  length-frames_of (b ∷ bs) = ap suc (length-frames_of bs)

  pub framed_behind : (r : Record) (bs : List Branch) → framed m k r (frames_of m k bs) ≡ frames_of m k (behind r bs)
  framed_behind (Token t) bs = refl
  framed_behind (If g) bs = grind (arith, innermost_has bs, or-false, and-true)
  framed_behind (Elif g) [] = refl
  framed_behind (Elif g) (b ∷ bs) = refl
  framed_behind Else [] = refl
  framed_behind Else (b ∷ bs) = refl
  framed_behind End [] = refl
  framed_behind End (b ∷ bs) = refl
