-- A refusal as its number and its place.
use Rattle.std.specs.Prelude.{ℕ, Some, None, Ok, Err, Option, Result}
use Rattle.format.specs.declared.refusals.Refusal.{Refusal}
use Rattle.format.specs.declared.refusals.Refusal.TheVariants.{Short, Count, Pair, Action, Goto, Production, Record, Nesting, Guard, Branch}

abbrev pub numbered : Refusal → ℕ × ℕ
numbered (Short at) = (1, at)
numbered (Count at) = (2, at)
numbered (Pair at) = (3, at)
numbered (Action at) = (4, at)
numbered (Goto at) = (5, at)
numbered (Production at) = (6, at)
numbered (Record at) = (7, at)
numbered (Nesting at) = (8, at)
numbered (Guard at) = (9, at)
numbered (Branch at) = (10, at)

-- what a call refused, if it did, where errors are numbered so
abbrev pub refused_by : {X E : Type 0} → (E → ℕ × ℕ) → Result X E → Option (ℕ × ℕ)
refused_by numbering (Ok x) = None
refused_by numbering (Err e) = Some (numbering e)

-- what a check refused, if it did
abbrev pub refusal_in : {X : Type 0} → Result X Refusal → Option (ℕ × ℕ)
refusal_in r = refused_by numbered r
