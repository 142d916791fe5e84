-- Whether a guard holds in a configuration: its words are worked through in postfix order.
use Rattle.std.specs.Prelude.{ℕ, Bool, true, false, not, ◌&&◌, ◌||◌, List, [], ◌∷◌}
use Rattle.std.specs.List.{slice_get}
use Rattle.std.specs.Option.{unwrap_or}
use Rattle.units.specs.declared.guards.Word.{Word}
use Rattle.units.specs.declared.guards.Word.TheVariants.{Switch, Not, And, Or, Whole, Nothing}
use Rattle.units.specs.Configurations.{on}
use Rattle.delivery.specs.Model.{Model, guard_at}

-- the operand pushed last stands first; a valid guard never lacks one
abbrev pub negated : List Bool → List Bool
negated [] = []
negated (x ∷ xs) = not x ∷ xs

abbrev pub connected : (Bool → Bool → Bool) → List Bool → List Bool
connected f [] = []
connected f (y ∷ []) = []
connected f (y ∷ x ∷ xs) = f x y ∷ xs

-- the operands behind a word, in configuration k
abbrev pub worked : ℕ → Word → List Bool → List Bool
worked k (Switch i) xs = on i k ∷ xs
worked k Not xs = negated xs
worked k And xs = connected ◌&&◌ xs
worked k Or xs = connected ◌||◌ xs
worked k Whole xs = true ∷ xs
worked k Nothing xs = false ∷ xs

-- a valid guard ends with one operand
abbrev pub evaluated : ℕ → List Word → List Bool → Bool
evaluated k [] xs = unwrap_or (slice_get xs 0) false
evaluated k (w ∷ ws) xs = evaluated k ws (worked k w xs)

-- the guard that begins at word g holds in configuration k
abbrev pub holds : Model → ℕ → ℕ → Bool
holds m k g = evaluated k (guard_at m g) []
