-- In a checked delivery no more than 64 branches are around any place.
use Rattle.std.proofs.Common.{◌≡◌, ℕ, zero, suc, ◌≤◌, Bool, true, false, ltb, List, [], ◌∷◌, length, take, Some, refl, arith}
use Rattle.std.proofs.lemmas.Bool.Decides.{nat_tests}
use Rattle.std.proofs.lemmas.Option.{cond_some}
use Rattle.units.specs.declared.records.Record.{Record}
use Rattle.units.specs.declared.records.Record.TheVariants.{Token, If, Elif, Else, End}
use Rattle.units.specs.Scans.{nested}
use Rattle.delivery.specs.Bounds.{Bounded, WellNested}
use Rattle.delivery.specs.Model.{Model}
use Rattle.plain.specs.Branches.{Branch, around, behind, behind_all}

-- a record opens and ends as many branches as conditionals
depth_behind : (r : Record) (os os' : List Bool) (bs : List Branch) → length bs ≡ length os → length os ≤ 64 → nested r os ≡ Some os' → (length (behind r bs) ≡ length os') × (length os' ≤ 64)
depth_behind (Token t) os os' bs e h q = (grind arith, grind arith)
depth_behind (If g) os os' bs e h q = let s = cond_some (ltb (length os) 64) (false ∷ os) os' q in (grind arith, grind (arith, nat_tests))
depth_behind (Elif g) [] os' bs e h q = grind arith
depth_behind (Elif g) (true ∷ os) os' bs e h q = grind arith
depth_behind (Elif g) (false ∷ os) os' [] e h q = grind arith
depth_behind (Elif g) (false ∷ os) os' (b ∷ bs) e h q = (grind arith, grind arith)
depth_behind Else [] os' bs e h q = grind arith
depth_behind Else (true ∷ os) os' bs e h q = grind arith
depth_behind Else (false ∷ os) os' [] e h q = grind arith
depth_behind Else (false ∷ os) os' (b ∷ bs) e h q = (grind arith, grind arith)
depth_behind End [] os' bs e h q = grind arith
depth_behind End (o ∷ os) os' [] e h q = grind arith
depth_behind End (o ∷ os) os' (b ∷ bs) e h q = (grind arith, grind arith)

depth : (rs : List Record) (os : List Bool) (bs : List Branch) → length bs ≡ length os → length os ≤ 64 → WellNested os rs → (p : ℕ) → length (behind_all bs (take p rs)) ≤ 64
depth rs os bs e h w zero = omega arith
depth [] os bs e h w (suc p) = omega arith
depth (r ∷ rs) os bs e h w (suc p) =
    let d = depth_behind r os w.0 bs e h w.1.0 in
    depth rs w.0 (behind r bs) d.0 d.1 w.1.1 p

pub few_around : (m : Model) → Bounded m → (p : ℕ) → length (around m p) ≤ 64
few_around m b p = depth m.records [] [] refl (omega arith) b.nesting p
