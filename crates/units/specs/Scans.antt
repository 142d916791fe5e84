-- Which records may follow one another, and which record of a unit is refused first.
use Rattle.std.specs.Prelude.{ℕ, ◌+◌, Bool, true, false, cond, List, [], ◌∷◌, length, drop, Some, None, Ok, Err, Option, Result, ◌==◌, nat_le, nat_lt}
use Rattle.format.specs.Firsts.{unless}
use Rattle.units.specs.declared.records.Record.{Record}
use Rattle.units.specs.declared.records.Record.TheVariants.{Token, If, Elif, Else, End}
use Rattle.units.specs.Guards.{guard_valid}
use Rattle.units.specs.Records.{records_in}
use Rattle.format.specs.Words.{words_in}

-- the conditionals open behind a record, or none where it may not stand there; each is known by whether its else has come, and the innermost is first
abbrev pub nested : Record → List Bool → Option (List Bool)
nested (Token t) os = Some os
nested (If g) os = cond (nat_lt (length os) 64) (Some (false ∷ os)) None
nested (Elif g) [] = None
nested (Elif g) (false ∷ os) = Some (false ∷ os)
nested (Elif g) (true ∷ os) = None
nested Else [] = None
nested Else (false ∷ os) = Some (true ∷ os)
nested Else (true ∷ os) = None
nested End [] = None
nested End (o ∷ os) = Some os

-- the guard that a record names, if it names one, is valid
abbrev pub guard_good : List ℕ → ℕ → Record → Bool
guard_good words switches (Token t) = true
guard_good words switches (If g) = guard_valid switches 0 (drop g words)
guard_good words switches (Elif g) = guard_valid switches 0 (drop g words)
guard_good words switches Else = true
guard_good words switches End = true

-- how many branches a record begins
abbrev pub begun : Record → ℕ
begun (Token t) = 0
begun (If g) = 1
begun (Elif g) = 1
begun Else = 1
begun End = 0

-- what is known behind the records passed so far: the open conditionals, and how many branches have begun
pub record State : Type 0 where
  pub nesting : List Bool
  pub branches : ℕ

-- record i passes, or is refused
abbrev pub passed : List ℕ → ℕ → ℕ → State → Option Record → Result State (ℕ × ℕ)
passed words switches i s None = Err (7, i)
passed words switches i s (Some r) = elim (nested r s.nesting) [
  | None ↦ Err (8, i)
  | Some os ↦ cond (guard_good words switches r)
      (cond (nat_le (s.branches + begun r) 256) (Ok (record { nesting = os; branches = s.branches + begun r })) (Err (10, i)))
      (Err (9, i))
]

abbrev pub and_on : {X Y : Type 0} → Result X Y → (X → Option Y) → Option Y
and_on (Ok x) f = f x
and_on (Err y) f = Some y

-- the first refusal from record i on; behind the last record none may be open
abbrev pub scanned : List ℕ → ℕ → ℕ → State → List (Option Record) → Option (ℕ × ℕ)
scanned words switches i s [] = unless (length s.nesting == 0) (8, i)
scanned words switches i s (r ∷ rs) = and_on (passed words switches i s r) (λ t. scanned words switches (i + 1) t rs)

abbrev pub begin : State
begin = record { nesting = []; branches = 0 }

-- the first refusal among the records of a part, whose guards stand in another
abbrev pub records_refusal : List ℕ → List ℕ → ℕ → ℕ → ℕ → ℕ → Option (ℕ × ℕ)
records_refusal records guards terminals switches record_count word_count = scanned (words_in guards word_count) switches 0 begin (records_in records terminals record_count)
