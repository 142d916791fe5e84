-- The check's progress, as the definitions have it.
use Rattle.std.specs.Prelude.{ℕ, Ok, Err, Result}
use Rattle.format.specs.declared.refusals.Refusal.{Refusal}
use Rattle.format.specs.Refusals.{numbered}
use Rattle.stacks.specs.Views.{items_of}
use Rattle.units.specs.declared.scans.Scan.{Scan}
use Rattle.units.specs.Scans.{State}

abbrev pub state_of : Scan → State
state_of s = record { nesting = items_of s.nesting; branches = s.branches }

-- what a record leads to: the state left, or the refusal
abbrev pub led_to : Scan → Result (Unit {0}) Refusal → Result State (ℕ × ℕ)
led_to s (Ok x) = Ok (state_of s)
led_to s (Err e) = Err (numbered e)
