-- A configuration of n switches is a number below 2^n: the switches that are on, as bits.
use Rattle.std.specs.Prelude.{ℕ, ◌/◌, ◌%◌, ◌^◌, Bool, ◌==◌}

-- switch i is on in configuration k
abbrev pub on : ℕ → ℕ → Bool
on i k = (k / 2 ^ i) % 2 == 1
