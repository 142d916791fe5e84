-- What a record's two words say, and which are allowed.
use Rattle.std.specs.Prelude.{ℕ, ◌+◌, ◌*◌, cond, ◌&&◌, List, map, Some, None, Option, ◌==◌, nat_le, nat_lt}
use Rattle.std.specs.List.{range_with_len}
use Rattle.format.specs.Words.{u16_in}
use Rattle.units.specs.declared.records.Record.{Record}
use Rattle.units.specs.declared.records.Record.TheVariants.{Token, If, Elif, Else, End}

abbrev pub record_of : ℕ → ℕ → ℕ → Option Record
record_of terminals kind value =
    cond (kind == 1 && (nat_le 1 value && nat_lt value terminals)) (Some (Token value))
    (cond (kind == 2) (Some (If value))
    (cond (kind == 3) (Some (Elif value))
    (cond (kind == 4 && value == 0) (Some Else)
    (cond (kind == 5 && value == 0) (Some End)
    None))))

-- the records of a part
abbrev pub records_in : List ℕ → ℕ → ℕ → List (Option Record)
records_in part terminals records = map (λ i. record_of terminals (u16_in part (4 * i)) (u16_in part (4 * i + 2))) (range_with_len 0 records)
