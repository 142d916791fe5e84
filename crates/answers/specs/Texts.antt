-- What is printed of an answer.
use Rattle.std.specs.Prelude.{ℕ, List, ◌∷◌, ◌++◌, Ok, Err, Result, codes, decimal}
use Rattle.format.specs.Refusals as refusals
use Rattle.plain.specs.declared.reader.Ending.{Ending}
use Rattle.plain.specs.declared.reader.Ending.TheVariants.{Accepted, Failed, Spent}
use Rattle.plain.specs.Automaton.{reason_number}
use Rattle.plain.specs.Standing as faults
use Rattle.answers.specs.declared.answer.Reading.{Reading}
use Rattle.answers.specs.declared.answer.Refused.{Refused}
use Rattle.answers.specs.declared.answer.Refused.TheVariants.{TooLong, Delivery, Configuration}

abbrev pub ending_text : Ending → ℕ → List ℕ
ending_text Accepted actions = codes "accepted " ++ decimal actions
ending_text (Failed place reason) actions = codes "failed " ++ (decimal place ++ (codes " " ++ (decimal (reason_number reason) ++ (codes " " ++ decimal actions))))
ending_text Spent actions = codes "spent " ++ decimal actions

-- a line's end is byte 10
abbrev pub reading_text : Reading → List ℕ
reading_text reading =
    codes "configuration " ++ (decimal reading.configuration
    ++ (10 ∷ codes "tokens " ++ (decimal reading.report.tokens
    ++ (10 ∷ ending_text reading.report.ending reading.report.actions))))

-- a refusal's number and place
abbrev pub numbered_text : ℕ × ℕ → List ℕ
numbered_text n = codes "refused " ++ (decimal n.0 ++ (codes " " ++ decimal n.1))

abbrev pub refused_text : Refused → List ℕ
refused_text TooLong = codes "too long"
refused_text (Delivery refusal) = numbered_text (refusals.numbered refusal)
refused_text (Configuration fault) = numbered_text (faults.numbered fault)

abbrev pub text_of : Result Reading Refused → List ℕ
text_of (Ok reading) = reading_text reading
text_of (Err refused) = refused_text refused
