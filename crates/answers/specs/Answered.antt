-- What a delivery and a configuration are answered.
use Rattle.std.specs.Prelude.{◌≡◌, ℕ, ◌<◌, ◌≤◌, List, length, Some, None, Ok, Err, Option, Result}
use Rattle.format.specs.Firsts.{or_else}
use Rattle.format.specs.Refusals as refusals
use Rattle.delivery.specs.Decoded.{decoded}
use Rattle.delivery.specs.Deliveries.{refusal_of}
use Rattle.plain.specs.Standing as faults
use Rattle.plain.specs.Standing.{Told, fault_of}
use Rattle.answers.specs.declared.answer.Reading.{Reading}
use Rattle.answers.specs.declared.answer.Refused.{Refused}
use Rattle.answers.specs.declared.answer.Refused.TheVariants.{TooLong, Delivery, Configuration}

-- the first refusal: of the delivery, and then of the configuration
abbrev pub first_refusal : List ℕ → ℕ → Option (ℕ × ℕ)
first_refusal bs k = or_else (refusal_of bs) (fault_of (decoded bs) k)

abbrev pub Answered : List ℕ → ℕ → Result Reading Refused → Type 0
Answered bs k (Ok reading) = (length bs ≤ 65536) × (first_refusal bs k ≡ None) × (reading.configuration ≡ k) × Told (decoded bs) k 1000000 reading.report
Answered bs k (Err TooLong) = 65536 < length bs
Answered bs k (Err (Delivery refusal)) = (length bs ≤ 65536) × (first_refusal bs k ≡ Some (refusals.numbered refusal))
Answered bs k (Err (Configuration fault)) = (length bs ≤ 65536) × (first_refusal bs k ≡ Some (faults.numbered fault))
