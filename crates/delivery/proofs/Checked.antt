-- What the type of a delivery asks of bytes that no rule refuses.
use Rattle.std.proofs.Common.{◌≡◌, ℕ, ◌*◌, ◌/◌, false, List, is_some, length, ap₂, arith}
use Rattle.std.specs.Simd.{first_chunks}
use Rattle.format.specs.Words.{words_in}
use Rattle.delivery.specs.Bounds.{Bounded}
use Rattle.delivery.specs.Decoded.{decoded}
use Rattle.delivery.specs.Deliveries.{refusal_of}
use Rattle.delivery.proofs.Bounding.{bounded}
use Rattle.delivery.proofs.Sound.{sound}

-- the words and the rows of a part that has so many
pub words_same : (p q : List ℕ) (n : ℕ) → p ≡ q → length p ≡ n * 2 → words_in p (length p / 2) ≡ words_in q n
words_same p q n e h = ap₂ words_in e (omega arith)

pub rows_same : (p q : List ℕ) (n : ℕ) → p ≡ q → length p ≡ n * 4 → first_chunks 4 (length p / 4) p ≡ first_chunks 4 n q
rows_same p q n e h = ap₂ (first_chunks 4) (omega arith) e

pub bounded_too : (bs : List ℕ) → is_some (refusal_of bs) ≡ false → ∥ Bounded (decoded bs) ∥₁
bounded_too bs none = ∣ bounded bs (sound bs none) ∣₁
