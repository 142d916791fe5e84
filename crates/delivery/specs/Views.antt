-- A delivery as its bytes, and as its model.
use Rattle.std.specs.Prelude.{ℕ, List}
use Rattle.delivery.specs.declared.deliveries.Delivery.{Delivery}
use Rattle.delivery.specs.Decoded.{decoded}
use Rattle.delivery.specs.Model.{Model}

abbrev pub bytes_of : Delivery → List ℕ
bytes_of d = d.bytes.now

abbrev pub model_of : Delivery → Model
model_of d = decoded (bytes_of d)
