use Rattle.std.proofs.Common.{◌≡◌, ℕ, ◌+◌}
use Rattle.delivery.specs.Views.{model_of}
use Rattle.plain.specs.Readers.{Placed, Stands, shown, shown_after}
use Rattle.plain.proofs.reader.Reader.run.Given as goal

abbrev pub invariant-loop-made : goal.invariant-loop-made
invariant-loop-made l = record {
  same : l.self.configuration ≡ l.initial.self.configuration;
  shows : Placed (model_of l.delivery) l.initial.self → Placed (model_of l.delivery) l.self × (shown l.self ≡ shown_after (model_of l.delivery) l.made l.initial.self);
  stands : (j : ℕ) → Stands (model_of l.delivery) j l.initial.self → Stands (model_of l.delivery) (j + l.made) l.self;
}
