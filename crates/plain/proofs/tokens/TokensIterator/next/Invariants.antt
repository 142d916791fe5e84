use Rattle.std.proofs.Common.{◌≡◌, ◌-◌}
use Rattle.delivery.specs.Model.{finish}
use Rattle.delivery.specs.Views.{model_of}
use Rattle.plain.specs.Walks.{tokens_left}
use Rattle.plain.proofs.tokens.TokensIterator.next.Given as goal

-- what was passed was no token of the configuration
abbrev pub invariant-loop-record : goal.invariant-loop-record
invariant-loop-record l =
    (l.self.configuration ≡ l.initial.self.configuration) × (tokens_left l.self ≡ tokens_left l.initial.self)

abbrev pub decreases-loop-record : goal.decreases-loop-record
decreases-loop-record l = finish (model_of l.self.configuration.delivery) - l.self.cursor.place
