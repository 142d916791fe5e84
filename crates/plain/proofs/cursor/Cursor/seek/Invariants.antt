use Rattle.std.proofs.Common.{◌≡◌, ◌-◌}
use Rattle.stacks.specs.Views.{items_of}
use Rattle.delivery.specs.Model.{finish}
use Rattle.delivery.specs.Views.{model_of}
use Rattle.plain.specs.Branches.{next_place}
use Rattle.plain.specs.Places.{At}
use Rattle.plain.proofs.cursor.Cursor.seek.Given as goal

-- the next place is the same from here as from the start
abbrev pub invariant-loop-record : goal.invariant-loop-record
invariant-loop-record l =
    At (model_of l.delivery) l.configuration l.initial.self.place (items_of l.initial.self.frames)
    → At (model_of l.delivery) l.configuration l.self.place (items_of l.self.frames)
    × (next_place (model_of l.delivery) l.configuration l.initial.self.place ≡ next_place (model_of l.delivery) l.configuration l.self.place)

abbrev pub decreases-loop-record : goal.decreases-loop-record
decreases-loop-record l = finish (model_of l.delivery) - l.self.place
