use Rattle.std.proofs.Common.{◌≡◌, ◌+◌, ◌≤◌, sym, ap, ◌∙◌, subst, arith}
use Rattle.stacks.specs.Views.{items_of}
use Rattle.delivery.specs.Model.{finish}
use Rattle.delivery.specs.Views.{model_of}
use Rattle.plain.specs.declared.cursor.Cursor.{Cursor}
use Rattle.plain.specs.Places.{At, Found}
use Rattle.plain.proofs.Walking.{none_past}
use Rattle.plain.proofs.cursor.Cursor.advance.Goals as goal
use Rattle.plain.proofs.cursor.Cursor.advance.Goals.{in-Some, in_default}

pub returns : goal.returns
returns c = λ below at.
    let m = model_of c.args.delivery.now in
    let k = c.args.configuration in
    let p = c.args.self.now.place in
    let last = c.seek.new.self in
    elim c.match-record.branch [
      | in-Some w ↦
          (let there : At m k c.match-record.self.place (items_of c.match-record.self.frames) = subst (λ (s : Cursor). At m k s.place (items_of s.frames)) (sym w.self-is) (w.pass.ensures.at at) in
          let one : c.match-record.self.place ≡ p + 1 = ap (λ (s : Cursor). s.place) w.self-is ∙ w.pass.ensures.place in
          subst (λ q. Found m k q last.place (items_of last.frames)) one (c.seek.ensures there))
      | in_default w ↦
          (let past : finish m ≤ p = none_past m.records p (sym c.record.ensures.value ∙ w.in_default.is) in absurd (omega arith))
    ]
