use Rattle.std.proofs.Common.{◌<◌, sym, ap, ◌∙◌, arith}
use Rattle.stacks.specs.Views.{items_of}
use Rattle.delivery.specs.Model.{finish}
use Rattle.delivery.specs.Views.{model_of}
use Rattle.plain.specs.Branches.{next_place}
use Rattle.plain.proofs.Walking.{next_at_end, next_here, next_past, record_within}
use Rattle.plain.proofs.cursor.Cursor.seek.Goals as goal

pub returns-then-is_present : goal.returns-then-is_present
returns-then-is_present c = λ at.
    let m = model_of c.args.delivery.now in
    let s = c.loop-record.self in
    let now = c.loop-record.invariant at in
    record {
      place = sym (now.1 ∙ next_here m c.args.configuration s.place c.in-Some.record (sym c.record.ensures.value ∙ c.in-Some.is) (items_of s.frames) now.0 (sym c.is_present.ensures ∙ c.if-is_present.true));
      at = now.0;
    }

pub loop-record-smaller : goal.loop-record-smaller
loop-record-smaller c =
    let m = model_of c.args.delivery.now in
    let within : c.loop-record.self.place < finish m = record_within m.records c.loop-record.self.place c.in-Some.record (sym c.record.ensures.value ∙ c.in-Some.is) in
    omega (arith, c.pass.ensures.place)

pub loop-record-preserved : goal.loop-record-preserved
loop-record-preserved c = λ at.
    let m = model_of c.args.delivery.now in
    let s = c.loop-record.self in
    let now = c.loop-record.invariant at in (
      c.pass.ensures.at now.0,
      now.1
          ∙ next_past m c.args.configuration s.place c.in-Some.record (sym c.record.ensures.value ∙ c.in-Some.is) (items_of s.frames) now.0 (sym c.is_present.ensures ∙ c.if-is_present.false)
          ∙ ap (next_place m c.args.configuration) (sym c.pass.ensures.place),
    )

pub returns : goal.returns
returns c = λ at.
    let m = model_of c.args.delivery.now in
    let s = c.loop-record.self in
    let now = c.loop-record.invariant at in
    record { place = sym (now.1 ∙ next_at_end m c.args.configuration s.place (sym c.record.ensures.value ∙ c.in_default.is)); at = now.0 }
