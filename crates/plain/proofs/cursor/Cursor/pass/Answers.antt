use Rattle.std.proofs.Common.{◌<◌, refl, arith}
use Rattle.stacks.specs.Views.{items_of}
use Rattle.delivery.specs.Model.{finish}
use Rattle.delivery.specs.Views.{model_of}
use Rattle.delivery.proofs.Read.{is_bounded}
use Rattle.plain.proofs.Walking.{at_more, framed_few, record_within}
use Rattle.plain.proofs.cursor.Cursor.pass.Goals as goal

pub overflow_add-self : goal.overflow_add-self
overflow_add-self c =
    let m = model_of c.args.delivery.now in
    let within : c.args.self.now.place < finish m = record_within m.records c.args.self.now.place c.args.record c.requires.here in
    omega (arith, (is_bounded c.args.delivery.now).records)

pub returns : goal.returns
returns c =
    let m = model_of c.args.delivery.now in
    let s = c.args.self.now in
    record {
      place = refl;
      at = λ at. at_more m c.args.configuration s.place c.args.record c.requires.here (items_of s.frames) at _ (c.pass.ensures (framed_few m c.args.configuration s.place c.args.record c.requires.here (items_of s.frames) at (is_bounded c.args.delivery.now)));
    }
