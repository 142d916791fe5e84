use Rattle.std.proofs.Common.{◌∙◌, ap, length, subst, sym}
use Rattle.stacks.specs.Views.{items_of}
use Rattle.units.specs.GuardWords.{left_of}
use Rattle.delivery.specs.Bounds.{Balanced}
use Rattle.plain.specs.Guards.{evaluated}
use Rattle.plain.proofs.Evaluated.{word_balanced, word_evaluated}
use Rattle.plain.proofs.guards.guard_holds.Goals as goal

pub loop-word-preserved : goal.loop-word-preserved
loop-word-preserved c =
    let k = c.args.number in
    let xs = items_of c.loop-word.operands in
    let before = left_of c.loop-word.word-iterator in
    let left = left_of c.next.new.self in
    let now = c.loop-word.invariant in
    record {
      balanced = subst (λ ys. Balanced (length ys) left) (sym c.work.ensures) (word_balanced k before c.in-Some.word left c.in-Some.ensures.steps xs now.balanced);
      same = now.same ∙ word_evaluated k before c.in-Some.word left c.in-Some.ensures.steps xs now.balanced ∙ ap (evaluated k left) (sym c.work.ensures);
    }
