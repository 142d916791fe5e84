use Rattle.std.proofs.Common.{◌≡◌, ◌≤◌, ◌+◌, drop, get_or, ◌∙◌, arith, rules}
use Rattle.std.proofs.lemmas.List.{at_drop_more}
use Rattle.answers.proofs.Spelled.{spelled_more, spelled_behind}
use Rattle.answers.proofs.numbers.number_in.Goals as goal

pub loop-b-preserved : goal.loop-b-preserved
loop-b-preserved c =
    let text = c.args.text.now in
    let b = get_or text c.loop-b.b-index 0 in
    let high : b ≤ 57 = search rules in
    let digit : 48 + c.in_ok-digit.digit ≡ b = omega (arith, c.in_ok-digit.ensures.cases) in (
      c.saturating_add-value.type_inv,
      c.loop-b.invariant.1
          ∙ at_drop_more (spelled_behind c.loop-b.value) text c.loop-b.b-index 0 c.loop-b-test.true
          ∙ spelled_more c.loop-b.value b (drop (c.loop-b.b-index + 1) text) (omega arith) high c.saturating_add-value.result (omega arith),
    )
