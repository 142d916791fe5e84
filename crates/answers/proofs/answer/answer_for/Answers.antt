use Rattle.std.proofs.Common.{◌≡◌, refl, ap}
use Rattle.delivery.specs.Views.{bytes_of}
use Rattle.answers.proofs.answer.answer_for.Goals as goal

pub returns : goal.returns
returns c =
    let same : bytes_of c.in_ok-delivery.delivery ≡ c.args.bytes.now = ap (λ r. r.now) c.in_ok-delivery.ensures.same in
    let allowed = c.in_ok-delivery.ensures.refused in
    let within = rw same at c.in_ok-report.ensures.refused in (
      c.if-bytes-gt-LONGEST.false,
      rw (← allowed, ← within),
      refl,
      rw same at c.in_ok-report.ensures.told,
    )
