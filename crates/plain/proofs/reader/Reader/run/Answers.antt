use Rattle.std.proofs.Common.{◌≡◌, ◌+◌, true, false, cond, refl, ◌∙◌, subst, arith, rules}
use Rattle.delivery.specs.Views.{model_of}
use Rattle.plain.specs.Readers.{Placed, Stands, shown, shown_after}
use Rattle.plain.proofs.Stepping.{after_more, stands_same}
use Rattle.plain.proofs.reader.Reader.run.Goals as goal

pub returns-then-not-step-clause-stands : goal.returns-then-not-step-clause-stands
returns-then-not-step-clause-stands c = λ j s.
    let none : c.step.result ≡ false = search rules in
    stands_same (model_of c.args.delivery.now) j _ c.loop-made.made c.loop-made.self c.step.new.self (c.step.ensures.kept none) (omega arith) (c.loop-made.invariant.stands j s)

pub loop-made-preserved : goal.loop-made-preserved
loop-made-preserved c =
    let m = model_of c.args.delivery.now in
    let now = c.loop-made.invariant in
    let one : c.step.result ≡ true = search rules in
    record {
      same = c.step.ensures.same ∙ now.same;
      shows = λ at. (
        (c.step.ensures.next (now.shows at).0).0,
        after_more m c.loop-made.made c.args.self.now c.loop-made.self c.step.new.self now.same (now.shows at).1 ((c.step.ensures.next (now.shows at).0).1 one),
      );
      stands = λ j s.
          (let more : j + c.loop-made.made + cond c.step.result 1 0 ≡ j + (c.loop-made.made + 1) = rw one (omega arith) in
          subst (λ n. Stands m n c.step.new.self) more (c.step.ensures.stands (j + c.loop-made.made) (now.stands j s)));
    }

pub returns : goal.returns
returns c =
    let m = model_of c.args.delivery.now in
    let all : c.loop-made.made ≡ c.args.budget = search rules in
    record {
      few = omega arith;
      same = c.loop-made.invariant.same;
      over = λ _. refl;
      made = λ at. subst (λ n. Placed m c.loop-made.self × (shown c.loop-made.self ≡ shown_after m n c.args.self.now)) all (c.loop-made.invariant.shows at);
      stands = λ j s. subst (λ n. Stands m (j + n) c.loop-made.self) all (c.loop-made.invariant.stands j s);
    }
