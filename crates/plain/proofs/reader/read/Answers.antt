use Rattle.std.proofs.Common.{◌≡◌, ◌+◌, sym, ap, ◌∙◌, subst, zero-add}
use Rattle.stacks.specs.Views.{items_of}
use Rattle.delivery.specs.Views.{model_of}
use Rattle.delivery.specs.declared.deliveries.Delivery.{Delivery}
use Rattle.delivery.proofs.Read.{is_bounded}
use Rattle.plain.specs.Branches.{token_count}
use Rattle.plain.specs.Readers.{Stands}
use Rattle.plain.specs.Readings.{reading}
use Rattle.plain.specs.Standing.{Ends}
use Rattle.plain.proofs.Parsing.{parses, token_length}
use Rattle.plain.proofs.Stepping.{ends_as}
use Rattle.plain.proofs.reader.read.Goals as goal

pub returns-clause-told : goal.returns-clause-told
returns-clause-told c =
    let m = model_of c.args.delivery.now in
    let k = c.args.configuration in
    let n = c.run-actions.result in
    let r = c.run-actions.new.self in
    let chosen = c.in_ok-chosen.ensures in
    let start : Stands m 0 c.start-reader.result = subst (λ (d : Delivery). Stands (model_of d) 0 c.start-reader.result) chosen.delivery c.start-reader.ensures.stands in
    let stands : Stands m n r = subst (λ j. Stands m j r) (zero-add n) (c.run-actions.ensures.stands 0 start) in
    let same : r.configuration ≡ k = c.run-actions.ensures.same ∙ c.start-reader.ensures.same ∙ chosen.number in
    let ends : Ends m k c.args.budget n c.ending.result = subst (Ends m k c.args.budget n) (sym c.ending.ensures) (ends_as m k c.args.budget n r.status r.cursor.place (items_of r.stack) (ap (λ x. reading m x n) (sym same) ∙ stands.shows) c.run-actions.ensures.over) in
    let tokens : c.count_tokens.result ≡ token_count m k = c.count_tokens.ensures ∙ (λ i. token_count (model_of (chosen.delivery i)) (chosen.number i)) in
    record {
      tokens = tokens;
      listed = ap (λ t. t + 1) tokens ∙ sym (token_length m k);
      few = c.run-actions.ensures.few;
      ends = ends;
      parses = parses m k (is_bounded c.args.delivery.now) c.args.budget n c.ending.result ends;
    }
