use Rattle.std.proofs.Common.{rules, ◌≡◌, ◌+◌, ◌*◌, is_some, [], length, get_or, ◌∙◌, ap, ap₂, arith}
use Rattle.format.specs.Refusals.{refusal_in}
use Rattle.format.specs.Firsts.{numbered_by}
use Rattle.format.specs.Words.{u16_in}
use Rattle.format.proofs.Chunks.{u16_in-row}
use Rattle.tables.specs.Productions.{production_good, production_of}
use Rattle.tables.proofs.Checked.{refuses_first}
use Rattle.tables.proofs.productions.check_productions.Goals as goal

pub returns : goal.returns
returns c =
    let part = c.args.part.now in
    let k = c.args.counts.now in
    let rows = c.as_chunks.result.0.now in
    let long : length rows ≡ k.productions = search (rules, arith) in
    let told : refusal_in c.map_or.result ≡ numbered_by 6 c.first_wrong.result = search rules in
    told
    ∙ refuses_first 6 k.productions (production_good part k.nonterminals) (λ row. is_some (production_of k.nonterminals (u16_in row 0) (u16_in row 2))) rows [] _ long
    (λ i h.
    ap (λ ws. is_some (production_of k.nonterminals (u16_in (get_or ws i []) 0) (u16_in (get_or ws i []) 2))) c.as_chunks.ensures.front
    ∙ ap₂ (λ left size. is_some (production_of k.nonterminals left size))
    (u16_in-row 4 _ i 0 (4 * i) part [] (omega (arith, long, c.as_chunks.ensures.front_len)) (omega arith) (omega arith))
    (u16_in-row 4 _ i 2 (4 * i + 2) part [] (omega (arith, long, c.as_chunks.ensures.front_len)) (omega arith) (omega arith)))
    c.first_wrong.ensures
