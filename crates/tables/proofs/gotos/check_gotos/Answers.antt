use Rattle.std.proofs.Common.{rules, ◌≡◌, ◌*◌, leb, [], length, get_or, ◌∙◌, ap, arith}
use Rattle.format.specs.Refusals.{refusal_in}
use Rattle.format.specs.Firsts.{numbered_by}
use Rattle.format.specs.Words.{u16_in}
use Rattle.format.proofs.Chunks.{u16_in-row}
use Rattle.tables.specs.Gotos.{goto_good}
use Rattle.tables.proofs.Checked.{refuses_first}
use Rattle.tables.proofs.gotos.check_gotos.Goals as goal

pub returns : goal.returns
returns c =
    let part = c.args.part.now in
    let states = c.args.counts.now.states in
    let n = states * c.args.counts.now.nonterminals in
    let words = c.as_chunks.result.0.now in
    let long : length words ≡ n = search (rules, arith) in
    let told : refusal_in c.map_or.result ≡ numbered_by 5 c.first_beyond.result = search rules in
    told
    ∙ refuses_first 5 n (goto_good part states) (λ w. leb (u16_in w 0) states) words [] _ long
    (λ i h.
    ap (λ ws. leb (u16_in (get_or ws i []) 0) states) c.as_chunks.ensures.front
    ∙ ap (λ w. leb w states) (u16_in-row 2 _ i 0 (2 * i) part [] (omega (arith, long, c.as_chunks.ensures.front_len)) (omega arith) (omega arith)))
    c.first_beyond.ensures
