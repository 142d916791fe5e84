use Rattle.std.proofs.Common.{rules, ◌≡◌, ◌+◌, ◌*◌, ◌/◌, ◌%◌, ◌<◌, is_some, [], length, get_or, ◌∙◌, ap, arith}
use Rattle.std.specs.List.{enumerate_from}
use Rattle.std.proofs.lemmas.List.FromFn.{get_or-enumerate_from, length-enumerate_from}
use Rattle.format.specs.Refusals.{refusal_in}
use Rattle.format.specs.Firsts.{numbered_by}
use Rattle.format.specs.Words.{u16_in}
use Rattle.format.proofs.Chunks.{u16_in-row}
use Rattle.tables.specs.Actions.{action_good, action_of}
use Rattle.tables.proofs.Checked.{refuses_first}
use Rattle.tables.proofs.actions.check_actions.Goals as goal

pub returns : goal.returns
returns c =
    let part = c.args.part.now in
    let k = c.args.counts.now in
    let n = k.states * k.terminals in
    let words = c.as_chunks.result.0.now in
    let long : length words ≡ n = search (rules, arith) in
    let told : refusal_in c.map_or.result ≡ numbered_by 4 c.first_misplaced.result = search rules in
    told
    ∙ refuses_first 4 n (action_good part k.states k.terminals k.productions) (λ p. is_some (action_of k.states k.productions (p.0 % k.terminals) (u16_in p.1 0))) (enumerate_from 0 words) (0, []) _ (length-enumerate_from 0 words ∙ long)
    (λ i h.
    let below : i < length words = omega (arith, long) in
    let zero_on : 0 + i ≡ i = omega arith in
    ap (λ p. is_some (action_of k.states k.productions (p.0 % k.terminals) (u16_in p.1 0))) (get_or-enumerate_from 0 words i (0, []) below)
    ∙ ap (λ j. is_some (action_of k.states k.productions (j % k.terminals) (u16_in (get_or words i []) 0))) zero_on
    ∙ ap (λ ws. is_some (action_of k.states k.productions (i % k.terminals) (u16_in (get_or ws i []) 0))) c.as_chunks.ensures.front
    ∙ ap (λ w. is_some (action_of k.states k.productions (i % k.terminals) w)) (u16_in-row 2 (length part / 2) i 0 (2 * i) part [] (omega (arith, long, c.as_chunks.ensures.front_len)) (omega arith) (omega arith)))
    c.first_misplaced.ensures
