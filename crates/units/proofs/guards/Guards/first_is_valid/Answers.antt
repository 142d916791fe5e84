use Rattle.std.proofs.Common.{◌≡◌, ◌<◌, [], length, get_or, sym, ◌∙◌, rules}
use Rattle.format.specs.Words.{u16_in}
use Rattle.units.specs.GuardWords.{numbers_of}
use Rattle.units.proofs.Words.{held_few, valid_end, valid_goes, valid_lacks, valid_refused, word_in}
use Rattle.units.proofs.guards.Guards.first_is_valid.Goals as goal
use Rattle.units.proofs.guards.Guards.first_is_valid.Goals.{After-number_of-word}

-- the word that was read is among the numbers
here : (c : After-number_of-word) → (c.loop-word.word-index < length (numbers_of c.args.self.now)) × (c.number_of-word.result ≡ get_or (numbers_of c.args.self.now) c.loop-word.word-index 0)
here c =
    let rows = c.args.self.now.words.now in
    let there = word_in rows c.loop-word.word-index c.loop-word-test.true in
    let w : c.number_of-word.result ≡ u16_in (get_or rows c.loop-word.word-index []) 0 = search rules in
    (there.0, w ∙ there.1)

pub returns-then-word-eq0 : goal.returns-then-word-eq0
returns-then-word-eq0 c =
    let w = here (goal.at.returns-then-word-eq0 c).After-number_of-word in
    sym (c.loop-word.invariant.1 ∙ valid_end _ _ _ _ _ w.0 w.1 c.if-word-eq0.true)

pub returns-in_default : goal.returns-in_default
returns-in_default c =
    let w = here (goal.at.returns-in_default c).After-number_of-word in
    sym (c.loop-word.invariant.1 ∙ valid_refused _ _ _ _ _ w.0 w.1 c.if-word-eq0.false (sym c.word_of.ensures ∙ c.in_default.is))

pub returns-in_default-held_behind : goal.returns-in_default-held_behind
returns-in_default-held_behind c =
    let w = here (goal.at.returns-in_default-held_behind c).After-number_of-word in
    sym (c.loop-word.invariant.1 ∙ valid_lacks _ _ _ _ _ w.0 w.1 _ c.if-word-eq0.false (sym c.word_of.ensures ∙ c.in-Some.is) (sym c.held_behind.ensures ∙ c.in_default-held_behind.is))

pub loop-word-preserved : goal.loop-word-preserved
loop-word-preserved c =
    let w = here (goal.at.loop-word-preserved c).After-number_of-word in (
      held_few c.in-Some.word c.loop-word.held _ (sym c.held_behind.ensures ∙ c.in-Some-held_behind.is),
      c.loop-word.invariant.1 ∙ valid_goes _ _ _ _ _ w.0 w.1 _ _ c.if-word-eq0.false (sym c.word_of.ensures ∙ c.in-Some.is) (sym c.held_behind.ensures ∙ c.in-Some-held_behind.is),
    )
