-- Which bytes are a delivery, and which rule fails first where they are none.
use Rattle.std.specs.Prelude.{ℕ, List, Option}
use Rattle.format.specs.Firsts.{or_else}
use Rattle.format.specs.Heads.{counts_of, head_refusal, part_of, span_of}
use Rattle.tables.specs.Actions.{actions_refusal}
use Rattle.tables.specs.Gotos.{gotos_refusal}
use Rattle.tables.specs.Productions.{productions_refusal}
use Rattle.units.specs.Scans.{records_refusal}

-- the five parts
abbrev pub actions_in : List ℕ → List ℕ
actions_in bs = part_of bs (span_of bs 16)

abbrev pub gotos_in : List ℕ → List ℕ
gotos_in bs = part_of bs (span_of bs 24)

abbrev pub productions_in : List ℕ → List ℕ
productions_in bs = part_of bs (span_of bs 32)

abbrev pub records_in : List ℕ → List ℕ
records_in bs = part_of bs (span_of bs 40)

abbrev pub guards_in : List ℕ → List ℕ
guards_in bs = part_of bs (span_of bs 48)

-- the number and the place of the first rule that fails, or none
abbrev pub refusal_of : List ℕ → Option (ℕ × ℕ)
refusal_of bs =
    let c = counts_of bs in
    or_else (head_refusal bs)
    (or_else (actions_refusal (actions_in bs) c.states c.terminals c.productions)
    (or_else (gotos_refusal (gotos_in bs) c.states c.nonterminals)
    (or_else (productions_refusal (productions_in bs) c.nonterminals c.productions)
    (records_refusal (records_in bs) (guards_in bs) c.terminals c.switches c.records c.guard_words))))
