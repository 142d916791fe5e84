-- What a head tells of the parts.
use Rattle.std.specs.Prelude.{◌≡◌, ℕ, ◌*◌, ◌<◌, List, length}
use Rattle.format.specs.declared.parts.Parts.{Parts}
use Rattle.format.specs.Heads.{counts_of, part_of, span_of}

-- the counts and the parts are those of these bytes
pub record Tells (bs : List ℕ) (p : Parts) : Type 0 where
  pub counts : p.counts ≡ counts_of bs
  pub actions : p.actions.now ≡ part_of bs (span_of bs 16)
  pub gotos : p.gotos.now ≡ part_of bs (span_of bs 24)
  pub productions : p.productions.now ≡ part_of bs (span_of bs 32)
  pub records : p.records.now ≡ part_of bs (span_of bs 40)
  pub guards : p.guards.now ≡ part_of bs (span_of bs 48)

-- there is a terminal, and each part has the words that the counts give
pub record Sized (p : Parts) : Type 0 where
  pub terminals : 0 < p.counts.terminals
  pub actions : length p.actions.now ≡ p.counts.states * p.counts.terminals * 2
  pub gotos : length p.gotos.now ≡ p.counts.states * p.counts.nonterminals * 2
  pub productions : length p.productions.now ≡ p.counts.productions * 4
  pub records : length p.records.now ≡ p.counts.records * 4
  pub guards : length p.guards.now ≡ p.counts.guard_words * 2
