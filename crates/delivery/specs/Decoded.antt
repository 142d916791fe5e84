-- The model of the delivery in a list of bytes. In a checked delivery every action, production and record is allowed, so it does not matter what stands here for others.
use Rattle.std.specs.Prelude.{ℕ, ◌*◌, List, map}
use Rattle.std.specs.List.{range_with_len}
use Rattle.std.specs.Option.{unwrap_or}
use Rattle.tables.specs.declared.actions.Action.TheVariants.{None as NoAction}
use Rattle.units.specs.declared.records.Record.TheVariants.{End}
use Rattle.format.specs.Heads.{counts_of}
use Rattle.format.specs.Words.{u16_in, words_in}
use Rattle.tables.specs.Actions.{action_in}
use Rattle.tables.specs.Gotos.{goto_of}
use Rattle.tables.specs.Productions.{production_in}
use Rattle.units.specs.Guards.{word_of}
use Rattle.units.specs.Records as records
use Rattle.delivery.specs.Deliveries.{actions_in, gotos_in, guards_in, productions_in, records_in}
use Rattle.delivery.specs.Model.{Model}

unfoldable pub decoded : List ℕ → Model
decoded bs =
    let c = counts_of bs in
    record {
      states = c.states;
      terminals = c.terminals;
      nonterminals = c.nonterminals;
      switches = c.switches;
      actions = map (λ i. unwrap_or (action_in (actions_in bs) c.states c.terminals c.productions i) NoAction) (range_with_len 0 (c.states * c.terminals));
      gotos = map (λ i. goto_of (u16_in (gotos_in bs) (2 * i))) (range_with_len 0 (c.states * c.nonterminals));
      productions = map (λ i. unwrap_or (production_in (productions_in bs) c.nonterminals i) (record { left = 0; length = 0 })) (range_with_len 0 c.productions);
      records = map (λ r. unwrap_or r End) (records.records_in (records_in bs) c.terminals c.records);
      guards = map (word_of c.switches) (words_in (guards_in bs) c.guard_words);
    }
