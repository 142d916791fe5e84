use Rattle.std.proofs.Common.{◌≡◌, ℕ, ◌<◌, List, Ok, sym, refl, ap, ◌∙◌, rules}
use Rattle.std.proofs.lemmas.Bool.{true≢false}
use Rattle.stacks.specs.Views.{items_of}
use Rattle.delivery.specs.Model.{finish}
use Rattle.delivery.specs.Views.{model_of}
use Rattle.delivery.proofs.Read.{is_bounded}
use Rattle.plain.specs.declared.automaton.Move.{Move}
use Rattle.plain.specs.Acts.{shown_by}
use Rattle.plain.specs.Automaton.{Outcome, outcome}
use Rattle.plain.specs.Readings.{standing}
use Rattle.plain.specs.Readers.{Placed, shown_next}
use Rattle.plain.specs.Standing.{is_standing, shown_as}
use Rattle.plain.proofs.Stepping.{shift_below, shown_more, stands_more}
use Rattle.plain.proofs.reader.Reader.step.Goals as goal

-- what the move that was made shows
told : (v w : Move) (st : List ℕ) (o : Outcome) → shown_by (Ok v) st ≡ o → v ≡ w → o ≡ shown_by (Ok w) st
told v w st o e f = sym e ∙ ap (λ (x : Move). shown_by (Ok x) st) f

pub returns-in-Ok-Shift : goal.returns-in-Ok-Shift
returns-in-Ok-Shift c =
    let m = model_of c.args.delivery.now in
    let r = c.args.self.now in
    let p = r.cursor.place in
    let st = items_of c.act.new.stack in
    let shift = told _ _ st _ c.in-Ok-Shift.ensures c.in-Ok-Shift.field-0-is in
    let below : p < finish m = shift_below m (items_of r.stack) (is_bounded c.args.delivery.now) p st (ap (λ t. outcome m t (items_of r.stack)) (sym c.terminal_at-terminal.ensures) ∙ shift) in
    let found = c.advance.ensures below in
    let shows : Placed m r → shown_as r.status c.advance.new.self.place st ≡ shown_next m r = λ at. ap (λ a. shown_as a c.advance.new.self.place st) c.in-Standing.is ∙ ap (λ q. standing q st) (found at).place ∙ sym (shown_more m r c.terminal_at-terminal.result _ c.in-Standing.is c.terminal_at-terminal.ensures shift) in
    record {
      made = sym (ap is_standing c.in-Standing.is);
      same = refl;
      kept = λ e. absurd (true≢false e);
      next = λ at. ((found at).at, λ _. shows at);
      stands = λ j s. stands_more m j r _ refl (found s.at).at (shows s.at) s;
    }

pub returns-in-Ok-Reduce-clause-stands : goal.returns-in-Ok-Reduce-clause-stands
returns-in-Ok-Reduce-clause-stands c = λ j s. stands_more (model_of c.args.delivery.now) j c.args.self.now _ refl s.at (search rules) s

pub returns-in-Ok-Accept-clause-stands : goal.returns-in-Ok-Accept-clause-stands
returns-in-Ok-Accept-clause-stands c = λ j s. stands_more (model_of c.args.delivery.now) j c.args.self.now _ refl s.at (search rules) s

pub returns-in-Err-clause-stands : goal.returns-in-Err-clause-stands
returns-in-Err-clause-stands c = λ j s. stands_more (model_of c.args.delivery.now) j c.args.self.now _ refl s.at (search rules) s
