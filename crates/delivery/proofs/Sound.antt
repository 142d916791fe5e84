-- What holds of bytes that no rule refuses, part by part.
use Rattle.std.proofs.Common.{◌≡◌, ℕ, ◌*◌, ◌<◌, true, false, List, is_some, Some, None, Option, refl, arith}
use Rattle.format.specs.Heads.{head_refusal}
use Rattle.format.specs.Words.{u16_in}
use Rattle.format.proofs.Firsts.{all_good, none_parts, numbered_by-none}
use Rattle.format.proofs.Limits.{Limits, limits}
use Rattle.tables.specs.Actions.{action_good, actions_refusal}
use Rattle.tables.specs.Gotos.{goto_good, gotos_refusal}
use Rattle.tables.specs.Productions.{production_good, productions_refusal}
use Rattle.units.specs.Scans.{records_refusal}
use Rattle.delivery.specs.Deliveries.{actions_in, gotos_in, guards_in, productions_in, records_in, refusal_of}

none_from : {X : Type 0} (o : Option X) → is_some o ≡ false → o ≡ None
none_from None e = refl
none_from (Some x) e = grind arith

-- nothing is refused
pub record Sound (bs : List ℕ) : Type 0 where
  pub head : Limits bs
  pub actions : (i : ℕ) → i < u16_in bs 0 * u16_in bs 2 → action_good (actions_in bs) (u16_in bs 0) (u16_in bs 2) (u16_in bs 6) i ≡ true
  pub gotos : (i : ℕ) → i < u16_in bs 0 * u16_in bs 4 → goto_good (gotos_in bs) (u16_in bs 0) i ≡ true
  pub productions : (i : ℕ) → i < u16_in bs 6 → production_good (productions_in bs) (u16_in bs 4) i ≡ true
  pub records : records_refusal (records_in bs) (guards_in bs) (u16_in bs 2) (u16_in bs 12) (u16_in bs 8) (u16_in bs 10) ≡ None

pub sound : (bs : List ℕ) → is_some (refusal_of bs) ≡ false → Sound bs
sound bs good =
    let a = none_parts (head_refusal bs) _ (none_from (refusal_of bs) good) in
    let b = none_parts (actions_refusal (actions_in bs) (u16_in bs 0) (u16_in bs 2) (u16_in bs 6)) _ a.1 in
    let c = none_parts (gotos_refusal (gotos_in bs) (u16_in bs 0) (u16_in bs 4)) _ b.1 in
    let d = none_parts (productions_refusal (productions_in bs) (u16_in bs 4) (u16_in bs 6)) _ c.1 in
    record {
      head = limits bs a.0;
      actions = all_good (action_good (actions_in bs) (u16_in bs 0) (u16_in bs 2) (u16_in bs 6)) _ (numbered_by-none 4 _ b.0);
      gotos = all_good (goto_good (gotos_in bs) (u16_in bs 0)) _ (numbered_by-none 5 _ c.0);
      productions = all_good (production_good (productions_in bs) (u16_in bs 4)) _ (numbered_by-none 6 _ d.0);
      records = d.1;
    }
