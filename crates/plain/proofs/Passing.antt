-- The code's walk through a unit, from record to record.
use Rattle.std.proofs.Common.{◌≡◌, ◌+◌, ◌≤◌, List, [], ◌∷◌, length, Some, ap, sym, arith}
use Rattle.std.specs.Iterator.{Yields}
use Rattle.std.specs.List.{cons_option}
use Rattle.units.specs.declared.records.Record.{Record}
use Rattle.stacks.specs.Views.{items_of}
use Rattle.delivery.specs.Model.{record_at}
use Rattle.delivery.specs.Views.{model_of}
use Rattle.delivery.proofs.Read.{is_bounded}
use Rattle.plain.specs.declared.configuration.Configuration.{Configuration}
use Rattle.plain.specs.declared.tokens.Token.{Token}
use Rattle.plain.specs.declared.tokens.Tokens.{Tokens}
use Rattle.plain.specs.Frames.{has_innermost}
use Rattle.plain.specs.Tokens.{token_of, tokens_ahead}
use Rattle.plain.specs.Walks.{Takes, tokens_left}
use Rattle.plain.proofs.Walking.{few_ahead, ahead_framed}

-- as many tokens are given as are fewer left
pub yields_left : (s : Tokens) (xs : List Token) (t : Tokens) → Yields Takes s xs t → length (tokens_left t) + length xs ≡ length (tokens_left s)
yields_left s [] t e = let same = ap (λ u. length (tokens_left u)) e in omega arith
yields_left s (x ∷ xs) t e = let more = yields_left e.0 xs t e.2 in let first = ap length e.1.0 in omega arith

-- the tokens are no more than the records
pub few : (k : Configuration) → length (tokens_ahead (model_of k.delivery) k.number 0) ≤ 4096
few k = few_ahead (model_of k.delivery) k.number (is_bounded k.delivery)

-- and no place is past them
pub few_passed : (s : Tokens) → s.cursor.place ≤ 4096
few_passed s = let within = s.at.within in omega (arith, (is_bounded s.configuration.delivery).records)

-- going past the record at its place
pub passed : (s : Tokens) (r : Record) → record_at (model_of s.configuration.delivery) s.cursor.place ≡ Some r → cons_option (token_of s.cursor.place r (has_innermost (items_of s.cursor.frames))) (tokens_ahead (model_of s.configuration.delivery) s.configuration.number (s.cursor.place + 1)) ≡ tokens_left s
passed s r e = sym (ahead_framed (model_of s.configuration.delivery) s.configuration.number s.cursor.place r e (items_of s.cursor.frames) s.at)
