-- The tokens that the code's walk through a unit has still to give.
use Rattle.std.specs.Prelude.{◌≡◌, List, Option}
use Rattle.std.specs.Iterator.{YieldsFirst}
use Rattle.delivery.specs.Views.{model_of}
use Rattle.plain.specs.declared.tokens.Token.{Token}
use Rattle.plain.specs.declared.tokens.Tokens.{Tokens}
use Rattle.plain.specs.Tokens.{tokens_ahead}

abbrev pub tokens_left : Tokens → List Token
tokens_left t = tokens_ahead (model_of t.configuration.delivery) t.configuration.number t.cursor.place

-- a call of `next` gave the first of them, or none where none was left, and left the others of the same configuration
abbrev pub Takes : Tokens → Option Token → Tokens → Type 0
Takes s r t = YieldsFirst tokens_left s r t × (t.configuration ≡ s.configuration)
