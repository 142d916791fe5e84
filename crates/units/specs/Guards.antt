-- What a guard's words say, and which guards are valid.
use Rattle.std.specs.Prelude.{ℕ, ◌+◌, ◌-◌, Bool, false, cond, ◌&&◌, List, [], ◌∷◌, Some, None, Option, ◌==◌, nat_le}
use Rattle.units.specs.declared.guards.Word.{Word}
use Rattle.units.specs.declared.guards.Word.TheVariants.{Switch, Not, And, Or, Whole, Nothing}

-- what a word says, where there are so many switches; 0 ends a guard and says nothing, and no other number is allowed
abbrev pub word_of : ℕ → ℕ → Option Word
word_of switches word =
    cond (nat_le 1 word && (nat_le word 24 && nat_le word switches)) (Some (Switch (word - 1)))
    (cond (word == 100) (Some Not)
    (cond (word == 101) (Some And)
    (cond (word == 102) (Some Or)
    (cond (word == 103) (Some Whole)
    (cond (word == 104) (Some Nothing)
    None)))))

-- how many operands a word takes; it gives one
abbrev pub taken : Word → ℕ
taken (Switch i) = 0
taken Not = 1
taken And = 2
taken Or = 2
taken Whole = 0
taken Nothing = 0

-- how many operands are held behind a word: it lacks none, and at most 16 are held
abbrev pub held_behind : Word → ℕ → Option ℕ
held_behind word held = cond (nat_le (taken word) held && nat_le (held - taken word + 1) 16) (Some (held - taken word + 1)) None

abbrev pub passes : {X : Type 0} → Option X → (X → Bool) → Bool
passes None p = false
passes (Some x) p = p x

-- the guard from these words on is valid, where so many operands are held: it ends with one, inside its part
abbrev pub guard_valid : ℕ → ℕ → List ℕ → Bool
guard_valid switches held [] = false
guard_valid switches held (w ∷ ws) =
    cond (w == 0) (held == 1) (passes (word_of switches w) (λ word. passes (held_behind word held) (λ behind. guard_valid switches behind ws)))

-- the items in front of the first that is missing
abbrev pub leading : {X : Type 0} → List (Option X) → List X
leading [] = []
leading (None ∷ xs) = []
leading (Some x ∷ xs) = x ∷ leading xs
