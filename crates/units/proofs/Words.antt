-- The words of a part, and how each word of a guard decides whether the guard is valid.
use Rattle.std.proofs.Common.{◌≡◌, ℕ, ◌+◌, ◌<◌, ◌≤◌, false, eqb, List, [], ◌∷◌, map, length, get_or, drop, slice_index_or, Some, None, ⊎_elim, sym, ap, ◌∙◌, arith}
use Rattle.std.specs.List.{slice_get}
use Rattle.std.proofs.lemmas.Option.{get_or_from_slice_get, none-some, slice_get-get_or, slice_get_within}
use Rattle.std.proofs.lemmas.List.{at_drop_more, drop-map, get_or-map, get_or_past, length-map}
use Rattle.std.proofs.lemmas.Bool.{cases_lt, eq-eqb, ne_eqb}
use Rattle.std.proofs.lemmas.Bool.Decides.{nat_tests}
use Rattle.format.specs.Words.{numbers_in, u16_in}
use Rattle.units.specs.declared.guards.Guards.{Guards}
use Rattle.units.specs.declared.guards.Word.{Word}
use Rattle.units.specs.GuardWords.{numbers_of, said_by}
use Rattle.units.specs.Guards.{guard_valid, held_behind, word_of}

module _ (numbers : List ℕ) (switches held i : ℕ) where
  -- the word w comes next
  module _ (w : ℕ) (h : i < length numbers) (e : w ≡ get_or numbers i 0) where
    next : guard_valid switches held (drop i numbers) ≡ guard_valid switches held (w ∷ drop (i + 1) numbers)
    next =
        at_drop_more (guard_valid switches held) numbers i 0 h
        ∙ ap (λ x. guard_valid switches held (x ∷ drop (i + 1) numbers)) (sym e)

    -- it ends the guard
    pub valid_end : w ≡ 0 → guard_valid switches held (drop i numbers) ≡ eqb held 1
    valid_end z = next ∙ rw (eq-eqb w 0 z)

    -- it is not allowed
    pub valid_refused : (w ≡ 0 → ⊥) → word_of switches w ≡ None → guard_valid switches held (drop i numbers) ≡ false
    valid_refused ne s = next ∙ rw (ne_eqb w 0 ne, s)

    -- it lacks an operand or holds too many
    pub valid_lacks : (word : Word) → (w ≡ 0 → ⊥) → word_of switches w ≡ Some word → held_behind word held ≡ None → guard_valid switches held (drop i numbers) ≡ false
    valid_lacks word ne s l = next ∙ rw (ne_eqb w 0 ne, s, l)

    -- the rest decides
    pub valid_goes : (word : Word) (behind : ℕ) → (w ≡ 0 → ⊥) → word_of switches w ≡ Some word → held_behind word held ≡ Some behind → guard_valid switches held (drop i numbers) ≡ guard_valid switches behind (drop (i + 1) numbers)
    valid_goes word behind ne s g = next ∙ rw (ne_eqb w 0 ne, s, g)

pub held_few : (word : Word) (held behind : ℕ) → held_behind word held ≡ Some behind → behind ≤ 16
held_few word held behind e = grind (arith, nat_tests)

-- the numbers of the words from an index on
pub numbers_behind : (rows rest : List (List ℕ)) (i : ℕ) → rest ≡ drop i rows → numbers_in rest ≡ drop i (numbers_in rows)
numbers_behind rows rest i e = ap numbers_in e ∙ sym (drop-map (λ row. u16_in row 0) i rows)

-- what the words from an index on say
pub said_behind : (gs hs : Guards) (i : ℕ) → numbers_of hs ≡ drop i (numbers_of gs) → hs.switches ≡ gs.switches → said_by hs ≡ drop i (said_by gs)
said_behind gs hs i e f =
    ap (map (word_of hs.switches)) e
    ∙ ap (λ n. map (word_of n) (drop i (numbers_of gs))) f
    ∙ sym (drop-map (word_of gs.switches) i (numbers_of gs))

-- the word of a row, which is among the words of all rows
pub word_in : (rows : List (List ℕ)) (i : ℕ) → i < length rows → (i < length (numbers_in rows)) × (u16_in (get_or rows i []) 0 ≡ get_or (numbers_in rows) i 0)
word_in rows i h = (rw (length-map rows (λ row. u16_in row 0)) h, sym (get_or-map (λ row. u16_in row 0) rows i [] 0 h))

-- what the word at an index says, and where there is none
pub said_found : (gs : Guards) (i w : ℕ) → slice_get (numbers_of gs) i ≡ Some w → word_of gs.switches w ≡ slice_index_or (said_by gs) i None
said_found gs i w e =
    let ws = numbers_of gs in
    let here = slice_get_within ws i w e in
    ap (word_of gs.switches) (sym (get_or_from_slice_get ws i w 0 e)) ∙ sym (get_or-map (word_of gs.switches) ws i 0 None here)

pub said_missing : (gs : Guards) (i : ℕ) → slice_get (numbers_of gs) i ≡ None → None ≡ slice_index_or (said_by gs) i None
said_missing gs i e =
    let ws = numbers_of gs in
    ⊎_elim
    (λ here. absurd (none-some (get_or ws i 0) (sym e ∙ slice_get-get_or ws i 0 here)))
    (λ past. sym (get_or_past (map (word_of gs.switches) ws) i None (rw (length-map ws (word_of gs.switches)) past)))
    (cases_lt i (length ws))
