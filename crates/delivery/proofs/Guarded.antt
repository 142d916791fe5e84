-- A valid guard is balanced.
use Rattle.std.proofs.Common.{◌≡◌, ℕ, ◌<◌, ◌≤◌, Bool, true, false, eqb, ◌⊎◌, List, [], ◌∷◌, map, length, drop, Some, None, Option, sym, refl, ap, ◌∙◌, subst, inl, inr}
use Rattle.std.proofs.lemmas.List.{drop_all, drop-map}
use Rattle.std.proofs.lemmas.Bool.{both_ways, cases_Bool, cases_lt, cond-false, cond-true, eqb-true}
use Rattle.units.specs.declared.guards.Word.{Word}
use Rattle.units.specs.Guards.{guard_valid, held_behind, leading, passes, word_of}
use Rattle.delivery.specs.Bounds.{Balanced}

-- a word that says something, and the words behind it
one_more : (o : Option Word) (held : ℕ) (next : ℕ → Bool) (ws : List (Option Word)) → passes o (λ word. passes (held_behind word held) next) ≡ true → ((behind : ℕ) → next behind ≡ true → Balanced behind (leading ws)) → Balanced held (leading (o ∷ ws))
one_more None held next ws e rest = absurd (both_ways false refl e)
one_more (Some word) held next ws e rest = two (held_behind word held) refl e
  where
    two : (h : Option ℕ) → held_behind word held ≡ h → passes h next ≡ true → Balanced held (word ∷ leading ws)
    two None q t = absurd (both_ways false refl t)
    two (Some behind) q t = (behind, (q, rest behind t))

module _ (switches : ℕ) where
  ends : (w held : ℕ) (ws : List (Option Word)) → w ≡ 0 → eqb held 1 ≡ true → Balanced held (leading (word_of switches w ∷ ws))
  ends w held ws z e = subst (λ x. Balanced held (leading (word_of switches x ∷ ws))) (sym z) (eqb-true held 1 e)

  pub valid_balanced : (held : ℕ) (ws : List ℕ) → guard_valid switches held ws ≡ true → Balanced held (leading (map (word_of switches) ws))
  valid_balanced held [] e = absurd (both_ways false refl e)
  valid_balanced held (w ∷ ws) e = by (λ behind. valid_balanced behind ws) (cases_Bool (eqb w 0))
    where
      rest : Bool
      rest = passes (word_of switches w) (λ word. passes (held_behind word held) (λ behind. guard_valid switches behind ws))

      by : ((behind : ℕ) → guard_valid switches behind ws ≡ true → Balanced behind (leading (map (word_of switches) ws))) → (eqb w 0 ≡ true) ⊎ (eqb w 0 ≡ false) → Balanced held (leading (map (word_of switches) (w ∷ ws)))
      by more (inl t) = ends w held (map (word_of switches) ws) (eqb-true w 0 t) (sym (cond-true (eqb w 0) (eqb held 1) rest t) ∙ e)
      by more (inr f) = one_more (word_of switches w) held (λ behind. guard_valid switches behind ws) (map (word_of switches) ws) (sym (cond-false (eqb w 0) (eqb held 1) rest f) ∙ e) more

  module _ (ws : List ℕ) (g : ℕ) (e : guard_valid switches 0 (drop g ws) ≡ true) where
    -- a valid guard begins inside its part
    pub valid_within : g < length ws
    valid_within = by (cases_lt g (length ws))
      where
        by : (g < length ws) ⊎ (length ws ≤ g) → g < length ws
        by (inl h) = h
        by (inr h) = absurd (both_ways (guard_valid switches 0 (drop g ws)) (ap (guard_valid switches 0) (drop_all g ws h)) e)

    pub guard_balanced : Balanced 0 (leading (drop g (map (word_of switches) ws)))
    guard_balanced = subst (λ xs. Balanced 0 (leading xs)) (sym (drop-map (word_of switches) g ws)) (valid_balanced 0 (drop g ws) e)
