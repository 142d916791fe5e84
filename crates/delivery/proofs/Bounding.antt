-- The model of bytes that no rule refuses is within its bounds.
use Rattle.std.proofs.Common.{◌≡◌, ℕ, zero, suc, ◌+◌, ◌-◌, ◌*◌, ◌<◌, ◌≤◌, true, false, not, ◌&&◌, eqb, ltb, leb, ◌⊎◌, List, [], ◌∷◌, map, length, get_or, drop, is_some, IfSome, Some, None, Option, unwrap_or, sym, refl, ap, ◌∙◌, subst, inl, inr, zero-add, arith}
use Rattle.std.proofs.lemmas.Nat.{mod-mul-add}
use Rattle.std.proofs.lemmas.List.{length-map, get_or-map}
use Rattle.std.proofs.lemmas.Option.{slice_get-get_or, slice_get_past}
use Rattle.std.proofs.lemmas.Bool.{and_parts, cases_lt, cond_both, eqb-true, leb-true, ltb-true, both_ways}
use Rattle.std.proofs.lemmas.Bool.Decides.{nat_tests}
use Rattle.tables.specs.declared.actions.Action.{Action}
use Rattle.tables.specs.declared.actions.Action.TheVariants.{None as NoAction}
use Rattle.units.specs.declared.records.Record.{Record}
use Rattle.units.specs.declared.records.Record.TheVariants.{Token, If, Elif, Else, End}
use Rattle.units.specs.declared.guards.Word.{Word}
use Rattle.format.specs.Words.{u16_in, words_in}
use Rattle.format.proofs.Counted.{found_counted, get_or-counted, length-counted, read_counted}
use Rattle.tables.specs.Actions.{action_in, action_of}
use Rattle.tables.specs.Gotos.{goto_of}
use Rattle.tables.specs.Productions.{production_in, production_of}
use Rattle.units.specs.Guards.{guard_valid, leading, word_of}
use Rattle.units.specs.Records as records
use Rattle.units.specs.Scans.{begin, guard_good}
use Rattle.delivery.specs.Bounds.{ActionBound, Balanced, Bounded, ProductionBound, RecordBound, WordBound}
use Rattle.delivery.specs.Decoded.{decoded}
use Rattle.delivery.specs.Deliveries.{actions_in, gotos_in, guards_in, productions_in, records_in}
use Rattle.delivery.specs.Model.{Model, action_at, goto_at, guard_at, production_at, record_at, word_at}
use Rattle.delivery.proofs.Guarded.{guard_balanced, valid_within}
use Rattle.delivery.proofs.Nested.{Scans, allowed, scans}
use Rattle.delivery.proofs.Sound.{Sound}

-- what an action word says is within bounds
action_bound : (m : Model) (states productions t w : ℕ) → states ≡ m.states → productions ≡ length m.productions → ActionBound m t (unwrap_or (action_of states productions t w) NoAction)
action_bound m states productions t w e f =
    cond_both (eqb w 0) _ _ P (λ _. tt) (λ nonzero.
    cond_both (leb w 256 && (leb w states && not (eqb t 0))) _ _ P (λ h. (grind (arith, nat_tests), grind (arith, nat_tests))) (λ _.
    cond_both (leb 1000 w && (leb w 1255 && ltb (w - 1000) productions)) _ _ P (λ h. grind (arith, nat_tests)) (λ _.
    cond_both (eqb w 2000 && eqb t 0) _ _ P (λ h. eqb-true t 0 (and_parts (eqb w 2000) (eqb t 0) h).1) (λ _. tt))))
  where
    P : Option Action → Type 0
    P o = ActionBound m t (unwrap_or o NoAction)

goto_bound : (states w : ℕ) → w ≤ states → IfSome (goto_of w) (λ to. to < states)
goto_bound states w h = cond_both (eqb w 0) _ _ (λ o. IfSome o (λ to. to < states)) (λ _. tt) (λ e. grind (arith, nat_tests))

-- what holds of what is there holds of the value
value_found : {X : Type 0} (P : X → Type 0) (o : Option X) (d : X) → is_some o ≡ true → IfSome o P → P (unwrap_or o d)
value_found P None d e h = absurd (both_ways false refl e)
value_found P (Some x) d e h = h

production_bound : (m : Model) (left size : ℕ) → IfSome (production_of m.nonterminals left size) (ProductionBound m)
production_bound m left size =
    cond_both (ltb left m.nonterminals && leb size 16) _ _ (λ o. IfSome o (ProductionBound m))
    (λ h. let p = and_parts (ltb left m.nonterminals) (leb size 16) h in (ltb-true left m.nonterminals p.0, leb-true size 16 p.1))
    (λ _. tt)

word_bound : (m : Model) (w : ℕ) → IfSome (word_of m.switches w) (WordBound m)
word_bound m w =
    cond_both (leb 1 w && (leb w 24 && leb w m.switches)) _ _ P (λ h. grind (arith, nat_tests)) (λ _.
    cond_both (eqb w 100) _ _ P (λ _. tt) (λ _.
    cond_both (eqb w 101) _ _ P (λ _. tt) (λ _.
    cond_both (eqb w 102) _ _ P (λ _. tt) (λ _.
    cond_both (eqb w 103) _ _ P (λ _. tt) (λ _.
    cond_both (eqb w 104) _ _ P (λ _. tt) (λ _. tt))))))
  where
    P : Option Word → Type 0
    P o = IfSome o (WordBound m)

-- a token is of a terminal that there is, and not of terminal 0
TokenBound : ℕ → Record → Type 0
TokenBound terminals (Token t) = (0 < t) × (t < terminals)
TokenBound terminals (If g) = Unit {0}
TokenBound terminals (Elif g) = Unit {0}
TokenBound terminals Else = Unit {0}
TokenBound terminals End = Unit {0}

token_bound : (terminals kind value : ℕ) → IfSome (records.record_of terminals kind value) (TokenBound terminals)
unfolding TokenBound
token_bound terminals kind value =
    cond_both (eqb kind 1 && (leb 1 value && ltb value terminals)) _ _ P (λ h. (grind (arith, nat_tests), grind (arith, nat_tests))) (λ _.
    cond_both (eqb kind 2) _ _ P (λ _. tt) (λ _.
    cond_both (eqb kind 3) _ _ P (λ _. tt) (λ _.
    cond_both (eqb kind 4 && eqb value 0) _ _ P (λ _. tt) (λ _.
    cond_both (eqb kind 5 && eqb value 0) _ _ P (λ _. tt) (λ _. tt)))))
  where
    P : Option Record → Type 0
    P o = IfSome o (TokenBound terminals)

-- what holds of each value that a function gives, and of the default, holds of what is read
read_mapped : {X Y : Type 0} (f : X → Y) (P : Y → Type 0) (d : Y) → P d → ((x : X) → P (f x)) → (xs : List X) (i : ℕ) → P (get_or (map f xs) i d)
read_mapped f P d none some [] i = none
read_mapped f P d none some (x ∷ xs) zero = some x
read_mapped f P d none some (x ∷ xs) (suc i) = read_mapped f P d none some xs i

module _ (m : Model) (ws : List ℕ) (guards : m.guards ≡ map (word_of m.switches) ws) where
  guard_bound : (g : ℕ) → guard_valid m.switches 0 (drop g ws) ≡ true → (g < length m.guards) × Balanced 0 (guard_at m g)
  guard_bound g e = (
    rw (guards, length-map ws (word_of m.switches)) (valid_within m.switches ws g e),
    subst (λ xs. Balanced 0 (leading (drop g xs))) (sym guards) (guard_balanced m.switches ws g e),
  )

  record_bound : (r : Record) → TokenBound m.terminals r → guard_good ws m.switches r ≡ true → RecordBound m r
  unfolding TokenBound
  record_bound (Token t) h e = h
  record_bound (If g) h e = guard_bound g e
  record_bound (Elif g) h e = guard_bound g e
  record_bound Else h e = tt
  record_bound End h e = tt

module _ (bs : List ℕ) (s : Sound bs) where
  m : Model
  m = decoded bs

  actions_bound : (q t : ℕ) → ActionBound m t (action_at m q t)
  unfolding m decoded
  actions_bound q t =
      cond_both (ltb t (u16_in bs 2)) _ _ (ActionBound m t)
      (λ lt. read_counted (λ i. unwrap_or (action_in (actions_in bs) (u16_in bs 0) (u16_in bs 2) (u16_in bs 6) i) NoAction) (u16_in bs 0 * u16_in bs 2) (q * u16_in bs 2 + t) (ActionBound m t) NoAction tt
      (λ h. rw (mod-mul-add q (u16_in bs 2) t (ltb-true t (u16_in bs 2) lt)) (action_bound m (u16_in bs 0) (u16_in bs 6) t (u16_in (actions_in bs) (2 * (q * u16_in bs 2 + t))) refl (sym (length-counted _ (u16_in bs 6))))))
      (λ _. tt)

  gotos_bound : (q n : ℕ) → IfSome (goto_at m q n) (λ to. to < m.states)
  unfolding m decoded
  gotos_bound q n =
      cond_both (ltb n (u16_in bs 4)) _ _ (λ o. IfSome o (λ to. to < u16_in bs 0))
      (λ lt. read_counted (λ i. goto_of (u16_in (gotos_in bs) (2 * i))) (u16_in bs 0 * u16_in bs 4) (q * u16_in bs 4 + n) (λ o. IfSome o (λ to. to < u16_in bs 0)) None tt
      (λ h. goto_bound (u16_in bs 0) _ (leb-true _ _ (s.gotos _ h))))
      (λ _. tt)

  productions_bound : (p : ℕ) → IfSome (production_at m p) (ProductionBound m)
  unfolding m decoded
  productions_bound p =
      found_counted (λ i. unwrap_or (production_in (productions_in bs) (u16_in bs 4) i) (record { left = 0; length = 0 })) (u16_in bs 6) p (ProductionBound m)
      (λ h. value_found (ProductionBound m) (production_in (productions_in bs) (u16_in bs 4) p) _ (s.productions p h) (production_bound m _ _))

  words : List ℕ
  words = words_in (guards_in bs) (u16_in bs 10)

  abbrev pub decodes : List (Option Record)
  decodes = records.records_in (records_in bs) (u16_in bs 2) (u16_in bs 8)

  pub scanned : Scans (words_in (guards_in bs) (u16_in bs 10)) (u16_in bs 12) begin decodes
  scanned = scans (words_in (guards_in bs) (u16_in bs 10)) (u16_in bs 12) 0 begin decodes (omega arith) s.records

  pub length-decodes : length decodes ≡ u16_in bs 8
  length-decodes = length-counted _ (u16_in bs 8)

  module _ (i : ℕ) where
    pub decodes_at : i < u16_in bs 8 → get_or decodes i None ≡ records.record_of (u16_in bs 2) (u16_in (records_in bs) (4 * i)) (u16_in (records_in bs) (4 * i + 2))
    decodes_at h = get_or-counted _ (u16_in bs 8) i None h

    pub record_read : (r : Record) → i < length decodes → get_or decodes i None ≡ Some r → record_at (decoded bs) i ≡ Some r
    unfolding decoded
    record_read r h e = slice_get-get_or (map allowed decodes) i r (rw (length-map decodes allowed) h) ∙ ap Some (get_or-map allowed decodes i None r h ∙ ap allowed e)

    pub record_read_past : length decodes ≤ i → record_at (decoded bs) i ≡ None
    unfolding decoded
    record_read_past h = slice_get_past (map allowed decodes) i (rw (length-map decodes allowed) h)

    records_bound : IfSome (record_at (decoded bs) i) (RecordBound (decoded bs))
    unfolding decoded
    records_bound = by (cases_lt i (length decodes))
      where
        by : (i < length decodes) ⊎ (length decodes ≤ i) → IfSome (record_at (decoded bs) i) (RecordBound (decoded bs))
        by (inr h) = subst (λ o. IfSome o (RecordBound (decoded bs))) (sym (record_read_past h)) tt
        by (inl h) =
            let r = scanned.each i h in
            let token : TokenBound (u16_in bs 2) r.0 = subst (λ o. IfSome o (TokenBound (u16_in bs 2))) (sym (decodes_at (rw length-decodes at h)) ∙ r.1.0) (token_bound (u16_in bs 2) (u16_in (records_in bs) (4 * i)) (u16_in (records_in bs) (4 * i + 2))) in
            subst (λ o. IfSome o (RecordBound (decoded bs))) (sym (record_read r.0 h r.1.0)) (record_bound (decoded bs) (words_in (guards_in bs) (u16_in bs 10)) refl r.0 token r.1.1)

  words_bound : (i : ℕ) → IfSome (word_at m i) (WordBound m)
  unfolding m decoded
  words_bound i = read_mapped (word_of (u16_in bs 12)) (λ o. IfSome o (WordBound m)) None tt (word_bound m) (words_in (guards_in bs) (u16_in bs 10)) i

  pub bounded : Bounded (decoded bs)
  unfolding m words decoded
  bounded = record {
    states = s.head.states;
    terminals = s.head.terminals;
    nonterminals = s.head.nonterminals;
    productions = rw (length-counted _ (u16_in bs 6)) s.head.productions;
    records = rw (length-map decodes allowed, length-counted _ (u16_in bs 8)) s.head.records;
    guards = rw (length-map words (word_of (u16_in bs 12)), length-counted _ (u16_in bs 10)) s.head.guards;
    switches = s.head.switches;
    action = actions_bound;
    goto = gotos_bound;
    production = productions_bound;
    «record» = records_bound;
    word = words_bound;
    nesting = scanned.nests;
    branching = rw zero-add at scanned.few;
  }
