-- A configuration's reading is what an LR parser does on the configuration's tokens.
use Rattle.std.proofs.Common.{◌≡◌, ℕ, zero, suc, ◌+◌, ◌≤◌, Bool, true, false, cond, ◌&&◌, ◌⊎◌, List, [], ◌∷◌, ◌++◌, length, drop, Some, None, Option, sym, refl, ap, ◌∙◌, subst, inl, inr, arith}
use Rattle.std.proofs.lemmas.List.{drop_all}
use Rattle.std.proofs.lemmas.Option.{slice_get_past}
use Rattle.std.proofs.lemmas.Bool.{cond-false, cond-true}
use Rattle.units.specs.declared.records.Record.{Record}
use Rattle.delivery.specs.Bounds.{Bounded}
use Rattle.delivery.specs.Model.{Model, finish, record_at}
use Rattle.plain.specs.declared.automaton.Reason.{Reason}
use Rattle.plain.specs.Automaton.{Outcome, shifts, reduces, accepts, fails, outcome}
use Rattle.plain.specs.Branches.{Branch, around, behind, has, is_token, next_place, ones, presence, token_count}
use Rattle.plain.specs.declared.tokens.Token.{Token}
use Rattle.plain.specs.Parser.{Parser, ahead, accepted, failed, over, next, moved, parsed, tokens, tokens_from}
use Rattle.plain.specs.Readings as readings
use Rattle.plain.specs.Readings.{Reading, standing, reading, terminal_of}
use Rattle.plain.specs.declared.reader.Ending.{Ending}
use Rattle.plain.specs.declared.reader.Ending.TheVariants.{Accepted, Failed, Spent}
use Rattle.plain.specs.Standing.{Ends, Parses}
use Rattle.plain.specs.Tokens.{tokens_among, tokens_ahead}
use Rattle.plain.proofs.Walking.{around_more, drop_record, next_at_end, next_by, none_past}
use Rattle.plain.proofs.Stepping.{shift_below}

module _ (m : Model) (k : ℕ) where
  -- the tokens from a place on
  abbrev from : ℕ → List Token
  from p = tokens_from m k p (around m p) (drop p m.records)

  abbrev token_at : ℕ → Token
  token_at p = record { place = p; terminal = terminal_of (record_at m p) }

  from_end : (p : ℕ) → record_at m p ≡ None → from p ≡ token_at p ∷ []
  from_end p e = ap (tokens_from m k p (around m p)) (drop_all p m.records (none_past m.records p e)) ∙ ap (λ o. record { place = p; terminal = terminal_of o } ∷ []) (sym e)

  from_by : (p : ℕ) (r : Record) → record_at m p ≡ Some r → from p ≡ cond (is_token r && has m k (around m p)) (token_at p ∷ from (p + 1)) (from (p + 1))
  from_by p r e =
      ap (tokens_from m k p (around m p)) (drop_record m.records p r e)
      ∙ (λ i.
      let rest = tokens_from m k (p + 1) (sym (around_more m k p r e) i) (drop (p + 1) m.records) in
      cond (is_token r && has m k (around m p)) (record { place = p; terminal = terminal_of (sym e i) } ∷ rest) rest)

  -- at the unit's end nothing is behind a place, and elsewhere the tokens from the next place on
  abbrev Behind : ℕ → List Token → Type 0
  Behind p rest = (record_at m p ≡ None) ⊎ (rest ≡ from (p + 1))

  record Reaches (p q : ℕ) : Type 0 where
    same : from p ≡ from q
    rest : List Token
    behind : Behind q rest
    begins : from q ≡ token_at q ∷ rest

  at_end : (p : ℕ) → record_at m p ≡ None → Reaches p (next_place m k p)
  at_end p e = subst (Reaches p) (sym (next_at_end m k p e)) (record { same = refl; rest = []; behind = inl e; begins = from_end p e })

  -- the next place has the same tokens ahead, and is such a place
  reach : (n p : ℕ) → finish m ≤ p + n → Reaches p (next_place m k p)
  reach zero p h = at_end p (slice_get_past m.records p (omega arith))
  reach (suc n) p h = by (record_at m p) refl (reach n (p + 1) (omega arith))
    where
      on : (r : Record) → record_at m p ≡ Some r → (b : Bool) → (is_token r && has m k (around m p)) ≡ b → Reaches (p + 1) (next_place m k (p + 1)) → Reaches p (next_place m k p)
      on r e true t more =
          subst (Reaches p) (sym (next_by m k p r e ∙ cond-true _ p (next_place m k (p + 1)) t))
          (record { same = refl; rest = from (p + 1); behind = inr refl; begins = from_by p r e ∙ cond-true _ (token_at p ∷ from (p + 1)) (from (p + 1)) t })
      on r e false t more =
          subst (Reaches p) (sym (next_by m k p r e ∙ cond-false _ p (next_place m k (p + 1)) t))
          (record { same = from_by p r e ∙ cond-false _ (token_at p ∷ from (p + 1)) (from (p + 1)) t ∙ more.same; rest = more.rest; behind = more.behind; begins = more.begins })

      by : (o : Option Record) → record_at m p ≡ o → Reaches (p + 1) (next_place m k (p + 1)) → Reaches p (next_place m k p)
      by None e more = at_end p e
      by (Some r) e more = on r e (is_token r && has m k (around m p)) refl more

  reaches : (p : ℕ) → Reaches p (next_place m k p)
  reaches p = reach (finish m) p (omega arith)

  -- a parser that has the tokens from a place on ahead, and a reading that stands there; or both have ended alike
  data Same : Parser → Reading → Type 0 where
    both_ahead : (p : ℕ) (rest : List Token) (stack : List ℕ) → Behind p rest → from p ≡ token_at p ∷ rest → Same (ahead (token_at p ∷ rest) stack) (standing p stack)
    both_accepted : Same accepted readings.accepted
    both_failed : (p : ℕ) (r : Reason) → Same (failed p r) (readings.failed p r)
    both_over : Same over readings.over

  same_from : (p : ℕ) (ts : List Token) (stack : List ℕ) → ts ≡ from p → Same (ahead ts stack) (standing (next_place m k p) stack)
  same_from p ts stack e =
      let r = reaches p in
      subst (λ xs. Same (ahead xs stack) (standing (next_place m k p) stack)) (sym (e ∙ r.same ∙ r.begins)) (both_ahead (next_place m k p) r.rest stack r.behind r.begins)

  module _ (b : Bounded m) where
    acts : (p : ℕ) (rest : List Token) (stack : List ℕ) → Behind p rest → from p ≡ token_at p ∷ rest → (o : Outcome) → outcome m (terminal_of (record_at m p)) stack ≡ o → Same (moved m (token_at p) rest o) (readings.moved m k p o)
    acts p rest stack (inl e) f (shifts st) q =
        absurd (let past : finish m ≤ p = none_past m.records p e in let below = shift_below m stack b p st q in omega arith)
    acts p rest stack (inr e) f (shifts st) q = same_from (p + 1) rest st e
    acts p rest stack s f (reduces st) q = both_ahead p rest st s f
    acts p rest stack s f accepts q = both_accepted
    acts p rest stack s f (fails r) q = both_failed p r

    steps : {x : Parser} {y : Reading} → Same x y → Same (next m x) (readings.next m k y)
    steps (both_ahead p rest stack s f) = acts p rest stack s f (outcome m (terminal_of (record_at m p)) stack) refl
    steps both_accepted = both_over
    steps (both_failed p r) = both_over
    steps both_over = both_over

    -- after any number of actions the parser on the configuration's tokens is where the reading is
    runs : (j : ℕ) → Same (parsed m (tokens m k) j) (reading m k j)
    runs zero = same_from 0 (tokens m k) (0 ∷ []) refl
    runs (suc j) = steps (runs j)

  accepted_too : {x : Parser} {y : Reading} → Same x y → y ≡ readings.accepted → x ≡ accepted
  accepted_too (both_ahead p rest stack s f) e = grind arith
  accepted_too both_accepted e = refl
  accepted_too (both_failed p r) e = grind arith
  accepted_too both_over e = grind arith

  failed_too : {x : Parser} {y : Reading} (q : ℕ) (u : Reason) → Same x y → y ≡ readings.failed q u → x ≡ failed q u
  failed_too q u (both_ahead p rest stack s f) e = grind arith
  failed_too q u both_accepted e = grind arith
  failed_too q u (both_failed p r) e = cc
  failed_too q u both_over e = grind arith

  ahead_too : {x : Parser} {y : Reading} (q : ℕ) (st : List ℕ) → Same x y → y ≡ standing q st → (ts : List Token) × (x ≡ ahead ts st)
  ahead_too q st (both_ahead p rest stack s f) e = let same : stack ≡ st = cc in (token_at p ∷ rest, ap (ahead (token_at p ∷ rest)) same)
  ahead_too q st both_accepted e = grind arith
  ahead_too q st (both_failed p r) e = grind arith
  ahead_too q st both_over e = grind arith

  -- so what ends a reading ends the parser
  pub parses : Bounded m → (budget actions : ℕ) (e : Ending) → Ends m k budget actions e → Parses m k budget actions e
  parses b budget actions Accepted h = accepted_too (runs b actions) h
  parses b budget actions (Failed p r) h = failed_too p r (runs b actions) h
  parses b budget actions Spent h = (h.0, let a = ahead_too h.1.0 h.1.1.0 (runs b budget) h.1.1.1 in (a.0, (h.1.1.0, a.1)))

  -- a parser's tokens are those that the walk gives, and the end
  abbrev end : List Token
  end = record { place = finish m; terminal = 0 } ∷ []

  joined : (p : ℕ) (bs : List Branch) (rs : List Record) → p + length rs ≡ finish m → tokens_from m k p bs rs ≡ tokens_among m k p bs rs ++ end
  joined p bs [] h = let q : p ≡ finish m = omega arith in ap (λ x. record { place = x; terminal = 0 } ∷ []) q
  joined p bs (r ∷ rs) h = let more = joined (p + 1) (behind r bs) rs (omega arith) in grind (arith, more)

  pub all_joined : tokens m k ≡ tokens_ahead m k 0 ++ end
  all_joined = joined 0 [] m.records (omega arith)

  -- there is one token more than are counted, the end
  length_from : (p : ℕ) (bs : List Branch) (rs : List Record) → length (tokens_from m k p bs rs) ≡ ones (presence m k bs rs) + 1
  length_from p bs [] = refl
  length_from p bs (r ∷ rs) = by (is_token r && has m k bs) (length_from (p + 1) (behind r bs) rs)
    where
      by : (x : Bool) → length (tokens_from m k (p + 1) (behind r bs) rs) ≡ ones (presence m k (behind r bs) rs) + 1 → length (cond x (record { place = p; terminal = terminal_of (Some r) } ∷ tokens_from m k (p + 1) (behind r bs) rs) (tokens_from m k (p + 1) (behind r bs) rs)) ≡ cond x 1 0 + ones (presence m k (behind r bs) rs) + 1
      by true e = omega arith
      by false e = omega arith

  pub token_length : length (tokens m k) ≡ token_count m k + 1
  token_length = length_from 0 [] m.records
