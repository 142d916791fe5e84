-- The tokens of a configuration, from one record of a unit to the next.
use Rattle.std.proofs.Common.{◌≡◌, ℕ, zero, suc, ◌+◌, ◌-◌, ◌<◌, ◌≤◌, Bool, true, false, cond, ◌&&◌, List, [], ◌∷◌, length, take, drop, Some, None, Option, refl, sym, ap, ◌∙◌, subst, add-one, arith, drop-cons}
use Rattle.std.specs.List.{cons_option, slice_get}
use Rattle.std.proofs.lemmas.Bool.{cond-false, cond-true}
use Rattle.std.proofs.lemmas.List.{drop_all}
use Rattle.std.proofs.lemmas.Option.{get_or_from_slice_get, slice_get_cases, slice_get_past, slice_get_within}
use Rattle.units.specs.declared.records.Record.{Record}
use Rattle.delivery.specs.Bounds.{Bounded}
use Rattle.delivery.specs.Model.{Model, finish, record_at}
use Rattle.plain.specs.declared.frame.Frame.{Frame}
use Rattle.plain.specs.declared.tokens.Token.{Token}
use Rattle.plain.specs.Branches.{Branch, around, behind, behind_all, first_from, has, is_token, next_place, ones, presence, token_count}
use Rattle.plain.specs.Frames.{framed, frames_of, has_innermost}
use Rattle.plain.specs.Places.{At}
use Rattle.plain.specs.Readings.{terminal_of}
use Rattle.plain.specs.Tokens.{first_or_end, token_of, tokens_among, tokens_ahead}
use Rattle.plain.proofs.Depth.{few_around}
use Rattle.plain.proofs.Framing.{framed_behind, innermost_has, length-frames_of}

-- the records from a place on
pub drop_record : (rs : List Record) (p : ℕ) (r : Record) → slice_get rs p ≡ Some r → drop p rs ≡ r ∷ drop (p + 1) rs
drop_record rs p r e = rw add-one (drop-cons rs p r (slice_get_within rs p r e) ∙ ap (λ y. y ∷ drop (suc p) rs) (get_or_from_slice_get rs p r r e))

pub none_past : (rs : List Record) (p : ℕ) → slice_get rs p ≡ None → length rs ≤ p
none_past rs p e = grind (arith, slice_get_cases rs p)

pub record_within : (rs : List Record) (p : ℕ) (r : Record) → slice_get rs p ≡ Some r → p < length rs
record_within = slice_get_within

-- the branches around the next place
behind_more : (bs : List Branch) (rs : List Record) (p : ℕ) (r : Record) → slice_get rs p ≡ Some r → behind_all bs (take (p + 1) rs) ≡ behind r (behind_all bs (take p rs))
behind_more bs [] p r e = grind arith
behind_more bs (x ∷ rs) zero r e = let s : x ≡ r = cc in ap (λ y. behind y bs) s
behind_more bs (x ∷ rs) (suc p) r e = rw add-one (rw add-one at (behind_more (behind x bs) rs p r e))

module _ (m : Model) (k : ℕ) where
  drop-presence : (bs : List Branch) (rs : List Record) (p : ℕ) → drop p (presence m k bs rs) ≡ presence m k (behind_all bs (take p rs)) (drop p rs)
  drop-presence bs rs zero = refl
  drop-presence bs [] (suc p) = refl
  drop-presence bs (r ∷ rs) (suc p) = drop-presence (behind r bs) rs p

  -- the next place, from what lies ahead of a place
  from_here : (p : ℕ) → next_place m k p ≡ first_from p (presence m k (around m p) (drop p m.records))
  from_here p = ap (first_from p) (drop-presence [] m.records p)

  -- behind the last record there is no token
  pub ahead_end : (p : ℕ) → record_at m p ≡ None → tokens_ahead m k p ≡ []
  ahead_end p e = ap (tokens_among m k p (around m p)) (drop_all p m.records (none_past m.records p e))

  pub next_at_end : (p : ℕ) → record_at m p ≡ None → next_place m k p ≡ p
  next_at_end p e = from_here p ∙ ap (λ rs. first_from p (presence m k (around m p) rs)) (drop_all p m.records (none_past m.records p e))

  module _ (p : ℕ) (r : Record) (e : record_at m p ≡ Some r) where
    pub around_more : around m (p + 1) ≡ behind r (around m p)
    around_more = behind_more [] m.records p r e

    -- the tokens from a place on, and the place of the first, by the record there
    ahead_by : tokens_ahead m k p ≡ cons_option (token_of p r (has m k (around m p))) (tokens_ahead m k (p + 1))
    ahead_by =
        ap (tokens_among m k p (around m p)) (drop_record m.records p r e)
        ∙ ap (λ bs. cons_option (token_of p r (has m k (around m p))) (tokens_among m k (p + 1) bs (drop (p + 1) m.records))) (sym around_more)

    pub next_by : next_place m k p ≡ cond (is_token r && has m k (around m p)) p (next_place m k (p + 1))
    next_by =
        from_here p
        ∙ ap (λ rs. first_from p (presence m k (around m p) rs)) (drop_record m.records p r e)
        ∙ ap (cond (is_token r && has m k (around m p)) p) (ap (λ bs. first_from (p + 1) (presence m k bs (drop (p + 1) m.records))) (sym around_more) ∙ sym (from_here (p + 1)))

    pub within : p < finish m
    within = slice_get_within m.records p r e

    module _ (fs : List Frame) (at : At m k p fs) where
      present : (is_token r && has_innermost fs) ≡ (is_token r && has m k (around m p))
      present = ap (λ b. is_token r && b) (ap has_innermost at.frames ∙ innermost_has m k (around m p))

      -- a token that the configuration has is the next, and any other record is passed
      pub next_here : (is_token r && has_innermost fs) ≡ true → next_place m k p ≡ p
      next_here t = next_by ∙ cond-true _ p (next_place m k (p + 1)) (sym present ∙ t)

      pub next_past : (is_token r && has_innermost fs) ≡ false → next_place m k p ≡ next_place m k (p + 1)
      next_past f = next_by ∙ cond-false _ p (next_place m k (p + 1)) (sym present ∙ f)

      pub ahead_framed : tokens_ahead m k p ≡ cons_option (token_of p r (has_innermost fs)) (tokens_ahead m k (p + 1))
      ahead_framed = ahead_by ∙ ap (λ b. cons_option (token_of p r b) (tokens_ahead m k (p + 1))) (sym (ap has_innermost at.frames ∙ innermost_has m k (around m p)))

      framed_more : framed m k r fs ≡ frames_of m k (around m (p + 1))
      framed_more = ap (framed m k r) at.frames ∙ framed_behind m k r (around m p) ∙ ap (frames_of m k) (sym around_more)

      pub framed_few : Bounded m → length (framed m k r fs) ≤ 64
      framed_few b = rw (framed_more, length-frames_of m k (around m (p + 1))) (few_around m b (p + 1))

      pub at_more : (gs : List Frame) → gs ≡ framed m k r fs → At m k (p + 1) gs
      at_more gs q = record { within = let h = within in omega arith; frames = q ∙ framed_more }

  -- a token, or the end, with the tokens behind it, is what a reading comes to from a place on
  pub record Reached (p : ℕ) (t : Token) (ts : List Token) : Type 0 where
    pub place : t.place ≡ next_place m k p
    pub inside : t.place ≤ finish m
    pub terminal : t.terminal ≡ terminal_of (record_at m t.place)
    pub left : ts ≡ tokens_ahead m k (t.place + 1)

  abbrev Reaches : ℕ → Type 0
  Reaches p = Reached p (first_or_end m (tokens_ahead m k p)) (drop 1 (tokens_ahead m k p))

  at_end : (p : ℕ) → record_at m p ≡ None → p ≡ finish m → Reaches p
  at_end p e q =
      subst (λ ts. Reached p (first_or_end m ts) (drop 1 ts)) (sym (ahead_end p e))
      (record {
        place = sym (next_at_end p e ∙ q);
        inside = omega arith;
        terminal = ap terminal_of (sym (slice_get_past m.records (finish m) (omega arith)));
        left = sym (ahead_end (finish m + 1) (slice_get_past m.records (finish m + 1) (omega arith)));
      })

  by_record : (p : ℕ) (r : Record) → record_at m p ≡ Some r → Reaches (p + 1) → Reaches p
  by_record p r e more =
      subst (λ ts. Reached p (first_or_end m ts) (drop 1 ts)) (sym (ahead_by p r e))
      (by (is_token r && has m k (around m p)) (next_by p r e))
    where
      by : (b : Bool) → next_place m k p ≡ cond b p (next_place m k (p + 1)) → (let ts = cons_option (cond b (Some (record { place = p; terminal = terminal_of (Some r) })) None) (tokens_ahead m k (p + 1)) in Reached p (first_or_end m ts) (drop 1 ts))
      by true q = record { place = sym q; inside = let h = within p r e in omega arith; terminal = ap terminal_of (sym e); left = refl }
      by false q = record { place = more.place ∙ sym q; inside = more.inside; terminal = more.terminal; left = more.left }

  reach : (n p : ℕ) → p + n ≡ finish m → Reaches p
  reach zero p h = at_end p (slice_get_past m.records p (omega arith)) (omega arith)
  reach (suc n) p h = by (record_at m p) refl (reach n (p + 1) (omega arith))
    where
      by : (o : Option Record) → record_at m p ≡ o → Reaches (p + 1) → Reaches p
      by None e more = absurd (let past = none_past m.records p e in omega arith)
      by (Some r) e more = by_record p r e more

  pub reaches : (p : ℕ) → p ≤ finish m → Reaches p
  reaches p h = reach (finish m - p) p (omega arith)

  -- there are as many tokens as are counted
  length-among : (p : ℕ) (bs : List Branch) (rs : List Record) → length (tokens_among m k p bs rs) ≡ ones (presence m k bs rs)
  length-among p bs [] = refl
  length-among p bs (r ∷ rs) = grind (arith, length-among (p + 1) (behind r bs) rs)

  pub counted : length (tokens_ahead m k 0) ≡ token_count m k
  counted = length-among 0 [] m.records

  ones-few : (bs : List Branch) (rs : List Record) → ones (presence m k bs rs) ≤ length rs
  ones-few bs [] = omega arith
  ones-few bs (r ∷ rs) = grind (arith, ones-few (behind r bs) rs)

  pub few_ahead : Bounded m → length (tokens_ahead m k 0) ≤ 4096
  few_ahead b = let few = ones-few [] m.records in let all = b.records in rw counted (omega arith)

-- at the start
pub at_start : (m : Model) (k : ℕ) → At m k 0 []
at_start m k = record { within = omega arith; frames = refl }
