-- Where a reader stands, from action to action.
use Rattle.std.proofs.Common.{◌≡◌, ℕ, zero, suc, ◌+◌, ◌<◌, ◌≤◌, Bool, true, false, List, [], drop, Some, None, Option, sym, refl, ap, ◌∙◌, subst, add-one, add-suc, add-zero, arith}
use Rattle.std.proofs.lemmas.Option.{slice_get_within}
use Rattle.tables.specs.declared.actions.Action.{Action}
use Rattle.tables.specs.declared.actions.Action.TheVariants.{None as NoSuch, Shift, Reduce, Accept}
use Rattle.tables.specs.declared.productions.Production.{Production}
use Rattle.units.specs.declared.records.Record.{Record}
use Rattle.stacks.specs.Views.{items_of}
use Rattle.delivery.specs.Bounds.{ActionBound, Bounded}
use Rattle.delivery.specs.Model.{Model, action_at, finish, goto_at, production_at, record_at}
use Rattle.delivery.specs.Views.{model_of}
use Rattle.plain.specs.declared.configuration.Configuration.{Configuration}
use Rattle.plain.specs.declared.frame.Frame.{Frame}
use Rattle.plain.specs.declared.reader.Reader.{Reader}
use Rattle.plain.specs.declared.reader.Status.{Status}
use Rattle.plain.specs.declared.reader.Status.TheVariants.{Standing, Accepted, Failed}
use Rattle.plain.specs.declared.tokens.Token.{Token}
use Rattle.plain.specs.declared.tokens.Tokens.{Tokens}
use Rattle.plain.specs.Automaton.{Outcome, shifts, reduces, accepts, fails, acted, gone, outcome, reduced, top}
use Rattle.plain.specs.Branches.{around}
use Rattle.plain.specs.Frames.{frames_of}
use Rattle.plain.specs.Places.{At}
use Rattle.plain.specs.Readers.{Placed, Stands, shown, shown_after, shown_next}
use Rattle.plain.specs.Readings.{moved, next, reading, terminal_of}
use Rattle.plain.specs.Standing.{Ends, ending_as, is_standing, shown_as}
use Rattle.plain.specs.Tokens.{first_or_end, tokens_ahead}
use Rattle.plain.specs.Walks.{tokens_left}
use Rattle.plain.proofs.Walking.{Reached, at_start, reaches}

-- at the start
pub starts_at : (m : Model) (k p : ℕ) (fs : List Frame) → p ≡ 0 → fs ≡ [] → At m k p fs
starts_at m k p fs e f = record { within = rw e (at_start m k).within; frames = f ∙ ap (λ q. frames_of m k (around m q)) (sym e) }

-- a reader that stands makes the action of its place and stack
pub shown_more : (m : Model) (r : Reader) (t : ℕ) (o : Outcome) → r.status ≡ Standing → t ≡ terminal_of (record_at m r.cursor.place) → outcome m t (items_of r.stack) ≡ o → shown_next m r ≡ moved m r.configuration r.cursor.place o
shown_more m r t o e f g =
    ap (λ a. next m r.configuration (shown_as a r.cursor.place (items_of r.stack))) e
    ∙ ap (λ u. moved m r.configuration r.cursor.place (outcome m u (items_of r.stack))) (sym f)
    ∙ ap (moved m r.configuration r.cursor.place) g

pub one_more : (m : Model) (j : ℕ) (r : Reader) (t : ℕ) (o : Outcome) → r.status ≡ Standing → Stands m j r → t ≡ terminal_of (record_at m r.cursor.place) → outcome m t (items_of r.stack) ≡ o → reading m r.configuration (j + 1) ≡ moved m r.configuration r.cursor.place o
one_more m j r t o e s f g = rw add-one (ap (next m r.configuration) s.shows ∙ shown_more m r t o e f g)

-- so it stands one action later
pub stands_more : (m : Model) (j : ℕ) (r s : Reader) → s.configuration ≡ r.configuration → Placed m s → shown s ≡ shown_next m r → Stands m j r → Stands m (j + 1) s
stands_more m j r s same at e h = record { shows = rw (same, add-one) (ap (next m r.configuration) h.shows ∙ sym e); at = at }

-- and where a reader is as it was, it stands where it stood
pub stands_same : (m : Model) (j n i : ℕ) (r s : Reader) → s ≡ r → n ≡ i → Stands m (j + i) r → Stands m (j + n) s
stands_same m j n i r s e q h = subst (λ x. Stands m (j + x) s) (sym q) (subst (Stands m (j + i)) (sym e) h)

-- and a reader shows so many actions later what the reading does
pub after_more : (m : Model) (n : ℕ) (r s t : Reader) → s.configuration ≡ r.configuration → shown s ≡ shown_after m n r → shown t ≡ shown_next m s → shown t ≡ shown_after m (n + 1) r
after_more m n r s t same e f = rw add-one (f ∙ (λ i. next m (same i) (e i)))

-- where a reader shows its configuration's reading after j actions, what it would show n actions later is the reading after j + n
reading_after : (m : Model) (j n : ℕ) (r : Reader) → reading m r.configuration j ≡ shown r → reading m r.configuration (j + n) ≡ shown_after m n r
reading_after m j zero r h = rw add-zero h
reading_after m j (suc n) r h = rw add-suc (ap (next m r.configuration) (reading_after m j n r h))

-- so a reader of the same configuration that shows this shows the reading after as many actions more
pub stands_after : (m : Model) (j n i : ℕ) (r s : Reader) → s.configuration ≡ r.configuration → shown s ≡ shown_after m i r → n ≡ i → reading m r.configuration j ≡ shown r → reading m s.configuration (j + n) ≡ shown s
stands_after m j n i r s same e q h =
    ap (λ k. reading m k (j + n)) same ∙ reading_after m j n r h ∙ ap (λ x. shown_after m x r) q ∙ sym e

-- the token that is taken where those from a place on are left
pub taken : (s t : Tokens) (x : Token) (p : ℕ) → p ≤ finish (model_of s.configuration.delivery) → tokens_left s ≡ tokens_ahead (model_of s.configuration.delivery) s.configuration.number p → t.configuration ≡ s.configuration → x ≡ first_or_end (model_of s.configuration.delivery) (tokens_left s) → tokens_left t ≡ drop 1 (tokens_left s) → Reached (model_of t.configuration.delivery) t.configuration.number p x (tokens_left t)
taken s t x p h q e f l =
    let m = model_of s.configuration.delivery in
    let k = s.configuration.number in
    let all = subst (λ ts. Reached m k p (first_or_end m ts) (drop 1 ts)) (sym q) (reaches m k p h) in
    let first = subst (λ y. Reached m k p y (drop 1 (tokens_left s))) (sym f) all in
    let left = subst (Reached m k p x) (sym l) first in
    subst (λ (c : Configuration). Reached (model_of c.delivery) c.number p x (tokens_left t)) (sym e) left

abbrev is_shift : Outcome → Bool
is_shift (shifts st) = true
is_shift (reduces st) = false
is_shift accepts = false
is_shift (fails r) = false

module _ (m : Model) (stack : List ℕ) where
  gone_no_shift : (o : Option ℕ) (left : List ℕ) → is_shift (gone o left) ≡ false
  gone_no_shift None left = refl
  gone_no_shift (Some q) left = grind arith

  reduced_no_shift : (p : Option Production) → is_shift (reduced m stack p) ≡ false
  reduced_no_shift None = refl
  reduced_no_shift (Some p) = let gone = gone_no_shift (goto_at m (top (drop p.length stack)) p.left) (drop p.length stack) in grind arith

  -- terminal 0 is never shifted
  end_no_shift : (a : Action) → ActionBound m 0 a → is_shift (acted m stack a) ≡ false
  end_no_shift NoSuch b = refl
  end_no_shift (Shift q) b = grind arith
  end_no_shift (Reduce p) b = reduced_no_shift (production_at m p)
  end_no_shift Accept b = refl

  -- so a shift is made at a token
  pub shift_below : Bounded m → (p : ℕ) (st : List ℕ) → outcome m (terminal_of (record_at m p)) stack ≡ shifts st → p < finish m
  shift_below b p st e = by (record_at m p) refl e
    where
      by : (r : Option Record) → record_at m p ≡ r → outcome m (terminal_of r) stack ≡ shifts st → p < finish m
      by None q h = let no = end_no_shift (action_at m (top stack) 0) (b.action (top stack) 0) in let shift = ap is_shift h in grind arith
      by (Some r) q h = slice_get_within m.records p r q

-- the ending that is told is that of the reading
pub ends_as : (m : Model) (k budget actions : ℕ) (a : Status) (p : ℕ) (stack : List ℕ) → reading m k actions ≡ shown_as a p stack → (is_standing a ≡ true → actions ≡ budget) → Ends m k budget actions (ending_as a p)
ends_as m k budget actions Standing p stack e h = let all = h refl in (all, (p, (stack, ap (reading m k) (sym all) ∙ e)))
ends_as m k budget actions Accepted p stack e h = e
ends_as m k budget actions (Failed r) p stack e h = e
