-- Records of which none is refused are well nested, and name valid guards.
use Rattle.std.proofs.Common.{◌≡◌, ℕ, zero, suc, ◌+◌, ◌<◌, ◌≤◌, Bool, true, false, cond, leb, List, [], ◌∷◌, map, length, get_or, Some, None, Ok, Err, Option, Result, unwrap_or, sym, refl, ap, ◌∙◌, arith}
use Rattle.std.proofs.lemmas.List.{nil_from_length}
use Rattle.std.proofs.lemmas.Option.{none-some}
use Rattle.std.proofs.lemmas.Bool.{eqb-true, leb-true}
use Rattle.format.proofs.Firsts.{unless-none}
use Rattle.units.specs.declared.records.Record.{Record}
use Rattle.units.specs.declared.records.Record.TheVariants.{End}
use Rattle.units.specs.Scans.{State, and_on, begun, guard_good, nested, passed, scanned}
use Rattle.delivery.specs.Bounds.{WellNested, branches}

pub no_some : {X : Type 0} {Y : Type 0} (x : X) → ◌≡◌ {A = Option X} (Some x) None → Y
no_some x e = absurd (none-some x (sym e))

-- what is allowed, with the end of a conditional in the place of what is not
abbrev pub allowed : Option Record → Record
allowed r = unwrap_or r End

module _ (words : List ℕ) (switches : ℕ) where
  -- what holds of a record that passes, and of what comes behind it
  record Passes (s : State) (o : Option Record) (rest : State → Option (ℕ × ℕ)) : Type 0 where
    item : Record
    behind : List Bool
    is : o ≡ Some item
    nests : nested item s.nesting ≡ Some behind
    guarded : guard_good words switches item ≡ true
    few : s.branches + begun item ≤ 256
    goes : rest (record { nesting = behind; branches = s.branches + begun item }) ≡ None

  passes_from : (i : ℕ) (s : State) (o : Option Record) (rest : State → Option (ℕ × ℕ)) → and_on (passed words switches i s o) rest ≡ None → Passes s o rest
  passes_from i s None rest e = no_some (7, i) e
  passes_from i s (Some r) rest e = nests (nested r s.nesting) refl e
    where
      counted : List Bool → Result State (ℕ × ℕ)
      counted os = cond (leb (s.branches + begun r) 256) (Ok (record { nesting = os; branches = s.branches + begun r })) (Err (10, i))

      many : (os : List Bool) → nested r s.nesting ≡ Some os → guard_good words switches r ≡ true → (b : Bool) → leb (s.branches + begun r) 256 ≡ b → and_on (cond b (Ok (record { nesting = os; branches = s.branches + begun r })) (Err (10, i))) rest ≡ None → Passes s (Some r) rest
      many os q g true t h = record { item = r; behind = os; is = refl; nests = q; guarded = g; few = leb-true _ 256 t; goes = h }
      many os q g false t h = no_some (10, i) h

      guards : (os : List Bool) → nested r s.nesting ≡ Some os → (b : Bool) → guard_good words switches r ≡ b → and_on (cond b (counted os) (Err (9, i))) rest ≡ None → Passes s (Some r) rest
      guards os q true g h = many os q g (leb (s.branches + begun r) 256) refl h
      guards os q false g h = no_some (9, i) h

      nests : (n : Option (List Bool)) → nested r s.nesting ≡ n → and_on (elim n [ None ↦ Err (8, i) | Some os ↦ cond (guard_good words switches r) (counted os) (Err (9, i)) ]) rest ≡ None → Passes s (Some r) rest
      nests None q h = no_some (8, i) h
      nests (Some os) q h = guards os q (guard_good words switches r) refl h

  pub record Scans (s : State) (rs : List (Option Record)) : Type 0 where
    pub nests : WellNested s.nesting (map allowed rs)
    pub few : s.branches + branches (map allowed rs) ≤ 256
    pub each : (j : ℕ) → j < length rs → (r : Record) × ((get_or rs j None ≡ Some r) × (guard_good words switches r ≡ true))

  pub scans : (i : ℕ) (s : State) (rs : List (Option Record)) → s.branches ≤ 256 → scanned words switches i s rs ≡ None → Scans s rs
  scans i s [] h e = record { nests = nil_from_length s.nesting (eqb-true _ 0 (unless-none _ _ e)); few = omega arith; each = λ j l. absurd (omega arith) }
  scans i s (o ∷ rs) h e = more (passes_from i s o (λ t. scanned words switches (i + 1) t rs) e) (λ t l q. scans (i + 1) t rs l q)
    where
      more : Passes s o (λ t. scanned words switches (i + 1) t rs) → ((t : State) → t.branches ≤ 256 → scanned words switches (i + 1) t rs ≡ None → Scans t rs) → Scans s (o ∷ rs)
      more p rest =
          let r = p.item in
          let k = rest (record { nesting = p.behind; branches = s.branches + begun r }) p.few p.goes in
          let same : allowed o ≡ r = ap allowed p.is in
          record {
            nests = (p.behind, (ap (λ x. nested x s.nesting) same ∙ p.nests, k.nests));
            few = let n : s.branches + begun r + branches (map allowed rs) ≤ 256 = k.few in rw same (omega arith);
            each = elim [ zero ↦ (λ l. (r, (p.is, p.guarded))) | suc j ↦ (λ l. k.each j (omega arith)) ];
          }
