-- What the code reads of a delivery is what its model holds.
use Rattle.std.proofs.Common.{◌≡◌, ℕ, suc, ◌+◌, ◌*◌, ◌<◌, ◌≤◌, true, false, ltb, ◌⊎◌, List, [], ◌∷◌, map, length, get_or, drop, slice_index, slice_index_or, is_some, All, IfSome, IsSome, Some, None, Option, unwrap_or, sym, refl, ap, ap₂, ◌∙◌, subst, inl, inr, arith}
use Rattle.std.specs.List.{slice_get}
use Rattle.std.specs.Option.{option_map}
use Rattle.std.proofs.lemmas.Option.{slice_get-get_or, slice_get_past}
use Rattle.std.specs.Simd.{first_chunks}
use Rattle.format.proofs.Chunks.{length-first_chunks, u16_in-row}
use Rattle.std.proofs.lemmas.Nat.{mod-mul-add, mul-add-lt, mul-le}
use Rattle.std.proofs.lemmas.List.{get_or-drop, length-map}
use Rattle.std.proofs.lemmas.List.Elements.{All-cons, All-nil}
use Rattle.std.proofs.lemmas.Bool.{both_ways, cases_lt, cond_both, cond-true, cond-false, le-ltb, lt-ltb}
use Rattle.format.specs.declared.heads.Counts.{Counts}
use Rattle.format.specs.Heads.{counts_of}
use Rattle.format.specs.Words.{row_at, u16_in, words_in}
use Rattle.format.proofs.Counted.{get_or-counted, get_or-counted_past, length-counted, slice_get-counted, slice_get-counted_past}
use Rattle.tables.specs.declared.actions.Action.{Action}
use Rattle.tables.specs.declared.actions.Action.TheVariants.{None as NoAction}
use Rattle.tables.specs.Actions.{action_in, action_of}
use Rattle.tables.specs.Gotos.{goto_of}
use Rattle.tables.specs.Productions.{production_in, production_of}
use Rattle.units.specs.Guards.{leading, word_of}
use Rattle.units.specs.declared.guards.Guard.{Guard}
use Rattle.units.specs.GuardWords.{left_of, numbers_of, said_by}
use Rattle.tables.specs.Cells.{cell_at, cells_of}
use Rattle.tables.specs.declared.table.Table.{Table}
use Rattle.units.specs.Records.{record_of}
use Rattle.delivery.specs.declared.deliveries.Delivery.{Delivery}
use Rattle.delivery.specs.Bounds.{ActionBound, Bounded, Counted, GotoBound, Limited, ProductionBound, RecordBound, WordBound}
use Rattle.delivery.specs.Decoded.{decoded}
use Rattle.delivery.specs.Deliveries.{actions_in, gotos_in, guards_in, productions_in, records_in}
use Rattle.delivery.specs.Model.{action_at, goto_at, guard_at, production_at, record_at, word_at}
use Rattle.delivery.specs.Views.{bytes_of, model_of}
use Rattle.delivery.proofs.Bounding.{bounded, decodes, decodes_at, length-decodes, record_read, record_read_past, scanned}
use Rattle.delivery.proofs.Nested.{allowed, no_some}
use Rattle.delivery.proofs.Sound.{Sound, sound}

some_value : {X : Type 0} (o : Option X) (d : X) → is_some o ≡ true → o ≡ Some (unwrap_or o d)
some_value None d e = absurd (both_ways false refl e)
some_value (Some x) d e = refl

-- what holds of each item that is there holds of those in front of the first that is missing
all_leading : {X : Type 0} (P : X → Type 0) (xs : List (Option X)) → ((i : ℕ) → IfSome (get_or xs i None) P) → All P (leading xs)
all_leading P [] h = All-nil P
all_leading P (None ∷ xs) h = All-nil P
all_leading P (Some x ∷ xs) h = All-cons P x (leading xs) (h 0) (all_leading P xs (λ i. h (suc i)))

-- the place of a row and a column of a table lies inside it, and that of a row past the last past it
cell_below : (q w t h : ℕ) → q < h → t < w → q * w + t < h * w
cell_below q w t h row column = omega (arith, mul-add-lt q w t h row column)

cell_past : (q w t h : ℕ) → h ≤ q → h * w ≤ q * w + t
cell_past q w t h row = let k : h * w ≤ q * w = mul-le h w q w row (omega arith) in omega arith

-- the counts, as the code holds them
module _ (bs : List ℕ) (s : Sound bs) (c : Counts) (e : c ≡ counts_of bs) where
  module _ (q t : ℕ) where
    module _ (row : q < c.states) (column : t < c.terminals) where
      index_below : q * u16_in bs 2 + t < u16_in bs 0 * u16_in bs 2
      index_below = cell_below q (u16_in bs 2) t (u16_in bs 0) (rw e at row) (rw e at column)

      at_index : action_of c.states c.productions t (u16_in (actions_in bs) (2 * (q * c.terminals + t))) ≡ action_in (actions_in bs) (u16_in bs 0) (u16_in bs 2) (u16_in bs 6) (q * u16_in bs 2 + t)
      at_index =
          let b : t < u16_in bs 2 = rw e at column in
          rw (e, mod-mul-add q (u16_in bs 2) t b)

      pub action_value : action_of c.states c.productions t (u16_in (actions_in bs) (2 * (q * c.terminals + t))) ≡ Some (action_at (decoded bs) q t)
      unfolding decoded
      action_value =
          let b : t < u16_in bs 2 = rw e at column in
          at_index
          ∙ some_value (action_in (actions_in bs) (u16_in bs 0) (u16_in bs 2) (u16_in bs 6) (q * u16_in bs 2 + t)) NoAction (s.actions _ index_below)
          ∙ ap Some (sym (cond-true (ltb t (u16_in bs 2)) _ _ (lt-ltb t (u16_in bs 2) b) ∙ get_or-counted _ (u16_in bs 0 * u16_in bs 2) (q * u16_in bs 2 + t) NoAction index_below))

    pub action_past : (c.states ≤ q) ⊎ (c.terminals ≤ t) → action_at (decoded bs) q t ≡ NoAction
    unfolding decoded
    action_past (inr h) = cond-false (ltb t (u16_in bs 2)) _ _ (le-ltb t (u16_in bs 2) (rw e at h))
    action_past (inl h) = cond_both (ltb t (u16_in bs 2)) _ _ (λ a. a ≡ NoAction) (λ l. get_or-counted_past _ (u16_in bs 0 * u16_in bs 2) (q * u16_in bs 2 + t) NoAction (cell_past q (u16_in bs 2) t (u16_in bs 0) (rw e at h))) (λ _. refl)

  module _ (q n : ℕ) where
    module _ (row : q < c.states) (column : n < c.nonterminals) where
      goto_below : q * u16_in bs 4 + n < u16_in bs 0 * u16_in bs 4
      goto_below = cell_below q (u16_in bs 4) n (u16_in bs 0) (rw e at row) (rw e at column)

      pub goto_value : goto_of (u16_in (gotos_in bs) (2 * (q * c.nonterminals + n))) ≡ goto_at (decoded bs) q n
      unfolding decoded
      goto_value =
          let b : n < u16_in bs 4 = rw e at column in
          rw e (sym (cond-true (ltb n (u16_in bs 4)) _ _ (lt-ltb n (u16_in bs 4) b) ∙ get_or-counted _ (u16_in bs 0 * u16_in bs 4) (q * u16_in bs 4 + n) None goto_below))

    pub goto_past : (c.states ≤ q) ⊎ (c.nonterminals ≤ n) → goto_at (decoded bs) q n ≡ None
    unfolding decoded
    goto_past (inr h) = cond-false (ltb n (u16_in bs 4)) _ _ (le-ltb n (u16_in bs 4) (rw e at h))
    goto_past (inl h) = cond_both (ltb n (u16_in bs 4)) _ _ (λ o. o ≡ None) (λ l. get_or-counted_past _ (u16_in bs 0 * u16_in bs 4) (q * u16_in bs 4 + n) None (cell_past q (u16_in bs 4) n (u16_in bs 0) (rw e at h))) (λ _. refl)

  module _ (p : ℕ) where
    pub production_value : p < c.productions → production_of c.nonterminals (u16_in (productions_in bs) (4 * p)) (u16_in (productions_in bs) (4 * p + 2)) ≡ production_at (decoded bs) p
    unfolding decoded
    production_value h =
        let l : p < u16_in bs 6 = rw e at h in
        rw e (some_value (production_in (productions_in bs) (u16_in bs 4) p) _ (s.productions p l) ∙ sym (slice_get-counted _ (u16_in bs 6) p l))

    pub production_past : c.productions ≤ p → production_at (decoded bs) p ≡ None
    unfolding decoded
    production_past h = slice_get-counted_past _ (u16_in bs 6) p (rw e at h)

  module _ (i : ℕ) where
    pub record_value : i < c.records → record_of c.terminals (u16_in (records_in bs) (4 * i)) (u16_in (records_in bs) (4 * i + 2)) ≡ record_at (decoded bs) i
    unfolding decoded
    record_value h =
        let l : i < u16_in bs 8 = rw e at h in
        let long : i < length (decodes bs s) = rw (length-decodes bs s) l in
        let r = (scanned bs s).each i long in
        rw e (sym (decodes_at bs s i l) ∙ r.1.0 ∙ sym (record_read bs s i r.0 long r.1.0))

    pub record_past : c.records ≤ i → record_at (decoded bs) i ≡ None
    unfolding decoded
    record_past h = record_read_past bs s i (rw (e, ← length-decodes bs s) at h)

-- rows of four bytes that hold the words of a part
module _ (k i : ℕ) (part : List ℕ) (rows : List (List ℕ)) (e : rows ≡ first_chunks 4 k part) where
  long : length rows ≡ k
  long = ap length e ∙ length-first_chunks 4 k part

  -- there is a row or there is none
  row_in : i < k → slice_get rows i ≡ Some (get_or rows i [])
  row_in h = slice_get-get_or rows i [] (rw long h)

  pub row_found : {X : Type 0} (f : ℕ → ℕ → X) (ws : List ℕ) → row_at rows i ≡ Some ws → (i < k) × (f (slice_index ws 0) (slice_index ws 1) ≡ f (u16_in part (4 * i)) (u16_in part (4 * i + 2)))
  row_found f ws h = by (cases_lt i k)
    where
      words : List ℕ → List ℕ
      words row = u16_in row 0 ∷ u16_in row 2 ∷ []

      by : (i < k) ⊎ (k ≤ i) → (i < k) × (f (slice_index ws 0) (slice_index ws 1) ≡ f (u16_in part (4 * i)) (u16_in part (4 * i + 2)))
      by (inr l) = no_some ws (sym h ∙ ap (option_map words) (slice_get_past rows i (rw long l)))
      by (inl l) =
          let same : ws ≡ words (get_or rows i []) = let both = sym h ∙ ap (option_map words) (row_in l) in cc in (
            l,
            ap (λ xs. f (slice_index xs 0) (slice_index xs 1)) same
                ∙ ap (λ xs. f (u16_in (get_or xs i []) 0) (u16_in (get_or xs i []) 2)) e
                ∙ ap₂ f (u16_in-row 4 k i 0 (4 * i) part [] l (omega arith) (omega arith)) (u16_in-row 4 k i 2 (4 * i + 2) part [] l (omega arith) (omega arith)),
          )

  pub row_missing : row_at rows i ≡ None → k ≤ i
  row_missing h = by (cases_lt i k)
    where
      by : (i < k) ⊎ (k ≤ i) → k ≤ i
      by (inr l) = l
      by (inl l) = no_some _ (sym (ap (option_map (λ row. u16_in row 0 ∷ u16_in row 2 ∷ [])) (row_in l)) ∙ h)

-- the cells of a table that holds the words of a part
module _ (part : List ℕ) (table : Table) (rows : ℕ) (words : cells_of table ≡ words_in part (rows * table.columns)) (q t : ℕ) where
  cell_in : q < rows → t < table.columns → cell_at table q t ≡ Some (u16_in part (2 * (q * table.columns + t)))
  cell_in row column =
      cond-true (ltb t table.columns) _ _ (lt-ltb t table.columns column)
      ∙ ap (λ ws. slice_get ws (q * table.columns + t)) words
      ∙ slice_get-counted _ (rows * table.columns) (q * table.columns + t) (cell_below q table.columns t rows row column)

  cell_out : (rows ≤ q) ⊎ (table.columns ≤ t) → cell_at table q t ≡ None
  cell_out (inr h) = cond-false (ltb t table.columns) _ _ (le-ltb t table.columns h)
  cell_out (inl h) =
      cond_both (ltb t table.columns) _ _ (λ o. o ≡ None)
      (λ l. ap (λ ws. slice_get ws (q * table.columns + t)) words ∙ slice_get-counted_past _ (rows * table.columns) (q * table.columns + t) (cell_past q table.columns t rows h))
      (λ _. refl)

  -- there is a cell or there is none, and its row and column say which
  cell_cases : ((q < rows) × (t < table.columns)) ⊎ ((rows ≤ q) ⊎ (table.columns ≤ t))
  cell_cases = by (cases_lt q rows) (cases_lt t table.columns)
    where
      by : (q < rows) ⊎ (rows ≤ q) → (t < table.columns) ⊎ (table.columns ≤ t) → ((q < rows) × (t < table.columns)) ⊎ ((rows ≤ q) ⊎ (table.columns ≤ t))
      by (inl row) (inl column) = inl (row, column)
      by (inr h) _ = inr (inl h)
      by (inl row) (inr h) = inr (inr h)

  pub cell_read : (w : ℕ) → cell_at table q t ≡ Some w → (q < rows) × ((t < table.columns) × (w ≡ u16_in part (2 * (q * table.columns + t))))
  cell_read w e = by cell_cases
    where
      by : ((q < rows) × (t < table.columns)) ⊎ ((rows ≤ q) ⊎ (table.columns ≤ t)) → (q < rows) × ((t < table.columns) × (w ≡ u16_in part (2 * (q * table.columns + t))))
      by (inl h) = (h.0, (h.1, let same = sym e ∙ cell_in h.0 h.1 in cc))
      by (inr h) = no_some w (sym e ∙ cell_out h)

  pub cell_missing : cell_at table q t ≡ None → (rows ≤ q) ⊎ (table.columns ≤ t)
  cell_missing e = by cell_cases
    where
      by : ((q < rows) × (t < table.columns)) ⊎ ((rows ≤ q) ⊎ (table.columns ≤ t)) → (rows ≤ q) ⊎ (table.columns ≤ t)
      by (inl h) = no_some _ (sym (cell_in h.0 h.1) ∙ e)
      by (inr h) = h

-- of a delivery
module _ (d : Delivery) where
  pub is_sound : Sound (bytes_of d)
  is_sound = sound (bytes_of d) d.checked

  pub counts_as_read : d.counts ≡ counts_of (bytes_of d)
  counts_as_read = d.counts_are

  pub is_bounded : Bounded (model_of d)
  is_bounded = bounded (bytes_of d) is_sound

  pub is_counted : Counted (model_of d) d.counts
  unfolding decoded
  is_counted =
      let bs = bytes_of d in
      subst (Counted (model_of d)) (sym counts_as_read) (record {
        states = refl;
        terminals = refl;
        nonterminals = refl;
        productions = sym (length-counted _ (u16_in bs 6));
        records = sym (length-map (decodes bs is_sound) allowed ∙ length-decodes bs is_sound);
        guards = sym (length-map (words_in (guards_in bs) (u16_in bs 10)) (word_of (u16_in bs 12)) ∙ length-counted _ (u16_in bs 10));
        switches = refl;
      })

  pub is_limited : Limited d.counts
  is_limited =
      let h = is_sound.head in
      subst Limited (sym counts_as_read) (record { states = h.states; terminals = h.terminals; nonterminals = h.nonterminals; productions = h.productions; records = h.records; guards = h.guards; switches = h.switches })

  -- the guards' words say what the model's do
  pub said_as_read : said_by d.guards ≡ (model_of d).guards
  unfolding decoded
  said_as_read =
      ap (λ n. map (word_of n) (numbers_of d.guards)) (d.switches_are ∙ ap (λ (k : Counts). k.switches) counts_as_read)
      ∙ ap (map (word_of (u16_in (bytes_of d) 12))) (d.guards_are ∙ ap (λ (k : Counts). words_in (guards_in (bytes_of d)) k.guard_words) counts_as_read)

  module _ (q t : ℕ) where
    actions_at : cells_of d.actions ≡ words_in (actions_in (bytes_of d)) (d.counts.states * d.actions.columns)
    actions_at = d.actions_are ∙ ap (λ n. words_in (actions_in (bytes_of d)) (d.counts.states * n)) (sym d.actions_wide)

    -- an action word of the table, and where there is none
    pub action_found : (w : ℕ) → cell_at d.actions q t ≡ Some w → action_of d.counts.states d.counts.productions t w ≡ Some (action_at (model_of d) q t)
    action_found w e =
        let r = cell_read (actions_in (bytes_of d)) d.actions d.counts.states actions_at q t w e in
        ap (action_of d.counts.states d.counts.productions t) (r.1.1 ∙ ap (λ n. u16_in (actions_in (bytes_of d)) (2 * (q * n + t))) d.actions_wide)
        ∙ action_value (bytes_of d) is_sound d.counts counts_as_read q t r.0 (subst (λ n. t < n) d.actions_wide r.1.0)

    pub action_missing : cell_at d.actions q t ≡ None → action_at (model_of d) q t ≡ NoAction
    action_missing e =
        action_past (bytes_of d) is_sound d.counts counts_as_read q t (subst (λ n. (d.counts.states ≤ q) ⊎ (n ≤ t)) d.actions_wide (cell_missing (actions_in (bytes_of d)) d.actions d.counts.states actions_at q t e))

    pub action_is : (w : ℕ) → cell_at d.actions q t ≡ Some w → IsSome (action_of d.counts.states d.counts.productions t w)
    action_is w e = ap is_some (action_found w e)

    pub action_bounded : (w : ℕ) (a : Action) → cell_at d.actions q t ≡ Some w → action_of d.counts.states d.counts.productions t w ≡ Some a → ActionBound (model_of d) t a
    action_bounded w a e f =
        let same : action_at (model_of d) q t ≡ a = let both = sym (action_found w e) ∙ f in cc in
        subst (ActionBound (model_of d) t) same (is_bounded.action q t)

    gotos_at : cells_of d.gotos ≡ words_in (gotos_in (bytes_of d)) (d.counts.states * d.gotos.columns)
    gotos_at = d.gotos_are ∙ ap (λ n. words_in (gotos_in (bytes_of d)) (d.counts.states * n)) (sym d.gotos_wide)

    -- a goto word, and where there is none
    pub goto_found : (w : ℕ) → cell_at d.gotos q t ≡ Some w → goto_of w ≡ goto_at (model_of d) q t
    goto_found w e =
        let r = cell_read (gotos_in (bytes_of d)) d.gotos d.counts.states gotos_at q t w e in
        ap goto_of (r.1.1 ∙ ap (λ n. u16_in (gotos_in (bytes_of d)) (2 * (q * n + t))) d.gotos_wide)
        ∙ goto_value (bytes_of d) is_sound d.counts counts_as_read q t r.0 (subst (λ n. t < n) d.gotos_wide r.1.0)

    pub goto_bounded : (w : ℕ) → cell_at d.gotos q t ≡ Some w → IfSome (goto_of w) (GotoBound (model_of d))
    goto_bounded w e = subst (λ o. IfSome o (GotoBound (model_of d))) (sym (goto_found w e)) (is_bounded.goto q t)

    pub goto_missing : cell_at d.gotos q t ≡ None → None ≡ goto_at (model_of d) q t
    goto_missing e =
        sym (goto_past (bytes_of d) is_sound d.counts counts_as_read q t (subst (λ n. (d.counts.states ≤ q) ⊎ (n ≤ t)) d.gotos_wide (cell_missing (gotos_in (bytes_of d)) d.gotos d.counts.states gotos_at q t e)))

  module _ (i : ℕ) where
    -- a production's words, and where there are none
    pub production_found : (ws : List ℕ) → row_at d.productions.now i ≡ Some ws → production_of d.counts.nonterminals (slice_index ws 0) (slice_index ws 1) ≡ production_at (model_of d) i
    production_found ws e =
        let r = row_found _ i _ _ d.productions_are (production_of d.counts.nonterminals) ws e in
        r.1 ∙ production_value (bytes_of d) is_sound d.counts counts_as_read i r.0

    pub production_missing : row_at d.productions.now i ≡ None → None ≡ production_at (model_of d) i
    production_missing e = sym (production_past (bytes_of d) is_sound d.counts counts_as_read i (row_missing _ i _ _ d.productions_are e))

    pub production_bounded : (ws : List ℕ) → row_at d.productions.now i ≡ Some ws → IfSome (production_of d.counts.nonterminals (slice_index ws 0) (slice_index ws 1)) (ProductionBound (model_of d))
    production_bounded ws e = subst (λ o. IfSome o (ProductionBound (model_of d))) (sym (production_found ws e)) (is_bounded.production i)

    -- a record's words, and where there are none
    pub record_found : (ws : List ℕ) → row_at d.records.now i ≡ Some ws → record_of d.counts.terminals (slice_index ws 0) (slice_index ws 1) ≡ record_at (model_of d) i
    record_found ws e =
        let r = row_found _ i _ _ d.records_are (record_of d.counts.terminals) ws e in
        r.1 ∙ record_value (bytes_of d) is_sound d.counts counts_as_read i r.0

    pub record_missing : row_at d.records.now i ≡ None → None ≡ record_at (model_of d) i
    record_missing e = sym (record_past (bytes_of d) is_sound d.counts counts_as_read i (row_missing _ i _ _ d.records_are e))

    pub record_bounded : (ws : List ℕ) → row_at d.records.now i ≡ Some ws → IfSome (record_of d.counts.terminals (slice_index ws 0) (slice_index ws 1)) (RecordBound (model_of d))
    record_bounded ws e = subst (λ o. IfSome o (RecordBound (model_of d))) (sym (record_found ws e)) (is_bounded.«record» i)

    -- a guard's word
    pub word_found : slice_index_or (said_by d.guards) i None ≡ word_at (model_of d) i
    word_found = ap (λ ws. slice_index_or ws i None) said_as_read

    pub guard_found : leading (drop i (said_by d.guards)) ≡ guard_at (model_of d) i
    guard_found = ap (λ ws. leading (drop i ws)) said_as_read

    pub guard_bounded : (g : Guard) → left_of g ≡ leading (drop i (said_by d.guards)) → All (WordBound (model_of d)) (left_of g)
    guard_bounded g e =
        let all = all_leading (WordBound (model_of d)) (drop i (model_of d).guards) (λ k. subst (λ o. IfSome o (WordBound (model_of d))) (sym (get_or-drop i (model_of d).guards k None)) (is_bounded.word (i + k))) in
        subst (All (WordBound (model_of d))) (sym (e ∙ guard_found)) all
