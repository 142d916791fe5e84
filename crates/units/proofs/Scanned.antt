-- The records of a part, one after the other.
use Rattle.std.proofs.Common.{◌≡◌, ℕ, ◌+◌, ◌*◌, ◌<◌, ◌≤◌, eqb, List, [], ◌∷◌, length, get_or, drop, Some, None, Ok, Err, Option, sym, ap, ap₂, subst, ◌∙◌, zero-add, arith}
use Rattle.std.specs.Simd.{first_chunks}
use Rattle.std.proofs.lemmas.List.FromFn.{get_or-map-range_with_len, length-map-range_with_len}
use Rattle.std.proofs.lemmas.List.{at_drop_all, at_drop_more}
use Rattle.format.specs.Firsts.{unless}
use Rattle.format.specs.Words.{u16_in}
use Rattle.format.proofs.Chunks.{length-first_chunks, u16_in-row}
use Rattle.units.specs.declared.records.Record.{Record}
use Rattle.units.specs.Records.{record_of, records_in}
use Rattle.units.specs.Scans.{State, and_on, passed, scanned}

-- the record in a row of a part
pub record_in : (part : List ℕ) (terminals k i : ℕ) (rows : List (List ℕ)) → rows ≡ first_chunks 4 k part → i < length rows → record_of terminals (u16_in (get_or rows i []) 0) (u16_in (get_or rows i []) 2) ≡ record_of terminals (u16_in part (4 * i)) (u16_in part (4 * i + 2))
record_in part terminals k i rows e h =
    let below : i < k = subst (λ n. i < n) (ap length e ∙ length-first_chunks 4 k part) h in
    ap (λ ws. record_of terminals (u16_in (get_or ws i []) 0) (u16_in (get_or ws i []) 2)) e
    ∙ ap₂ (record_of terminals) (u16_in-row 4 k i 0 (4 * i) part [] below (omega arith) (omega arith)) (u16_in-row 4 k i 2 (4 * i + 2) part [] below (omega arith) (omega arith))

module _ (part : List ℕ) (terminals records : ℕ) where
  -- the record at index i
  abbrev at : ℕ → Option Record
  at i = record_of terminals (u16_in part (4 * i)) (u16_in part (4 * i + 2))

  pub length-records_in : length (records_in part terminals records) ≡ records
  length-records_in = length-map-range_with_len at 0 records

  pub get_or-records_in : (i : ℕ) → i < records → get_or (records_in part terminals records) i None ≡ record_of terminals (u16_in part (4 * i)) (u16_in part (4 * i + 2))
  get_or-records_in i h = get_or-map-range_with_len at 0 records i i None h (zero-add i)

  module _ (words : List ℕ) (switches i : ℕ) (s : State) where
    -- behind the last record
    pub scanned-past : records ≤ i → scanned words switches i s (drop i (records_in part terminals records)) ≡ unless (eqb (length s.nesting) 0) (8, i)
    scanned-past h = at_drop_all (scanned words switches i s) (records_in part terminals records) i (rw length-records_in h)

    -- the record r comes next
    module _ (r : Option Record) (h : i < records) (e : r ≡ record_of terminals (u16_in part (4 * i)) (u16_in part (4 * i + 2))) where
      next : scanned words switches i s (drop i (records_in part terminals records)) ≡ and_on (passed words switches i s r) (λ t. scanned words switches (i + 1) t (drop (i + 1) (records_in part terminals records)))
      next =
          at_drop_more (scanned words switches i s) (records_in part terminals records) i None (rw length-records_in h)
          ∙ ap (λ x. scanned words switches i s (x ∷ drop (i + 1) (records_in part terminals records))) (get_or-records_in i h ∙ sym e)

      pub scanned-refused : (n p : ℕ) → Err (n, p) ≡ passed words switches i s r → scanned words switches i s (drop i (records_in part terminals records)) ≡ Some (n, p)
      scanned-refused n p q = next ∙ rw (← q)

      pub scanned-goes : (t : State) → Ok t ≡ passed words switches i s r → scanned words switches i s (drop i (records_in part terminals records)) ≡ scanned words switches (i + 1) t (drop (i + 1) (records_in part terminals records))
      scanned-goes t q = next ∙ rw (← q)
