-- What holds of a head that no rule refuses.
use Rattle.std.proofs.Common.{◌≡◌, ℕ, ◌+◌, ◌*◌, ◌≤◌, ◌&&◌, eqb, leb, List, length, None, arith, length-drop, length-take}
use Rattle.std.proofs.lemmas.Bool.{and_parts, eqb-true, leb-true}
use Rattle.format.specs.Heads.{count_refusal, counts_refusal, head_refusal, pair_refusal, pairs_refusal, part_of, span_of}
use Rattle.format.specs.Words.{u16_in, u32_in}
use Rattle.format.proofs.Firsts.{none_parts, unless-none}

-- a count that is not refused is within its limits
count_within : (bs : List ℕ) (at low high : ℕ) → count_refusal bs at low high ≡ None → (low ≤ u16_in bs at) × (u16_in bs at ≤ high)
count_within bs at low high e =
    let p = and_parts (leb low (u16_in bs at)) (leb (u16_in bs at) high) (unless-none _ _ e) in
    (leb-true low (u16_in bs at) p.0, leb-true (u16_in bs at) high p.1)

-- a part whose pair is not refused has its size
part_long : (bs : List ℕ) (at least size : ℕ) → pair_refusal bs at least size ≡ None → length (part_of bs (span_of bs at)) ≡ size
part_long bs at least size e =
    let p = and_parts (leb least (u32_in bs at)) (eqb (u32_in bs (at + 4)) size && leb (u32_in bs at + u32_in bs (at + 4)) (length bs)) (unless-none _ _ e) in
    let q = and_parts (eqb (u32_in bs (at + 4)) size) (leb (u32_in bs at + u32_in bs (at + 4)) (length bs)) p.1 in
    let same = eqb-true (u32_in bs (at + 4)) size q.0 in
    let inside = leb-true (u32_in bs at + u32_in bs (at + 4)) (length bs) q.1 in
    simp (length-take, length-drop) (omega arith)

pub record Limits (bs : List ℕ) : Type 0 where
  pub states : (1 ≤ u16_in bs 0) × (u16_in bs 0 ≤ 256)
  pub terminals : (1 ≤ u16_in bs 2) × (u16_in bs 2 ≤ 64)
  pub nonterminals : (1 ≤ u16_in bs 4) × (u16_in bs 4 ≤ 64)
  pub productions : u16_in bs 6 ≤ 256
  pub records : u16_in bs 8 ≤ 4096
  pub guards : u16_in bs 10 ≤ 4096
  pub switches : u16_in bs 12 ≤ 24
  pub actions_long : length (part_of bs (span_of bs 16)) ≡ u16_in bs 0 * u16_in bs 2 * 2
  pub gotos_long : length (part_of bs (span_of bs 24)) ≡ u16_in bs 0 * u16_in bs 4 * 2
  pub productions_long : length (part_of bs (span_of bs 32)) ≡ u16_in bs 6 * 4
  pub records_long : length (part_of bs (span_of bs 40)) ≡ u16_in bs 8 * 4
  pub guards_long : length (part_of bs (span_of bs 48)) ≡ u16_in bs 10 * 2

pub limits : (bs : List ℕ) → head_refusal bs ≡ None → Limits bs
limits bs e =
    let rest = (none_parts _ _ e).1 in
    let counts = (none_parts (counts_refusal bs) (pairs_refusal bs) rest).0 in
    let pairs = (none_parts (counts_refusal bs) (pairs_refusal bs) rest).1 in
    let c₀ = none_parts (count_refusal bs 0 1 256) _ counts in
    let c₁ = none_parts (count_refusal bs 2 1 64) _ c₀.1 in
    let c₂ = none_parts (count_refusal bs 4 1 64) _ c₁.1 in
    let c₃ = none_parts (count_refusal bs 6 0 256) _ c₂.1 in
    let c₄ = none_parts (count_refusal bs 8 0 4096) _ c₃.1 in
    let c₅ = none_parts (count_refusal bs 10 0 4096) _ c₄.1 in
    let c₆ = none_parts (count_refusal bs 12 0 24) _ c₅.1 in
    let p₀ = none_parts (pair_refusal bs 16 56 (u16_in bs 0 * u16_in bs 2 * 2)) _ pairs in
    let p₁ = none_parts (pair_refusal bs 24 (u32_in bs 16 + u32_in bs 20) (u16_in bs 0 * u16_in bs 4 * 2)) _ p₀.1 in
    let p₂ = none_parts (pair_refusal bs 32 (u32_in bs 24 + u32_in bs 28) (u16_in bs 6 * 4)) _ p₁.1 in
    let p₃ = none_parts (pair_refusal bs 40 (u32_in bs 32 + u32_in bs 36) (u16_in bs 8 * 4)) (pair_refusal bs 48 (u32_in bs 40 + u32_in bs 44) (u16_in bs 10 * 2)) p₂.1 in
    record {
      states = count_within bs 0 1 256 c₀.0;
      terminals = count_within bs 2 1 64 c₁.0;
      nonterminals = count_within bs 4 1 64 c₂.0;
      productions = (count_within bs 6 0 256 c₃.0).1;
      records = (count_within bs 8 0 4096 c₄.0).1;
      guards = (count_within bs 10 0 4096 c₅.0).1;
      switches = (count_within bs 12 0 24 c₆.0).1;
      actions_long = part_long bs 16 _ _ p₀.0;
      gotos_long = part_long bs 24 _ _ p₁.0;
      productions_long = part_long bs 32 _ _ p₂.0;
      records_long = part_long bs 40 _ _ p₃.0;
      guards_long = part_long bs 48 _ _ p₃.1;
    }
