-- The head of a delivery: what its numbers say, and which rule of it fails first.
use Rattle.std.specs.Prelude.{◌≡◌, ℕ, ◌+◌, ◌*◌, ◌<◌, ◌≤◌, ◌&&◌, List, length, take, drop, Option, ◌==◌, nat_le}
use Rattle.format.specs.declared.heads.Counts.{Counts}
use Rattle.format.specs.declared.heads.Span.{Span}
use Rattle.format.specs.declared.heads.Head.{Head}
use Rattle.format.specs.Firsts.{or_else, unless}
use Rattle.format.specs.Words.{u16_in, u32_in}

-- seven of the eight counts; the eighth is 0
abbrev pub counts_of : List ℕ → Counts
counts_of bs = record {
  states = u16_in bs 0;
  terminals = u16_in bs 2;
  nonterminals = u16_in bs 4;
  productions = u16_in bs 6;
  records = u16_in bs 8;
  guard_words = u16_in bs 10;
  switches = u16_in bs 12;
}

-- the pair at this byte: where a part begins, and how many bytes it has
abbrev pub span_of : List ℕ → ℕ → Span
span_of bs at = record { start = u32_in bs at; size = u32_in bs (at + 4) }

-- the bytes of a part
abbrev pub part_of : List ℕ → Span → List ℕ
part_of bs s = take s.size (drop s.start bs)

abbrev pub head_of : List ℕ → Head
head_of bs = record {
  counts = counts_of bs;
  actions = span_of bs 16;
  gotos = span_of bs 24;
  productions = span_of bs 32;
  records = span_of bs 40;
  guards = span_of bs 48;
}

-- the count at this byte is within its limits
abbrev pub count_refusal : List ℕ → ℕ → ℕ → ℕ → Option (ℕ × ℕ)
count_refusal bs at low high = unless (nat_le low (u16_in bs at) && nat_le (u16_in bs at) high) (2, at)

abbrev pub counts_refusal : List ℕ → Option (ℕ × ℕ)
counts_refusal bs =
    or_else (count_refusal bs 0 1 256)
    (or_else (count_refusal bs 2 1 64)
    (or_else (count_refusal bs 4 1 64)
    (or_else (count_refusal bs 6 0 256)
    (or_else (count_refusal bs 8 0 4096)
    (or_else (count_refusal bs 10 0 4096)
    (or_else (count_refusal bs 12 0 24)
    (count_refusal bs 14 0 0)))))))

-- the part of the pair at this byte has so many bytes, none before `least` and none past the end
abbrev pub pair_refusal : List ℕ → ℕ → ℕ → ℕ → Option (ℕ × ℕ)
pair_refusal bs at least size =
    unless (nat_le least (u32_in bs at) && (u32_in bs (at + 4) == size && nat_le (u32_in bs at + u32_in bs (at + 4)) (length bs))) (3, at)

-- the byte behind the part of the pair at this byte
abbrev pub end_of : List ℕ → ℕ → ℕ
end_of bs at = u32_in bs at + u32_in bs (at + 4)

-- each part begins behind the head and the part before, and has the words that the counts give
abbrev pub pairs_refusal : List ℕ → Option (ℕ × ℕ)
pairs_refusal bs =
    or_else (pair_refusal bs 16 56 (u16_in bs 0 * u16_in bs 2 * 2))
    (or_else (pair_refusal bs 24 (end_of bs 16) (u16_in bs 0 * u16_in bs 4 * 2))
    (or_else (pair_refusal bs 32 (end_of bs 24) (u16_in bs 6 * 4))
    (or_else (pair_refusal bs 40 (end_of bs 32) (u16_in bs 8 * 4))
    (pair_refusal bs 48 (end_of bs 40) (u16_in bs 10 * 2)))))

abbrev pub head_refusal : List ℕ → Option (ℕ × ℕ)
head_refusal bs = or_else (unless (nat_le 56 (length bs)) (1, length bs)) (or_else (counts_refusal bs) (pairs_refusal bs))

-- there is a terminal, and each part ends inside the bytes and has the words that the counts give
pub record LaidOut (h : Head) (bs : List ℕ) : Type 0 where
  pub terminals : 0 < h.counts.terminals
  pub actions : h.actions.start + h.actions.size ≤ length bs
  pub gotos : h.gotos.start + h.gotos.size ≤ length bs
  pub productions : h.productions.start + h.productions.size ≤ length bs
  pub records : h.records.start + h.records.size ≤ length bs
  pub guards : h.guards.start + h.guards.size ≤ length bs
  pub actions_size : h.actions.size ≡ h.counts.states * h.counts.terminals * 2
  pub gotos_size : h.gotos.size ≡ h.counts.states * h.counts.nonterminals * 2
  pub productions_size : h.productions.size ≡ h.counts.productions * 4
  pub records_size : h.records.size ≡ h.counts.records * 4
  pub guards_size : h.guards.size ≡ h.counts.guard_words * 2
