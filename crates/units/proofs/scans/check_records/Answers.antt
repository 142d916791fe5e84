use Rattle.std.proofs.Common.{◌≡◌, ◌<◌, ◌≤◌, true, false, eqb, [], length, get_or, sym, ◌∙◌, rules, arith}
use Rattle.std.proofs.lemmas.Result.{err_from_is_err_and}
use Rattle.format.specs.Words.{u16_in}
use Rattle.stacks.specs.Views.{items_of}
use Rattle.units.specs.Records.{record_of}
use Rattle.units.specs.Views.{state_of}
use Rattle.units.proofs.Scanned.{record_in, scanned-goes, scanned-past, scanned-refused}
use Rattle.units.proofs.scans.check_records.Goals as goal

pub returns-in_err-pass : goal.returns-in_err-pass
returns-in_err-pass c =
    let rows = c.as_chunks.result.0.now in
    let row = get_or rows c.loop-i.i [] in
    let below : c.loop-i.i < c.args.counts.now.records = search (rules, arith) in
    let read : c.record_of.result ≡ record_of c.args.counts.now.terminals (u16_in row 0) (u16_in row 2) = search rules in
    let is = read ∙ record_in c.args.part.now _ _ _ rows c.as_chunks.ensures.front c.loop-i-test.true in
    let p = err_from_is_err_and c.from_residual.result c.from_residual.ensures.1 in
    rw (p.1, p.2) (sym (c.loop-i.invariant ∙ scanned-refused c.args.part.now _ _ _ _ _ (state_of c.loop-i.scan) _ below is _ _ c.in_err-pass.ensures))

pub loop-i-preserved : goal.loop-i-preserved
loop-i-preserved c =
    let rows = c.as_chunks.result.0.now in
    let row = get_or rows c.loop-i.i [] in
    let below : c.loop-i.i < c.args.counts.now.records = search (rules, arith) in
    let read : c.record_of.result ≡ record_of c.args.counts.now.terminals (u16_in row 0) (u16_in row 2) = search rules in
    let is = read ∙ record_in c.args.part.now _ _ _ rows c.as_chunks.ensures.front c.loop-i-test.true in
    c.loop-i.invariant ∙ scanned-goes c.args.part.now _ _ _ _ _ (state_of c.loop-i.scan) _ below is _ c.in_ok-pass.ensures

pub returns-then-not-is_empty : goal.returns-then-not-is_empty
returns-then-not-is_empty c =
    let end : c.loop-i.i ≡ c.args.counts.now.records = search (rules, arith) in
    let past : c.args.counts.now.records ≤ c.loop-i.i = omega (arith, end) in
    let some : eqb (length (items_of c.loop-i.scan.nesting)) 0 ≡ false = search rules in
    sym (c.loop-i.invariant ∙ scanned-past c.args.part.now _ _ _ _ _ (state_of c.loop-i.scan) past ∙ rw (some, end))

pub returns : goal.returns
returns c =
    let past : c.args.counts.now.records ≤ c.loop-i.i = search (rules, arith) in
    let none : eqb (length (items_of c.loop-i.scan.nesting)) 0 ≡ true = search rules in
    sym (c.loop-i.invariant ∙ scanned-past c.args.part.now _ _ _ _ _ (state_of c.loop-i.scan) past ∙ rw none)
