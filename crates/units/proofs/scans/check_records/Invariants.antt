use Rattle.std.proofs.Common.{◌≡◌, drop}
use Rattle.units.specs.GuardWords.{numbers_of}
use Rattle.units.specs.Records.{records_in}
use Rattle.units.specs.Scans.{begin, scanned}
use Rattle.units.specs.Views.{state_of}
use Rattle.units.proofs.scans.check_records.Given as goal

-- the records left decide, from the state reached so far
abbrev pub invariant-loop-i : goal.invariant-loop-i
invariant-loop-i l =
    let records = records_in l.part l.counts.terminals l.counts.records in
    scanned (numbers_of l.guards) l.guards.switches 0 begin records
    ≡ scanned (numbers_of l.guards) l.guards.switches l.i (state_of l.scan) (drop l.i records)
