use Rattle.std.proofs.Common.{◌≡◌, ◌++◌, map, take}
use Rattle.reg_report.specs.Lines.{conflicts_header, sheet_of, sheet_text, IsReady}
use Rattle.reg_disorder.specs.Lists.{listed_seen}
use Rattle.reg_disorder.specs.Reports.{keyed_fields}
use Rattle.reg_disorder.proofs.lines.lines_of.Given as goal

abbrev pub invariant-loop-one : goal.invariant-loop-one
invariant-loop-one l = IsReady l.wtr × (sheet_text l.wtr ≡ sheet_of conflicts_header keyed_fields (map listed_seen (take l.one-index l.listed)))
