-- The query that a choice asks.
use Rattle.std.specs.Prelude.{Option, Some, None}
use Rattle.reg_query.specs.declared.find.query.Query.{Query}
use Rattle.reg_query.specs.declared.find.query.Wanted.{Wanted}
use Rattle.reg_query.specs.declared.find.query.Wanted.TheVariants.{Live}
use Rattle.reg_export.specs.declared.choice.Choice.{Choice}

-- the status that is asked for, or else that an entry is not retired
abbrev pub status_of : Option Wanted → Wanted
status_of None = Live
status_of (Some wanted) = wanted

-- a query by the status and the authority
abbrev pub asked : Choice → Query
asked c = record {
  word = None;
  key = None;
  authority = c.authority;
  code = None;
  name = None;
  area = None;
  at = None;
  kind = None;
  text = None;
  status = Some (status_of c.status);
}
