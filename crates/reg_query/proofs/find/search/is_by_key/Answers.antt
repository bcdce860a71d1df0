use Rattle.std.proofs.Common.{◌↔◌, ℕ, List, IsTrue, map, subst}
use Rattle.reg_report.specs.Seen.{row_seen}
use Rattle.reg_query.specs.Queries.{HasSome}
use Rattle.reg_query.proofs.find.search.is_by_key.Goals as goal

pub returns-in-Some : goal.returns-in-Some
returns-in-Some c = rw c.in-Some.is (subst (λ (t : List ℕ). IsTrue c.has_some.result ↔ HasSome (map row_seen c.args.rows.now) t) c.as_bytes.ensures.value c.has_some.ensures)
