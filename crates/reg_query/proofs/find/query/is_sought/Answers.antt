use Rattle.std.proofs.Common.{◌↔◌, ℕ, List, IsTrue, sym, subst}
use Rattle.reg_report.specs.Conflicts.{bytes_of}
use Rattle.reg_query.specs.Queries.{HasSome, IsSought}
use Rattle.reg_query.proofs.find.query.is_sought.Goals as goal

pub returns-in-Some : goal.returns-in-Some
returns-in-Some c = rw c.in-Some.is (λ rs tells.
    subst (λ (t : List ℕ). IsTrue c.is_sought_by.result ↔ IsSought rs t (bytes_of c.args.key.now) c.args.name.now) c.as_bytes.ensures.value
    (c.is_sought_by.ensures rs (subst (λ (t : List ℕ). IsTrue c.args.by_key ↔ HasSome rs t) (sym c.as_bytes.ensures.value) tells)))
