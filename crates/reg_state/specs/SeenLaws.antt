-- Sets of ids join by union.
use Rattle.std.specs.Prelude.{Result, Ok, refl}
use Rattle.std.proofs.Common.{ap}
use Rattle.reg_op.specs.Set as set
use Rattle.reg_op.specs.Ids.{Ids}
use Rattle.reg_op.proofs.FiniteLemmas.{union_comm, union_assoc, union_again, union_itself, union-empty}
use Rattle.reg_op.proofs.OpLemmas.{id_total, id_exact}
use Rattle.reg_op.specs.Joining.{JoinLaws}
use Rattle.std.specs.declared.convert.Infallible.{Infallible}

abbrev pub united : Ids → Ids → Result Ids Infallible
united x y = Ok (set.union x y)

abbrev pub AlwaysAgree : Ids → Ids → Type 0
AlwaysAgree x y = Unit {0}

-- each set of ids is a value
abbrev pub Always : Ids → Type 0
Always x = Unit {0}

pub seen_laws : JoinLaws set.empty united set.union AlwaysAgree Always
seen_laws = record {
  agreed = λ x y a. refl;
  refused = λ x y z e. tt;
  comm = λ x y. ap Ok (union_comm id_total id_exact x y);
  merged_comm = union_comm id_total id_exact;
  merged_assoc = union_assoc id_total id_exact;
  merged_again = union_again id_total id_exact;
  itself = λ x a. ap Ok (union_itself id_total id_exact x);
  neutral = λ x a. ap Ok (union-empty id_total id_exact x);
  agree_nothing = λ x a. tt;
  agree_comm = λ x y a. tt;
  agree_merged = λ x y z a b c. tt;
  value_nothing = tt;
  value_joined = λ x y z a b e. tt;
}
