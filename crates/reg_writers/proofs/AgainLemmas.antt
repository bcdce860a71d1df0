-- A command that is run again is found.
use Rattle.std.proofs.Common.{◌≡◌, ◌≢◌, ℕ, Bool, true, false, not, ◌&&◌, ◌||◌, List, [], ◌∷◌, length, nat_lt, refl, ap, ◌∙◌, arith}
use Rattle.std.proofs.lemmas.Bool.Decides.{nat_tests}
use Rattle.std.proofs.lemmas.Bool.{and_from, or_left}
use Rattle.std.specs.List.{list_all}
use Rattle.reg_op.specs.Set.{contains}
use Rattle.reg_op.specs.Ids.{Ids}
use Rattle.reg_op.specs.Finite.{any}
use Rattle.reg_op.specs.Operations.{Op, Ops, kept, replaces}
use Rattle.reg_op.specs.declared.operation.OpBody.{OpBody as Body}
use Rattle.reg_op.specs.Lists.{has}
use Rattle.reg_op.proofs.ContentLemmas.{contains-kept}
use Rattle.reg_office.specs.Making.{numbered}
use Rattle.reg_office.proofs.WorldSteps.{head_has, tail_has}
use Rattle.reg_journal.specs.Again.{is_found, is_again, still_holds, would_double}
use Rattle.reg_writers.specs.Again.{IsMissed}

all_pass : (t : Op → Bool) (os : List Op) → ((o : Op) → has os o ≡ true → t o ≡ true) → list_all t os ≡ true
all_pass t [] f = refl
all_pass t (o ∷ os) f = and_from (t o) (list_all t os) (f o (head_has o os)) (all_pass t os (λ q m. f q (tail_has q o os m)))

late_kept : (all : Ops) (o : Op) → contains all o ≡ true → any (λ p. replaces p o) all ≡ false → contains (kept all) o ≡ true
late_kept all o there needed = contains-kept all o ∙ and_from (contains all o) (not (any (λ p. replaces p o) all)) there (ap not needed)

pub missed_found : (seen : Ids) (all : Ops) (o : Op) → IsMissed seen all o → contains all o ≡ true → is_found seen (kept all) o ≡ true
missed_found seen all o m there =
    and_from (contains (kept all) o && still_holds (kept all) o.id o.body) (not (contains seen o.id) || would_double (kept all) o.id o.body)
    (and_from (contains (kept all) o) (still_holds (kept all) o.id o.body) (late_kept all o there m.needed) m.holds)
    (or_left (not (contains seen o.id)) (would_double (kept all) o.id o.body) (ap not m.unseen))

some_there : (es : List Body) → es ≢ [] → nat_lt 0 (length es) ≡ true
some_there [] h = absurd (h refl)
some_there (e ∷ es) h = grind (arith, nat_tests)

pub all_found : (seen : Ids) (ops : Ops) (replica note : List ℕ) (n : ℕ) (es : List Body) → es ≢ []
    → ((o : Op) → has (numbered replica n note es) o ≡ true → is_found seen ops o ≡ true) → is_again seen ops replica note es n ≡ true
all_found seen ops replica note n es some each =
    and_from (nat_lt 0 (length es)) (list_all (is_found seen ops) (numbered replica n note es)) (some_there es some) (all_pass (is_found seen ops) (numbered replica n note es) each)
