-- Commands with tests of ids as commands with relations, and the commands of an office.
use Rattle.std.proofs.Common.{◌≡◌, ℕ, true, Some, arith}
use Rattle.std.specs.Prelude.{◌+◌, ◌<◌, ◌≤◌, nat_lt, nat_le, ◌&&◌}
use Rattle.std.proofs.lemmas.Bool.Decides.{nat_tests}
use Rattle.std.proofs.lemmas.Bool.{le-leb, lt-leb, leb-true}
use Rattle.reg_writers.specs.Path.{Stage, Begins, HasRead, Writes, IsSynced, HasLocked, Keeps, FoundSame, Withdraws, Replaced, HasPrinted, Ended}
use Rattle.reg_writers.specs.Writers.{Commands, OnlyAdd, gave}
use Rattle.reg_writers.specs.Desk.{Office, IsRead, numbers, given_up_to}
use Rattle.reg_writers.proofs.Kept.{Many, OnlyAdds, Gave}

abbrev pub many : {I : Type 0} → Commands I → Many I
many c = record { change = c.change; Gives = λ k x i. c.gives k x i ≡ true; Seen = λ x i. c.seen x i ≡ true }

pub many_add : {I : Type 0} (c : Commands I) → OnlyAdd c → OnlyAdds (many c)
many_add c add = record {
  grows = add.grows;
  not_before = λ k x i g seen. let unseen = add.not_before k x i g in cc;
  seen_then = add.seen_then;
}

-- if the test says that a command gave an id, the relation does
pub gave_many : {I : Type 0} (c : Commands I) (k : ℕ) (s : Stage) (i : I) → gave c k s i ≡ true → Gave (many c) k s i
gave_many c k Begins i g = cc
gave_many c k (HasRead x) i g = cc
gave_many c k (Writes x) i g = cc
gave_many c k (IsSynced x) i g = cc
gave_many c k HasLocked i g = cc
gave_many c k (Keeps x) i g = cc
gave_many c k (FoundSame x) i g = cc
gave_many c k Withdraws i g = cc
gave_many c k (Replaced x) i g = g
gave_many c k (HasPrinted x) i g = g
gave_many c k Ended i g = cc

-- a number that passes both tests is above m and at most b
tests : (m b n : ℕ) → (nat_lt m n && nat_le n b) ≡ true → (m < n) × (n ≤ b)
tests m b n h = (grind (arith, nat_tests), grind (arith, nat_tests))

pub numbers_add : (o : Office) → IsRead o → OnlyAdd (numbers o)
numbers_add o reads = record {
  grows = λ k x i seen.
      let e = reads (given_up_to o k x + o.wants k) in
      let le = leb-true i (o.last x) seen in
      le-leb i (o.last (Some (o.file (given_up_to o k x + o.wants k)))) (rw e (omega arith));
  not_before = λ k x i given.
      let t = tests (given_up_to o k x) (given_up_to o k x + o.wants k) i given in
      lt-leb i (o.last x) (omega arith);
  seen_then = λ k x i given.
      let e = reads (given_up_to o k x + o.wants k) in
      let t = tests (given_up_to o k x) (given_up_to o k x + o.wants k) i given in
      le-leb i (o.last (Some (o.file (given_up_to o k x + o.wants k)))) (rw e t.1);
}
