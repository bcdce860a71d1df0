-- Comparing texts byte by byte, or keys, decides whether they are equal.
use Rattle.std.proofs.Common.{◌≡◌, Bool, true, ap, subst}
use Rattle.std.specs.Cmp.{Equal-is, tied_itself}
use Rattle.std.specs.Ordering.{is_eq}
use Rattle.reg_report.specs.Conflicts.{KeyBytes, key_cmp}
use Rattle.reg_report.proofs.ConflictLemmas.{key_total, key_exact}

pub same_key : (a b : KeyBytes) → is_eq (key_cmp a b) ≡ true → a ≡ b
same_key a b h = key_exact a b ((Equal-is (key_cmp a b)).0 h)

pub key_itself : (a b : KeyBytes) → a ≡ b → is_eq (key_cmp a b) ≡ true
key_itself a b e = subst (λ k. is_eq (key_cmp a k) ≡ true) e (ap is_eq (tied_itself key_total a))
