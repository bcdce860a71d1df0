-- The order of codes is total.
use Rattle.std.proofs.Common.{ℕ, List, length}
use Rattle.std.proofs.lemmas.Cmp.{nat_cmp_total, nat_list_cmp_total}
use Rattle.std.specs.Cmp.{IsTotalOrder, then_total, on_total}
use Rattle.reg_page.specs.Codes.{class_of, digits_of, code_cmp}

pub code_total : IsTotalOrder code_cmp
code_total =
    then_total (on_total class_of nat_cmp_total)
    (then_total (on_total (λ (a : List ℕ). length (digits_of a)) nat_cmp_total) (then_total (on_total digits_of nat_list_cmp_total) nat_list_cmp_total))
