use Rattle.std.proofs.Common.{ap, sym, ◌∙◌, drop, take}
use Rattle.std.proofs.lemmas.List.{nil_from_length}
use Rattle.std.proofs.lemmas.List.Sums.{prefix_len-le-length}
use Rattle.crs_exact.specs.Tables.{goes_on}
use Rattle.crs_exact.proofs.RowLemmas.{one_piece, split}
use Rattle.crs_exact.proofs.tables.split_piece.Goals as goal

pub split_at-requires : goal.split_at-requires
split_at-requires c = rw c.piece_len.ensures (prefix_len-le-length (goes_on c.args.mark) c.args.text.now)

pub returns-in_default-clause-none : goal.returns-in_default-clause-none
returns-in_default-clause-none c = one_piece c.args.mark c.args.text.now (
    ap (λ n. drop n c.args.text.now) (sym c.piece_len.ensures) ∙ sym c.split_at.ensures.back ∙ nil_from_length c.split_at.result.1.now c.in_default.ensures.cases)

pub returns-clause-some : goal.returns-clause-some
returns-clause-some c = split c.args.mark c.args.text.now c.split_at.result.0.now c.in-Some.others.now c.in-Some.field-0-0.now
    (c.split_at.ensures.front ∙ ap (λ n. take n c.args.text.now) c.piece_len.ensures)
    (ap (λ n. drop n c.args.text.now) (sym c.piece_len.ensures) ∙ sym c.split_at.ensures.back ∙ c.in-Some.ensures.cases.0)
