-- A piece as a register.
use Rattle.std.proofs.Common.{◌≡◌, true, List, ap, ◌∙◌, sym}
use Rattle.reg_op.specs.Set as set
use Rattle.reg_op.specs.Set.{contains}
use Rattle.reg_op.specs.Ids.{Ids}
use Rattle.reg_op.specs.Operations.{Op, op_cmp}
use Rattle.reg_op.specs.Contents.{Content}
use Rattle.reg_op.specs.Lists.{has, content_at}
use Rattle.reg_op.specs.Pieces.{Piece, IsPiece, part_of}
use Rattle.reg_op.proofs.OpLemmas.{op_total, op_exact}
use Rattle.reg_op.proofs.ContentLemmas.{same_content}

pub piece_seen : (p : Piece) (os : List Op) (v : Ids) → IsPiece p → os ≡ set.items p.ops → v ≡ p.seen → (o : Op) → has os o ≡ true → contains v o.id ≡ true
piece_seen p os v is e f o h =
    let there : contains p.ops o ≡ true = set.contains-items p.ops o ∙ ap (λ (l : List Op). has l o) (sym e) ∙ h in
    ap (λ (s : Ids). contains s o.id) f ∙ is.content.are_seen o there

pub part_is : (p : Piece) (os : List Op) (v : Ids) (r : Content) → r ≡ content_at os v → os ≡ set.items p.ops → v ≡ p.seen → r ≡ part_of p
part_is p os v r e f g =
    let same : set.from_list {R = op_cmp} os ≡ p.ops = set.same_set op_total op_exact (set.from_list os) p.ops
    (λ q. set.contains-from_list op_total os q ∙ ap (λ (l : List Op). has l q) f ∙ sym (set.contains-items p.ops q)) in
    e ∙ same_content _ _ same g
