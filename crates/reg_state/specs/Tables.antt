-- The tables of a register as contracts see them.
use Rattle.std.specs.Prelude.{◌≡◌, List}
use Rattle.reg_op.specs.Ids.{Ids}
use Rattle.reg_op.specs.Operations.{Op}
use Rattle.reg_op.specs.Contents.{IsContent}
pub use Rattle.reg_op.specs.Kept.{first_dropped}
use Rattle.reg_state.specs.MarkSets.{MarkSet}
use Rattle.reg_state.specs.Marks.{least_marks}
use Rattle.reg_op.specs.Lists.{ById, content_at}

-- the operations ascend, and the marks are theirs
pub record AreTables (ops : List Op) (marks : MarkSet) (seen : Ids) : Type 0 where
  pub by_id : ById ops
  pub marked : marks ≡ least_marks ops
  pub is_content : IsContent (content_at ops seen)
