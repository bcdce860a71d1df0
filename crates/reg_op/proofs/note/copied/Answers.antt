use Rattle.std.proofs.Common.{◌≤◌, length, sym, ap, ◌∙◌, subst}
use Rattle.std.proofs.lemmas.Str.{is_utf8-from_IsUtf8}
use Rattle.std.specs.Str.{is_utf8}
use Rattle.reg_op.proofs.note.copied.Goals as goal

pub invariant_of-new : goal.invariant_of-new
invariant_of-new c = record {
  utf8 = ap is_utf8 c.in_ok-bytes.ensures.items ∙ is_utf8-from_IsUtf8 c.args.bytes.now c.requires.utf8;
  short = subst (λ bs. length bs ≤ 200) (sym c.in_ok-bytes.ensures.items) c.requires.short;
}
