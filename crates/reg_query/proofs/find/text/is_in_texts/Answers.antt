use Rattle.std.proofs.Common.{◌↔◌, Option, [], IsTrue, false, refl, sym, ◌∙◌, subst, inl, inr}
use Rattle.std.proofs.lemmas.Bool.{true≢false}
use Rattle.crs_part.specs.declared.text.Text.{Text}
use Rattle.crs_names.specs.Nodes.{of_parts}
use Rattle.reg_query.specs.declared.find.text.Finder.{Finder}
use Rattle.reg_query.specs.Texts.{HasTextPart, IsNamedWith}
use Rattle.reg_query.proofs.TextLemmas.{found_of}
use Rattle.reg_query.proofs.find.text.is_in_texts.Goals as goal

pub returns : goal.returns
returns c =
    let all = of_parts c.args.crs.now [] in
    let first : Finder = record { alloc = c.args.alloc; part = c.args.part; found = false } in
    let met = c.show.ensures first all [] (refl, (λ h. h, λ h. h)) in
    let last = found_of (IsNamedWith c.args.part.now) false c.show.new.to.found all refl met.1 in
    let remark = subst (λ (t : Option Text). IsTrue c.has_text_part.result ↔ HasTextPart c.args.part.now t) c.remark_of.ensures c.has_text_part.ensures in (
      λ h. inr (last.0 h),
      λ s. elim s [ inl a ↦ absurd (true≢false (sym (remark.1 a) ∙ c.if-has_text_part.false)) | inr b ↦ last.1 b ],
    )
