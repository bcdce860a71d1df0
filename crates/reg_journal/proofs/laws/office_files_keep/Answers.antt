use Rattle.std.proofs.Common.{◌≡◌, ◌∙◌, ap, subst, refl, true, slice_get}
use Rattle.reg_op.specs.Set as set
use Rattle.reg_op.specs.Contents.{state}
use Rattle.reg_op.proofs.ContentLemmas.{union_left, union_right}
use Rattle.reg_journal.specs.Journals.{World, start, makes_on, makes_at, takes_at, base, both, after}
use Rattle.reg_journal.proofs.JournalLemmas.{always, copy_at, copies_join, same_ok, base_is, new_id, makes_is, new_copy, noted_is, all_is_there, old_is_there, takes_is, after_grows}
use Rattle.reg_journal.proofs.HonestLemmas.{nobody_forges}
use Rattle.reg_journal.proofs.laws.office_files_keep.Goals as goal

pub returns : goal.returns
returns g = record {
  content = λ events place c at. let inv = always events in (copy_at inv.all _ place c inv.copies at).content;
  file = λ events i. ((always events).files i).content;
  known = λ events place c o at h. let inv = always events in inv.own o ((copy_at inv.all _ place c inv.copies at).within o h);
  honest = λ events place c f at office made. let inv = always events in nobody_forges (after events start) inv c f (copy_at inv.all _ place c inv.copies at) office made;
  no_clash = λ events place other c d at there.
      let inv = always events in
      copies_join inv.all c d inv.one_body (copy_at inv.all _ place c inv.copies at) (copy_at inv.all _ other d inv.copies there);
  goes_on = λ events place c i at. let inv = always events in base_is (after events start) inv i c (copy_at inv.all _ place c inv.copies at);
  new_ids = λ events place c y i j note effects os o p at b e h k.
      let w = after events start in
      let inv = always events in
      let is = copy_at inv.all _ place c inv.copies at in
      let by = same_ok (base w i c) (state (both c (w.files i))) y (base_is w inv i c is) b in
      new_id w inv i note effects c y os is by e o p h ((inv.files j).within p k);
  noted = λ events place c y i note effects lands os at b e.
      let w = after events start in
      let inv = always events in
      let is = copy_at inv.all _ place c inv.copies at in
      let by = same_ok (base w i c) (state (both c (w.files i))) y (base_is w inv i c is) b in
      let all = ap (makes_at w i effects note lands) at ∙ ap (makes_on w i c effects note lands) b ∙ makes_is w inv i note effects c y os is by e lands in
      ap (λ (v : World). (v.files i).reached) all ∙ noted_is w inv i note effects c y os is by e lands;
  left = λ events place c y i note effects os at b e.
      let w = after events start in
      let inv = always events in
      let is = copy_at inv.all _ place c inv.copies at in
      let by = same_ok (base w i c) (state (both c (w.files i))) y (base_is w inv i c is) b in
      let all = ap (makes_at w i effects note true) at ∙ ap (makes_on w i c effects note true) b ∙ makes_is w inv i note effects c y os is by e true in
      let noted = ap (λ (v : World). (v.files i).reached) all ∙ noted_is w inv i note effects c y os is by e true in (
        new_copy w inv i note effects c y os is by e,
        ap (λ (v : World). slice_get v.copies 0) all,
        refl,
        (λ o h. all_is_there w inv i note effects c y os is by e o (subst (λ s. set.contains s o ≡ true) noted h)),
        old_is_there w inv i note effects c y os is by e,
      );
  caught_up = λ events place other c d i at there.
      let w = after events start in
      let inv = always events in
      let all = (λ k. takes_at w i (at k) (there k)) ∙ takes_is w inv i c d (copy_at inv.all _ place c inv.copies at) (copy_at inv.all _ other d inv.copies there) in (
        record { content = state (set.union (both c (w.files i)) d.reached); reached = set.union (both c (w.files i)) d.reached },
        ap (λ (v : World). slice_get v.copies 0) all,
        refl,
        (λ o h. union_left (both c (w.files i)) d.reached o (union_right c.reached (w.files i).reached o h)),
        (λ o h. union_left (both c (w.files i)) d.reached o (union_left c.reached (w.files i).reached o h)),
      );
  grows = λ events more i. after_grows more (after events start) i;
}
