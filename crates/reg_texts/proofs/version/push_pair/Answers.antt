use Rattle.std.proofs.Common.{[], ◌∷◌, ◌++◌, codes, refl, ap, sym, ◌∙◌, append-nil, inl, inr}
use Rattle.wkt_compare.specs.Hunks.{IsUnified}
use Rattle.reg_texts.proofs.EachLemmas.{alike}
use Rattle.reg_texts.proofs.HeadLemmas.{pair_made}
use Rattle.reg_texts.proofs.version.push_pair.Goals as goal

pub returns-then-is_none : goal.returns-then-is_none
returns-then-is_none c = (
  [],
  record {
    hunks = c.in_ok-hunks.hunks.items;
    differ = alike IsUnified c.deref.result.now c.deref-2.result.now c.args.one.now.text.items c.args.other.now.text.items c.in_ok-hunks.hunks.items c.deref.ensures.value c.deref-2.ensures.value c.in_ok-hunks.ensures;
    heads = inl (sym c.deref-3.ensures.value ∙ c.is_none.ensures.none c.if-is_none.true, refl);
  },
  sym (append-nil c.args.text.now.items),
)

pub returns : goal.returns
returns c =
    let one = codes "--- " ++ c.args.one.now.head.items ++ 10 ∷ [] in
    let other = codes "+++ " ++ c.args.other.now.head.items ++ 10 ∷ [] in
    let hunks = c.in_ok-hunks.hunks.items in (
      one ++ other ++ hunks,
      record {
        hunks = hunks;
        differ = alike IsUnified c.deref.result.now c.deref-2.result.now c.args.one.now.text.items c.args.other.now.text.items hunks c.deref.ensures.value c.deref-2.ensures.value c.in_ok-hunks.ensures;
        heads = inr (λ e. c.is_none.ensures.some c.if-is_none.false (c.deref-3.ensures.value ∙ e), refl);
      },
      pair_made c.args.text.now.items one other hunks c.push_head.new.text.items c.push_head-2.new.text.items c.extend_from_slice.new.self.items
          (c.in_ok-push_head.ensures ∙ ap (λ h. c.args.text.now.items ++ (codes "--- " ++ h ++ 10 ∷ [])) c.deref-4.ensures.value)
          (c.in_ok-push_head-2.ensures ∙ ap (λ h. c.push_head.new.text.items ++ (codes "+++ " ++ h ++ 10 ∷ [])) c.deref-5.ensures.value)
          (c.in_ok-extend_from_slice.ensures.items ∙ ap (λ h. c.push_head-2.new.text.items ++ h) c.deref-6.ensures.value),
    )
