use Rattle.std.proofs.Common.{[], ◌∷◌, ◌++◌, codes, ap, ◌∙◌, subst}
use Rattle.wkt_compare.specs.Hunks.{IsAdded}
use Rattle.reg_texts.proofs.HeadLemmas.{pair_made}
use Rattle.reg_texts.proofs.given.new_text.Goals as goal

pub returns : goal.returns
returns c =
    let one = codes "--- " ++ c.in_ok-head.head.items ++ 10 ∷ [] in
    let other = codes "+++ " ++ c.args.given.now.head.items ++ 10 ∷ [] in
    let hunks = c.in_ok-hunks.hunks.items in
    record {
      head = c.in_ok-head.head.items;
      none = c.in_ok-head.ensures;
      hunks = hunks;
      added = subst (λ t. IsAdded t hunks) c.deref.ensures.value c.in_ok-hunks.ensures;
      is = pair_made [] one other hunks c.push_head.new.text.items c.push_head-2.new.text.items c.extend_from_slice.new.self.items
          (c.in_ok-push_head.ensures ∙ (λ j. c.new-text.ensures.items j ++ (codes "--- " ++ c.deref-2.ensures.value j ++ 10 ∷ [])))
          (c.in_ok-push_head-2.ensures ∙ ap (λ h. c.push_head.new.text.items ++ (codes "+++ " ++ h ++ 10 ∷ [])) c.deref-3.ensures.value)
          (c.in_ok-extend_from_slice.ensures.items ∙ ap (λ h. c.push_head-2.new.text.items ++ h) c.deref-4.ensures.value);
    }
