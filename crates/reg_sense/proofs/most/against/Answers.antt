use Rattle.std.proofs.Common.{◌++◌, ℕ, List, ap, ◌∙◌, codes, append_assoc}
use Rattle.reg_sense.specs.declared.tally.WordAndContent.{WordAndContent}
use Rattle.reg_sense.specs.Tallies.{counted, tally}
use Rattle.reg_sense.proofs.most.against.Goals as goal

pub returns : goal.returns
returns c = λ vs has.
    let own : WordAndContent = record { word = c.as_slice.result; content = c.args.content } in
    let said = c.args.claim.now.said.items in
    let is = ap counted c.get.ensures.value ∙ has own ∙ (λ j. tally (c.as_slice.ensures.value j) c.args.content.now 0 vs) in
    let those = c.deref-2.ensures.value ∙ c.in_ok-those.ensures c.args.claim.now.word.items c.args.content.now vs is in
    c.in_ok-extend_from_slice-3.ensures.items
    ∙ ap (λ (l : List ℕ). l ++ c.deref-2.result.now)
    (c.in_ok-extend_from_slice-2.ensures.items ∙ ap (λ (l : List ℕ). l ++ codes " in ") (c.in_ok-extend_from_slice.ensures.items ∙ (λ j. c.new-text.ensures.items j ++ c.deref.ensures.value j)))
    ∙ append_assoc said (codes " in ") c.deref-2.result.now
    ∙ (λ j. said ++ (codes " in " ++ those j))
