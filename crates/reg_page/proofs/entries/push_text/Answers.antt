use Rattle.std.proofs.Common.{map, ℕ}
use Rattle.std.specs.Global.{Vec}
use Rattle.std.specs.List.{flat_map}
use Rattle.html_page.proofs.JoinLemmas.{next}
use Rattle.html_page.specs.Templates.{entry_text, question, map_of}
use Rattle.reg_page.specs.Boxes.{box_seen}
use Rattle.reg_page.proofs.LoopLemmas.{as_others}
use Rattle.reg_page.proofs.entries.push_text.Goals as goal

pub returns : goal.returns
returns c =
    let d = c.args.system.now in
    let maps = as_others _ (flat_map map_of (map box_seen d.boxes.items)) (λ j. flat_map map_of (map box_seen (c.deref.ensures.value j))) c.in_ok-push_maps.ensures in
    let text = as_others _ (entry_text d.text.items) (λ j. entry_text (c.deref-2.ensures.value j)) c.in_ok-push_entry_text.ensures in
    let questions = as_others _ (flat_map question (map (λ (q : Vec ℕ). q.items) d.questions.items))
    (λ j. flat_map question (map (λ (q : Vec ℕ). q.items) (c.deref-3.ensures.value j))) c.in_ok-push_questions.ensures in
    next (next maps text) questions
