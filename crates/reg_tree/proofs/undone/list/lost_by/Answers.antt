use Rattle.std.proofs.Common.{◌≡◌, ◌∷◌, true, false, map, sym, ap, ◌∙◌}
use Rattle.std.specs.List.{list_any}
use Rattle.reg_op.specs.Ids.{Id}
use Rattle.reg_report.proofs.ConflictLemmas.{in_head, in_tail}
use Rattle.reg_tree.specs.Voices.{content_of, saying_seen, is_unsaid}
use Rattle.reg_tree.proofs.GatheredLemmas.{in_set}
use Rattle.reg_tree.proofs.LostLemmas.{says_nothing, join_says, taken_back, is_lost, unsaid_is}
use Rattle.reg_tree.proofs.undone.list.lost_by.Goals as goal

pub returns-in_default : goal.returns-in_default
returns-in_default c = λ has right q.
    let v = c.args.voice.now in
    let in_v = right v (in_tail v c.args.join.now (v ∷ c.args.voices.now) (in_head v c.args.voices.now)) in
    says_nothing has (map content_of c.args.voices.now) (content_of c.args.join.now) (content_of v) c.args.op.now (λ r. c.in_default.ensures has in_v r) q

pub returns-then-contains : goal.returns-then-contains
returns-then-contains c = λ has right q.
    let v = c.args.voice.now in
    let z = c.args.join.now in
    let in_v = right v (in_tail v z (v ∷ c.args.voices.now) (in_head v c.args.voices.now)) in
    let s = saying_seen c.in-Some.saying in
    join_says has (map content_of c.args.voices.now) (content_of z) (content_of v) c.args.op.now s (λ r. c.in-Some.ensures has in_v r)
    (sym (c.requires.join.said has (right z (in_head z (v ∷ c.args.voices.now))) s) ∙ sym (in_set z.said c.in-Some.saying) ∙ sym c.contains.ensures ∙ c.if-contains.true) q

pub returns-then-is_taken_back : goal.returns-then-is_taken_back
returns-then-is_taken_back c = λ has right q.
    let v = c.args.voice.now in
    let z = c.args.join.now in
    let vs = c.args.voices.now in
    let in_v = right v (in_tail v z (v ∷ vs) (in_head v vs)) in
    let s = saying_seen c.in-Some.saying in
    taken_back has (map content_of vs) (content_of z) (content_of v) c.args.op.now s (λ r. c.in-Some.ensures has in_v r)
    (sym (unsaid_is has vs c.requires.voices (λ u h. right u (in_tail u z (v ∷ vs) (in_tail u v vs h))) s c.args.op.now.id)
    ∙ ap (λ (i : Id). list_any (is_unsaid s i) vs) (sym c.id.ensures.value) ∙ sym c.is_taken_back.ensures ∙ c.if-is_taken_back.true) q

pub returns : goal.returns
returns c = λ has right q.
    let v = c.args.voice.now in
    let z = c.args.join.now in
    let vs = c.args.voices.now in
    let in_v = right v (in_tail v z (v ∷ vs) (in_head v vs)) in
    let s = saying_seen c.in-Some.saying in
    is_lost has (map content_of vs) (content_of z) (content_of v) c.args.op.now s (λ r. c.in-Some.ensures has in_v r)
    (sym (c.requires.join.said has (right z (in_head z (v ∷ vs))) s) ∙ sym (in_set z.said c.in-Some.saying) ∙ sym c.contains.ensures ∙ c.if-contains.false)
    (sym (unsaid_is has vs c.requires.voices (λ u h. right u (in_tail u z (v ∷ vs) (in_tail u v vs h))) s c.args.op.now.id)
    ∙ ap (λ (i : Id). list_any (is_unsaid s i) vs) (sym c.id.ensures.value) ∙ sym c.is_taken_back.ensures ∙ c.if-is_taken_back.false) q
