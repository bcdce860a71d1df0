use Rattle.std.proofs.Common.{◌≡◌, ◌↔◌, ◌⊎◌, true, List, map, take, get_or, inl, inr}
use Rattle.reg_report.specs.Conflicts.{KeyBytes}
use Rattle.reg_disorder.specs.Keys.{has_key}
use Rattle.reg_disorder.specs.Marks.{Mark, mark_seen}
use Rattle.reg_news.specs.Codes.{IsMissing}
use Rattle.reg_news.proofs.CodeLemmas.{no_mark, items_at, missing_none, missing_more}
use Rattle.reg_news.proofs.KeyLemmas.{items_all}
use Rattle.reg_news.proofs.codes.put_missing.Goals as goal

pub loop-mark-init : goal.loop-mark-init
loop-mark-init c = λ k. (λ h. inl h, λ h. elim h [ inl old ↦ old | inr m ↦ absurd (missing_none (map mark_seen c.args.others.now) k m) ])

pub loop-mark-preserved : goal.loop-mark-preserved
loop-mark-preserved c =
    let others = map mark_seen c.args.others.now in
    let marks = c.args.marks.now in
    let at = c.loop-mark.mark-index in
    items_at mark_seen (λ (ms : List Mark). (k : KeyBytes) → (has_key c.put_if_missing.new.keys k ≡ true) ↔ ((has_key c.args.keys.now k ≡ true) ⊎ IsMissing ms others k)) marks at no_mark c.loop-mark-test.true
    (missing_more others c.args.keys.now c.loop-mark.keys c.put_if_missing.new.keys (map mark_seen (take at marks)) (mark_seen (get_or marks at no_mark)) c.loop-mark.invariant c.in_ok-put_if_missing.ensures)

pub returns : goal.returns
returns c =
    let others = map mark_seen c.args.others.now in
    items_all mark_seen (λ (ms : List Mark). (k : KeyBytes) → (has_key c.loop-mark.keys k ≡ true) ↔ ((has_key c.args.keys.now k ≡ true) ⊎ IsMissing ms others k)) c.args.marks.now c.loop-mark.mark-index c.loop-mark-test.false c.loop-mark.invariant
