use Rattle.std.proofs.Common.{◌∙◌, map, sym}
use Rattle.std.proofs.lemmas.Bool.{true≢false}
use Rattle.std.specs.Ordering.{is_eq}
use Rattle.reg_report.specs.Conflicts.{key_cmp}
use Rattle.reg_report.specs.Keys.{key_bytes}
use Rattle.reg_disorder.proofs.TextLemmas.{as_key, cond_or}
use Rattle.reg_disorder.specs.Keys.{has_key}
use Rattle.reg_disorder.specs.Marks.{mark_seen}
use Rattle.reg_news.proofs.CodeLemmas.{put_none, put_one}
use Rattle.reg_news.proofs.codes.put_if_missing.Goals as goal

pub returns-then-not-mark : goal.returns-then-not-mark
returns-then-not-mark c = put_none (map mark_seen c.args.others.now) (mark_seen c.args.mark.now) c.args.keys.now (λ h. absurd (true≢false (sym h ∙ c.if-not-mark.true)))

pub returns-then-has_mark : goal.returns-then-has_mark
returns-then-has_mark c = put_none (map mark_seen c.args.others.now) (mark_seen c.args.mark.now) c.args.keys.now (λ h. c.has_mark.ensures.0 c.if-has_mark.true)

pub returns : goal.returns
returns c =
    put_one (map mark_seen c.args.others.now) (mark_seen c.args.mark.now) c.args.keys.now c.insert.new.self c.if-not-mark.false (λ h. true≢false (sym (c.has_mark.ensures.1 h) ∙ c.if-has_mark.false))
    (λ k. c.in_ok-insert.ensures.updates.0 (record { authority = as_key k.authority; code = as_key k.code }) ∙ cond_or (is_eq (key_cmp (key_bytes c.args.mark.now.key) k)) (has_key c.args.keys.now k))
