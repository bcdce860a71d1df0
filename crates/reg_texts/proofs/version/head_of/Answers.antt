use Rattle.std.proofs.Common.{◌++◌, ap, ◌∙◌}
use Rattle.reg_op.specs.Text.{printed}
use Rattle.reg_report.specs.Lines.{status_word}
use Rattle.reg_report.specs.Seen.{row_seen}
use Rattle.reg_report.specs.Keys.{key_bytes}
use Rattle.reg_texts.specs.Listing.{key_text}
use Rattle.reg_texts.proofs.HeadLemmas.{head_made}
use Rattle.reg_texts.proofs.version.head_of.Goals as goal

pub returns : goal.returns
returns c =
    let r = row_seen c.args.row.now in
    let key = key_bytes c.key_of.result in
    record {
      key = key;
      keyed = c.key_of.ensures;
      is = head_made (key_text key) (printed r.entry) (status_word r.status) c.new-head.result.items c.push_key.new.text.items c.push.new.self.items c.write_to.new.out.items c.push-2.new.self.items
          c.extend_from_slice.new.self.items c.new-head.ensures.items c.in_ok-push_key.ensures c.in_ok-push.ensures.items c.in_ok-write_to.ensures.ok c.in_ok-push-2.ensures.items
          (c.in_ok-extend_from_slice.ensures.items ∙ ap (λ l. c.push-2.new.self.items ++ l) c.status_word.ensures);
    }
