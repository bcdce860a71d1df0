use Rattle.std.proofs.Common.{map, codes, decimal}
use Rattle.reg_report.specs.Keys.{key_bytes}
use Rattle.reg_texts.specs.Listing.{on_line, key_text}
use Rattle.reg_texts.proofs.HeadLemmas.{given_made}
use Rattle.reg_texts.proofs.given.given_head.Goals as goal

pub returns : goal.returns
returns c =
    let key = key_bytes c.key_in.result in
    record {
      key = key;
      keyed = c.key_in.ensures;
      is = given_made (key_text key) (map on_line c.args.name.now) (codes " at ") (decimal c.args.place) c.new-head.result.items c.push_key.new.text.items c.push.new.self.items c.push_on_line.new.text.items
          c.extend_from_slice.new.self.items c.push_number.new.text.items c.new-head.ensures.items c.in_ok-push_key.ensures c.in_ok-push.ensures.items c.in_ok-push_on_line.ensures
          c.in_ok-extend_from_slice.ensures.items c.in_ok-push_number.ensures;
    }
