use Rattle.std.proofs.Common.{map, ap, sym, ◌∙◌}
use Rattle.std.proofs.lemmas.List.{map-append}
use Rattle.reg_disorder.specs.declared.listed.ListedEntry.{ListedEntry}
use Rattle.reg_disorder.specs.Lists.{listed_seen}
use Rattle.reg_disorder.proofs.listed.push_listed.Goals as goal

pub returns : goal.returns
returns c =
    let made : ListedEntry = record { authority = c.in_ok-try_clone.field-0; code = c.in_ok-try_clone-2.field-0; entry = c.args.row.now.entry } in (
      listed_seen made,
      record {
        key = (c.key-key.result.now, c.key-key.ensures, λ j. record { authority = (sym c.in_ok-try_clone.ensures j).bytes; code = (sym c.in_ok-try_clone-2.ensures j).bytes });
        entry = λ j. c.args.row.now.entry;
      },
      ap (map listed_seen) c.in_ok-push.ensures.items ∙ map-append listed_seen c.args.made.now.items _,
    )
