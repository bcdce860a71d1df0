use Rattle.reg_import.proofs.QuotedLemmas.{quote_more, quote_last}
use Rattle.reg_import.proofs.quoted.quoted.Goals as goal

pub loop-b-preserved : goal.loop-b-preserved
loop-b-preserved c =
    quote_more c.loop-b.text.items c.push_quoted.new.text.items c.args.bytes.now c.loop-b.marked c.in-Some.b.now c.loop-b.rest.now c.in-Some.others.now c.in_ok-next.field-0 c.in-Some-2.next
    c.in-Some.ensures.cases.0 c.in-Some-2.is c.in_ok-next.ensures c.loop-b.invariant

pub returns-in_default-2 : goal.returns-in_default-2
returns-in_default-2 c =
    quote_last c.loop-b.text.items c.push_quoted.new.text.items c.args.bytes.now c.loop-b.marked c.in-Some.b.now c.loop-b.rest.now c.in-Some.others.now c.in_ok-next.field-0
    c.in-Some.ensures.cases.0 c.in_default-2.not-Some c.in_ok-next.ensures c.loop-b.invariant
