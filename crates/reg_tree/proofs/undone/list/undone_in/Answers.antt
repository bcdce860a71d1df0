use Rattle.std.proofs.Common.{sym, subst}
use Rattle.reg_tree.specs.Voices.{AreVoices}
use Rattle.reg_tree.proofs.LostLemmas.{list_found}
use Rattle.reg_tree.proofs.undone.list.undone_in.Goals as goal

pub lost_of-requires-clause-voices : goal.lost_of-requires-clause-voices
lost_of-requires-clause-voices c = subst AreVoices (sym c.deref.ensures.value) c.in_ok-voices.ensures.voices

pub returns : goal.returns
returns c =
    list_found c.in_ok-voices.voices.items c.deref.result.now c.in_ok-whole.whole c.in_ok-lost.lost c.in_ok-made.made.items c.args.inputs.now c.args.join.now
    c.deref.ensures.value c.in_ok-voices.ensures.voices c.in_ok-voices.ensures.registers c.in_ok-whole.ensures.voice c.in_ok-whole.ensures.register
    c.in_ok-made.ensures c.len-count.ensures.ordered c.in_ok-lost.ensures
