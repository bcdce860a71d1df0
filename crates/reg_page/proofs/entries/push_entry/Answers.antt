use Rattle.std.proofs.Common.{ap, ◌∙◌, map, ℕ}
use Rattle.std.specs.Global.{Vec}
use Rattle.crs_value.specs.declared.key.Key.{Key}
use Rattle.std.specs.List.{flat_map}
use Rattle.html_page.proofs.JoinLemmas.{next}
use Rattle.html_page.specs.Templates.{entry_start, entry_id, event, by, area, kind_and_standing, conflict_link}
use Rattle.reg_op.specs.Status.{status}
use Rattle.reg_op.specs.Text.{printed}
use Rattle.reg_page.specs.Kinds.{kind_word}
use Rattle.reg_page.specs.Page.{standing_of, links_in, events_in, named}
use Rattle.reg_page.proofs.ActLemmas.{links_on, events_on}
use Rattle.reg_page.proofs.LoopLemmas.{as_others}
use Rattle.reg_page.proofs.entries.push_entry.Goals as goal

pub returns : goal.returns
returns c =
    let t = c.args.one.now in
    let d = t.system in
    let start = as_others _ (entry_start (printed t.id) t.key.authority.bytes t.key.code.bytes d.name.items)
    (λ j. entry_start ((c.deref.ensures.value ∙ c.in_ok-id.ensures) j) ((c.as_bytes.ensures ∙ ap (λ (k : Key). k.authority.bytes) c.get-key.ensures) j) ((c.as_bytes-2.ensures ∙ ap (λ (k : Key). k.code.bytes) c.get-key.ensures) j) (c.deref-2.ensures.value j)) c.in_ok-push_entry_start.ensures in
    let entered = as_others _ (entry_id (named c.args.names.now (printed t.id)) t.note.items)
    (λ j. entry_id ((c.deref-3.ensures.value ∙ c.in_ok-read.ensures) j) (c.deref-4.ensures.value j)) c.in_ok-push_entry_id.ensures in
    let areas = as_others _ (flat_map area (map (λ (a : Vec ℕ). a.items) d.areas.items))
    (λ j. flat_map area (map (λ (a : Vec ℕ). a.items) (c.deref-5.ensures.value j))) c.in_ok-push_areas.ensures in
    let standing = as_others _ (kind_and_standing (kind_word d.kind) (standing_of (status c.args.register.now.ops t.id))) (λ j. kind_and_standing (c.kind_word.ensures j) (c.standing_of.ensures j)) c.in_ok-push_standing.ensures in
    let events = as_others _ (flat_map (event (named c.args.names.now)) (flat_map (events_in c.args.described.now t.id) c.args.acts.now))
    (ap (flat_map (event (named c.args.names.now))) (ap (flat_map (events_in c.args.described.now t.id)) c.acts_on-mine.ensures ∙ events_on c.args.described.now t.id c.args.acts.now)) c.in_ok-push_events.ensures in
    let bys = as_others _ (flat_map (by (named c.args.names.now)) (flat_map (links_in c.args.described.now t.id) c.args.acts.now))
    (ap (flat_map (by (named c.args.names.now))) (ap (flat_map (links_in c.args.described.now t.id)) c.acts_on-mine.ensures ∙ links_on c.args.described.now t.id c.args.acts.now)) c.in_ok-push_bys.ensures in
    let conflict = as_others _ (conflict_link t.key.authority.bytes t.key.code.bytes c.args.contested)
    (λ j. conflict_link ((c.as_bytes-3.ensures ∙ ap (λ (k : Key). k.authority.bytes) c.get-key.ensures) j) ((c.as_bytes-4.ensures ∙ ap (λ (k : Key). k.code.bytes) c.get-key.ensures) j) c.args.contested) c.in_ok-push_conflict_link.ensures in
    next (next (next (next (next (next (next (next (next start c.in_ok-push_text_or_link.ensures) entered) events) c.in_ok-push_mark.ensures) areas) standing) bys) conflict) c.in_ok-push_mark-2.ensures
