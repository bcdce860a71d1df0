use Rattle.std.proofs.Common.{List, map, sym, ◌∙◌, subst}
use Rattle.std.proofs.lemmas.List.{nil_from_length}
use Rattle.reg_report.specs.Seen.{row_seen}
use Rattle.reg_disorder.specs.declared.link.OlderLink.{OlderLink}
use Rattle.reg_disorder.specs.Heirs.{AreFirst, Visits}
use Rattle.reg_disorder.proofs.HeirLemmas.{search_begins, visited, less_left, search_ends}
use Rattle.reg_disorder.proofs.heir.with_heirs.Goals as goal

pub loop-id-init : goal.loop-id-init
loop-id-init c = search_begins (map row_seen c.args.rows.now) c.args.valid.now c.in_ok-links.links.items c.in_ok-todo.todo.items c.new-found.result c.in_ok-links.ensures.links c.requires.valid
    (subst (λ (xs : List OlderLink). AreFirst c.args.valid.now xs c.in_ok-todo.todo.items) c.deref.ensures.value c.in_ok-todo.ensures) c.new-found.ensures.empty

pub loop-id-smaller : goal.loop-id-smaller
loop-id-smaller c =
    less_left c.in_ok-links.links.items c.loop-id.todo.items c.pop.new.self.items c.in-Some.id c.in-Some.ensures.items c.loop-id.found c.visit.new.found c.visit.new.todo.items
    (subst (λ (l : List OlderLink). Visits l c.in-Some.id c.pop.new.self.items c.loop-id.found c.visit.new.todo.items c.visit.new.found) c.deref-in-Some.ensures.value c.in_ok-visit.ensures)

pub loop-id-preserved : goal.loop-id-preserved
loop-id-preserved c =
    visited (map row_seen c.args.rows.now) c.in_ok-links.links.items c.in_ok-links.ensures.links c.loop-id.todo.items c.pop.new.self.items c.in-Some.id c.in-Some.ensures.items c.loop-id.found c.loop-id.invariant c.visit.new.todo.items c.visit.new.found
    (subst (λ (l : List OlderLink). Visits l c.in-Some.id c.pop.new.self.items c.loop-id.found c.visit.new.todo.items c.visit.new.found) c.deref-in-Some.ensures.value c.in_ok-visit.ensures)

pub returns : goal.returns
returns c = search_ends (map row_seen c.args.rows.now) c.loop-id.todo.items c.loop-id.found (nil_from_length c.loop-id.todo.items (sym c.loop-id.todo.ok.0 ∙ c.in_default.ensures.cases.0)) c.loop-id.invariant
