use Rattle.std.proofs.Common.{List, ℕ, None, map, refl, subst, inl, inr, ◌∙◌}
use Rattle.byte_io.specs.Whole.{WritesAll}
use Rattle.html_page.specs.Pieces.{html}
use Rattle.html_page.specs.Templates.{page}
use Rattle.reg_report.specs.Between.{gaps_between}
use Rattle.reg_report.specs.Contenders.{conflict_seen}
use Rattle.reg_report.proofs.GapLemmas.{gaps_are}
use Rattle.reg_page.specs.Descriptions.{InOrder}
use Rattle.reg_page.specs.Page.{shown_of, named}
use Rattle.reg_page.specs.Writing.{IsStopped}
use Rattle.reg_page.proofs.WholeLemmas.{paged}
use Rattle.reg_page.proofs.page.print_page.Goals as goal

pub returns-in-Ok-write_page-clause-printed : goal.returns-in-Ok-write_page-clause-printed
returns-in-Ok-write_page-clause-printed g c =
    let x = c.args.register.now in
    let title = c.args.title.now in
    let names = c.args.names.now in
    let gaps = gaps_between None c.runs-runs.result.now in
    let missing = gaps_are c.runs-runs.result.now x.seen gaps c.runs-runs.ensures.runs (c.runs-runs.ensures.all ∙ c.seen.ensures.value) refl in
    let made = c.in-Ok-write_page.ensures.written in (
      html (page (named names) (shown_of x title made.0 c.in-Ok.found.acts.items (map conflict_seen c.in-Ok.found.conflicts.items) c.in-Ok.found.awaited.items gaps)),
      paged c.args.rules.now title names x c.in-Ok.found made.0 gaps c.in-Ok.ensures (subst (λ l. InOrder l made.0) c.deref.ensures.value made.1) missing,
      subst (λ (l : List ℕ). WritesAll l (g.K.Sink.state c.args.sink.now) (g.K.Sink.state c.write_page.new.sink))
          (λ j. html (page (named names) (shown_of x title made.0 (c.deref-2.ensures.value j) (map conflict_seen (c.deref-3.ensures.value j)) (c.deref-4.ensures.value j) gaps))) made.2,
    )

pub returns-clause-fault : goal.returns-clause-fault
returns-clause-fault g c =
    let x = c.args.register.now in
    let title = c.args.title.now in
    let names = c.args.names.now in
    let gaps = gaps_between None c.runs-runs.result.now in
    let missing = gaps_are c.runs-runs.result.now x.seen gaps c.runs-runs.ensures.runs (c.runs-runs.ensures.all ∙ c.seen.ensures.value) refl in
    elim c.in-Err-write_page.ensures.fault [
      | inl none ↦ inl none
      | inr made ↦ inr (
        html (page (named names) (shown_of x title made.0 c.in-Ok.found.acts.items (map conflict_seen c.in-Ok.found.conflicts.items) c.in-Ok.found.awaited.items gaps)),
        paged c.args.rules.now title names x c.in-Ok.found made.0 gaps c.in-Ok.ensures (subst (λ l. InOrder l made.0) c.deref.ensures.value made.1) missing,
        subst (λ (l : List ℕ). IsStopped l (g.K.Sink.state c.args.sink.now) (g.K.Sink.state c.write_page.new.sink) c.in-Err-write_page.fault)
            (λ j. html (page (named names) (shown_of x title made.0 (c.deref-2.ensures.value j) (map conflict_seen (c.deref-3.ensures.value j)) (c.deref-4.ensures.value j) gaps))) made.2,
      )
    ]
