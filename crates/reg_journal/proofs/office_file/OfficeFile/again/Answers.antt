use Rattle.std.proofs.Common.{◌&&◌, ◌≤◌, ◌≡◌, ◌<◌, ◌∙◌, ℕ, Bool, rules, length, refl, sym, ap, subst, inl, inr, arith}
use Rattle.std.proofs.lemmas.Bool.{true≢false, and_from, and_parts, false_from_ne_true}
use Rattle.reg_op.specs.Ids.{Id}
use Rattle.reg_office.specs.Making.{greatest}
use Rattle.reg_journal.specs.Journal.{is_own}
use Rattle.reg_journal.specs.Again.{is_again}
use Rattle.reg_journal.proofs.LateLemmas.{none_of_none, none_fits, none_at_zero, all_covered, covers_more, covers_all}
use Rattle.reg_journal.proofs.office_file.OfficeFile.again.Goals as goal

pub returns-then-is_empty : goal.returns-then-is_empty
returns-then-is_empty c =
    let none : length c.args.effects.now ≡ 0 = search rules in
    none_of_none c.args.seen.now c.args.joined.now c.args.self.now.replica c.args.note.now c.seen.ensures.content c.args.effects.now none

pub returns-then-effects-greatest : goal.returns-then-effects-greatest
returns-then-effects-greatest c =
    none_fits c.args.seen.now c.args.joined.now c.args.self.now.replica c.args.note.now c.seen.ensures.content c.last_count-greatest.result c.args.effects.now
    (c.last_count-greatest.ensures ∙ (λ k. greatest (c.replica-replica.ensures k) (c.seen.ensures.value k))) c.if-effects-greatest.true

pub loop-op-init : goal.loop-op-init
loop-op-init c =
    let some : 0 < length c.args.effects.now = search rules in
    let few = c.if-effects-greatest.false in
    let top = c.last_count-greatest.ensures ∙ (λ k. greatest (c.replica-replica.ensures k) (c.seen.ensures.value k)) in
    record {
      most = omega (arith, some, few, top);
      good = inl refl;
      covers = all_covered c.args.seen.now c.args.joined.now c.args.self.now.replica c.args.note.now c.args.effects.now c.as_slice-rest.result.now
          c.seen.ensures.content (c.as_slice-rest.ensures ∙ c.ops.ensures.items);
    }

pub loop-op-preserved : goal.loop-op-preserved
loop-op-preserved c =
    let r = c.args.self.now.replica in
    let t : ℕ → Bool = is_again c.args.seen.now c.args.joined.now.ops r c.args.note.now c.args.effects.now in
    let op = c.in-Some.op.now in
    let does : c.is_again-again.result ≡ (is_own r op.id && t op.id.count) =
    c.is_again-again.ensures
    ∙ (λ k. is_own (c.replica-replica.ensures k) (c.id-id.ensures.value k)
    && is_again c.args.seen.now c.args.joined.now.ops (c.replica-replica.ensures k) c.args.note.now c.args.effects.now (c.id-id.ensures.value k).count) in
    let number : c.count.result ≡ op.id.count = c.count.ensures.value ∙ ap (λ (i : Id). i.count) c.id-id.ensures.value in
    record {
      most = c.loop-op.invariant.most;
      good = elim c.later-last.ensures.either [
        | inl same ↦ elim c.loop-op.invariant.good [
          | inl none ↦ inl (same ∙ none)
          | inr good ↦ inr (ap t same ∙ good)
        ]
        | inr p ↦ inr (ap t (p.1 ∙ number) ∙ (and_parts (is_own r op.id) (t op.id.count) (sym does ∙ p.0)).1)
      ];
      covers = covers_more r t c.loop-op.last c.later-last.result c.loop-op.rest.now c.in-Some.others.now op c.in-Some.ensures.cases.0 c.later-last.ensures.grows
          (λ own good. subst (λ n. n ≤ c.later-last.result) number (c.later-last.ensures.counts (does ∙ and_from (is_own r op.id) (t op.id.count) own good)))
          c.loop-op.invariant.covers;
    }

pub returns-then-last-eq0 : goal.returns-then-last-eq0
returns-then-last-eq0 c = λ m.
    let r = c.args.self.now.replica in
    let t : ℕ → Bool = is_again c.args.seen.now c.args.joined.now.ops r c.args.note.now c.args.effects.now in
    false_from_ne_true _ (λ h.
    let low = covers_all r t c.loop-op.last m c.loop-op.rest.now c.in_default.ensures.cases c.loop-op.invariant.covers h in
    let last = c.if-last-eq0.true in
    let none : m ≡ 0 = omega (arith, low, last) in
    true≢false (sym h ∙ ap t none ∙ none_at_zero c.args.seen.now c.args.joined.now r c.args.note.now c.seen.ensures.content c.args.effects.now))
