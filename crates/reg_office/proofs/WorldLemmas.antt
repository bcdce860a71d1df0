-- The invariant holds after each event, and so in every world.
use Rattle.std.proofs.Common.{◌≡◌, ℕ, true, false, cond, List, [], ◌∷◌, length, refl, sym, ◌∙◌, subst, inl, inr, arith}
use Rattle.std.proofs.lemmas.Bool.{true≢false}
use Rattle.std.specs.Ordering.{is_eq}
use Rattle.reg_op.specs.Set as set
use Rattle.reg_op.specs.Set.{contains}
use Rattle.reg_op.specs.Operations.{Ops, op_cmp}
use Rattle.reg_op.specs.Contents.{Content, state, nothing}
use Rattle.reg_op.proofs.OpLemmas.{op_total}
use Rattle.reg_op.proofs.ContentLemmas.{state-empty, nothing_is_content}
use Rattle.reg_state.specs.Runs.{replica_cmp}
use Rattle.reg_state.proofs.RunLemmas.{same_replica, replica_itself}
use Rattle.reg_file.specs.Layout.{file}
use Rattle.reg_file.specs.Files.{Holds}
use Rattle.reg_office.specs.World.{Office, Sent, World, start, Event, Outcome, Unchanged, Clashes, Sends, Writes, Gains, put, pooled, After, Leads, IsWorld}
use Rattle.reg_office.proofs.WorldInvariant.{IsWithin, IsSent, Invariant, Grows, sent_within, IsGain, IsGood}
use Rattle.reg_office.proofs.WorldComes.{comes_good}
use Rattle.reg_office.proofs.PooledLemmas.{is_read}

-- ---- the world after an outcome

put_each : (P : List ℕ → Office → Type 0) (w : World) (i : List ℕ) (office : Office) → P i office → ((j : List ℕ) → is_eq (replica_cmp j i) ≡ false → P j (w.offices j)) → (j : List ℕ) → P j ((put w i office).offices j)
put_each P w i office here there j =
    elim (is_eq (replica_cmp j i)) as (λ b. is_eq (replica_cmp j i) ≡ b → P j (cond b office (w.offices j))) [
      | true ↦ λ e. subst (λ k. P k office) (sym (same_replica j i e)) here
      | false ↦ λ e. there j e
    ] refl

gain_keeps : (w : World) (inv : Invariant w) (i : List ℕ) (x : Content) (reached : Ops) (last : List ℕ) → IsGain w inv i x reached → Holds last x → Invariant (put w i (record { content = x; last = last; reached = reached }))
gain_keeps w inv i x reached last gain holds =
    let office : Office = record { content = x; last = last; reached = reached } in
    record {
      all = gain.all;
      operations = gain.operations;
      one_body = gain.one_body;
      content = put_each (λ j p. p.content ≡ state p.reached) w i office gain.is_state (λ j _. inv.content j);
      last = put_each (λ j p. Holds p.last (state p.reached)) w i office (subst (Holds last) gain.is_state holds) (λ j _. inv.last j);
      within = put_each (λ j p. IsWithin p.reached gain.all) w i office gain.within (λ j _ o h. gain.grows o (inv.within j o h));
      own = λ o h. put_each (λ j p. o.id.replica ≡ j → contains p.reached o ≡ true) w i office
          (λ e. elim (gain.news o h) [
            | inl a ↦ gain.more o (subst (λ j. contains (w.offices j).reached o ≡ true) e (inv.own o a))
            | inr a ↦ a.1
          ])
          (λ j differ e. elim (gain.news o h) [
            | inl a ↦ subst (λ k. contains (w.offices k).reached o ≡ true) e (inv.own o a)
            | inr a ↦ absurd (true≢false (sym (subst (λ k. is_eq (replica_cmp j k) ≡ true) (sym e ∙ a.0) (replica_itself j)) ∙ differ))
          ])
          o.id.replica refl;
      pool = sent_within inv.all gain.all w.pool gain.grows inv.pool;
    }

put_grows : (w : World) (i : List ℕ) (office : Office) → IsWithin (w.offices i).reached office.reached → Grows w (put w i office)
put_grows w i office more = put_each (λ j p. IsWithin (w.offices j).reached p.reached) w i office more (λ j _ o a. a)

sent_keeps : (w : World) (inv : Invariant w) (sent : Sent) → IsSent inv.all sent → Invariant (pooled w sent)
sent_keeps w inv sent is =
    record { all = inv.all; operations = inv.operations; one_body = inv.one_body; content = inv.content; last = inv.last; within = inv.within; own = inv.own; pool = (is, inv.pool) }

pub after_keeps : (w : World) (inv : Invariant w) (out : Outcome) → IsGood w inv out → (v : World) → After w out v → Invariant v × Grows w v
after_keeps w inv Unchanged good v h = subst (λ u. Invariant u × Grows w u) (sym h) (inv, λ i o a. a)
after_keeps w inv (Clashes id) good v h = absurd good
after_keeps w inv (Sends sent) good v h = subst (λ u. Invariant u × Grows w u) (sym h) (sent_keeps w inv sent good, λ i o a. a)
after_keeps w inv (Writes what reached) good v h = subst (λ u. Invariant u × Grows w u) (sym h.2) (
  sent_keeps w inv (record { bytes = h.0; reached = reached }) (record { what = what; holds = is_read h.0 what h.1; tells = good.tells; within = good.within }),
  λ i o a. a,
)
after_keeps w inv (Gains i x reached) good v h = subst (λ u. Invariant u × Grows w u) (sym h.2) (
  gain_keeps w inv i x reached h.0 good h.1,
  put_grows w i (record { content = x; last = h.0; reached = reached }) good.more,
)

pub leads_keeps : (events : List Event) (w : World) (inv : Invariant w) (v : World) → Leads w events v → Invariant v × Grows w v
leads_keeps [] w inv v h = subst (λ u. Invariant u × Grows w u) (sym h) (inv, λ i o a. a)
leads_keeps (e ∷ es) w inv v h =
    let out = h.1.1 in
    let step = after_keeps w inv out.0 (comes_good w inv e h.1.0 out.0 out.1) h.0 out.2 in
    let rest = leads_keeps es h.0 step.0 v h.2 in
    (rest.0, λ i o a. rest.1 i o (step.1 i o a))

-- ---- the first world

no_items : set.items (set.empty {R = op_cmp}) ≡ []
no_items = set.items-from_list op_total [] tt

empty_file : Holds (file [] []) nothing
empty_file = record {
  content = nothing_is_content;
  bytes_are = record { runs = []; are_runs = tt; all = refl; whole = λ k. file (sym no_items k) [] };
  short = let size : length (file [] []) ≡ 14 = refl in omega arith;
}

pub starts : Invariant start
starts = record {
  all = set.empty;
  operations = nothing_is_content.are_operations;
  one_body = nothing_is_content.one_body;
  content = λ i. sym state-empty;
  last = λ i. subst (Holds (file [] [])) (sym state-empty) empty_file;
  within = λ i o h. h;
  own = λ o h. h;
  pool = tt;
}

pub reached : (w : World) → IsWorld w → Invariant w
reached w h = (leads_keeps h.0 start starts w h.1).0
