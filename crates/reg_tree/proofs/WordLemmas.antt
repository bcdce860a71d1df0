-- What a saying is, in words.
use Rattle.std.proofs.Common.{◌≡◌, ◌↔◌, true, not, ◌&&◌, refl, sym, ap, ◌∙◌, subst}
use Rattle.std.proofs.lemmas.Bool.{and_from, and_parts, not-true, not_from_false, false_from_ne_true, true_from_ne_false, true≢false}
use Rattle.std.specs.Prelude.{ℕ, List}
use Rattle.std.specs.Ordering.{is_eq}
use Rattle.std.specs.Cmp.{tied_itself}
use Rattle.reg_op.specs.Set.{contains}
use Rattle.reg_op.specs.Ids.{Id, is_same}
use Rattle.reg_op.specs.declared.operation.OpBody.{OpBody as Body}
use Rattle.reg_op.specs.declared.operation.OpBody.TheVariants.{Enter, Supersede, Retire}
use Rattle.reg_op.specs.Operations.{Ops}
use Rattle.reg_op.specs.Kept.{entering}
use Rattle.reg_op.specs.Status.{retires}
use Rattle.reg_op.proofs.FiniteLemmas.{any_from_member, member_from_any}
use Rattle.reg_op.proofs.OpLemmas.{op_total, op_exact, id_total, is_same_exact}
use Rattle.reg_tree.specs.Sayings.{Keys, By, Withdrawn, enters_key, is_entry, is_in_use, stands, tells, IsLive, IsSaidBy, IsWithdrawnBy}

pub same_id : (i : Id) → is_same i i ≡ true
same_id i = ap is_eq (tied_itself id_total i)

-- an Enter of a text of the key
pub record Entered {K : Type 0} (has : Keys K) (s : Ops) (key : K) (e : Id) : Type 0 where
  pub text : List ℕ
  pub note : List ℕ
  pub entered : contains s (entering e text note) ≡ true
  pub keyed : has text key ≡ true

entered_by : {K : Type 0} (has : Keys K) (s : Ops) (key : K) (e i : Id) (b : Body) (m : List ℕ) → i ≡ e → contains s (record { id = i; body = b; note = m }) ≡ true → enters_key has key b ≡ true → Entered has s key e
entered_by has s key e i (Enter text) m is there k = record { text = text; note = m; entered = subst (λ j. contains s (entering j text m) ≡ true) is there; keyed = k }
entered_by has s key e i (Supersede a b) m is there k = absurd (true≢false (sym k))
entered_by has s key e i (Retire a) m is there k = absurd (true≢false (sym k))

pub entered_from : {K : Type 0} (has : Keys K) (s : Ops) (key : K) (e : Id) → is_entry has s key e ≡ true → Entered has s key e
entered_from has s key e h =
    let r = member_from_any op_total op_exact (λ o. is_same e o.id && enters_key has key o.body) s h in
    let p = and_parts (is_same e r.0.id) (enters_key has key r.0.body) r.2 in
    entered_by has s key e r.0.id r.0.body r.0.note (sym (is_same_exact e r.0.id p.0)) r.1 p.1

is_entry_from : {K : Type 0} (has : Keys K) (s : Ops) (key : K) (e : Id) (text note : List ℕ) → contains s (entering e text note) ≡ true → has text key ≡ true → is_entry has s key e ≡ true
is_entry_from has s key e text note there keyed =
    any_from_member op_total op_exact (λ o. is_same e o.id && enters_key has key o.body) s (entering e text note) there (and_from _ _ (same_id e) keyed)

lives : {K : Type 0} (has : Keys K) (s : Ops) (key : K) (e : Id) → stands has s key e ≡ true → IsLive has s key e
lives has s key e h =
    let p = and_parts _ _ h in
    let r = entered_from has s key e p.0 in
    record { text = r.text; note = r.note; entered = r.entered; keyed = r.keyed; stays = not-true _ p.1 }

stands_from : {K : Type 0} (has : Keys K) (s : Ops) (key : K) (e : Id) → IsLive has s key e → stands has s key e ≡ true
stands_from has s key e l = and_from _ _ (is_entry_from has s key e l.text l.note l.entered l.keyed) (not_from_false _ l.stays)

by_to : {K : Type 0} (has : Keys K) (s : Ops) (old newer : K) (b : Body) → tells has s (By old newer) b ≡ true → IsSaidBy has s old newer b
by_to has s old newer (Enter text) h = absurd (true≢false (sym h))
by_to has s old newer (Retire e) h = absurd (true≢false (sym h))
by_to has s old newer (Supersede e n) h =
    let p = and_parts (not (is_entry has s old n)) _ h in
    let q = and_parts (stands has s old e) (stands has s newer n) p.1 in
    record {
      e = e;
      n = n;
      is = refl;
      old_lives = lives has s old e q.0;
      newer_lives = lives has s newer n q.1;
      other = λ t m there. false_from_ne_true _ (λ k. true≢false (sym (is_entry_from has s old n t m there k) ∙ not-true _ p.0));
    }

by_from : {K : Type 0} (has : Keys K) (s : Ops) (old newer : K) (b : Body) → IsSaidBy has s old newer b → tells has s (By old newer) b ≡ true
by_from has s old newer b w = subst (λ c. tells has s (By old newer) c ≡ true) (sym w.is)
    (and_from _ _ (not_from_false _ (false_from_ne_true _ (λ k.
    let r = entered_from has s old w.n k in
    true≢false (sym r.keyed ∙ w.other r.text r.note r.entered))))
    (and_from _ _ (stands_from has s old w.e w.old_lives) (stands_from has s newer w.n w.newer_lives)))

pub said_by : {K : Type 0} (has : Keys K) (s : Ops) (old newer : K) (b : Body) → (tells has s (By old newer) b ≡ true) ↔ IsSaidBy has s old newer b
said_by has s old newer b = (by_to has s old newer b, by_from has s old newer b)

withdrawn_to : {K : Type 0} (has : Keys K) (s : Ops) (key : K) (b : Body) → tells has s (Withdrawn key) b ≡ true → IsWithdrawnBy has s key b
withdrawn_to has s key (Enter text) h = absurd (true≢false (sym h))
withdrawn_to has s key (Supersede e n) h = absurd (true≢false (sym h))
withdrawn_to has s key (Retire e) h =
    let p = and_parts (is_entry has s key e) (not (is_in_use has s key)) h in
    let r = entered_from has s key e p.0 in
    record {
      e = e;
      is = refl;
      text = r.text;
      note = r.note;
      entered = r.entered;
      keyed = r.keyed;
      all = λ i t n there keyed. true_from_ne_false _ (λ f. true≢false (
          sym (any_from_member op_total op_exact (λ o. enters_key has key o.body && not (retires s o.id)) s (entering i t n) there (and_from _ _ keyed (not_from_false _ f)))
          ∙ not-true _ p.1));
    }

withdrawn_from : {K : Type 0} (has : Keys K) (s : Ops) (key : K) (b : Body) → IsWithdrawnBy has s key b → tells has s (Withdrawn key) b ≡ true
withdrawn_from has s key b w = subst (λ c. tells has s (Withdrawn key) c ≡ true) (sym w.is)
    (and_from _ _ (is_entry_from has s key w.e w.text w.note w.entered w.keyed) (not_from_false _ (false_from_ne_true _ (λ h.
    let r = member_from_any op_total op_exact (λ o. enters_key has key o.body && not (retires s o.id)) s h in
    let p = and_parts (enters_key has key r.0.body) (not (retires s r.0.id)) r.2 in
    let t = entered_by has s key r.0.id r.0.id r.0.body r.0.note refl r.1 p.0 in
    true≢false (sym (w.all r.0.id t.text t.note t.entered t.keyed) ∙ not-true _ p.1)))))

pub withdrawn_by : {K : Type 0} (has : Keys K) (s : Ops) (key : K) (b : Body) → (tells has s (Withdrawn key) b ≡ true) ↔ IsWithdrawnBy has s key b
withdrawn_by has s key b = (withdrawn_to has s key b, withdrawn_from has s key b)
