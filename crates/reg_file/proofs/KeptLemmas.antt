-- The bytes of a content in the file of a register or of a piece are read as that content, and no others are.
use Rattle.std.proofs.Common.{◌≡◌, ℕ, ◌^◌, ◌<◌, true, not, ◌&&◌, List, [], ◌∷◌, ◌++◌, length, None, refl, sym, ap, subst, ◌∙◌, arith}
use Rattle.std.proofs.lemmas.Bool.{true≢false, or_left, or_right, false_from_ne_true}
use Rattle.std.proofs.lemmas.List.{append-nil}
use Rattle.std.specs.List.{flat_map}
use Rattle.std.specs.Option.{option_map}
use Rattle.reg_op.specs.Set as set
use Rattle.reg_op.specs.Set.{same_set, contains-items, contains-from_list}
use Rattle.reg_op.specs.Ids.{Id, Ids, IsId}
use Rattle.reg_op.specs.Operations.{Op, Ops, op_cmp, replaces, kept}
use Rattle.reg_op.specs.Finite.{any}
use Rattle.reg_op.specs.Kept.{first_dropped}
use Rattle.reg_op.specs.Contents.{Content, IsContent}
use Rattle.reg_op.specs.Lists.{has, ById, content_at}
use Rattle.reg_op.proofs.OpLemmas.{op_total, op_exact}
use Rattle.reg_op.proofs.ClashLemmas.{items_are, find_none}
use Rattle.reg_op.proofs.ItemLemmas.{items_by_id}
use Rattle.reg_op.proofs.ContentLemmas.{contains-kept, same_content}
use Rattle.reg_op.proofs.FiniteLemmas.{some_of}
use Rattle.reg_state.specs.declared.run.Run.{Run}
use Rattle.reg_state.specs.Runs.{last_of, is_in_run, is_in_runs, AreRuns, EndInIds, AllIds, seen_of}
use Rattle.reg_state.proofs.RunLemmas.{first_run, rest_runs, contains-seen_of}
use Rattle.reg_state.proofs.SearchLemmas.{last_in}
use Rattle.reg_file.specs.Layout.{four, op_bytes, ops_bytes, ranges_bytes, runs_of, grouped}
use Rattle.reg_file.specs.Reading.{operation, id_after}
use Rattle.reg_file.specs.Readers.{ReadsEach}
use Rattle.reg_file.specs.Steps.{ReadsSeen, ReadsKept}
use Rattle.reg_file.proofs.FieldLemmas.{IsBytes, Takes, Takes-then, number_takes, number_again}
use Rattle.reg_file.proofs.GroupLemmas.{AllApart, grouped_runs, groups_runs, runs_grouped, good_groups, ranges_take, ranges_again}
use Rattle.reg_file.proofs.NoteLemmas.{AreTold}
use Rattle.reg_file.proofs.ListLemmas.{ops_take, ops_again, by_id_of, told_of_own, own_of_by_id}
use Rattle.reg_file.proofs.LongLemmas.{grouped_long}
use Rattle.reg_file.proofs.ExactLemmas.{ranges_exact, seen_and_kept_exact}

-- ---- the items of a content

of_items : (s : Ops) → set.from_list {R = op_cmp} (set.items s) ≡ s
of_items s = same_set op_total op_exact _ _ (λ q. contains-from_list op_total (set.items s) q ∙ sym (contains-items s q))

none_dropped : (s : Ops) → kept s ≡ s → first_dropped s ≡ None
none_dropped s same = ap (option_map (λ (o : Op). o.id)) (find_none (λ o. any (λ p. replaces p o) s) (set.items s) (false_from_ne_true _ (λ h.
    let r = some_of op_total op_exact (λ o. any (λ p. replaces p o) s) (set.items s) h in
    let there : set.contains s r.0 ≡ true = contains-items s r.0 ∙ r.1 in
    true≢false (sym (ap (λ t. set.contains t r.0) same ∙ there) ∙ contains-kept s r.0 ∙ (λ k. there k && not (r.2 k))))))

-- the last id of each run is valid
pub ends_of : (rs : List Run) → AreRuns rs → ((i : Id) → is_in_runs i rs ≡ true → IsId i) → EndInIds rs
ends_of [] are each = tt
ends_of (r ∷ rs) are each = (
  each (last_of r) (or_left _ (is_in_runs (last_of r) rs) (last_in r (first_run r rs are))),
  ends_of rs (rest_runs r rs are) (λ i h. each i (or_right (is_in_run i r) _ h)),
)

-- ---- ids

pub record TakesSeen (bytes : List ℕ) (ids : Ids) (rest : List ℕ) : Type 0 where
  pub runs : List Run
  pub are_runs : AreRuns runs
  pub all : seen_of runs ≡ ids
  pub takes : Takes bytes (ranges_bytes (grouped runs)) rest

pub seen_take : (basis : Ids) (bytes : List ℕ) (ids : Ids) (rest : List ℕ) → IsBytes bytes → ReadsSeen basis bytes ids rest → TakesSeen bytes ids rest
seen_take basis bytes ids rest fits r =
    let t = ranges_take basis bytes r.count r.all rest fits r.reads in
    record {
      runs = runs_of r.all;
      are_runs = groups_runs basis None r.all t.1;
      all = sym r.ids;
      takes = subst (λ gs. Takes bytes (ranges_bytes gs) rest) (sym (grouped_runs basis None r.all t.1)) t.0;
    }

pub seen_again : (basis ids : Ids) (rs : List Run) (rest : List ℕ) → AllIds ids → AreRuns rs → seen_of rs ≡ ids → AllApart basis rs → length rs < 2 ^ 32 → ReadsSeen basis (ranges_bytes (grouped rs) ++ rest) ids rest
seen_again basis ids rs rest are_ids are all out few =
    let few_groups : length (grouped rs) < 2 ^ 32 = (let k = grouped_long rs in omega arith) in
    let good = good_groups basis rs are (ends_of rs are (λ i k. are_ids i (ap (λ s. set.contains s i) (sym all) ∙ contains-seen_of rs i ∙ k))) out few in
    record { count = length (grouped rs); all = grouped rs; reads = ranges_again basis (grouped rs) rest few_groups good; ids = sym (ap seen_of (runs_grouped rs) ∙ all) }

pub seen_one : (basis : Ids) (bytes : List ℕ) (x y : Ids) (rest left : List ℕ) → ReadsSeen basis bytes x rest → ReadsSeen basis bytes y left → (x ≡ y) × (rest ≡ left)
seen_one basis bytes x y rest left r s =
    let e = (ranges_exact basis).one_value bytes (r.count, r.all) (s.count, s.all) rest left r.reads s.reads in
    (r.ids ∙ (λ k. seen_of (runs_of (e.0 k).1)) ∙ sym s.ids, e.1)

-- ---- contents

pub record TakesKept (version : ℕ) (basis : Ids) (bytes : List ℕ) (x : Content) : Type 0 where
  pub runs : List Run
  pub are_runs : AreRuns runs
  pub all : seen_of runs ≡ x.seen
  pub whole : bytes ≡ ranges_bytes (grouped runs) ++ ops_bytes version (set.items x.ops)
  pub told : AreTold version x.ops

pub kept_take : (version : ℕ) (basis : Ids) (bytes : List ℕ) (x : Content) → IsBytes bytes → ReadsKept version basis bytes x → TakesKept version basis bytes x
kept_take version basis bytes x fits r =
    let e3 = r.reads in
    let e4 = e3.1 in
    let e5 = e4.2 in
    let os = r.ops in
    let gs = r.groups in
    let second = ranges_take basis bytes r.replicas gs e4.0 fits e4.1 in
    let third = number_takes e4.0 r.count e5.0 second.0.rest_fits e5.1 in
    let fourth = ops_take version (seen_of (runs_of gs)) None e5.0 os e3.0 third.0.rest_fits e5.2.0 in
    let up : ById os = by_id_of version None (seen_of (runs_of gs)) os fourth.own in
    let counted : e4.0 ≡ (four (length os) ++ flat_map (op_bytes version) os) ++ e3.0 =
    subst (λ n. e4.0 ≡ (four n ++ flat_map (op_bytes version) os) ++ e3.0) (sym e5.2.1) (Takes-then e4.0 (four r.count) e5.0 (flat_map (op_bytes version) os) e3.0 third.0 fourth.takes).parts in
    let all_ops : e4.0 ≡ ops_bytes version os = counted ∙ ap (λ (t : List ℕ). ops_bytes version os ++ t) e3.2.1 ∙ append-nil (ops_bytes version os) in
    let items : set.items x.ops ≡ os = ap (λ (y : Content). set.items y.ops) r.is ∙ items_are os up in
    record {
      runs = runs_of gs;
      are_runs = groups_runs basis None gs second.1;
      all = sym (ap (λ (y : Content). y.seen) r.is);
      whole = second.0.parts ∙ (λ k. ranges_bytes (sym (grouped_runs basis None gs second.1) k) ++ all_ops k) ∙ ap (λ xs. ranges_bytes (grouped (runs_of gs)) ++ ops_bytes version xs) (sym items);
      told = λ o h. told_of_own version None (seen_of (runs_of gs)) os fourth.own o (sym (ap (λ xs. has xs o) items) ∙ sym (contains-items x.ops o) ∙ h);
    }

pub kept_again : (version : ℕ) (basis : Ids) (x : Content) (rs : List Run) → IsContent x → AreTold version x.ops → AreRuns rs → seen_of rs ≡ x.seen → AllApart basis rs → length rs < 2 ^ 32 → length (set.items x.ops) < 2 ^ 32
    → ReadsKept version basis (ranges_bytes (grouped rs) ++ ops_bytes version (set.items x.ops)) x
unfolding seen_again
kept_again version basis x rs is told are all out few_runs few_ops =
    let os = set.items x.ops in
    let gs = grouped rs in
    let ranges = seen_again basis x.seen rs (ops_bytes version os) is.are_ids are all out few_runs in
    let seen_is : seen_of (runs_of gs) ≡ x.seen = ap seen_of (runs_grouped rs) ∙ all in
    let own = own_of_by_id version None (seen_of (runs_of gs)) os (items_by_id x.ops is.one_body) (λ o k.
    let there : set.contains x.ops o ≡ true = contains-items x.ops o ∙ k in
    (is.are_operations o there, told o there, ap (λ s. set.contains s o.id) seen_is ∙ is.are_seen o there, refl)) in
    record {
      replicas = length gs;
      groups = gs;
      count = length os;
      ops = os;
      reads = (
        [],
        (
          ops_bytes version os,
          ranges.reads,
          (
            flat_map (op_bytes version) os,
            number_again (length os) (flat_map (op_bytes version) os) few_ops,
            (
              subst (λ (t : List ℕ). ReadsEach (operation version (seen_of (runs_of gs))) id_after None t os []) (append-nil (flat_map (op_bytes version) os))
                  (ops_again version (seen_of (runs_of gs)) None os [] own),
              refl,
            ),
          ),
        ),
        (ap first_dropped (of_items x.ops) ∙ none_dropped x.ops is.is_kept, refl, refl),
      );
      is = same_content _ _ (sym (of_items x.ops)) (sym seen_is);
      content = is;
    }

pub kept_one : (version : ℕ) (basis : Ids) (bytes : List ℕ) (x y : Content) → ReadsKept version basis bytes x → ReadsKept version basis bytes y → x ≡ y
kept_one version basis bytes x y r s =
    let e = ((seen_and_kept_exact version basis).one_value bytes (((r.replicas, r.groups), (r.count, r.ops)), tt) (((s.replicas, s.groups), (s.count, s.ops)), tt) [] [] r.reads s.reads).0 in
    r.is ∙ (λ k. content_at (e k).0.1.1 (seen_of (runs_of (e k).0.0.1))) ∙ sym s.is
