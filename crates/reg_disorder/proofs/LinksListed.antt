-- The links of heirs, in order and each once.
use Rattle.std.specs.Prelude.{◌↔◌, Contains}
use Rattle.std.proofs.Common.{◌≡◌, true, false, List, [], sym, ap, ◌∙◌, subst}
use Rattle.std.proofs.lemmas.Bool.{true≢false}
use Rattle.std.specs.List.{list_any}
use Rattle.std.specs.Cmp.{tied_itself, Equal-is}
use Rattle.std.specs.Ordering.{is_eq, eq_by_cmp}
use Rattle.reg_op.specs.Set as set
use Rattle.reg_op.specs.Set.{contains, contains-from_list, contains-empty, items-from_list}
use Rattle.reg_op.specs.Operations.{Ops}
use Rattle.reg_report.proofs.ConflictLemmas.{any_of_member, member_of_any}
use Rattle.reg_disorder.specs.declared.linking.link.Link.{Link}
use Rattle.reg_disorder.specs.Links.{link_cmp}
use Rattle.reg_disorder.specs.Passing.{is_cut, PassesTo, AreHeirLinks}
use Rattle.reg_disorder.proofs.Allowed.{link_total, link_exact}

is_listed : (ls : List Link) (l : Link) → (contains (set.from_list {R = link_cmp} ls) l ≡ true) ↔ Contains ls l
is_listed ls l = (
  λ h.
      let m = member_of_any (eq_by_cmp link_cmp l) ls (sym (contains-from_list link_total ls l) ∙ h) in
      let same : l ≡ m.0 = link_exact l m.0 ((Equal-is (link_cmp l m.0)).0 m.2) in
      subst (λ k. Contains ls k) (sym same) m.1,
  λ c. contains-from_list link_total ls l ∙ any_of_member (eq_by_cmp link_cmp l) ls l c (ap is_eq (tied_itself link_total l)),
)

pub all_listed : (s : Ops) (before made links : List Link) → ((l : Link) → Contains made l ↔ PassesTo before s l) → links ≡ set.items (set.from_list {R = link_cmp} made) → AreHeirLinks before s links
all_listed s before made links each e = record {
  all = set.from_list {R = link_cmp} made;
  items = e;
  each = λ l. (λ h. (each l).0 ((is_listed made l).0 h), λ p. (is_listed made l).1 ((each l).1 p));
}

pub none_cut : (s : Ops) (before links : List Link) → list_any (is_cut s) before ≡ false → links ≡ [] → AreHeirLinks before s links
none_cut s before links none e = record {
  all = set.empty;
  items = e ∙ sym (items-from_list link_total [] tt);
  each = λ l. (
    λ h. absurd (true≢false (sym h ∙ contains-empty link_cmp l)),
    λ p. absurd (true≢false (sym (any_of_member (is_cut s) before p.link p.there p.cut) ∙ none)),
  );
}
