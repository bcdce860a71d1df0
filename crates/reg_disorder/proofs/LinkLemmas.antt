-- The supersessions of rows, and those by one entry.
use Rattle.std.proofs.Common.{◌≡◌, ◌+◌, ◌-◌, List, [], ◌∷◌, ◌++◌, map, append-nil, sym, ap, ◌∙◌, subst, inl, inr}
use Rattle.std.proofs.lemmas.List.Concat.{flat_map-append}
use Rattle.std.proofs.lemmas.List.Elements.{Contains-append_left, Contains-append_right, Contains-append_cases}
use Rattle.std.proofs.lemmas.List.Sorted.{Contains-permutation, IsPermutation-sym}
use Rattle.std.specs.List.{Contains, flat_map}
use Rattle.std.specs.List.Sorted.{IsSorted, IsPermutation}
use Rattle.std.specs.Cmp.{IsTotalOrder, then_total, on_total}
use Rattle.reg_op.specs.Ids.{id_cmp}
use Rattle.reg_op.specs.Rows.{Row}
use Rattle.reg_op.proofs.OpLemmas.{id_total}
use Rattle.reg_report.proofs.WindowLemmas.{Ascends, ascends_by_first}
use Rattle.reg_report.proofs.ConflictLemmas.{none_in, in_cons, in_head, in_tail, in_map, from_map}
use Rattle.reg_disorder.specs.declared.link.OlderLink.{OlderLink}
use Rattle.reg_disorder.specs.Disorders.{IsSupersededBy}
use Rattle.reg_disorder.specs.Heirs.{link_cmp, link_to, AreLinks}

-- ---- the links of rows

abbrev pub links_in : Row → List OlderLink
links_in r = map (link_to r.entry) r.newer

-- these are the links of the rows, one row after another
abbrev pub Lists : List OlderLink → List Row → Type 0
Lists links rs = links ≡ flat_map links_in rs

pub lists_more : (rs : List Row) (r : Row) (old new : List OlderLink) → new ≡ old ++ links_in r → Lists old rs → Lists new (rs ++ r ∷ [])
lists_more rs r old new e was = e ∙ (λ j. was j ++ sym (append-nil (links_in r)) j) ∙ sym (flat_map-append links_in rs (r ∷ []))

in_links : (rs : List Row) (x : OlderLink) → Contains (flat_map links_in rs) x → IsSupersededBy rs x.old x.newer
in_links [] x h = absurd (none_in x h)
in_links (r ∷ rs) x h = elim (Contains-append_cases (links_in r) (flat_map links_in rs) x h) [
  | inl here ↦
      let f = from_map (link_to r.entry) r.newer x here in
      record { row = r; there = in_head r rs; is = sym (ap (λ (y : OlderLink). y.old) f.2); newer = subst (Contains r.newer) (sym (ap (λ (y : OlderLink). y.newer) f.2)) f.1 }
  | inr later ↦
      let s = in_links rs x later in
      record { row = s.row; there = in_tail s.row r rs s.there; is = s.is; newer = s.newer }
]

at_row : (rs : List Row) (r : Row) (x : OlderLink) → Contains rs r → Contains (links_in r) x → Contains (flat_map links_in rs) x
at_row [] r x h m = absurd (none_in r h)
at_row (q ∷ rs) r x h m = elim (in_cons r q rs h) [
  | inl same ↦ Contains-append_left (links_in q) (flat_map links_in rs) x (subst (λ p. Contains (links_in p) x) same m)
  | inr later ↦ Contains-append_right (links_in q) (flat_map links_in rs) x (at_row rs r x later m)
]

link_of : (rs : List Row) (x : OlderLink) → IsSupersededBy rs x.old x.newer → Contains (flat_map links_in rs) x
link_of rs x s =
    let made : link_to s.row.entry x.newer ≡ x = λ j. record { newer = x.newer; old = s.is j } in
    at_row rs s.row x s.there (subst (Contains (links_in s.row)) made (in_map (link_to s.row.entry) s.row.newer x.newer s.newer))

pub links_are : (rs : List Row) (made sorted : List OlderLink) → Lists made rs → IsPermutation made sorted → AreLinks rs sorted
links_are rs made sorted e p x = (
  λ h. in_links rs x (subst (λ l. Contains l x) e (Contains-permutation sorted made x (IsPermutation-sym made sorted p) h)),
  λ s. Contains-permutation made sorted x p (subst (λ l. Contains l x) (sym e) (link_of rs x s)),
)

-- ---- the links by one entry

link_total : IsTotalOrder link_cmp
link_total = then_total (on_total (λ (x : OlderLink). x.newer) id_total) (on_total (λ (x : OlderLink). x.old) id_total)

pub newer_ascends : (xs : List OlderLink) → IsSorted link_cmp xs → Ascends (λ (x : OlderLink). x.newer) id_cmp id_total xs
newer_ascends xs up = ascends_by_first (λ (x : OlderLink). x.newer) id_cmp id_total (λ a b. id_cmp a.old b.old) link_total xs up
