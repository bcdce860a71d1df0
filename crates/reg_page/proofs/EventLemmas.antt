-- What is appended for an operation on an entry, for two entries in conflict, and for a link.
use Rattle.std.proofs.Common.{◌≡◌, ℕ, false, List, [], ◌∷◌, Option, Some, None, sym, append-nil}
use Rattle.std.specs.List.{flat_map}
use Rattle.html_page.specs.Pieces.{Piece, Appends}
use Rattle.html_page.proofs.JoinLemmas.{nothing}
use Rattle.html_page.specs.Shown.{Entered, Awaited}
use Rattle.html_page.specs.Templates.{link, event, by, pair}
use Rattle.reg_op.specs.Ids.{Id, is_same}
use Rattle.reg_op.specs.Text.{printed}
use Rattle.reg_op.specs.Operations.{Op}
use Rattle.reg_op.specs.declared.operation.OpBody.TheVariants.{Enter, Supersede, Retire}
use Rattle.reg_page.specs.declared.described.Described.{Described}
use Rattle.reg_page.specs.Page.{described_at, link_to, events_in, links_in, side_of, pairs_of, pairs_among}
use Rattle.reg_page.proofs.LoopLemmas.{as_others}

-- a list of one item shows what the item shows
alone : {T : Type 0} (f : T → List Piece) (x : T) {start end : List ℕ} → Appends start end (f x) → Appends start end (flat_map f (x ∷ []))
alone f x h = as_others (f x) (flat_map f (x ∷ [])) (sym (append-nil (f x))) h

pub entering_shows : (named : List ℕ → List ℕ) (described : List Described) (e : Id) (o : Op) (d page : List ℕ) → o.body ≡ Enter d → Appends page page (flat_map (event named) (events_in described e o))
entering_shows named described e o d page is = rw is (nothing page)

pub superseding_other : (named : List ℕ → List ℕ) (described : List Described) (e old newer : Id) (o : Op) (page : List ℕ) → o.body ≡ Supersede old newer → is_same old e ≡ false → Appends page page (flat_map (event named) (events_in described e o))
superseding_other named described e old newer o page is other = rw (is, other) (nothing page)

pub retiring_other : (named : List ℕ → List ℕ) (described : List Described) (e entry : Id) (o : Op) (page : List ℕ) → o.body ≡ Retire entry → is_same entry e ≡ false → Appends page page (flat_map (event named) (events_in described e o))
retiring_other named described e entry o page is other = rw (is, other) (nothing page)

pub entering_leads : (named : List ℕ → List ℕ) (described : List Described) (e : Id) (o : Op) (d page : List ℕ) → o.body ≡ Enter d → Appends page page (flat_map (by named) (links_in described e o))
entering_leads named described e o d page is = rw is (nothing page)

pub retiring_leads : (named : List ℕ → List ℕ) (described : List Described) (e entry : Id) (o : Op) (page : List ℕ) → o.body ≡ Retire entry → Appends page page (flat_map (by named) (links_in described e o))
retiring_leads named described e entry o page is = rw is (nothing page)

pub other_leads : (named : List ℕ → List ℕ) (described : List Described) (e old newer : Id) (o : Op) (page : List ℕ) → o.body ≡ Supersede old newer → is_same old e ≡ false → Appends page page (flat_map (by named) (links_in described e o))
other_leads named described e old newer o page is other = rw (is, other) (nothing page)

pub no_pair : (named : List ℕ → List ℕ) (one other : Option Described) (page : List ℕ) → (one ≡ None) → Appends page page (flat_map (pair named) (pairs_of one other))
no_pair named one other page is = rw is (nothing page)

pub no_second : (named : List ℕ → List ℕ) (one other : Option Described) (t : Described) (page : List ℕ) → one ≡ Some t → other ≡ None → Appends page page (flat_map (pair named) (pairs_of one other))
no_second named one other t page is none = rw (is, none) (nothing page)

pub both_sides : (named : List ℕ → List ℕ) (one other : Option Described) (t u : Described) {start end : List ℕ} → one ≡ Some t → other ≡ Some u
    → Appends start end (pair named (record { first = side_of t u; second = side_of u t })) → Appends start end (flat_map (pair named) (pairs_of one other))
both_sides named one other t u is also shown = rw (is, also) (alone (pair named) (record { first = side_of t u; second = side_of u t }) shown)

pub no_pairs : (named : List ℕ → List ℕ) (described : List Described) (entries : List Id) (page : List ℕ) → entries ≡ [] → Appends page page (flat_map (pair named) (pairs_among described entries))
no_pairs named described entries page none = rw none (nothing page)

pub link_known : (named : List ℕ → List ℕ) (described : List Described) (i : Id) (t : Described) {start end : List ℕ} → Some t ≡ described_at described i → Appends start end (link named (Entered (printed t.id) t.key.authority.bytes t.key.code.bytes)) → Appends start end (link named (link_to described i))
link_known named described i t is shown = rw (← is) shown

pub link_unknown : (named : List ℕ → List ℕ) (described : List Described) (i : Id) {start end : List ℕ} → None ≡ described_at described i → Appends start end (link named (Awaited (printed i))) → Appends start end (link named (link_to described i))
link_unknown named described i is shown = rw (← is) shown
