-- The links and events of an entry are those of the operations on it.
use Rattle.std.proofs.Common.{◌≡◌, ℕ, Bool, true, false, cond, List, [], ◌∷◌, ◌++◌, filter, refl, sym, ap, ◌∙◌}
use Rattle.std.specs.List.{flat_map}
use Rattle.std.specs.List.Sorted.{IsStableByKey}
use Rattle.reg_op.specs.Ids.{Id, id_cmp, is_same}
use Rattle.reg_op.specs.Kept.{retiring}
use Rattle.reg_op.specs.Text.{printed}
use Rattle.reg_op.specs.Operations.{Op}
use Rattle.reg_op.specs.declared.operation.OpBody.{OpBody as Body}
use Rattle.reg_op.specs.declared.operation.OpBody.TheVariants.{Enter, Supersede, Retire}
use Rattle.reg_op.proofs.OpLemmas.{id_total}
use Rattle.reg_report.proofs.WindowLemmas.{tied_is}
use Rattle.reg_page.specs.declared.described.Described.{Described}
use Rattle.reg_page.specs.Page.{subject_of, subject, is_on, links_by, links_in, events_by, events_in}

-- ---- operations by entry

-- a stable sort by entry keeps the operations on each entry
pub same_on : (os made : List Op) → IsStableByKey subject id_cmp os made → (e : Id) → filter (is_on e) made ≡ filter (is_on e) os
same_on os made stable e =
    (λ j. filter (λ (o : Op). tied_is id_cmp id_total (subject o) e j) made)
    ∙ stable (retiring e e [])
    ∙ sym (λ j. filter (λ (o : Op). tied_is id_cmp id_total (subject o) e j) os)

-- ---- operations on other entries do nothing to an entry

flat_filter : {X Y : Type 0} (f : X → List Y) (p : X → Bool) → ((x : X) → p x ≡ false → f x ≡ []) → (xs : List X) → flat_map f (filter p xs) ≡ flat_map f xs
flat_filter f p none [] = refl
flat_filter f p none (x ∷ xs) =
    elim (p x) as (λ b. p x ≡ b → flat_map f (cond b (x ∷ filter p xs) (filter p xs)) ≡ f x ++ flat_map f xs) [
      | true ↦ λ _. ap (λ l. f x ++ l) (flat_filter f p none xs)
      | false ↦ λ e. flat_filter f p none xs ∙ ap (λ l. l ++ flat_map f xs) (sym (none x e))
    ] refl

no_links : (ts : List Described) (e i : Id) (b : Body) → is_same (subject_of i b) e ≡ false → links_by ts e b ≡ []
no_links ts e i (Enter text) h = refl
no_links ts e i (Supersede old newer) h = rw h refl
no_links ts e i (Retire entry) h = refl

no_events : (ts : List Described) (e i : Id) (id note : List ℕ) (b : Body) → is_same (subject_of i b) e ≡ false → events_by ts e id note b ≡ []
no_events ts e i id note (Enter text) h = refl
no_events ts e i id note (Supersede old newer) h = rw h refl
no_events ts e i id note (Retire entry) h = rw h refl

module _ (ts : List Described) (e : Id) where
  pub links_on : (os : List Op) → flat_map (links_in ts e) (filter (is_on e) os) ≡ flat_map (links_in ts e) os
  links_on os = flat_filter (links_in ts e) (is_on e) (λ (o : Op) h. no_links ts e o.id o.body h) os

  pub events_on : (os : List Op) → flat_map (events_in ts e) (filter (is_on e) os) ≡ flat_map (events_in ts e) os
  events_on os = flat_filter (events_in ts e) (is_on e) (λ (o : Op) h. no_events ts e o.id (printed o.id) o.note o.body h) os

  -- lists with the same operations on the entry give it the same links and events
  pub same_links : (os ps : List Op) → filter (is_on e) os ≡ filter (is_on e) ps → flat_map (links_in ts e) os ≡ flat_map (links_in ts e) ps
  same_links os ps on = sym (links_on os) ∙ ap (flat_map (links_in ts e)) on ∙ links_on ps

  pub same_events : (os ps : List Op) → filter (is_on e) os ≡ filter (is_on e) ps → flat_map (events_in ts e) os ≡ flat_map (events_in ts e) ps
  same_events os ps on = sym (events_on os) ∙ ap (flat_map (events_in ts e)) on ∙ events_on ps
