-- The values that trees denote by the first edition, and those that they denote by the second.
use Rattle.std.proofs.Common.{◌≡◌, true, List, [], ◌∷◌, ◌++◌, Option, None, refl, sym, ap, ◌∙◌, subst, arith}
use Rattle.std.proofs.lemmas.List.Elements.{All-nil, All-cons, All-head, All-tail}
use Rattle.crs_part.specs.declared.usages.Usage.{Usage}
use Rattle.crs_part.specs.declared.crs.Geodetic.{Geodetic}
use Rattle.crs_part.specs.declared.crs.Projected.{Projected}
use Rattle.crs_part.specs.declared.crs.Vertical as verticals
use Rattle.crs_part.specs.declared.crs.Single.{Single}
use Rattle.crs_part.specs.declared.crs.Single.TheVariants as single
use Rattle.crs_part.specs.declared.crs.Compound.{Compound}
use Rattle.crs_part.specs.declared.crs.CrsParts.{CrsParts}
use Rattle.crs_part.specs.declared.crs.CrsParts.TheVariants as parts
use Rattle.wkt_grammar.specs.declared.table.Edition.{Edition}
use Rattle.wkt_grammar.specs.declared.table.Edition.TheVariants as editions
use Rattle.wkt_grammar.specs.declared.table.Slot.{Slot}
use Rattle.wkt_grammar.specs.declared.table.Node.{Node}
use Rattle.wkt_grammar.specs.declared.table.Node.TheVariants as nodes
use Rattle.wkt_grammar.specs.declared.table.Keyword.{Keyword}
use Rattle.wkt_grammar.specs.declared.table.Keyword.TheVariants as keywords
use Rattle.wkt_grammar.specs.declared.table.Argument.{Argument}
use Rattle.wkt_grammar.specs.Rows.{takes, Times, row_of}
use Rattle.wkt_grammar.specs.Bare.{Bare, args}
use Rattle.wkt_grammar.specs.Runs.{Fields, nothing, ◌&◌, Runs, IsNodeIn, One, Maybe, Each}
use Rattle.wkt_grammar.specs.Denotes.{DenotesVerticalExtent, DenotesNamed, usage_fields, DenotesUsage, geodetic_keyword, geodetic_fields, DenotesGeodetic, projected_fields, DenotesProjected, vertical_fields, DenotesVertical, DenotesSingle, compound_fields, DenotesCompound, DenotesParts}
use Rattle.wkt_grammar.specs.FirstEdition.{first_usage_fields, FirstDenotesUsage, first_geodetic_fields, FirstDenotesGeodetic, first_projected_fields, FirstDenotesProjected, first_vertical_fields, FirstDenotesVertical, FirstDenotesSingle, first_compound_fields, FirstDenotesCompound, FirstDenotesParts, HasNoExtents, AddsNothing, NothingAdded}

-- ---- from one row to another, slot by slot

-- arguments that have these fields by one row have the other fields by the other row
record Turns (row row' : List Slot) (fields fields' : Fields) : Type 0 where
  pub of : (xs : List Bare) → Runs row fields xs → Runs row' fields' xs

stop : Turns [] [] nothing nothing
stop = record { of = λ xs r. r }

infixr 5 ◌>>◌
◌>>◌ : {s : Slot} {row row' : List Slot} {P Q : List Bare → Type 0} {fields fields' : Fields} → ((xs : List Bare) → P xs → Q xs) → Turns row row' fields fields' → Turns (s ∷ row) (s ∷ row') (P & fields) (Q & fields')
◌>>◌ f t = record { of = λ xs r. (r.0, r.1, r.2, r.3, f r.0 r.4, t.of r.1 r.5) }

same : (P : List Bare → Type 0) (xs : List Bare) → P xs → P xs
same P xs p = p

-- the second row has one more slot, which is empty
more : {s : Slot} {row row' : List Slot} {Q : List Bare → Type 0} {fields fields' : Fields} → Times s.often 0 → Q [] → Turns row row' fields fields' → Turns row (s ∷ row') fields (Q & fields')
more {s} n q t = record { of = λ xs r. ([], xs, refl, (All-nil (λ (a : Argument). takes s.takes a ≡ true), n), q, t.of xs r) }

-- the first row has one more slot, which is empty
less : {s : Slot} {row row' : List Slot} {P : List Bare → Type 0} {fields fields' : Fields} → ((xs : List Bare) → P xs → xs ≡ []) → Turns row row' fields fields' → Turns (s ∷ row) row' (P & fields) fields'
less {s} {row} {row'} {P} {fields} {fields'} f t = record { of = λ xs r. subst (Runs row' fields') (sym (r.2 ∙ ap (λ (run : List Bare). run ++ r.1) (f r.0 r.4))) (t.of r.1 r.5) }

turned : (e e' : Edition) (K : Keyword) (n : Node) (F F' : Fields) (x : Bare) → Turns (row_of e n) (row_of e' n) F F' → IsNodeIn e K n F x → IsNodeIn e' K n F' x
turned e e' K n F F' x t d = record { keyword = d.keyword; items = d.items; is = d.is; meaning = d.meaning; runs = t.of (args d.items) d.runs }

-- ---- runs of one argument, of at most one, and of any number

empty_maybe : {A : Type 0} (D : Bare → A → Type 0) (v : Option A) → v ≡ None → (xs : List Bare) → Maybe D v xs → xs ≡ []
empty_maybe D v e xs m = by xs (subst (λ o. Maybe D o xs) e m)
  where
    by : (xs : List Bare) → Maybe D None xs → xs ≡ []
    by [] m = refl
    by (x ∷ xs) m = absurd m

empty_each : {A : Type 0} (D : Bare → A → Type 0) (vs : List A) → vs ≡ [] → (xs : List Bare) → Each D vs xs → xs ≡ []
empty_each D vs e xs m = by xs (subst (λ l. Each D l xs) e m)
  where
    by : (xs : List Bare) → Each D [] xs → xs ≡ []
    by [] m = refl
    by (x ∷ xs) m = absurd m

one_turned : {A : Type 0} (D E : Bare → A → Type 0) (v : A) → ((x : Bare) → D x v → E x v) → (xs : List Bare) → One D v xs → One E v xs
one_turned D E v f [] d = d
one_turned D E v f (x ∷ []) d = f x d
one_turned D E v f (x ∷ y ∷ xs) d = d

one_says : {A : Type 0} (D : Bare → A → Type 0) (v : A) (P : Type 0) → ((x : Bare) → D x v → P) → (xs : List Bare) → One D v xs → P
one_says D v P f [] d = absurd d
one_says D v P f (x ∷ []) d = f x d
one_says D v P f (x ∷ y ∷ xs) d = absurd d

-- ---- usages

usage_still : (x : Bare) (v : Usage) → FirstDenotesUsage x v → DenotesUsage x v
usage_still x v d =
    turned editions.First editions.Second keywords.Usage nodes.Usage (first_usage_fields v) (usage_fields v) x
    (same _ >> same _ >> same _ >> more (omega arith) (subst (λ o. Maybe DenotesVerticalExtent o []) (sym d.1) tt) stop) d.0

usage_before : (x : Bare) (v : Usage) → DenotesUsage x v → v.vertical_extent ≡ None → FirstDenotesUsage x v
usage_before x v d e = (turned editions.Second editions.First keywords.Usage nodes.Usage (usage_fields v) (first_usage_fields v) x (same _ >> same _ >> same _ >> less (empty_maybe DenotesVerticalExtent v.vertical_extent e) stop) d, e)

usages_still : (vs : List Usage) (xs : List Bare) → Each FirstDenotesUsage vs xs → Each DenotesUsage vs xs
usages_still [] [] d = d
usages_still [] (x ∷ xs) d = d
usages_still (v ∷ vs) [] d = d
usages_still (v ∷ vs) (x ∷ xs) d = (usage_still x v d.0, usages_still vs xs d.1)

usages_before : (vs : List Usage) → HasNoExtents vs → (xs : List Bare) → Each DenotesUsage vs xs → Each FirstDenotesUsage vs xs
usages_before [] n [] d = d
usages_before [] n (x ∷ xs) d = d
usages_before (v ∷ vs) n [] d = d
usages_before (v ∷ vs) n (x ∷ xs) d = (usage_before x v d.0 (All-head (λ usage. usage.vertical_extent ≡ None) v vs n), usages_before vs (All-tail (λ usage. usage.vertical_extent ≡ None) v vs n) xs d.1)

no_extents : (vs : List Usage) (xs : List Bare) → Each FirstDenotesUsage vs xs → HasNoExtents vs
no_extents [] xs d = All-nil (λ usage. usage.vertical_extent ≡ None)
no_extents (v ∷ vs) [] d = absurd d
no_extents (v ∷ vs) (x ∷ xs) d = All-cons (λ usage. usage.vertical_extent ≡ None) v vs d.0.1 (no_extents vs xs d.1)

-- ---- systems

geodetic_still : (x : Bare) (v : Geodetic) → FirstDenotesGeodetic x v → DenotesGeodetic x v
geodetic_still x v =
    turned editions.First editions.Second (geodetic_keyword v.kind) nodes.GeodeticCrs (first_geodetic_fields v) (geodetic_fields v) x
    (same _ >> same _ >> same _ >> same _ >> same _ >> same _ >> usages_still v.usages >> same _ >> same _ >> stop)

geodetic_before : (x : Bare) (v : Geodetic) → DenotesGeodetic x v → HasNoExtents v.usages → FirstDenotesGeodetic x v
geodetic_before x v d n =
    turned editions.Second editions.First (geodetic_keyword v.kind) nodes.GeodeticCrs (geodetic_fields v) (first_geodetic_fields v) x
    (same _ >> same _ >> same _ >> same _ >> same _ >> same _ >> usages_before v.usages n >> same _ >> same _ >> stop) d

projected_still : (x : Bare) (v : Projected) → FirstDenotesProjected x v → DenotesProjected x v
projected_still x v =
    turned editions.First editions.Second keywords.ProjectedCrs nodes.ProjectedCrs (first_projected_fields v) (projected_fields v) x
    (same _ >> same _ >> same _ >> same _ >> same _ >> same _ >> usages_still v.usages >> same _ >> same _ >> stop)

projected_before : (x : Bare) (v : Projected) → DenotesProjected x v → HasNoExtents v.usages → FirstDenotesProjected x v
projected_before x v d n =
    turned editions.Second editions.First keywords.ProjectedCrs nodes.ProjectedCrs (projected_fields v) (first_projected_fields v) x
    (same _ >> same _ >> same _ >> same _ >> same _ >> same _ >> usages_before v.usages n >> same _ >> same _ >> stop) d

vertical_still : (x : Bare) (v : verticals.Vertical) → FirstDenotesVertical x v → DenotesVertical x v
vertical_still x v d =
    turned editions.First editions.Second keywords.VerticalCrs nodes.VerticalCrs (first_vertical_fields v) (vertical_fields v) x
    (same _ >> same _ >> same _ >> same _ >> same _ >> more tt (subst (λ l. Each (DenotesNamed keywords.GeoidModel) l []) (sym d.1) tt) (usages_still v.usages >> same _ >> same _ >> stop)) d.0

vertical_before : (x : Bare) (v : verticals.Vertical) → DenotesVertical x v → v.geoid_models ≡ [] → HasNoExtents v.usages → FirstDenotesVertical x v
vertical_before x v d e n = (
  turned editions.Second editions.First keywords.VerticalCrs nodes.VerticalCrs (vertical_fields v) (first_vertical_fields v) x
      (same _ >> same _ >> same _ >> same _ >> same _ >> less (empty_each (DenotesNamed keywords.GeoidModel) v.geoid_models e) (usages_before v.usages n >> same _ >> same _ >> stop)) d,
  e,
)

single_still : (x : Bare) (v : Single) → FirstDenotesSingle x v → DenotesSingle x v
single_still x (single.Geodetic v) d = geodetic_still x v d
single_still x (single.Projected v) d = projected_still x v d
single_still x (single.Vertical v) d = vertical_still x v d

single_adds : (x : Bare) (v : Single) → FirstDenotesSingle x v → AddsNothing v
single_adds x (single.Geodetic v) d = no_extents v.usages d.runs.5.5.5.5.5.5.0 d.runs.5.5.5.5.5.5.4
single_adds x (single.Projected v) d = no_extents v.usages d.runs.5.5.5.5.5.5.0 d.runs.5.5.5.5.5.5.4
single_adds x (single.Vertical v) d = (d.1, no_extents v.usages d.0.runs.5.5.5.5.5.0 d.0.runs.5.5.5.5.5.4)

single_before : (x : Bare) (v : Single) → DenotesSingle x v → AddsNothing v → FirstDenotesSingle x v
single_before x (single.Geodetic v) d n = geodetic_before x v d n
single_before x (single.Projected v) d n = projected_before x v d n
single_before x (single.Vertical v) d n = vertical_before x v d n.0 n.1

compound_still : (x : Bare) (v : Compound) → FirstDenotesCompound x v → DenotesCompound x v
compound_still x v =
    turned editions.First editions.Second keywords.CompoundCrs nodes.CompoundCrs (first_compound_fields v) (compound_fields v) x
    (same _ >> one_turned FirstDenotesSingle DenotesSingle v.first (λ y. single_still y v.first) >> one_turned FirstDenotesSingle DenotesSingle v.second (λ y. single_still y v.second) >> usages_still v.usages >> same _ >> same _ >> stop)

compound_adds : (x : Bare) (v : Compound) → FirstDenotesCompound x v → NothingAdded (parts.Compound v)
compound_adds x v d =
    let first = d.runs.5 in
    let second = first.5 in
    let usages = second.5 in
    (one_says FirstDenotesSingle v.first (AddsNothing v.first) (λ y. single_adds y v.first) first.0 first.4, one_says FirstDenotesSingle v.second (AddsNothing v.second) (λ y. single_adds y v.second) second.0 second.4, no_extents v.usages usages.0 usages.4)

compound_before : (x : Bare) (v : Compound) → DenotesCompound x v → NothingAdded (parts.Compound v) → FirstDenotesCompound x v
compound_before x v d n =
    turned editions.Second editions.First keywords.CompoundCrs nodes.CompoundCrs (compound_fields v) (first_compound_fields v) x
    (same _ >> one_turned DenotesSingle FirstDenotesSingle v.first (λ y e. single_before y v.first e n.0) >> one_turned DenotesSingle FirstDenotesSingle v.second (λ y e. single_before y v.second e n.1) >> usages_before v.usages n.2 >> same _ >> same _ >> stop) d

-- ---- the whole

pub parts_still : (x : Bare) (v : CrsParts) → FirstDenotesParts x v → DenotesParts x v × NothingAdded v
parts_still x (parts.Single v) d = (single_still x v d, single_adds x v d)
parts_still x (parts.Compound v) d = (compound_still x v d, compound_adds x v d)

pub parts_before : (x : Bare) (v : CrsParts) → DenotesParts x v → NothingAdded v → FirstDenotesParts x v
parts_before x (parts.Single v) d n = single_before x v d n
parts_before x (parts.Compound v) d n = compound_before x v d n
