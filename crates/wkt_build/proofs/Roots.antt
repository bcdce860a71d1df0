-- The value of a whole text.
use Rattle.std.proofs.Common.{◌≡◌, List, [], ◌∷◌, ◌++◌, length, refl, ap, ◌∙◌, subst}
use Rattle.std.specs.Prelude.{Result, Ok, Err, IfOk}
use Rattle.crs_part.specs.declared.crs.CrsParts.{CrsParts}
use Rattle.wkt_tree.specs.Tree.{Tok, tokens, node}
use Rattle.wkt_grammar.specs.declared.table.Edition.TheVariants as editions
use Rattle.wkt_grammar.specs.declared.table.Takes.TheVariants as kinds
use Rattle.wkt_grammar.specs.declared.table.Node.TheVariants as nodes
use Rattle.wkt_grammar.specs.Bare.{Bare, bare, and, none}
use Rattle.wkt_grammar.specs.SecondEdition.{Fitting, AllFitting}
use Rattle.wkt_grammar.proofs.Fitting.{clean_fitted, fitted_cuts}
use Rattle.wkt_grammar.specs.Denotes.{DenotesParts}
use Rattle.wkt_build.specs.Reads.{Builds}
use Rattle.wkt_build.specs.Whole.{BuildsParts}

no_more : (ts : List Tok) → ts ≡ ts ++ []
no_more [] = refl
no_more (t ∷ ts) = ap (λ (l : List Tok). t ∷ l) (no_more ts)

one_of : (x : Bare) (run rest : List Bare) → x ∷ [] ≡ run ++ rest → length run ≡ 1 → (P : Bare → Type 0) → ((y : Bare) (ys : List Bare) → run ≡ y ∷ ys → P y) → P x
one_of x [] rest e l P p = absurd cc
one_of x (y ∷ ys) rest e l P p = let same : y ≡ x = cc in subst P same (p y ys refl)

pub whole_built : {E : Type 0} (old : List Tok) (result : Result CrsParts E) (new : List Tok) → Builds kinds.AnyCrs DenotesParts old new result → BuildsParts old result
whole_built old result new builds k d o items c e clean =
    let f = fitted_cuts editions.Second nodes.Root (and (bare (node k d o items c)) none) (clean_fitted editions.Second old clean k d o items c e) in
    let fits : Fitting kinds.AnyCrs (bare (node k d o items c)) = one_of (bare (node k d o items c)) f.0 f.1 f.2 f.4 (Fitting kinds.AnyCrs) (λ y ys h. (subst (AllFitting kinds.AnyCrs) h f.3).0) in
    done result (builds (bare (node k d o items c)) [] fits (record { item = node k d o items c; is = refl; tokens_are = e ∙ no_more (tokens (node k d o items c)); follows = refl }))
  where
    done : {E : Type 0} (result : Result CrsParts E) → IfOk result (λ v. DenotesParts (bare (node k d o items c)) v × (new ≡ [])) → IfOk result (DenotesParts (bare (node k d o items c)))
    done (Ok v) h = h.0
    done (Err f) h = h
