use Rattle.std.proofs.Common.{◌≡◌, length, map, drop, get_or, ℕ, zero, suc, ◌<◌, false, cond, List, [], ◌∷◌, Some, sym, ap, ◌∙◌, add-one, arith}
use Rattle.std.specs.List.{zip}
use Rattle.std.specs.Map.{lookup}
use Rattle.crs_part.specs.Words.{same_word}
use Rattle.wkt_grammar.specs.declared.table.Keyword.{Keyword}
use Rattle.wkt_grammar.proofs.words.look.Goals as goal

look_on : {X : Type 0} (f : X → List ℕ) (ws : List X) (ks : List Keyword) (b : List ℕ) (i : ℕ) (d : X) → i < length ws → length ws ≡ length ks → same_word (f (get_or ws i d)) b ≡ false
    → lookup (λ w. same_word w b) (zip (map f (drop i ws)) (drop i ks)) ≡ lookup (λ w. same_word w b) (zip (map f (drop (suc i) ws)) (drop (suc i) ks))
look_on f [] ks b i d h l e = absurd (omega arith)
look_on f (w ∷ ws) [] b i d h l e = absurd (omega arith)
look_on f (w ∷ ws) (k ∷ ks) b zero d h l e = ap (λ t. cond t (Some k) (lookup (λ v. same_word v b) (zip (map f ws) ks))) e
look_on f (w ∷ ws) (k ∷ ks) b (suc i) d h l e = look_on f ws ks b i d (omega arith) (omega arith) e

pub loop-i-preserved : goal.loop-i-preserved
loop-i-preserved c =
    let e = add-one c.loop-i.i in
    let next = look_on (λ w. w.now) c.args.words.now c.args.meanings.now c.args.bytes.now c.loop-i.i _ c.loop-i-test.true c.requires (sym c.same_word.ensures ∙ c.if-same_word.false) in
    record { within = omega (arith, c.loop-i-test.true); same = rw e (c.loop-i.invariant.same ∙ next) }
