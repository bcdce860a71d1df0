use Rattle.std.proofs.Common.{◌≡◌, ◌++◌, ℕ, List, Some, subst}
use Rattle.std.proofs.lemmas.Slice.Eq.{strip_prefix_is, slice_eq-Decides}
use Rattle.std.proofs.lemmas.Bool.Decides.{Decides-eqb}
use Rattle.reg_keys.proofs.WordLemmas.{colon}
use Rattle.reg_keys.proofs.word.is_key_text.Goals as goal

pub returns-then-is_alike : goal.returns-then-is_alike
returns-then-is_alike c =
    let same = slice_eq-Decides Decides-eqb _ _ _ c.eq.ensures in
    let back = subst (λ (p : List ℕ). c.split_at.result.1.now ≡ p ++ c.in-Some.rest.now) c.as_slice.ensures (strip_prefix_is Decides-eqb c.split_at.result.1.now c.as_slice.result.now (Some c.in-Some.rest) c.in-Some.ensures.cases) in
    colon c.args.word.now c.args.authority.now c.args.code.now c.split_at.result.0.now c.split_at.result.1.now c.in-Some.rest.now c.eq.result
    c.split_at.ensures.front c.split_at.ensures.back back
    (λ h. (c.is_alike.ensures.0 c.if-is_alike.true, same.0 h), λ k. same.1 k.1)
