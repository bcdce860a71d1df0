-- One rule, and one reference system at a time.
use Rattle.std.proofs.Common.{◌≡◌, Bool, ℕ, Option, List, ◌∷◌, ◌++◌, sym, ap, ◌∙◌}
use Rattle.std.proofs.lemmas.List.{append_assoc}
use Rattle.reg_lint.specs.declared.rule.AnyRule.{AnyRule}
use Rattle.reg_lint.specs.Subjects.{Subject}
use Rattle.reg_lint.specs.Details.{details}
use Rattle.reg_lint.specs.Lines.{line_of, lines_of, all_lines}

module _ (known : List ℕ → Bool) where
  -- the rows of one rule were written
  pub rule_step : (rule : AnyRule) (others rest : List AnyRule) (ss : List Subject) (ds : List (Option (List ℕ))) (old new end : List ℕ)
      → rest ≡ rule ∷ others → ds ≡ details rule ss → new ≡ old ++ lines_of known rule ss ds
      → old ++ all_lines known rest ss ≡ end → new ++ all_lines known others ss ≡ end
  rule_step rule others rest ss ds old new end r d e inv =
      ap (λ l. l ++ all_lines known others ss) (e ∙ ap (λ x. old ++ lines_of known rule ss x) d)
      ∙ append_assoc old (lines_of known rule ss (details rule ss)) (all_lines known others ss)
      ∙ ap (λ l. old ++ all_lines known l ss) (sym r)
      ∙ inv

  -- the row of one reference system was written
  pub line_step : (rule : AnyRule) (s : Subject) (later left : List Subject) (d : Option (List ℕ)) (others rest : List (Option (List ℕ))) (old new end : List ℕ)
      → left ≡ s ∷ later → rest ≡ d ∷ others → new ≡ old ++ line_of known rule s d
      → old ++ lines_of known rule left rest ≡ end → new ++ lines_of known rule later others ≡ end
  line_step rule s later left d others rest old new end l r e inv =
      ap (λ t. t ++ lines_of known rule later others) e
      ∙ append_assoc old (line_of known rule s d) (lines_of known rule later others)
      ∙ (λ j. old ++ lines_of known rule (sym l j) (sym r j))
      ∙ inv
