-- The least id of the entries that pass a test, found from the last entry to the first.
use Rattle.std.proofs.Common.{◌≡◌, Bool, true, false, cond, List, [], ◌∷◌, ◌++◌, append_assoc, Option, Some, sym, ap, ◌∙◌}
use Rattle.reg_op.specs.Ids.{Id}
use Rattle.reg_import.specs.declared.standing_entry.StandingEntry.{StandingEntry}
use Rattle.reg_import.specs.Imports.{least, sooner}

-- `so_far` is the least id of the entries after `front`, which are already read
pub record IsLeastBehind (passes : StandingEntry → Bool) (all front : List StandingEntry) (so_far : Option Id) : Type 0 where
  pub behind : List StandingEntry
  pub are : all ≡ front ++ behind
  pub is : so_far ≡ least passes behind

module _ (passes : StandingEntry → Bool) (all front others : List StandingEntry) (e : StandingEntry) (so_far : Option Id) (at : front ≡ others ++ e ∷ []) (done : IsLeastBehind passes all front so_far) where
  whole : all ≡ others ++ (e ∷ done.behind)
  whole = done.are ∙ ap (λ l. l ++ done.behind) at ∙ append_assoc others (e ∷ []) done.behind

  pub passed : passes e ≡ true → IsLeastBehind passes all others (Some (sooner e.entry so_far))
  passed h = record {
    behind = e ∷ done.behind;
    are = whole;
    is = ap (λ i. Some (sooner e.entry i)) done.is ∙ (λ j. cond (sym h j) (Some (sooner e.entry (least passes done.behind))) (least passes done.behind));
  }

  pub left_out : passes e ≡ false → IsLeastBehind passes all others so_far
  left_out h = record {
    behind = e ∷ done.behind;
    are = whole;
    is = done.is ∙ (λ j. cond (sym h j) (Some (sooner e.entry (least passes done.behind))) (least passes done.behind));
  }
