-- The log for words is the log of the entries that they select.
use Rattle.std.proofs.Common.{◌↔◌, ℕ, List, sym, ap, ◌∙◌, subst, inl, inr}
use Rattle.reg_op.specs.Ids.{Id}
use Rattle.reg_op.specs.Contents.{Content}
use Rattle.reg_op.specs.Rows.{rows}
use Rattle.reg_keys.specs.Told.{TellOf}
use Rattle.reg_keys.proofs.LawLemmas as law
use Rattle.reg_engine.specs.declared.fault.CliFault.{CliFault}
use Rattle.reg_commands.specs.Keyed.{key_fault}
use Rattle.reg_desk.specs.Logged.{LogsOf, CannotLog, LogsFor, CannotLogFor}

pub log_is : (words : List (List ℕ)) (x : Content) (es : List Id) (text : List ℕ) → TellOf (rows x.ops) words es → LogsFor words x text ↔ LogsOf es x text
log_is words x es text s = (λ (ds, t, l). subst (λ is. LogsOf is x text) (law.one_telling (rows x.ops) words ds es t s) l, λ l. (es, s, l))

pub no_log_is : (words : List (List ℕ)) (x : Content) (es : List Id) (f : CliFault) → TellOf (rows x.ops) words es → CannotLogFor words x f ↔ CannotLog es x f
no_log_is words x es f s = (to, λ r. inr (es, s, r))
  where
    to : CannotLogFor words x f → CannotLog es x f
    to (inl (k, u, is)) = subst (CannotLog es x) (ap key_fault (sym (law.all_told_of (rows x.ops) words es k s u)) ∙ is) tt
    to (inr (ds, t, r)) = subst (λ is. CannotLog is x f) (law.one_telling (rows x.ops) words ds es t s) r
