-- A list that was read, and what a command does with its lines.
use Rattle.std.proofs.Common.{◌≡◌, ℕ, Bool, List, subst}
use Rattle.byte_io.specs.Device.{SourceState}
use Rattle.reg_op.specs.Contents.{Content}
use Rattle.reg_engine.specs.WholeFile.{Gives}
use Rattle.reg_engine.specs.declared.fault.CliFault.{CliFault}
use Rattle.reg_engine.specs.declared.fault.CliFault.TheVariants as cli
use Rattle.reg_supersede.specs.declared.fault.RefusedLine.{RefusedLine}
use Rattle.reg_supersede.specs.Lists.{Task}
use Rattle.reg_supersede.specs.Engine.{task, Supersedes, CannotSupersede, DoesList, CannotDoList}

-- the task of a command whose options are those of an earlier one
module _ (r s n m : List ℕ) (k l g h : Bool) (replica : s ≡ r) (note : m ≡ n) (keys : l ≡ k) (going : h ≡ g) where
  as_task : (P : Task → Type 0) (x : Content) → P (task s m l h x) → P (task r n k g x)
  as_task P x p =
      subst (λ (w : List ℕ). P (task w n k g x)) replica (subst (λ (w : List ℕ). P (task s w k g x)) note
      (subst (λ (w : Bool). P (task s m w g x)) keys (subst (λ (w : Bool). P (task s m l w x)) going p)))

  pub done_as : (old new : SourceState) (bytes : List ℕ) (x y : Content) (text : List ℕ) (left : List RefusedLine) → Gives old new bytes
      → DoesList (task s m l h x) bytes x y text left → Supersedes (task r n k g x) old new bytes x y text left
  done_as old new bytes x y text left gives does = (gives, as_task (λ t. DoesList t bytes x y text left) x does)

  refused_by : (number : ℕ) (old new : SourceState) (bytes : List ℕ) (x : Content) (before told : List RefusedLine) (f : CliFault) → Gives old new bytes
      → CannotDoList (task r n k g x) bytes x before told f → CannotSupersede (task r n k g x) number old new bytes x before told f
  refused_by number old new bytes x before told (cli.Refused c) gives is = (gives, is)
  refused_by number old new bytes x before told (cli.File i c) gives is = absurd is
  refused_by number old new bytes x before told (cli.Out c) gives is = absurd is
  refused_by number old new bytes x before told cli.Memory gives is = tt
  refused_by number old new bytes x before told (cli.Shelf c) gives is = absurd is
  refused_by number old new bytes x before told (cli.Office c) gives is = absurd is

  pub refused_as : (number : ℕ) (old new : SourceState) (bytes : List ℕ) (x : Content) (before past told : List RefusedLine) (f : CliFault) → Gives old new bytes → past ≡ before
      → CannotDoList (task s m l h x) bytes x past told f → CannotSupersede (task r n k g x) number old new bytes x before told f
  refused_as number old new bytes x before past told f gives same is =
      refused_by number old new bytes x before told f gives (as_task (λ t. CannotDoList t bytes x before told f) x (subst (λ (b : List RefusedLine). CannotDoList (task s m l h x) bytes x b told f) same is))
