-- What is reported of a change, from what was noted of it.
use Rattle.std.proofs.Common.{◌≡◌, inl, inr, ◌∙◌, List, ℕ, Option, None, Result, Ok}
use Rattle.byte_io.specs.Device.{SinkState}
use Rattle.reg_op.specs.Contents.{Content}
use Rattle.reg_engine.specs.declared.fault.CliFault.{CliFault}
use Rattle.reg_engine.specs.Store.{Around, IsKeptIn, IsUntold, IsChanged, IsUnchanged}
use Rattle.reg_news.specs.declared.news.News.{News}
use Rattle.reg_news.specs.Watching.{IsNoted, Tells, noting, telling}

-- nothing was noted as kept before, and the news are those between the notes
module _ {E : Type 0} (a : Around) (before loaded kept : Option (Result Content E)) (news : Result (Option News) E) (first : before ≡ None)
    (told : (x y : Content) → IsNoted x loaded → IsNoted y kept → Tells x y news) (none : kept ≡ None → news ≡ Ok None) where
  pub changed_by : (Makes : Content → Content → List ℕ → Type 0) (old new : SinkState) → IsChanged (noting a before loaded kept) Makes old new
      → IsChanged (telling a news) Makes old new
  changed_by Makes old new (x, y, lines, makes, left, writes) = (x, y, lines, makes, (left.0, told x y left.1 left.2), writes)

  kept_by : (x y : Content) → IsKeptIn (noting a before loaded kept) x y → IsKeptIn (telling a news) x y
  kept_by x y (inl left) = inl (left.0, told x y left.1 left.2)
  kept_by x y (inr (f, is, un)) = inr (f, is, (un.0, none (un.2 ∙ first)))

  untold_by : (x y : Content) (lines : List ℕ) (old new : SinkState) (f : CliFault) → IsUntold (noting a before loaded kept) x y lines old new f
      → IsUntold (telling a news) x y lines old new f
  untold_by x y lines old new f (inl (un, writes)) = inl ((un.0, none (un.2 ∙ first)), writes)
  untold_by x y lines old new f (inr (is, cut)) = inr (kept_by x y is, cut)

  pub unchanged_by : (Makes : Content → Content → List ℕ → Type 0) (Refuses : Content → CliFault → Type 0) (Unread : Type 0) (old new : SinkState) (f : CliFault)
      → IsUnchanged (noting a before loaded kept) Makes Refuses Unread old new f → IsUnchanged (telling a news) Makes Refuses Unread old new f
  unchanged_by Makes Refuses Unread old new f (inl (fails, unread, same)) = inl ((fails.0, none (fails.1 ∙ first)), unread, same)
  unchanged_by Makes Refuses Unread old new f (inr (inl (x, came, refuses, same))) = inr (inl (x, (came.0, none (came.2 ∙ first)), refuses, same))
  unchanged_by Makes Refuses Unread old new f (inr (inr (x, y, lines, makes, untold))) = inr (inr (x, y, lines, makes, untold_by x y lines old new f untold))
