-- What is noted of a command: the register that came, and the one that is kept; and what is reported of them.
use Rattle.std.specs.Prelude.{◌≡◌, Option, Some, None, Result, Ok, Err, IfOk}
use Rattle.reg_op.specs.Contents.{Content}
use Rattle.reg_engine.specs.Store.{Around}
use Rattle.reg_news.specs.declared.news.News.{News}
use Rattle.reg_news.specs.News.{IsNews}

-- the register is noted, unless there was no memory for its copy
abbrev pub IsNoted : {E : Type 0} → Content → Option (Result Content E) → Type 0
IsNoted x None = ⊥
IsNoted x (Some copy) = IfOk copy (λ y. y ≡ x)

-- the events at a store, of which the register that came is noted, and the one that is kept; one that was kept before stays noted
-- until another one is
abbrev pub noting : {E : Type 0} → Around → Option (Result Content E) → Option (Result Content E) → Option (Result Content E) → Around
noting a before loaded kept = record {
  came = λ x. a.came x × IsNoted x loaded × (kept ≡ before);
  none = λ f. a.none f × (kept ≡ before);
  left = λ x y. a.left x y × IsNoted x loaded × IsNoted y kept;
  unleft = λ x y f. a.unleft x y f × IsNoted x loaded × (kept ≡ before);
}

-- ---- what is reported at the end

-- what the second register has and the first one has not, unless memory ran out
abbrev pub Tells : {E : Type 0} → Content → Content → Result (Option News) E → Type 0
Tells x y (Ok None) = ⊥
Tells x y (Ok (Some n)) = IsNews x y n
Tells x y (Err e) = Unit {0}

-- the events at a store with what is reported of them: of a register that is kept, what is new in it; nothing otherwise
abbrev pub telling : {E : Type 0} → Around → Result (Option News) E → Around
telling a news = record {
  came = λ x. a.came x × (news ≡ Ok None);
  none = λ f. a.none f × (news ≡ Ok None);
  left = λ x y. a.left x y × Tells x y news;
  unleft = λ x y f. a.unleft x y f × (news ≡ Ok None);
}
