use Rattle.std.proofs.Common.{[], ◌∷◌, ◌++◌, map, refl}
use Rattle.wkt_crs.specs.Spells.{pretty}
use Rattle.reg_texts.specs.Said.{said}
use Rattle.reg_texts.specs.Listing.{key_text, status_text}
use Rattle.reg_texts.proofs.ListingLemmas.{six}
use Rattle.reg_texts.proofs.listing.push_block.Goals as goal

pub returns : goal.returns
returns c =
    let s = said c.args.first.now in
    let ind = c.in_ok-push_indented.ensures in
    let status = status_text s (map said c.args.others.now) in (
      key_text s.key ++ (32 ∷ (status ++ (10 ∷ (pretty ind.0 ++ (10 ∷ 10 ∷ []))))),
      record { crs = ind.0; spelled = ind.1; is = refl },
      six c.args.text.now.items (key_text s.key) (32 ∷ []) status (10 ∷ []) (pretty ind.0) (10 ∷ 10 ∷ []) c.push_key.new.text.items c.push.new.self.items c.push_status.new.text.items
          c.push-2.new.self.items c.push_indented.new.text.items c.extend_from_slice.new.self.items c.in_ok-push_key.ensures c.in_ok-push.ensures.items c.in_ok-push_status.ensures
          c.in_ok-push-2.ensures.items ind.2 c.in_ok-extend_from_slice.ensures.items,
    )
