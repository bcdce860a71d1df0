use Rattle.std.proofs.Common.{◌∙◌, [], ◌∷◌, ap, arith, map}
use Rattle.std.proofs.lemmas.List.{map-append}
use Rattle.wkt_compare.specs.Texts.{piece_of}
use Rattle.wkt_compare.proofs.Nexts.{next_len, next_less, one_more, none_more}
use Rattle.wkt_compare.proofs.splitting.cutting.texts.Goals as goal

pub loop-cut-preserved : goal.loop-cut-preserved
loop-cut-preserved c =
    let next = c.in-Some.ensures.some in
    record {
      left = omega (arith, c.loop-cut.invariant.left, next_len c.loop-cut.place c.loop-cut.rest.now (piece_of c.in-Some.cut) c.in-Some.later.now next);
      so_far = one_more c.args.file.now c.loop-cut.rest.now c.in-Some.later.now c.loop-cut.place (piece_of c.in-Some.cut) (map piece_of c.loop-cut.cuts.items) (map piece_of c.push.new.self.items)
          (ap (map piece_of) c.in_ok-push.ensures.items ∙ map-append piece_of c.loop-cut.cuts.items (c.in-Some.cut ∷ [])) c.loop-cut.invariant.so_far next;
    }

pub loop-cut-smaller : goal.loop-cut-smaller
loop-cut-smaller c = next_less c.loop-cut.place c.loop-cut.rest.now (piece_of c.in-Some.cut) c.in-Some.later.now c.in-Some.ensures.some

pub returns : goal.returns
returns c = none_more c.args.file.now c.loop-cut.rest.now c.loop-cut.place (map piece_of c.loop-cut.cuts.items) c.loop-cut.invariant.so_far c.in_default.ensures.none
