use Rattle.std.proofs.Common.{ap, ◌∙◌}
use Rattle.crs_value.specs.Usages.{usages_of}
use Rattle.crs_export.specs.Features.{features}
use Rattle.reg_export.proofs.geojson.push_of.Goals as goal

pub returns : goal.returns
returns c = (
  features c.title_of-title.result c.usages_of.result.now,
  record {
    title = c.title_of-title.result;
    titled = c.title_of-title.ensures;
    crs = c.args.crs.now;
    spelled = c.requires.crs;
    are = ap (features c.title_of-title.result) (c.usages_of.ensures ∙ ap usages_of c.parts.ensures);
  },
  c.in_ok-push_features.ensures,
)
