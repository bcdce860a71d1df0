use Rattle.crs_export.proofs.DrawingLemmas.{all_read, takes_node, takes_caption, takes_edge, takes_rivals, graph_read}
use Rattle.crs_export.proofs.laws.graphs_are_read.Goals as goal

pub returns : goal.returns
returns c = record {
  node = λ t color h. all_read (takes_node t color h);
  caption = λ id shown. all_read (takes_caption id shown);
  edge = λ old newer. all_read (takes_edge old newer);
  rivals = λ one other. all_read (takes_rivals one other);
  whole = λ bytes ss are. graph_read bytes ss (record { is = record { read = are.read; place = are.whole } });
}
