use Rattle.reg_page.proofs.boxes.edges_of.Goals as goal

pub returns : goal.returns
returns c = λ j. record {
  south = c.in_ok-south.ensures j;
  west = c.in_ok-west.ensures j;
  north = c.in_ok-north.ensures j;
  east = c.in_ok-east.ensures j;
  crosses = c.crosses-crosses.ensures j;
}
