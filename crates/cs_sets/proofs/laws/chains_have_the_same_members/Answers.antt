use Rattle.cs_sets.specs.Laws.Reaching.{every_reach, reach_transitive}
use Rattle.cs_sets.proofs.laws.chains_have_the_same_members.Goals as goal

pub returns : goal.returns
returns c = record {
  same = λ needs reach n is. every_reach needs reach is n;
  passes_on = λ needs reach is. reach_transitive needs reach is;
}
