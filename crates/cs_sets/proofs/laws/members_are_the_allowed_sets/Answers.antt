use Rattle.std.proofs.Common.{[], get_or}
use Rattle.cs_sets.specs.Every.{every}
use Rattle.cs_sets.specs.Laws.Complete.{each_allowed, has_each}
use Rattle.cs_sets.specs.Laws.Ascending.{ascends, not_before_itself}
use Rattle.cs_sets.specs.Laws.Counts.{every_counts}
use Rattle.cs_sets.proofs.laws.members_are_the_allowed_sets.Goals as goal

pub returns : goal.returns
returns c = record {
  allowed = λ needs n back. each_allowed needs back n;
  complete = λ needs n places back allowed. has_each needs back n places allowed;
  ascending = λ needs n back. ascends needs back n;
  once = λ needs n a b back l u.
      not_before_itself (get_or (every needs n) a []) (get_or (every needs n) b []) (ascends needs back n a b [] l u);
  counted = every_counts;
}
