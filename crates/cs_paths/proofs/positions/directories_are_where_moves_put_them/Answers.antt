use Rattle.cs_paths.proofs.Laws.{keeps_first, placed_left}
use Rattle.cs_paths.proofs.positions.directories_are_where_moves_put_them.Goals as goal

pub returns : goal.returns
returns c = record {
  first = keeps_first c.args.micros.now;
  there = placed_left c.args.trace.now c.args.micros.now c.args.tables.now c.requires;
}
