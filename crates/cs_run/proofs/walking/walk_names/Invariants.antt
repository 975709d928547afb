use Rattle.std.proofs.Common.{◌≡◌, ◌≤◌, drop, length, vec_len}
use Rattle.std.specs.Prelude.{map, string_bytes, vec_capacity}
use Rattle.std.specs.List.{AllByRecursion}
use Rattle.std.specs.Option.{option_map}
use Rattle.cs_permit.specs.Rules.{file_at}
use Rattle.cs_permit.specs.Sizes.{IsQid}
use Rattle.cs_tree_model.specs.Record.{metadata_of_ref}
use Rattle.cs_run.specs.Walks.{walk_from, with_qids_first}
use Rattle.cs_run.proofs.walking.walk_names.Given as goal

abbrev pub invariant-loop-name : goal.invariant-loop-name
invariant-loop-name g l = record {
  going : with_qids_first l.qids.items
      (walk_from (g.T.TreeRead.tree l.tree) l.users l.user l.last (map string_bytes (drop l.name-index l.names)))
      ≡ walk_from (g.T.TreeRead.tree l.fn.tree) l.fn.users l.fn.user l.fn.start (map string_bytes l.fn.names);
  known : option_map metadata_of_ref l.file ≡ file_at (g.T.TreeRead.tree l.tree) l.last;
  fit : AllByRecursion IsQid l.qids.items;
  len : vec_len l.qids ≡ l.name-index;
  room : length l.names ≤ vec_capacity l.qids;
}
