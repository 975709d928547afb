use Rattle.std.proofs.Common.{◌≡◌, ◌*◌, ◌≤◌, Some, drop}
use Rattle.cs_wire.specs.Fields.{Text, size_of, sizes_of, sum_if_both}
use Rattle.cs_wire.specs.Messages.{names_of}
use Rattle.cs_wire.proofs.fitting.size_of_each_name.Given as goal

abbrev pub invariant-loop-name : goal.invariant-loop-name
invariant-loop-name l = record {
  sizes : sum_if_both (Some l.total) (sizes_of (size_of Text) (names_of (drop l.name-index l.names)))
      ≡ sizes_of (size_of Text) (names_of l.names);
  small : l.total ≤ 65537 * l.name-index;
}
