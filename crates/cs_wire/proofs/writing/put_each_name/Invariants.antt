use Rattle.std.proofs.Common.{◌≡◌, ◌≤◌, ◌+◌, ◌++◌, length, vec_len, vec_capacity, drop}
use Rattle.std.specs.List.{flat_map, AllByRecursion}
use Rattle.cs_wire.specs.Fields.{Text, IsIn, bytes_of_field}
use Rattle.cs_wire.specs.Messages.{names_of}
use Rattle.cs_wire.proofs.writing.put_each_name.Given as goal

abbrev pub invariant-loop-name : goal.invariant-loop-name
invariant-loop-name l = record {
  items : l.out.items ++ flat_map (bytes_of_field Text) (names_of (drop l.name-index l.names)) ≡ l.fn.out.items
      ++ flat_map (bytes_of_field Text) (names_of l.names);
  len : vec_len l.out + length (flat_map (bytes_of_field Text) (names_of (drop l.name-index l.names)))
      ≡ vec_len l.fn.out + length (flat_map (bytes_of_field Text) (names_of l.names));
  capacity : vec_capacity l.fn.out ≤ vec_capacity l.out;
  fit : AllByRecursion (IsIn Text) (names_of (drop l.name-index l.names));
}
