use Rattle.std.proofs.Common.{◌+◌, length, take}
use Rattle.std.specs.BTreeMap.{get}
use Rattle.std.specs.List.{flat_map}
use Rattle.std.specs.Ordering.{nat_cmp}
use Rattle.cs_sets.specs.Rows.{bit_in, needed_in}
use Rattle.cs_different.specs.Classing.{AreGrown, AreMet, extensions}
use Rattle.cs_different.specs.Seen.{none_seen, see}
use Rattle.cs_different.proofs.classes.grow.Given as goal

abbrev pub invariant-loop-class : goal.invariant-loop-class
invariant-loop-class l = record {
  grown : AreGrown (see (bit_in l.wanted)) none_seen (needed_in l.needed) (length l.needed) (l.place + 1)
      (flat_map (extensions (needed_in l.needed) (length l.needed) l.place) (take l.class-index l.level)) l.kept.items;
  met : AreMet (length l.needed) (get nat_cmp l.met) l.kept.items;
}
