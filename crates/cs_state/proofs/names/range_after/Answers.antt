use Rattle.std.proofs.Common.{◌≡◌, ◌+◌, None, Some, sym, ap, arith, rules, subst}
use Rattle.std.proofs.lemmas.List.Sorted.{IsPartitionPoint-from_clause}
use Rattle.std.specs.Option.{option_copied}
use Rattle.std.specs.Ordering.{is_le}
use Rattle.cs_entries.specs.declared.entry.Entry.{Entry}
use Rattle.cs_tree_model.specs.Tree.{name_cmp}
use Rattle.cs_state.specs.Named.{AreAfterName}
use Rattle.cs_state.proofs.Running.{after_name, all_names, parted_up_to}
use Rattle.cs_state.proofs.names.range_after.Goals as goal
use Rattle.cs_state.proofs.names.range_after.Goals.{in-None, in-Some}

pub returns-clause-names : goal.returns-clause-names
returns-clause-names c =
    let es = c.args.entries.now in
    let d = c.args.directory in
    let first = c.range_of-first.result.0 in
    let end = c.range_of-first.result.1 in
    let e = c.range_of-first.ensures in
    elim c.match-last.branch [
      | in-None w ↦
          let passed = w.passed-is in
          let same : first ≡ first + c.match-last.passed = omega (arith, passed) in
          let none : option_copied c.args.last ≡ None = ap option_copied w.in-None.is in
          subst (λ l. AreAfterName es d l (first + c.match-last.passed) end) (sym none)
          (subst (λ n. AreAfterName es d None n end) same (all_names es c.requires d first end e.order e.within e.before e.of e.behind))
      | in-Some w ↦
          let x = w.in-Some.last.now in
          let k = w.partition_point-passed.result in
          let point =
          IsPartitionPoint-from_clause (λ (f : Entry). is_le (name_cmp f.name x)) _ _ w.partition_point-passed.ensures.partitioned
          (parted_up_to es c.requires d first end e.order e.within e.before e.of e.behind x) (λ a r q called. search rules) in
          let some : option_copied c.args.last ≡ Some x = ap option_copied w.in-Some.is in
          subst (λ l. AreAfterName es d l (first + c.match-last.passed) end) (sym some)
          (subst (λ n. AreAfterName es d (Some x) (first + n) end) (sym w.passed-is)
          (after_name es c.requires d first end e.order e.within e.before e.of e.behind x k w.partition_point-passed.ensures.bound point))
    ]
