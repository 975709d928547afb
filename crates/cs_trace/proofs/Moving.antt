-- What a rename does to entries, by cases.
use Rattle.std.proofs.Common.{◌≡◌, ◌≢◌, true, false, cond, Option, None, Some, refl, sym, ap, ◌∙◌, ⊎_elim}
use Rattle.std.specs.FinMap.{get, get-remove, insert, remove, same_map}
use Rattle.std.specs.Option.{option_map_or}
use Rattle.std.specs.Ordering.{eq_by_cmp}
use Rattle.std.specs.Prelude.{if◌then◌else◌}
use Rattle.cs_entries.specs.DirEntries.{entry_of}
use Rattle.cs_entries.specs.declared.entry.Entry.{Entry}
use Rattle.cs_entries.specs.Entries.{EntryOp, entry_eq}
use Rattle.cs_entries.specs.Entries as entry
use Rattle.cs_entries.specs.Laws.Records.{entry_exact, entry_total}
use Rattle.cs_entries.specs.Tables.{Table, entry_cmp, table_after}
use Rattle.cs_entries.specs.declared.entry.DirEntry.{DirEntry}
use Rattle.cs_entries.specs.declared.node.Node.{Node}
use Rattle.cs_tree_model.specs.Maps.Changes.{key_cases}
use Rattle.cs_trace.specs.Operations.{entry_op}
use Rattle.cs_trace.specs.declared.operation.Operation.TheVariants.{Rename}

remove_absent : (t : Table) (a : Entry) → get t a ≡ None → remove t a ≡ t
remove_absent t a none = same_map entry_total entry_exact _ _ (λ q. ⊎_elim
    (λ (h : (eq_by_cmp entry_cmp q a ≡ true) × (q ≡ a)).
    get-remove entry_total t a q ∙ ap (λ b. cond b None (get t q)) h.0 ∙ sym (ap (get t) h.1 ∙ none))
    (λ (h : (eq_by_cmp entry_cmp q a ≡ false) × (q ≢ a)).
    get-remove entry_total t a q ∙ ap (λ b. cond b None (get t q)) h.0)
    (key_cases entry_total entry_exact q a))

module _ (t : Table) (a b : DirEntry) (node : Node) (old : Option Node) where
  abbrev op : EntryOp
  op = entry.Move (entry_of a) (entry_of b) node old

  pub move_same : entry_eq (entry_of a) (entry_of b) ≡ true → t ≡ table_after t (entry_op (Rename a b node old))
  move_same same = λ i. table_after t (if sym same i then entry.Other else op)

  moves : entry_eq (entry_of a) (entry_of b) ≡ false
      → table_after t (entry_op (Rename a b node old))
      ≡ option_map_or (λ held. insert (remove t (entry_of a)) (entry_of b) held) (get t (entry_of a)) t
  moves apart = λ i. table_after t (if apart i then entry.Other else op)

  pub move_none : entry_eq (entry_of a) (entry_of b) ≡ false → get t (entry_of a) ≡ None
      → remove t (entry_of a) ≡ table_after t (entry_op (Rename a b node old))
  move_none apart none =
      remove_absent t (entry_of a) none
      ∙ sym (moves apart ∙ ap (λ o. option_map_or (λ held. insert (remove t (entry_of a)) (entry_of b) held) o t) none)

  pub move_some : (held : Node) → entry_eq (entry_of a) (entry_of b) ≡ false → get t (entry_of a) ≡ Some held
      → insert (remove t (entry_of a)) (entry_of b) held ≡ table_after t (entry_op (Rename a b node old))
  move_some held apart some =
      sym (moves apart ∙ ap (λ o. option_map_or (λ held. insert (remove t (entry_of a)) (entry_of b) held) o t) some)
