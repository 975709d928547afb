-- What an allowed set leaves: its entries, as the slots mirror them, and what is at its paths.
use Rattle.std.proofs.Common.{◌≡◌, ℕ, List, Some, refl, sym, ap, ◌∙◌, subst, length, map}
use Rattle.std.proofs.lemmas.List.FromFn.{length-map-range_with_len}
use Rattle.std.specs.FinMap.{get}
use Rattle.std.specs.Prelude.{fold}
use Rattle.cs_tree_model.specs.Tree.{Path}
use Rattle.cs_entries.specs.Legal.{IsTree}
use Rattle.cs_entries.specs.Paths.{at_path}
use Rattle.cs_entries.specs.Tables.{held_in}
use Rattle.cs_entries.specs.Laws.Depths.{AreBelow}
use Rattle.cs_entries.specs.Laws.Records.{paths_lead}
use Rattle.cs_entries.specs.declared.entry.Entry.{Entry}
use Rattle.cs_entries.specs.declared.node.Node.TheVariants.{Directory}
use Rattle.cs_trace.specs.Traces.{Trace, directory_count, start_table}
use Rattle.cs_trace_lines.specs.Versions.{profile_of}
use Rattle.cs_micro.specs.Legal.{AreLegal, Made}
use Rattle.cs_micro.specs.Micros.{Micros}
use Rattle.cs_apm.specs.Atlases.{Atlas, IsAtlas}
use Rattle.cs_apm.specs.Orders.{needs_of}
use Rattle.cs_apm.specs.Rules.{op_at}
use Rattle.cs_apm.specs.Slots.{IsKnown, Slot, slot_at, slot_of, slots_after, step_at}
use Rattle.cs_apm.specs.States.{State, directory_owner, nodes_left, start_state, state_of, with_created}
use Rattle.cs_apm.specs.Laws.Mirrors.{at_place, fold_mirror}
use Rattle.cs_apm.specs.Laws.Trees.{entries_fold, state_tree}
use Rattle.cs_apm.proofs.Building.{deep_left, known_left, long_left}
use Rattle.cs_sets.specs.Sets.{IsAllowed}
use Rattle.cs_state.proofs.Leading.{held_place}

module _ (t : Trace) (m : Micros) (a : Atlas) (is : IsAtlas t m a) (places : List ℕ)
    (allowed : IsAllowed (needs_of m) (length m.ops) places) where
  abbrev pub left : State
  left = state_of (start_state t) m.ops places

  abbrev pub slots : List Slot
  slots = fold slots_after a.slots (map (step_at a.steps) places)

  pub mirror_left : (e : Entry) → get left.entries e ≡ slot_of a.entries slots e
  unfolding state_of
  mirror_left e =
      ap (λ u. get u e) (entries_fold (with_created (start_state t) m.ops) (map (op_at m.ops) places))
      ∙ fold_mirror a.entries is.ascending m.ops a.steps is.steps places a.slots is.long (start_table t) is.start e

  abbrev made : Made
  made = record { entries = start_table t; files = length t.files; homes = is.legal.homes }

  legal_here : AreLegal m.version made m.ops
  legal_here = subst (λ v. AreLegal v made m.ops) (sym is.version) is.legal.legal

  pub tree_left : IsTree (held_in left.entries)
  tree_left =
      state_tree (start_state t) made m.ops m.syncs m.version (profile_of m.version) places is.tree refl is.legal.are
      (length-map-range_with_len (directory_owner t) 0 (directory_count t.nodes) ∙ sym is.legal.many) legal_here allowed

  pub below_left : AreBelow (length a.directories) (held_in left.entries)
  below_left e d h =
      let at = held_place a.entries slots e (Directory d) (sym (mirror_left e) ∙ h) in
      let slot : slot_at slots at.0 ≡ Some (Directory d) =
      sym (at_place a.entries slots is.ascending (long_left t m a is places allowed) at.0 e at.1) ∙ sym (mirror_left e) ∙ h in
      subst (IsKnown (length a.directories) (length a.owners)) slot (known_left t m a is places allowed at.0)

  pub leads_left : (q : Path) → get (nodes_left left) q ≡ at_path (held_in left.entries) q
  leads_left q =
      paths_lead left.entries tree_left (length left.directories)
      (subst (λ n. AreBelow n (held_in left.entries)) (sym (deep_left t m a is places allowed)) below_left) q
