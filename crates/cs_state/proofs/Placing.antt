-- What is read of a state's fresh tree, by the ids of its paths.
use Rattle.std.proofs.Common.{◌≡◌, ℕ, zero, suc, ◌<◌, ◌≤◌, List, [], ◌∷◌, None, Some, ap, ◌∙◌, arith, length, slice_get}
use Rattle.std.proofs.lemmas.Bool.{false≢true}
use Rattle.std.proofs.lemmas.List.{length-map}
use Rattle.std.proofs.lemmas.Option.{slice_get_past}
use Rattle.std.specs.FinMap.{entries, get, len, len-entries}
use Rattle.std.specs.Option.{is_some, option_map}
use Rattle.cs_tree_model.specs.declared.record.Record.{Record}
use Rattle.cs_tree_model.specs.Fresh.{fresh_record, place_in}
use Rattle.cs_tree_model.specs.Laws.Fresh.{record_at-fresh}
use Rattle.cs_tree_model.specs.Laws.FreshReads.{count-fresh, next-fresh, path_numbered-fresh, record_numbered-fresh}
use Rattle.cs_tree_model.specs.Laws.Round.{found_in}
use Rattle.cs_tree_model.specs.Maps.Values.{map_entries, entries-map_values, get-map_values}
use Rattle.cs_tree_model.specs.Tree.{IsTree, Path, path_cmp, number_at, path_numbered, record_numbered}
use Rattle.cs_entries.specs.declared.node.Node.{Node}
use Rattle.cs_apm.specs.Slots.{Slot, slot_at}
use Rattle.cs_apm.specs.States.{State, nodes_left, record_of, records_of, tree_of_state}
use Rattle.cs_state.specs.Shares.{count_standing}
use Rattle.cs_state.proofs.Holding.{at_number, count_all, path_at, standing}

slice_map : {X Y : Type 0} (g : X → Y) (es : List (Path × X)) (k : ℕ) (p : Path) (x : X) → slice_get es k ≡ Some (p, x)
    → slice_get (map_entries g es) k ≡ Some (p, g x)
slice_map g [] k p x h = absurd (false≢true (ap is_some h))
slice_map g (f ∷ es) zero p x h = ap (option_map (λ w. (w.0, g w.1))) h
slice_map g (f ∷ es) (suc k) p x h = slice_map g es k p x h

module _ (s : State) (ps : List Path) (ss : List Slot) (long : length ss ≡ length ps) (are : entries (nodes_left s) ≡ standing ps ss) where
  listed : entries (records_of s) ≡ map_entries (record_of s) (standing ps ss)
  listed = entries-map_values path_cmp (record_of s) (nodes_left s) ∙ ap (map_entries (record_of s)) are

  counted : length (entries (records_of s)) ≡ count_standing ss (length ss)
  counted = ap length listed ∙ length-map (standing ps ss) (λ e. (e.0, record_of s e.1)) ∙ count_all ps ss long

  module _ (i : ℕ) (low : i < length ps) (node : Node) (is : slot_at ss i ≡ Some node) where
    nth : slice_get (entries (records_of s)) (count_standing ss i) ≡ Some (path_at ps i, record_of s node)
    nth =
        ap (λ w. slice_get w (count_standing ss i)) listed
        ∙ slice_map (record_of s) (standing ps ss) (count_standing ss i) (path_at ps i) node (at_number ps ss long i low node is)

    pub path_found : path_numbered (tree_of_state s) (count_standing ss i) ≡ Some (path_at ps i)
    path_found = path_numbered-fresh (records_of s) (count_standing ss i) ∙ ap (option_map (λ w. w.0)) nth

    pub record_found : record_numbered (tree_of_state s) (count_standing ss i)
        ≡ Some (fresh_record (count_standing ss i) (record_of s node))
    record_found =
        record_numbered-fresh (records_of s) (count_standing ss i)
        ∙ ap (option_map (λ w. fresh_record (count_standing ss i) w.1)) nth

    pub number_found : IsTree (tree_of_state s) → number_at (tree_of_state s) (path_at ps i) ≡ Some (count_standing ss i)
    number_found tree =
        let f = found_in (tree_of_state s) tree (count_standing ss i) (path_at ps i) path_found in
        ap (option_map (λ (r : Record). r.number)) f.1 ∙ ap Some f.2

  module _ (n : ℕ) (high : count_standing ss (length ss) ≤ n) where
    past : slice_get (entries (records_of s)) n ≡ None
    past = slice_get_past (entries (records_of s)) n (let c = counted in omega (arith, c, high))

    pub path_past : path_numbered (tree_of_state s) n ≡ None
    path_past = path_numbered-fresh (records_of s) n ∙ ap (option_map (λ w. w.0)) past

    pub record_past : record_numbered (tree_of_state s) n ≡ None
    record_past = record_numbered-fresh (records_of s) n ∙ ap (option_map (λ w. fresh_record n w.1)) past

  pub count : len (tree_of_state s).files ≡ count_standing ss (length ss)
  count = count-fresh (records_of s) ∙ len-entries (records_of s) ∙ counted

  pub next : (tree_of_state s).next ≡ count_standing ss (length ss)
  next = next-fresh (records_of s) ∙ len-entries (records_of s) ∙ counted

-- a path at which nothing is has no number
pub no_number : (s : State) (p : Path) → get (nodes_left s) p ≡ None → number_at (tree_of_state s) p ≡ None
no_number s p none =
    ap (option_map (λ (r : Record). r.number))
    (record_at-fresh (records_of s) p ∙ ap (option_map (fresh_record (place_in p (entries (records_of s)))))
    (get-map_values path_cmp (record_of s) (nodes_left s) p ∙ ap (option_map (record_of s)) none))
