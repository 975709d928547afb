-- One entry more at the start, by what is at its path.
use Rattle.std.proofs.Common.{◌≡◌, ◌≢◌, ℕ, Bool, true, false, List, [], ◌∷◌, length, Option, None, Some, Result, Ok, Err, refl, sym, ap, ◌∙◌}
use Rattle.std.specs.FinMap.{get, insert}
use Rattle.std.specs.Option.{is_some}
use Rattle.std.specs.Prelude.{◌||◌, nat_lt}
use Rattle.cs_entries.specs.DirEntries.{entry_of, last_name}
use Rattle.cs_entries.specs.Entries.{Entries}
use Rattle.cs_entries.specs.Laws.Records.{entry_exact, entry_total}
use Rattle.cs_entries.specs.Paths.{at_path, down, entry_in}
use Rattle.cs_entries.specs.Tables.{Table, held_in}
use Rattle.cs_entries.specs.declared.entry.Entry.{Entry}
use Rattle.cs_entries.specs.declared.node.Node.{Node}
use Rattle.cs_entries.specs.declared.node.Node.TheVariants.{Directory, File}
use Rattle.cs_start.specs.Entries.{size_of}
use Rattle.cs_start.specs.Owned.{number_of}
use Rattle.cs_start.specs.declared.entry.StartEntry.{StartEntry}
use Rattle.cs_tree_model.specs.Maps.Changes.{get-insert_other}
use Rattle.cs_tree_model.specs.Tree.{Path, parent_path}
use Rattle.cs_trace.specs.Judging.{and_then, directory_number, entry_at, entry_below, free_at, has_too_many_names, is_too_much, node_at, parent_by, unless_too_large, vacant_by}
use Rattle.cs_trace.specs.Kept.{IsStarting, free_number}
use Rattle.cs_trace.specs.Limits.{most_bytes}
use Rattle.cs_trace.specs.State.{State}
use Rattle.cs_trace.specs.Operations.{number_for}
use Rattle.cs_trace.specs.Putting.{node_by}
use Rattle.cs_trace.specs.States.{bytes_of, entry_for, is_leaf, node_for, start_at, start_file_at, start_link_at, system_with}
use Rattle.cs_trace.specs.States.{with_entry, with_held, with_link, with_start}
use Rattle.cs_trace.specs.declared.fault.TraceFaultKind.{TraceFaultKind}
use Rattle.cs_trace.specs.declared.fault.TraceFaultKind.TheVariants.{Exists, TooLarge}
use Rattle.cs_trace_lines.specs.Lines.{OfDirectory, OfFile, OfSymlink, StartContent}
use Rattle.cs_trace_lines.specs.Values.{Claims}
use Rattle.cs_trace.proofs.Entering.{refused_at}
use Rattle.cs_trace.proofs.Named.{at_entry}
use Rattle.cs_trace.proofs.StartNext.{put_held}

-- ---- with an entry more, paths lead where they led

no_value : (node : Node) → None ≡ Some node → ⊥
no_value node h = cc

pub down_none : (m : Entries) (q : Path) → down m None q ≡ None
down_none m [] = refl
down_none m (x ∷ q) = down_none m q

down_more : (m next : Entries) → ((e : Entry) (node : Node) → m e ≡ Some node → next e ≡ Some node) → (o : Option Node) (q : Path)
    (node : Node) → down m o q ≡ Some node → down next o q ≡ Some node
down_more m next more o [] node is = is
down_more m next more None (x ∷ q) node is = absurd (no_value node (sym (down_none m q) ∙ is))
down_more m next more (Some (File kind file)) (x ∷ q) node is = absurd (no_value node (sym (down_none m q) ∙ is))
down_more m next more (Some (Directory d)) (x ∷ q) node is =
    by (m (entry_in d x)) refl (λ v. down_more m next more (Some v) q node)
  where
    by : (o : Option Node) → m (entry_in d x) ≡ o → ((v : Node) → down m (Some v) q ≡ Some node → down next (Some v) q ≡ Some node)
        → down next (next (entry_in d x)) q ≡ Some node
    by None e rest = absurd (no_value node (sym (down_none m q) ∙ sym (ap (λ o. down m o q) e) ∙ is))
    by (Some v) e rest =
        ap (λ o. down next o q) (more (entry_in d x) v e) ∙ rest v (sym (ap (λ o. down m o q) e) ∙ is)

still_leads : (t : Table) (e : Entry) (v : Node) → get t e ≡ None → (q : Path) (node : Node) → at_path (held_in t) q ≡ Some node
    → at_path (held_in (insert t e v)) q ≡ Some node
still_leads t e v free q node is =
    down_more (held_in t) (held_in (insert t e v))
    (λ f old there. get-insert_other entry_total entry_exact t f e v (λ same. no_value old (sym free ∙ ap (get t) (sym same) ∙ there))
    ∙ there)
    (Some (Directory 0)) q node is

entries_with : (s : State) (p : Path) (node : Node) (content : Option (List ℕ)) → (system_with s p node content).entries
    ≡ with_held s p node
entries_with s p (Directory d) content = refl
entries_with s p (File kind file) content = refl

-- a link of the start, if its path isn't free
pub start_refused : (s : State) (p q : Path) (found : StartEntry × ℕ) (kind : TraceFaultKind) → start_file_at (get s.start p) ≡ Ok found
    → free_number s.system.entries q ≡ Err kind → start_link_at s p q ≡ Err kind
start_refused s p q found kind is fault = λ i.
    and_then (is i) (λ e. and_then (refused_at s q kind fault i) (λ _.
    unless_too_large (has_too_many_names p || is_too_much s.made q) (with_link s q (record e.0 { own = false }) e.1)))

module _ (s : State) (p : Path) (d : ℕ) (named : p ≢ [])
    (above : at_path (held_in s.system.entries) (parent_path p) ≡ Some (Directory d)) where
  -- the entry of the path
  pub entry_is : entry_at s p ≡ entry_below d p
  entry_is = ap (λ o. entry_below (directory_number o) p) above

  held_is : at_path (held_in s.system.entries) p ≡ get s.system.entries (entry_in d (last_name p))
  held_is = at_entry (held_in s.system.entries) p d named above

  no_entry : (e : StartEntry) → None ≡ Some e.node → ⊥
  no_entry e h = cc

  -- nothing there now, and nothing there at the start
  pub absent : IsStarting s → get s.system.entries (entry_in d (last_name p)) ≡ None → get s.start p ≡ None
  absent starting none = by (get s.start p) refl
    where
      by : (o : Option StartEntry) → get s.start p ≡ o → get s.start p ≡ None
      by None is = is
      by (Some e) is = absurd (no_entry e (sym (held_is ∙ none) ∙ starting.stands p e is))

  free_by : (here : Option Node) → at_path (held_in s.system.entries) p ≡ here
      → free_at s p ≡ and_then (vacant_by here) (λ _. Ok (entry_below d p))
  free_by here is =
      (λ i. and_then (and_then (parent_by (above i)) (λ directory. Ok (entry_below directory p)))
      (λ e. and_then (vacant_by (is i)) (λ _. Ok e)))

  -- the directory of a new entry is still there
  pub remembered : (e : StartEntry) → get s.system.entries (entry_in d (last_name p)) ≡ None → (next : State) → next ≡ with_entry s p e
      → at_path (held_in next.system.entries) (parent_path p) ≡ Some (Directory d)
  remembered e none next is =
      ap (λ (x : State). at_path (held_in x.system.entries) (parent_path p)) is
      ∙ ap (λ t. at_path (held_in t) (parent_path p))
      (entries_with s p e.node e.content ∙ sym (put_held s p d (last_name p) named entry_is refl e.node))
      ∙ still_leads s.system.entries (entry_in d (last_name p)) e.node none (parent_path p) (Directory d) above

  -- ---- what a start line makes there

  pub node_is : (content : StartContent) → node_by s (entry_in d (last_name p)) content ≡ node_for s p content
  node_is OfDirectory = ap (λ e. Directory (number_for s.version s.system.homes (entry_of e))) (sym entry_is)
  node_is (OfFile bytes) = refl
  node_is (OfSymlink target) = refl

  pub started_is : (claims : Claims) (content : StartContent)
      → with_entry s p (entry_for (node_by s (entry_in d (last_name p)) content) claims content) ≡ with_start s p claims content
  started_is claims content = ap (λ node. with_entry s p (entry_for node claims content)) (node_is content)

  module _ (claims : Claims) (content : StartContent) where
    abbrev large : Bool
    large = is_too_much s.made p || nat_lt (most_bytes s.version) (size_of (bytes_of content))

    abbrev entered : Result State TraceFaultKind
    entered = start_at s p claims content

    pub start_exists : (node : Node) → get s.system.entries (entry_in d (last_name p)) ≡ Some node → entered ≡ Err Exists
    start_exists node held =
        ap (λ r. and_then r (λ _. unless_too_large large (with_start s p claims content))) (free_by (Some node) (held_is ∙ held))

    pub start_large : get s.system.entries (entry_in d (last_name p)) ≡ None → large ≡ true → entered ≡ Err TooLarge
    start_large none too =
        ap (λ r. and_then r (λ _. unless_too_large large (with_start s p claims content))) (free_by None (held_is ∙ none))
        ∙ ap (λ b. unless_too_large b (with_start s p claims content)) too

    pub start_added : get s.system.entries (entry_in d (last_name p)) ≡ None → large ≡ false → entered ≡ Ok (with_start s p claims content)
    start_added none small =
        ap (λ r. and_then r (λ _. unless_too_large large (with_start s p claims content))) (free_by None (held_is ∙ none))
        ∙ ap (λ b. unless_too_large b (with_start s p claims content)) small

    pub start_taken : is_some (get s.system.entries (entry_in d (last_name p))) ≡ true → entered ≡ Err Exists
    start_taken taken = by (get s.system.entries (entry_in d (last_name p))) refl taken
      where
        by : (o : Option Node) → get s.system.entries (entry_in d (last_name p)) ≡ o → is_some o ≡ true → entered ≡ Err Exists
        by (Some node) is some = start_exists node is
        by None is some = absurd (cc)

    -- what was added is the next state
    pub start_next : (e : StartEntry) (next : State) → get s.system.entries (entry_in d (last_name p)) ≡ None → large ≡ false
        → e ≡ entry_for (node_by s (entry_in d (last_name p)) content) claims content → next ≡ with_entry s p e → entered ≡ Ok next
    start_next e next none little made put =
        start_added none little ∙ ap Ok (sym (put ∙ ap (with_entry s p) made ∙ started_is claims content))

    -- the same by what is at the path
    pub exists_at : (node : Node) → at_path (held_in s.system.entries) p ≡ Some node → entered ≡ Err Exists
    exists_at node at = start_exists node (sym held_is ∙ at)

    pub large_at : at_path (held_in s.system.entries) p ≡ None → large ≡ true → entered ≡ Err TooLarge
    large_at at too = start_large (sym held_is ∙ at) too

-- a file or a symbolic link has the next number
pub number_next : (s : State) (e : Entry) (content : StartContent) → is_leaf (node_by s e content) ≡ true
    → number_of (node_by s e content) ≡ length s.system.sizes
number_next s e OfDirectory leaf = absurd (cc)
number_next s e (OfFile bytes) leaf = refl
number_next s e (OfSymlink target) leaf = refl
