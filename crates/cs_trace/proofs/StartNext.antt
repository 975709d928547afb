-- The state with one entry or one path more at the start, from its parts.
use Rattle.std.proofs.Common.{◌≡◌, ◌≢◌, ℕ, suc, ◌+◌, Bool, true, false, List, [], ◌∷◌, ◌++◌, length, Option, None, Some}
use Rattle.std.proofs.Common.{refl, sym, ap, ◌∙◌, subst, arith}
use Rattle.std.specs.FinMap.{entries, get, insert}
use Rattle.std.specs.Option.{is_some}
use Rattle.cs_entries.specs.DirEntries.{entry_of, last_name}
use Rattle.cs_entries.specs.Paths.{entry_in}
use Rattle.cs_entries.specs.Tables.{Table}
use Rattle.cs_entries.specs.declared.entry.Entry.{Entry}
use Rattle.cs_entries.specs.declared.node.Node.{Node}
use Rattle.cs_entries.specs.declared.node.Node.TheVariants.{Directory, File}
use Rattle.cs_start.proofs.Owned.{length-own_paths, next-paths, other-paths}
use Rattle.cs_start.specs.Entries.{StartEntries}
use Rattle.cs_start.specs.Owned.{AreBelow, number_of, own_paths}
use Rattle.cs_start.specs.declared.entry.StartEntry.{StartEntry}
use Rattle.cs_start.specs.declared.rights.Rights.{Rights}
use Rattle.cs_tree_model.specs.Tree.{Path}
use Rattle.cs_trace.specs.Attributes.{Attributes, kept_in}
use Rattle.cs_trace.specs.Judging.{entry_at, entry_below}
use Rattle.cs_trace.specs.Kept.{IsStarting, with_node}
use Rattle.cs_trace.specs.Operations.{FileSystem}
use Rattle.cs_trace.specs.Putting.{count_with, homes_with, sizes_with}
use Rattle.cs_trace.specs.State.{State}
use Rattle.cs_trace.specs.States.{attributes_with, files_with, is_leaf, system_with, with_entry, with_held, with_link}
use Rattle.cs_trace.specs.declared.operation.Operation.{Operation}
use Rattle.cs_trace_lines.specs.declared.version.Version.{Version}

pub nothing_is : (o : Option Node) → is_some o ≡ false → o ≡ None
nothing_is None is = refl
nothing_is (Some node) is = absurd (cc)

-- what the entry of the path holds is put there
pub put_held : (s : State) (p : Path) (d : ℕ) (name : List ℕ) → p ≢ [] → entry_at s p ≡ entry_below d p → last_name p ≡ name → (node : Node)
    → insert s.system.entries (entry_in d name) node ≡ with_held s p node
put_held s [] d name named above last node = absurd (named refl)
put_held s (x ∷ p) d name named above last node =
    ap (λ n. insert s.system.entries (entry_in d n) node) (sym last)
    ∙ ap (λ e. insert s.system.entries (entry_of e) node) (sym above)

-- and its home is kept
pub put_home : (s : State) (p : Path) (d : ℕ) (name : List ℕ) → entry_at s p ≡ entry_below d p → last_name p ≡ name → (node : Node)
    → homes_with s.system.homes (entry_in d name) node ≡ homes_with s.system.homes (entry_of (entry_at s p)) node
put_home s p d name above last node =
    ap (λ n. homes_with s.system.homes (entry_in d n) node) (sym last)
    ∙ ap (λ e. homes_with s.system.homes (entry_of e) node) (sym above)

module _ (s : State) (p : Path) (e : StartEntry) where
  system_parts : (node : Node) (content : Option (List ℕ)) → record {
    entries = with_held s p node;
    sizes = sizes_with s.system.sizes node content;
    homes = homes_with s.system.homes (entry_of (entry_at s p)) node;
  } ≡ system_with s p node content
  system_parts (Directory d) content = refl
  system_parts (File kind file) content = refl

  same_attributes : (node : Node) → with_node s.attributes node e.rights ≡ attributes_with s.attributes e node
  same_attributes (Directory d) = refl
  same_attributes (File kind file) = refl

  module _ (count : ℕ) (files_are : s.files ≡ own_paths s.start count) (free : get s.start p ≡ None) where
    -- the paths that files were made at, if this is one's or a directory's
    module _ (below : AreBelow (entries s.start) (length s.files)) (even : length s.system.sizes ≡ length s.files)
        (own : e.own ≡ is_leaf e.node) (number : is_leaf e.node ≡ true → number_of e.node ≡ length s.system.sizes) where
      counted : length s.files ≡ count
      counted = ap length files_are ∙ length-own_paths s.start count

      files_by : (node : Node) → e.node ≡ node
          → own_paths (insert s.start p e) (count_with count s.system.sizes node) ≡ files_with s.files p node
      files_by (Directory d) is = other-paths s.start p e count (own ∙ ap is_leaf is) free ∙ sym files_are
      files_by (File kind file) is =
          ap (λ n. own_paths (insert s.start p e) (n + 1)) (even ∙ counted)
          ∙ next-paths s.start p e count (subst (AreBelow (entries s.start)) counted below) (own ∙ ap is_leaf is)
          (number (ap is_leaf is) ∙ even ∙ counted) free
          ∙ ap (λ fs. fs ++ p ∷ []) (sym files_are)

      pub files_next : own_paths (insert s.start p e) (count_with count s.system.sizes e.node) ≡ files_with s.files p e.node
      files_next = files_by e.node refl

    -- the same, if no file is made at the path
    pub files_kept : e.own ≡ false → own_paths (insert s.start p e) count ≡ s.files
    files_kept further = other-paths s.start p e count further free ∙ sym files_are

  -- all parts together
  pub entry_state : (version : Version) (start : StartEntries) (files : List Path) (links : List (Path × ℕ)) (table : Table)
      (sizes : List ℕ)
      (homes : List Entry) (made : ℕ) (attributes : Attributes) (operations : List Operation) → version ≡ s.version → start ≡
      insert s.start p e
      → files ≡ files_with s.files p e.node → links ≡ s.links → table ≡ with_held s p e.node
      → sizes ≡ sizes_with s.system.sizes e.node e.content → homes ≡ homes_with s.system.homes (entry_of (entry_at s p)) e.node
      → made ≡ s.made + 1 → attributes ≡ kept_in s.version s.attributes (with_node s.attributes e.node e.rights)
      → operations ≡ s.operations
      → record {
        version = version;
        start = start;
        files = files;
        links = links;
        system = record { entries = table; sizes = sizes; homes = homes };
        made = made;
        attributes = attributes;
        operations = operations;
      } ≡ with_entry s p e
  entry_state version start files links table sizes homes made attributes operations v st f l t si h m a o =
      let system : record { entries = table; sizes = sizes; homes = homes } ≡ system_with s p e.node e.content =
      (λ i. record { entries = t i; sizes = si i; homes = h i }) ∙ system_parts e.node e.content in
      let rights : attributes ≡ kept_in s.version s.attributes (attributes_with s.attributes e e.node) =
      a ∙ ap (kept_in s.version s.attributes) (same_attributes e.node) in
      λ i. record {
        version = v i;
        start = st i;
        files = f i;
        links = l i;
        system = system i;
        made = m i;
        attributes = rights i;
        operations = o i;
      }

  pub link_state : (file : ℕ) (start : StartEntries) (files : List Path) (links : List (Path × ℕ)) (table : Table) (made : ℕ)
      → start ≡ insert s.start p e → files ≡ s.files → links ≡ s.links ++ (p, file) ∷ [] → table ≡ with_held s p e.node → made ≡ s.made + 1
      → record s { start = start; files = files; links = links; system = record s.system { entries = table }; made = made }
      ≡ with_link s p e file
  link_state file start files links table made st f l t m = λ i. record s {
    start = st i;
    files = f i;
    links = l i;
    system = record s.system { entries = t i };
    made = m i;
  }
