-- What is known of entries that an accepted operation makes, finds and moves.
use Rattle.std.proofs.Common.{◌≡◌, ◌≢◌, ℕ, ◌+◌, ◌<◌, ◌≤◌, ◌==◌, ◌||◌, ◌&&◌, not, Bool, true, false, [], length}
use Rattle.std.proofs.Common.{Option, None, Some, Ok, Err, refl, sym, ap, ◌∙◌, subst, arith, ⊎_elim}
use Rattle.std.proofs.lemmas.Bool.{eq-eqb, false≢true, or_parts}
use Rattle.std.proofs.lemmas.Bool.Decides.{nat_tests}
use Rattle.std.proofs.lemmas.Option.{slice_get-get_or}
use Rattle.std.specs.FinMap.{get}
use Rattle.std.specs.Prelude.{if◌then◌else◌, nat_le}
use Rattle.cs_entries.specs.DirEntries.{IsNamed, entry_of, last_name}
use Rattle.cs_entries.specs.declared.entry.Entry.{Entry}
use Rattle.cs_entries.specs.Entries.{Entries, entry_eq}
use Rattle.cs_entries.specs.Entries as entry
use Rattle.cs_entries.specs.Laws.One.{entry_cases}
use Rattle.cs_entries.specs.Legal.{IsBare, IsNew, IsReached}
use Rattle.cs_entries.specs.Legal.{IsLegal as IsLegalEntryOp}
use Rattle.cs_entries.specs.Paths.{at_path, entry_in}
use Rattle.cs_entries.specs.Tables.{held_in}
use Rattle.cs_entries.specs.declared.entry.DirEntry.{DirEntry}
use Rattle.cs_entries.specs.declared.node.FileKind.{FileKind}
use Rattle.cs_entries.specs.declared.node.FileKind.TheVariants.{Regular}
use Rattle.cs_entries.specs.declared.node.Node.{Node}
use Rattle.cs_entries.specs.declared.node.Node.TheVariants.{Directory, File}
use Rattle.cs_names.specs.Paths.{path_eq}
use Rattle.cs_names.specs.declared.limits.TheConstants.{TREE_RECORDS}
use Rattle.cs_start.specs.Below.{is_below}
use Rattle.cs_tree_model.specs.Tree.{Path, parent_path}
use Rattle.cs_trace.specs.Judging.{and_then, directory_number, entry_at, entry_below, file_at}
use Rattle.cs_trace.specs.Judging.{free_at, has_too_many_names, is_path_of, is_too_much_to_move}
use Rattle.cs_trace.specs.Judging.{moved, node_at, parent_at, rename, rename_by}
use Rattle.cs_trace.specs.Judging.{rename_directory, rename_file, size_in}
use Rattle.cs_trace.specs.Judging.{under_directory, under_file, unless_too_large, unmoved}
use Rattle.cs_trace.specs.Operations.{HasSize, IsGiven, IsLegal, MayReplace, Stands}
use Rattle.cs_trace.specs.Operations.{entry_op, made_by, number_for}
use Rattle.cs_trace.specs.State.{State}
use Rattle.cs_trace.specs.declared.fault.TraceFaultKind.TheVariants.{BadName, NotFile}
use Rattle.cs_trace.specs.declared.operation.Operation.{Operation}
use Rattle.cs_trace.specs.declared.operation.Operation.TheVariants.{Rename}
use Rattle.cs_trace_lines.specs.Versions.{is_fourth}
use Rattle.cs_trace.proofs.Accepted.{limit_by, then_by}
use Rattle.cs_trace.proofs.Named.{above_is, at_entry}
use Rattle.cs_trace.proofs.Sound.{AreOctal, IsNow}
use Rattle.cs_trace.proofs.StartPuts.{path_reached}
use Rattle.cs_trace.proofs.Taken.{file_is, file_named, file_stands, free_is, number_new}
use Rattle.cs_trace.proofs.Taken.{parent_is, reached_beside, reached_past, under_directory_is, under_is}

pub record IsTaken (s : State) (o : Operation) : Type 0 where
  pub legal : IsLegal s.version s.system o
  pub few : s.made + made_by s.version o ≤ TREE_RECORDS

record_by : (fourth apart full : Bool) (made : ℕ) → fourth && apart && full ≡ false → (full ≡ false → made + 1 ≤ TREE_RECORDS)
    → made ≤ TREE_RECORDS → made + (if fourth then (if not apart then 0 else 1) else 0) ≤ TREE_RECORDS
record_by false apart full made is more few = omega (arith, few)
record_by true false full made is more few = omega (arith, few)
record_by true true full made is more few = more is

module _ (s : State) (now : IsNow s.version s.system) (rights : AreOctal s.attributes) (few : s.made ≤ TREE_RECORDS) where
  abbrev m : Entries
  m = held_in s.system.entries

  abbrev Taken : Operation → Type 0
  Taken o = IsTaken s o

  same_made : s.made + 0 ≤ TREE_RECORDS
  same_made = omega arith

  -- ---- an entry more

  module _ (p : Path) (named : p ≢ []) (e : DirEntry) (free : free_at s p ≡ Ok e) where
    abbrev d : ℕ
    d = (free_is s p e free).directory

    there : at_path m (parent_path p) ≡ Some (Directory d)
    there = (free_is s p e free).there

    held_none : get s.system.entries (entry_in d (last_name p)) ≡ None
    held_none = sym (at_entry m p d named there) ∙ (free_is s p e free).none

    pub new_named : IsNamed m e
    new_named = subst (IsNamed m) (free_is s p e free).entry (named, there)

    pub new_entry : (node : Node) → IsNew m node → IsLegalEntryOp m (entry.Create (entry_of e) node)
    new_entry node new = subst (λ (f : DirEntry). IsLegalEntryOp m (entry.Create (entry_of f) node)) (free_is s p e free).entry
        (held_none, path_reached m (parent_path p) d there, new)

    no_node : (node : Node) → None ≡ Some node → ⊥
    no_node node h = cc

    pub linked_entry : (kind : FileKind) (file : ℕ) → IsLegalEntryOp m (entry.Link (entry_of e) kind file)
    linked_entry kind file = subst (λ (f : DirEntry). IsLegalEntryOp m (entry.Link (entry_of f) kind file)) (free_is s p e free).entry
        ((λ c held. no_node (Directory c) (sym held_none ∙ held)), path_reached m (parent_path p) d there)

    pub no_held : get s.system.entries (entry_of e) ≡ None
    no_held = subst (λ (f : DirEntry). get s.system.entries (entry_of f) ≡ None) (free_is s p e free).entry held_none

    pub number_is_new : last_name p ≢ [] → IsNew m (Directory (number_for s.version s.system.homes (entry_of e)))
    number_is_new last = subst (λ (f : DirEntry). IsNew m (Directory (number_for s.version s.system.homes (entry_of f))))
        (free_is s p e free).entry (number_new s now (entry_in d (last_name p)) last held_none)

  -- ---- what is there

  pub file_of : (p : Path) (file : ℕ) → file_at s p ≡ Ok file → Stands m Regular file × (file < length s.system.sizes)
  file_of p file is =
      let stands = file_stands m p Regular file (file_is (node_at s p) file is) in
      (stands, now.files stands.0 Regular file stands.1)

  pub size_of_file : (p : Path) (file : ℕ) → file_at s p ≡ Ok file → HasSize s.system.sizes file (size_in s.system.sizes file)
  size_of_file p file is = slice_get-get_or s.system.sizes file 0 (file_of p file is).1

  -- the entry of a path at which something is
  module _ (p : Path) (node : Node) (named : p ≢ []) (at : node_at s p ≡ Some node) where
    abbrev c : ℕ
    c = (above_is m p node named at).0

    above : at_path m (parent_path p) ≡ Some (Directory c)
    above = (above_is m p node named at).1

    pub entry_is : entry_at s p ≡ entry_below c p
    entry_is = ap (λ o. entry_below (directory_number o) p) above

    pub old_named : IsNamed m (entry_at s p)
    old_named = subst (IsNamed m) (sym entry_is) (named, above)

    pub old_held : m (entry_of (entry_at s p)) ≡ Some node
    old_held = subst (λ (f : DirEntry). m (entry_of f) ≡ Some node) (sym entry_is) (sym (at_entry m p c named above) ∙ at)

  -- ---- renames

  still_legal : (b : DirEntry) (node : Node) → IsLegalEntryOp m (entry_op (Rename b b node (Some node)))
  still_legal b node =
      by (entry_eq (entry_of b) (entry_of b)) (entry_itself (entry_of b))
    where
      entry_itself : (e : Entry) → entry_eq e e ≡ true
      entry_itself e = ⊎_elim
          (λ (one : (entry_eq e e ≡ true) × (e ≡ e)). one.0)
          (λ (two : (entry_eq e e ≡ false) × (e ≢ e)). absurd (two.1 refl))
          (entry_cases e e)

      by : (same : Bool) → same ≡ true
          → IsLegalEntryOp m (if same then entry.Other else entry.Move (entry_of b) (entry_of b) node (Some node))
      by true is = tt
      by false is = absurd (false≢true is)

  record_limit : (a b : DirEntry) → is_too_much_to_move s a b ≡ false → (node : Node) (old : Option Node)
      → s.made + made_by s.version (Rename a b node old) ≤ TREE_RECORDS
  record_limit a b is node old = by (a.directory == b.directory) is
    where
      full : nat_le TREE_RECORDS s.made ≡ false → s.made + 1 ≤ TREE_RECORDS
      full is = grind (arith, nat_tests)

      by : (same : Bool) → is_fourth s.version && not same && nat_le TREE_RECORDS s.made ≡ false
          → s.made + (if is_fourth s.version then (if same then 0 else 1) else 0) ≤ TREE_RECORDS
      by true is = record_by (is_fourth s.version) false (nat_le TREE_RECORDS s.made) s.made is full few
      by false is = record_by (is_fourth s.version) true (nat_le TREE_RECORDS s.made) s.made is full few

  -- what a move of it needs: that the target's directory is reached past its entry
  module _ (p : Path) (node : Node) (named : p ≢ []) (at : node_at s p ≡ Some node) (q : Path) (other : q ≢ []) (b : DirEntry)
      (beside : parent_at s q ≡ Ok b) (old : Option Node) (here : node_at s q ≡ old) (bare : IsBare m old)
      (past : (k : ℕ) → at_path m (parent_path q) ≡ Some (Directory k) → IsReached m (λ f. f ≢ entry_of (entry_at s p)) k) where
    abbrev k : ℕ
    k = (parent_is s q b beside).0

    above_q : at_path m (parent_path q) ≡ Some (Directory k)
    above_q = (parent_is s q b beside).2

    same_b : entry_below k q ≡ b
    same_b = (parent_is s q b beside).1

    pub target_named : IsNamed m b
    target_named = subst (IsNamed m) same_b (other, above_q)

    pub move_legal : IsLegalEntryOp m (entry_op (Rename (entry_at s p) b node old))
    move_legal = subst (λ (f : DirEntry). IsLegalEntryOp m (entry_op (Rename (entry_at s p) f node old))) same_b
        (by (entry_eq (entry_of (entry_at s p)) (entry_of (entry_below k q))) refl)
      where
        by : (same : Bool) → entry_eq (entry_of (entry_at s p)) (entry_of (entry_below k q)) ≡ same
            → IsLegalEntryOp m (if same then entry.Other
            else entry.Move (entry_of (entry_at s p)) (entry_of (entry_below k q)) node old)
        by true is = tt
        by false is = (
          apart is,
          old_held p node named at,
          sym (at_entry m q k other above_q) ∙ here,
          bare,
          past k above_q,
        )
          where
            apart : entry_eq (entry_of (entry_at s p)) (entry_of (entry_below k q)) ≡ false
                → entry_of (entry_at s p) ≢ entry_of (entry_below k q)
            apart is = ⊎_elim
                (λ (one : (entry_eq (entry_of (entry_at s p)) (entry_of (entry_below k q)) ≡ true)
                × (entry_of (entry_at s p) ≡ entry_of (entry_below k q))). absurd (false≢true (sym is ∙ one.0)))
                (λ (two : (entry_eq (entry_of (entry_at s p)) (entry_of (entry_below k q)) ≡ false)
                × (entry_of (entry_at s p) ≢ entry_of (entry_below k q))). two.1)
                (entry_cases (entry_of (entry_at s p)) (entry_of (entry_below k q)))

  -- a rename that does nothing
  unmoved_taken : (q : Path) (other : q ≢ []) (b : DirEntry) → parent_at s q ≡ Ok b → (node : Node) → MayReplace s.version node (Some node)
      → IsGiven s.system node → Taken (unmoved b node)
  unmoved_taken q other b beside node may given =
      let up = parent_is s q b beside in
      let named : IsNamed m b = subst (IsNamed m) up.1 (other, up.2) in
      record {
        legal = record { named = (named, named); entry = still_legal b node; fitting = (may, given) };
        few = record_limit b b (nothing_made b) node (Some node);
      }
    where
      nothing_made : (b : DirEntry) → is_too_much_to_move s b b ≡ false
      nothing_made b = by (is_fourth s.version) (b.directory == b.directory) (same_number b.directory)
        where
          same_number : (n : ℕ) → n == n ≡ true
          same_number n = eq-eqb n n refl

          by : (fourth same : Bool) → same ≡ true → fourth && not same && nat_le TREE_RECORDS s.made ≡ false
          by false same is = refl
          by true true is = refl
          by true false is = absurd (false≢true is)

  move_limits : (p : Path) (b : DirEntry) → has_too_many_names p || has_too_many_names b.path || is_too_much_to_move s (entry_at s p) b
      ≡ false
      → is_too_much_to_move s (entry_at s p) b ≡ false
  move_limits p b is = (or_parts (has_too_many_names p || has_too_many_names b.path) (is_too_much_to_move s (entry_at s p) b) is).1

  file_may : (kind : FileKind) (file : ℕ) (old : Option Node) → ((d : ℕ) → old ≢ Some (Directory d))
      → MayReplace s.version (File kind file) old
  file_may kind file None none = tt
  file_may kind file (Some (Directory d)) none = absurd (none d refl)
  file_may kind file (Some (File other n)) none = tt

  file_bare : (old : Option Node) → ((d : ℕ) → old ≢ Some (Directory d)) → IsBare m old
  file_bare old none d is = absurd (none d is)

  renamed_file : (p q : Path) (other : q ≢ []) (kind : FileKind) (file : ℕ) → node_at s p ≡ Some (File kind file) → (o : Operation)
      → rename_file s p q kind file ≡ Ok o → Taken o
  renamed_file p q other kind file at =
      then_by (parent_at s q) _ Taken (λ b beside.
      then_by (under_file (node_at s q)) _ Taken (λ old under.
      moved_by b beside old under (is_path_of file old)))
    where
      named : p ≢ []
      named = file_named m p kind file at

      given : file < length s.system.sizes
      given =
          (let stands = file_stands m p kind file at in now.files stands.0 kind file stands.1)

      past : (k : ℕ) → at_path m (parent_path q) ≡ Some (Directory k) → IsReached m (λ f. f ≢ entry_of (entry_at s p)) k
      past k above =
          reached_past m (entry_of (entry_at s p)) kind file k (old_held p (File kind file) named at)
          (path_reached m (parent_path q) k above)

      moved_by : (b : DirEntry) → parent_at s q ≡ Ok b → (old : Option Node) → under_file (node_at s q) ≡ Ok old → (same : Bool)
          → (o : Operation)
          → (if same then unless_too_large (has_too_many_names p || has_too_many_names q) (unmoved b (File kind file))
          else moved s p b (File kind file) old) ≡ Ok o → Taken o
      moved_by b beside old under true =
          limit_by (has_too_many_names p || has_too_many_names q) (unmoved b (File kind file)) Taken
          (λ _. unmoved_taken q other b beside (File kind file) tt given)
      moved_by b beside old under false =
          limit_by (has_too_many_names p || has_too_many_names b.path || is_too_much_to_move s (entry_at s p) b)
          (Rename (entry_at s p) b (File kind file) old) Taken
          (λ small.
          (let here = under_is (node_at s q) old under in
          let bare = file_bare old here.1 in
          record {
            legal = record {
              named = (
                old_named p (File kind file) named at,
                target_named p (File kind file) named at q other b beside old here.0 bare past,
              );
              entry = move_legal p (File kind file) named at q other b beside old here.0 bare past;
              fitting = (file_may kind file old here.1, given);
            };
            few = record_limit (entry_at s p) b (move_limits p b small) (File kind file) old;
          }))

  directory_may : (d : ℕ) (old : Option Node) → is_fourth s.version ≡ true → ((kind : FileKind) (file : ℕ) → old ≢ Some (File kind file))
      → MayReplace s.version (Directory d) old
  directory_may d None fourth none = fourth
  directory_may d (Some (Directory c)) fourth none = fourth
  directory_may d (Some (File kind file)) fourth none = absurd (none kind file refl)

  renamed_directory : (p q : Path) (named : p ≢ []) (other : q ≢ []) (d : ℕ) → node_at s p ≡ Some (Directory d)
      → is_fourth s.version ≡ true → (o : Operation) → rename_directory s p q d ≡ Ok o → Taken o
  renamed_directory p q named other d at fourth =
      then_by (parent_at s q) _ Taken (λ b beside. not_below b beside (is_below p q) refl)
    where
      moved_by : (b : DirEntry) → parent_at s q ≡ Ok b → is_below p q ≡ false → (same : Bool) → (o : Operation)
          → (if same then unless_too_large (has_too_many_names q) (unmoved b (Directory d))
          else and_then (under_directory s.system.entries (node_at s q)) (moved s p b (Directory d))) ≡ Ok o → Taken o
      moved_by b beside apart true =
          limit_by (has_too_many_names q) (unmoved b (Directory d)) Taken
          (λ _. unmoved_taken q other b beside (Directory d) fourth tt)
      moved_by b beside apart false =
          then_by (under_directory s.system.entries (node_at s q)) _ Taken (λ old under.
          limit_by (has_too_many_names p || has_too_many_names b.path || is_too_much_to_move s (entry_at s p) b)
          (Rename (entry_at s p) b (Directory d) old) Taken
          (λ small.
          (let here = under_directory_is s.system.entries (node_at s q) old under in
          let past : (k : ℕ) → at_path m (parent_path q) ≡ Some (Directory k)
          → IsReached m (λ f. f ≢ entry_of (entry_at s p)) k =
          λ k above. subst (λ (e : DirEntry). IsReached m (λ f. f ≢ entry_of e) k) (sym (entry_is p (Directory d) named at))
          (reached_beside m now.tree p q (above_is m p (Directory d) named at).0 k named other
          (above_is m p (Directory d) named at).1 above apart) in
          record {
            legal = record {
              named = (
                old_named p (Directory d) named at,
                target_named p (Directory d) named at q other b beside old here.same here.bare past,
              );
              entry = move_legal p (Directory d) named at q other b beside old here.same here.bare past;
              fitting = (directory_may d old fourth here.none, tt);
            };
            few = record_limit (entry_at s p) b (move_limits p b small) (Directory d) old;
          })))

      not_below : (b : DirEntry) → parent_at s q ≡ Ok b → (below : Bool) → is_below p q ≡ below → (o : Operation)
          → (if below then Err BadName
          else (if path_eq p q then unless_too_large (has_too_many_names q) (unmoved b (Directory d))
          else and_then (under_directory s.system.entries (node_at s q)) (moved s p b (Directory d)))) ≡ Ok o → Taken o
      not_below b beside true is o does = absurd (cc)
      not_below b beside false is o does = moved_by b beside is (path_eq p q) o does

  pub renamed_by : (p q : Path) (named : p ≢ []) (other : q ≢ []) (here : Option Node) → node_at s p ≡ here → (o : Operation)
      → rename_by s p q here ≡ Ok o → Taken o
  renamed_by p q named other None at o does = absurd (cc)
  renamed_by p q named other (Some (File kind file)) at o does = renamed_file p q other kind file at o does
  renamed_by p q named other (Some (Directory d)) at o does = by (is_fourth s.version) refl o does
    where
      by : (fourth : Bool) → is_fourth s.version ≡ fourth → (o : Operation)
          → (if fourth then rename_directory s p q d else Err NotFile) ≡ Ok o → Taken o
      by true is o does = renamed_directory p q named other d at is o does
      by false is o does = absurd (cc)
