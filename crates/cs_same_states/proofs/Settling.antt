-- A file that each of the operations in only one set leaves alike is left alike by both.
use Rattle.std.proofs.Common.{◌≡◌, ℕ, ◌<◌, ◌==◌, ◌⊎◌, Bool, true, false, cond, List, [], Some, length, get_or}
use Rattle.std.proofs.Common.{refl, sym, ap, ◌∙◌, subst, ⊎_elim, None}
use Rattle.std.proofs.lemmas.Bool.{and_parts, eqb-true}
use Rattle.cs_start.specs.declared.rights.Rights.{Rights}
use Rattle.cs_tree_model.specs.declared.mode.TheConstants.{DMDIR}
use Rattle.cs_trace.specs.declared.operation.Target.TheVariants as targets
use Rattle.cs_micro.specs.declared.micro_op.MicroOp.{MicroOp}
use Rattle.cs_micro.specs.declared.micro_op.MicroOp.TheVariants.{CreateDirEntry, DeleteDirEntry, MoveDirEntry, LinkDirEntry, ChangeFileSize}
use Rattle.cs_micro.specs.declared.micro_op.MicroOp.TheVariants.{WriteBlock, SetAttr, Say}
use Rattle.cs_entries.specs.declared.node.FileKind.{FileKind}
use Rattle.cs_entries.specs.declared.node.Node.TheVariants.{Directory, File}
use Rattle.cs_apm.specs.Atlases.{content_before, directories_left, files_left, owners_left}
use Rattle.cs_apm.specs.Contents.{content_left}
use Rattle.cs_apm.specs.Owners.{directory_after, directory_left, owner_after, owner_left}
use Rattle.cs_apm.specs.Rules.{op_at}
use Rattle.cs_apm.specs.States.{Content, kind_bit, no_rights, no_content, record_of, record_with, visible}
use Rattle.cs_apm.proofs.Before.{left_file}
use Rattle.cs_apm.proofs.Owning.{left_directory, left_owner}
use Rattle.cs_state.specs.Owners.{directory_set, sets_directory, sets_rights}
use Rattle.cs_state.specs.Steps.{items_that_pass, resizes}
use Rattle.cs_state.specs.Windows.{byte_of, size_after}
use Rattle.cs_state.proofs.Pages.{unresized}
use Rattle.cs_state.proofs.Showing.{left_size}
use Rattle.cs_same_states.specs.Differences.{AreDiffering}
use Rattle.cs_same_states.specs.Pairs.{IsPair, IsSettled, content_by, directory_by, first_content, first_directory, first_owner, owner_by}
use Rattle.cs_same_states.specs.Pairs.{second_content, second_directory, second_owner}
use Rattle.cs_same_states.specs.Reaching.{changed_file, floor_in, reaches}
use Rattle.cs_same_states.specs.Slots.{first_state, second_state}
use Rattle.cs_same_states.specs.declared.pairs.Pair.{Pair}
use Rattle.cs_same_states.proofs.Bytes.{byte_same, floor_low, same_visible}
use Rattle.cs_same_states.proofs.Keeping.{same_left, some_or_none}

-- ---- what an operation that does something to the file changes

resizes_its : (n : ℕ) (o : MicroOp) → resizes n o ≡ true → changed_file o ≡ Some n
resizes_its n (ChangeFileSize file size) is = ap Some (eqb-true file n is)
resizes_its n (CreateDirEntry e node rights bytes) is = absurd (cc is)
resizes_its n (DeleteDirEntry e node) is = absurd (cc is)
resizes_its n (MoveDirEntry a b node old) is = absurd (cc is)
resizes_its n (LinkDirEntry e kind linked old half) is = absurd (cc is)
resizes_its n (WriteBlock file block start at bytes) is = absurd (cc is)
resizes_its n (SetAttr target rights) is = absurd (cc is)
resizes_its n Say is = absurd (cc is)

sets_its : (n : ℕ) (o : MicroOp) → sets_rights n o ≡ true → changed_file o ≡ Some n
sets_its n (SetAttr (targets.File file) rights) is = ap Some (eqb-true file n is)
sets_its n (SetAttr (targets.Directory d path) rights) is = absurd (cc is)
sets_its n (CreateDirEntry e node rights bytes) is = absurd (cc is)
sets_its n (DeleteDirEntry e node) is = absurd (cc is)
sets_its n (MoveDirEntry a b node old) is = absurd (cc is)
sets_its n (LinkDirEntry e kind linked old half) is = absurd (cc is)
sets_its n (ChangeFileSize file size) is = absurd (cc is)
sets_its n (WriteBlock file block start at bytes) is = absurd (cc is)
sets_its n Say is = absurd (cc is)

reaches_its : (floor n i : ℕ) (o : MicroOp) → reaches floor n i o ≡ true → changed_file o ≡ Some n
reaches_its floor n i (ChangeFileSize file size) is = ap Some (eqb-true file n (and_parts (file == n) _ is).0)
reaches_its floor n i (WriteBlock file block start at bytes) is = ap Some (eqb-true file n (and_parts (file == n) _ is).0)
reaches_its floor n i (CreateDirEntry e node rights bytes) is = absurd (cc is)
reaches_its floor n i (DeleteDirEntry e node) is = absurd (cc is)
reaches_its floor n i (MoveDirEntry a b node old) is = absurd (cc is)
reaches_its floor n i (LinkDirEntry e kind linked old half) is = absurd (cc is)
reaches_its floor n i (SetAttr target rights) is = absurd (cc is)
reaches_its floor n i Say is = absurd (cc is)

owner_kept : (n : ℕ) (r : Rights) (o : MicroOp) → sets_rights n o ≡ false → owner_after n r o ≡ r
owner_kept n r (SetAttr (targets.File file) rights) none = ap (λ b. cond b rights r) none
owner_kept n r (SetAttr (targets.Directory d path) rights) none = refl
owner_kept n r (CreateDirEntry e node rights bytes) none = refl
owner_kept n r (DeleteDirEntry e node) none = refl
owner_kept n r (MoveDirEntry a b node old) none = refl
owner_kept n r (LinkDirEntry e kind linked old half) none = refl
owner_kept n r (ChangeFileSize file size) none = refl
owner_kept n r (WriteBlock file block start at bytes) none = refl
owner_kept n r Say none = refl

sets_directory_its : (n : ℕ) (o : MicroOp) → sets_directory n o ≡ true → directory_set o ≡ Some n
sets_directory_its n (CreateDirEntry e (Directory d) rights bytes) is = ap Some (eqb-true d n is)
sets_directory_its n (CreateDirEntry e (File kind file) rights bytes) is = absurd (cc is)
sets_directory_its n (SetAttr (targets.Directory d path) rights) is = ap Some (eqb-true d n is)
sets_directory_its n (SetAttr (targets.File file) rights) is = absurd (cc is)
sets_directory_its n (DeleteDirEntry e node) is = absurd (cc is)
sets_directory_its n (MoveDirEntry a b node old) is = absurd (cc is)
sets_directory_its n (LinkDirEntry e kind linked old half) is = absurd (cc is)
sets_directory_its n (ChangeFileSize file size) is = absurd (cc is)
sets_directory_its n (WriteBlock file block start at bytes) is = absurd (cc is)
sets_directory_its n Say is = absurd (cc is)

directory_kept : (n : ℕ) (r : Rights) (o : MicroOp) → sets_directory n o ≡ false → directory_after n r o ≡ r
directory_kept n r (CreateDirEntry e (Directory d) rights bytes) none = ap (λ b. cond b rights r) none
directory_kept n r (CreateDirEntry e (File kind file) rights bytes) none = refl
directory_kept n r (SetAttr (targets.Directory d path) rights) none = ap (λ b. cond b rights r) none
directory_kept n r (SetAttr (targets.File file) rights) none = refl
directory_kept n r (DeleteDirEntry e node) none = refl
directory_kept n r (MoveDirEntry a b node old) none = refl
directory_kept n r (LinkDirEntry e kind linked old half) none = refl
directory_kept n r (ChangeFileSize file size) none = refl
directory_kept n r (WriteBlock file block start at bytes) none = refl
directory_kept n r Say none = refl

same_directory : (n : ℕ) (r : Rights) (ops : List MicroOp) (places others : List ℕ)
    → items_that_pass (λ k. sets_directory n (op_at ops k)) places ≡ items_that_pass (λ k. sets_directory n (op_at ops k)) others
    → directory_left n r ops places ≡ directory_left n r ops others
unfolding directory_left
same_directory n r ops places others same =
    same_left Rights (directory_after n) (sets_directory n) (directory_kept n) ops r places others same

same_owner : (n : ℕ) (r : Rights) (ops : List MicroOp) (places others : List ℕ)
    → items_that_pass (λ k. sets_rights n (op_at ops k)) places ≡ items_that_pass (λ k. sets_rights n (op_at ops k)) others
    → owner_left n r ops places ≡ owner_left n r ops others
unfolding owner_left
same_owner n r ops places others same = same_left Rights (owner_after n) (sets_rights n) (owner_kept n) ops r places others same

same_size : (n : ℕ) (f : Content) (ops : List MicroOp) (places others : List ℕ)
    → items_that_pass (λ k. resizes n (op_at ops k)) places ≡ items_that_pass (λ k. resizes n (op_at ops k)) others
    → (content_left n f ops places).size ≡ (content_left n f ops others).size
same_size n f ops places others same =
    left_size n f ops places ∙ same_left ℕ (size_after n) (resizes n) (unresized n) ops f.size places others same ∙ sym
    (left_size n f ops others)

-- ---- by what is found

-- one of those found passes the test, or the same in both do
module _ (p : Pair) (found : List ℕ) (are : AreDiffering p.places.now p.others.now found) where
  abbrev by_test : (MicroOp → Bool) → ℕ → Bool
  by_test test k = test (op_at p.ops.now k)

  split : (P : Type 0) (test : MicroOp → Bool)
      → ((k : ℕ) → k < length found → test (op_at p.ops.now (get_or found k 0)) ≡ true → P)
      → (items_that_pass (by_test test) p.places.now ≡ items_that_pass (by_test test) p.others.now → P) → P
  split P test here none = ⊎_elim
      (λ (w : (k : ℕ) × (k < length found) × (test (op_at p.ops.now (get_or found k 0)) ≡ true)). here w.0 w.1 w.2)
      (λ (no : items_that_pass (by_test test) found ≡ []). none (are (by_test test) no))
      (some_or_none (by_test test) found)

  -- a directory that each of them leaves alike is left alike
  pub directory_settled : (n : ℕ)
      → ((k : ℕ) → k < length found → directory_set (op_at p.ops.now (get_or found k 0)) ≡ Some n
      → first_directory p n ≡ second_directory p n)
      → first_directory p n ≡ second_directory p n
  directory_settled n settled = split (first_directory p n ≡ second_directory p n) (sets_directory n)
      (λ k low is. settled k low (sets_directory_its n (op_at p.ops.now (get_or found k 0)) is))
      (same_directory n (get_or p.tables.now.directories.items n no_rights) p.ops.now p.places.now p.others.now)

  -- ---- a file

  module _ (n : ℕ) (settled : (k : ℕ) → k < length found → changed_file (op_at p.ops.now (get_or found k 0)) ≡ Some n
      → IsSettled p n (op_at p.ops.now (get_or found k 0))) where
    split_file : (P : Type 0) (test : MicroOp → Bool) → ((o : MicroOp) → test o ≡ true → changed_file o ≡ Some n)
        → ((o : MicroOp) → test o ≡ true → IsSettled p n o → P)
        → (items_that_pass (by_test test) p.places.now ≡ items_that_pass (by_test test) p.others.now → P) → P
    split_file P test its here none = split P test
        (λ k low is. here (op_at p.ops.now (get_or found k 0)) is (settled k low (its (op_at p.ops.now (get_or found k 0)) is)))
        none

    abbrev start : Content
    start = content_before p.trace.now p.ops.now n

    size_same : (first_content p n).size ≡ (second_content p n).size
    size_same =
        split_file ((first_content p n).size ≡ (second_content p n).size) (resizes n) (resizes_its n) (λ o is s. s.size)
        (same_size n start p.ops.now p.places.now p.others.now)

    byte_left : (i : ℕ) → i < (first_content p n).size → byte_of (first_content p n) i ≡ byte_of (second_content p n) i
    byte_left i low =
        split_file (byte_of (first_content p n) i ≡ byte_of (second_content p n) i) (reaches (floor_in p.ops.now n) n i)
        (reaches_its (floor_in p.ops.now n) n i)
        (λ o is s. s.bytes i low is)
        (byte_same (floor_in p.ops.now n) n i p.ops.now (λ k size is. floor_low n p.ops.now k size is) start p.places.now p.others.now)

    pub owner_settled : first_owner p n ≡ second_owner p n
    owner_settled = split_file (first_owner p n ≡ second_owner p n) (sets_rights n) (sets_its n) (λ o is s. s.owner)
        (same_owner n (get_or p.tables.now.owners.items n no_rights) p.ops.now p.places.now p.others.now)

    pub visible_settled : visible (first_content p n) ≡ visible (second_content p n)
    visible_settled = same_visible (first_content p n) (second_content p n) size_same byte_left

-- ---- the records

module _ (p : Pair) (is : IsPair p) where
  owner_by_left : (places : List ℕ) (n : ℕ) → n < length p.tables.now.owners.items
      → owner_by p places n ≡ get_or (owners_left p.trace.now p.ops.now places) n no_rights
  owner_by_left places n low =
      ap (λ os. owner_left n (get_or os n no_rights) p.ops.now places) is.owners ∙ left_owner p.trace.now p.ops.now places n
      (subst (λ os. n < length os) is.owners low)

  directory_by_left : (places : List ℕ) (n : ℕ) → n < length p.tables.now.directories.items
      → directory_by p places n ≡ get_or (directories_left p.trace.now p.ops.now places) n no_rights
  directory_by_left places n low =
      ap (λ ds. directory_left n (get_or ds n no_rights) p.ops.now places) is.directories
      ∙ left_directory p.trace.now p.ops.now places n (subst (λ ds. n < length ds) is.directories low)

  content_by_left : (places : List ℕ) (n : ℕ) → n < length p.tables.now.owners.items
      → content_by p places n ≡ get_or (files_left p.trace.now p.ops.now places) n no_content
  content_by_left places n low = left_file p.trace.now p.ops.now places n (subst (λ os. n < length os) is.owners low)

  -- files of one kind that are left alike have the same record
  pub files_same : (kind : FileKind) (n m : ℕ) → n < length p.tables.now.owners.items → m < length p.tables.now.owners.items
      → first_owner p n ≡ second_owner p m
      → visible (first_content p n) ≡ visible (second_content p m)
      → record_of (first_state p) (File kind n) ≡ record_of (second_state p) (File kind m)
  unfolding owners_left files_left
  files_same kind n m low high owner seen =
      let owners : get_or (owners_left p.trace.now p.ops.now p.places.now) n no_rights
      ≡ get_or (owners_left p.trace.now p.ops.now p.others.now) m no_rights =
      sym (owner_by_left p.places.now n low) ∙ owner ∙ owner_by_left p.others.now m high in
      let bytes : visible (get_or (files_left p.trace.now p.ops.now p.places.now) n no_content)
      ≡ visible (get_or (files_left p.trace.now p.ops.now p.others.now) m no_content) =
      ap visible (sym (content_by_left p.places.now n low)) ∙ seen ∙ ap visible (content_by_left p.others.now m high) in
      λ i. record_with (owners i) (kind_bit kind) (Some (bytes i))

  -- and so has a directory that is left alike
  pub directory_same : (d : ℕ) → d < length p.tables.now.directories.items → first_directory p d ≡ second_directory p d
      → record_of (first_state p) (Directory d) ≡ record_of (second_state p) (Directory d)
  unfolding directories_left
  directory_same d low same =
      let rights : get_or (directories_left p.trace.now p.ops.now p.places.now) d no_rights
      ≡ get_or (directories_left p.trace.now p.ops.now p.others.now) d no_rights =
      sym (directory_by_left p.places.now d low) ∙ same ∙ directory_by_left p.others.now d low in
      λ i. record_with (rights i) DMDIR None
