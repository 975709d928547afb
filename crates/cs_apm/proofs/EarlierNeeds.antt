-- What needs what before version 4, and since: each need is one, or a chain of two.
use Rattle.std.proofs.Common.{◌≡◌, ◌≢◌, ℕ, suc, ◌+◌, ◌-◌, ◌<◌, ◌≤◌, not, Bool, true, false, List, ◌⊎◌, inl, inr, None, Some}
use Rattle.std.proofs.Common.{refl, sym, ap, ◌∙◌, subst, arith, length, map, ⊎_elim}
use Rattle.std.proofs.lemmas.Bool.{and_from, cases_Bool, false≢true}
use Rattle.std.specs.List.{Contains, list_any}
use Rattle.cs_names.specs.Paths.{path_eq}
use Rattle.cs_tree_model.specs.Tree.{Path, parent_path}
use Rattle.cs_entries.specs.declared.entry.DirEntry.{DirEntry}
use Rattle.cs_entries.specs.declared.entry.Entry.{Entry}
use Rattle.cs_entries.specs.declared.node.Node.{Node}
use Rattle.cs_entries.specs.declared.node.Node.TheVariants.{Directory, File}
use Rattle.cs_entries.specs.DirEntries.{IsNamed, entry_of}
use Rattle.cs_entries.specs.Entries.{Entries, EntryOp, Create, Delete, Removes, after}
use Rattle.cs_entries.specs.Legal.{IsLegal as IsLegalEntryOp}
use Rattle.cs_entries.specs.Paths.{at_path}
use Rattle.cs_entries.specs.Rules.{places_between}
use Rattle.cs_entries.specs.Laws.One.{put_here}
use Rattle.cs_start.specs.declared.rights.Rights.{Rights}
use Rattle.cs_trace.specs.declared.operation.Target.TheVariants as targets
use Rattle.cs_micro.specs.declared.micro_op.MicroOp.{MicroOp}
use Rattle.cs_micro.specs.declared.micro_op.MicroOp.TheVariants.{CreateDirEntry, DeleteDirEntry, MoveDirEntry, LinkDirEntry, ChangeFileSize}
use Rattle.cs_micro.specs.declared.micro_op.MicroOp.TheVariants.{WriteBlock, SetAttr, Say}
use Rattle.cs_micro.specs.Earlier.Same.{op_before}
use Rattle.cs_micro.specs.Legal.{AreNamed, entry_op}
use Rattle.cs_apm.specs.Earlier.Rules as before
use Rattle.cs_apm.specs.Laws.Lists.{any_found, any_from, none_between}
use Rattle.cs_apm.specs.Reasons.{Creates, IsLatestMaking, Settles, Touches}
use Rattle.cs_apm.specs.Rules.{needs, op_at}
use Rattle.cs_apm.proofs.EarlierPaths.{named_holds, one_path, path_from, path_same}
use Rattle.cs_apm.proofs.EarlierRules.{IsPlain, at_before, dir_entries, set_named, touched_named}
use Rattle.cs_apm.proofs.EarlierTimes.{IsHistory, creates_by, directory_cases, entry_at_path, held_named, made_after}
use Rattle.cs_apm.proofs.EarlierTimes.{made_between, made_named, named_at, one_entry, one_name}
use Rattle.cs_apm.proofs.EarlierTimes.{some_node, touch, touched}

-- ---- paths that both name

pub shares_from : (a b : MicroOp) (p q : Path) → Contains (before.paths_named (op_before a)) p
    → Contains (before.paths_named (op_before b)) q
    → p ≡ q → before.shares_path (op_before a) (op_before b) ≡ true
shares_from a b p q x y is =
    any_from (before.names_path (op_before a)) (before.paths_named (op_before b)) q y
    (any_from (λ r. path_eq r q) (before.paths_named (op_before a)) p x (path_same p q is))

pub record NamesOne (a b : MicroOp) : Type 0 where
  pub path : Path
  pub first : Contains (before.paths_named (op_before a)) path
  pub second : Contains (before.paths_named (op_before b)) path

pub shares_found : (a b : MicroOp) → before.shares_path (op_before a) (op_before b) ≡ true → NamesOne a b
shares_found a b h =
    let w = any_found (before.names_path (op_before a)) (before.paths_named (op_before b)) h in
    let v = any_found (λ r. path_eq r w.0) (before.paths_named (op_before a)) w.2 in
    record {
      path = w.0;
      first = subst (Contains (before.paths_named (op_before a))) (path_from v.0 w.0 v.2) v.1;
      second = w.1;
    }

pub record IsMadeAt (o : MicroOp) (q : Path) : Type 0 where
  pub entry : DirEntry
  pub node : Node
  pub rights : Rights
  pub bytes : List ℕ
  pub is : o ≡ CreateDirEntry entry node rights bytes
  pub path : entry.path ≡ q

pub creates_says : (o : MicroOp) (q : Path) → before.creates (op_before o) q ≡ true → IsMadeAt o q
creates_says (CreateDirEntry e node rights bytes) q h = record {
  entry = e;
  node = node;
  rights = rights;
  bytes = bytes;
  is = refl;
  path = path_from e.path q h;
}
creates_says (DeleteDirEntry e node) q h = absurd (false≢true h)
creates_says (MoveDirEntry a b node old) q h = absurd (false≢true h)
creates_says (LinkDirEntry e kind file old half) q h = absurd (false≢true h)
creates_says (ChangeFileSize file to) q h = absurd (false≢true h)
creates_says (WriteBlock file block start at bytes) q h = absurd (false≢true h)
creates_says (SetAttr target rights) q h = absurd (false≢true h)
creates_says Say q h = absurd (false≢true h)

pub says_creates : (o : MicroOp) (q : Path) (node : Node) (w : Creates o node) → w.0.path ≡ q → before.creates (op_before o) q ≡ true
says_creates o q node w is = ap (λ x. before.creates (op_before x) q) w.3 ∙ path_same w.0.path q is

-- ---- each need of now is one of then

-- a path that the micro-operation names is that of the directory at some time
record IsNamedAs (E : ℕ → Entries) (n : ℕ) (o : MicroOp) (d : ℕ) : Type 0 where
  path : Path
  among : Contains (before.paths_named (op_before o)) path
  time : ℕ
  low : time ≤ n
  leads : at_path (E time) path ≡ Some (Directory d)

module _ (ops : List MicroOp) (home : ℕ → Entry) (number : Entry → ℕ) (E : ℕ → Entries) (h : IsHistory ops home number E) where
  abbrev n : ℕ
  n = length ops

  named_as : (k : ℕ) → k < n → (d : ℕ) → Settles (op_at ops k) d → IsNamedAs E n (op_at ops k) d
  named_as k low d (inl (inl made)) =
      (let at = made_after ops home number E h k low d made in
      let c : Contains (dir_entries (op_at ops k)) made.0 =
      subst (λ o. Contains (dir_entries o) made.0) (sym made.3) (0, omega arith, refl) in
      let here = held_named ops home number E h k (suc k) (omega (arith, low)) (omega (arith, low)) made.0 (Directory d)
      (named_at ops home number E h k low made.0 c) at in
      record {
        path = made.0.path;
        among = touched_named (op_at ops k) made.0 c;
        time = suc k;
        low = omega (arith, low);
        leads = named_holds (E (suc k)) made.0 here ∙ at;
      })
  named_as k low d (inl (inr removed)) = by (op_at ops k) refl removed
    where
      by : (o : MicroOp) → op_at ops k ≡ o → Removes (entry_op o) d → IsNamedAs E n (op_at ops k) d
      by (DeleteDirEntry e (Directory c)) is r =
          (let l = subst (λ o. IsLegalEntryOp (E k) (entry_op o)) is (h.legal k low) in
          let w : Contains (dir_entries (op_at ops k)) e = subst (λ o. Contains (dir_entries o) e) (sym is) (0, omega arith, refl) in
          record {
            path = e.path;
            among = touched_named (op_at ops k) e w;
            time = k;
            low = omega (arith, low);
            leads = named_holds (E k) e (named_at ops home number E h k low e w) ∙ l.0 ∙ ap (λ x. Some (Directory x)) r;
          })
      by (DeleteDirEntry e (File kind file)) is r = absurd r
      by (MoveDirEntry a b (Directory x) (Some (Directory c))) is r = absurd (subst IsPlain is (h.plain k low))
      by (MoveDirEntry a b (File kind file) (Some (Directory c))) is r = absurd (subst IsPlain is (h.plain k low))
      by (MoveDirEntry a b node (Some (File kind file))) is r = absurd r
      by (MoveDirEntry a b node None) is r = absurd r
      by (CreateDirEntry e node rights bytes) is r = absurd r
      by (LinkDirEntry e kind file old half) is r = absurd r
      by (ChangeFileSize file to) is r = absurd r
      by (WriteBlock file block start at bytes) is r = absurd r
      by (SetAttr target rights) is r = absurd r
      by Say is r = absurd r
  named_as k low d (inr sets) = record {
    path = sets.0;
    among = set_named (op_at ops k) d sets.0 (sets.1, sets.2);
    time = k;
    low = omega (arith, low);
    leads = subst (AreNamed (E k)) sets.2 (h.named k low);
  }

  pub entry_shared : (i j : ℕ) → i < n → j < n → (e : Entry) → Touches (op_at ops i) e → Touches (op_at ops j) e
      → before.shares_path (op_before (op_at ops i)) (op_before (op_at ops j)) ≡ true
  entry_shared i j low high e x y =
      let f = touched (op_at ops i) e x in
      let g = touched (op_at ops j) e y in
      shares_from (op_at ops i) (op_at ops j) f.0.path g.0.path (touched_named (op_at ops i) f.0 f.1) (touched_named (op_at ops j) g.0 g.1)
      (one_name ops home number E h i j (omega (arith, low)) (omega (arith, high)) f.0 g.0 (named_at ops home number E h i low f.0 f.1)
      (named_at ops home number E h j high g.0 g.1) (f.2 ∙ sym g.2))

  pub directory_shared : (i j : ℕ) → i < n → j < n → (d : ℕ) → Settles (op_at ops i) d → Settles (op_at ops j) d
      → before.shares_path (op_before (op_at ops i)) (op_before (op_at ops j)) ≡ true
  directory_shared i j low high d x y =
      let v = named_as i low d x in
      let w = named_as j high d y in
      shares_from (op_at ops i) (op_at ops j) v.path w.path v.among w.among
      (one_path home number (E v.time) (E w.time) (h.placed v.time v.low) (h.placed w.time w.low) v.path w.path d v.leads w.leads)

  -- what is made at the path of a directory that is there later, and is no making of it, is followed by one
  pub made_again : (k j : ℕ) → k < j → j ≤ n → (g : DirEntry) (c : ℕ) → IsNamed (E j) g → E j (entry_of g) ≡ Some (Directory c)
      → (w : IsMadeAt (op_at ops k) g.path) → (m : ℕ) × (k ≤ m) × (m < j) × Creates (op_at ops m) (Directory c)
  made_again k j before_j high g c named held w = ⊎_elim
      (λ (is : Some w.node ≡ Some (Directory c)). (
        k,
        omega arith,
        before_j,
        (
          w.entry,
          w.rights,
          w.bytes,
          w.is
              ∙ ap (λ x. CreateDirEntry w.entry x w.rights w.bytes) (some_node w.node c is),
        ),
      ))
      (λ (other : Some w.node ≢ Some (Directory c)).
      (let low : k < n = omega (arith, before_j, high) in
      let made : Creates (op_at ops k) w.node = (w.entry, w.rights, w.bytes, w.is) in
      let there : E (suc k) (entry_of w.entry) ≡ Some w.node =
      h.step k low (entry_of w.entry) ∙ ap (λ o. after (E k) (entry_op o) (entry_of w.entry)) w.is
      ∙ put_here (E k) (entry_of w.entry) (Some w.node) in
      let same = one_entry ops home number E h k j (omega (arith, low)) high w.entry g (made_named ops home number E h k low w.node made)
      named w.path in
      let v = made_between ops home number E h j (suc k) (entry_of g) c (omega (arith, before_j)) high
      (λ held_now. other (sym there ∙ ap (E (suc k)) same ∙ held_now)) held in
      let from = v.1 in
      (v.0, omega (arith, from), v.2, creates_by (op_at ops v.0) (entry_of g) c v.3)))
      (directory_cases (Some w.node) c)

  pub making_was : (i j : ℕ) → i < j → j < n → (e : Entry) → Touches (op_at ops j) e → IsLatestMaking ops i j e.directory
      → before.makes_parent (map op_before ops) i j ≡ true
  unfolding before.is_latest
  making_was i j order high e y latest =
      let f = touched (op_at ops j) e y in
      let nf = named_at ops home number E h j high f.0 f.1 in
      let low : i < n = omega (arith, order, high) in
      let g = latest.made.0 in
      let at = made_after ops home number E h i low e.directory latest.made in
      let ng = held_named ops home number E h i (suc i) (omega (arith, low)) (omega (arith, low)) g (Directory e.directory)
      (made_named ops home number E h i low (Directory e.directory) latest.made) at in
      let above : at_path (E j) (parent_path f.0.path) ≡ Some (Directory e.directory) = nf.1
      ∙ ap (λ (x : Entry). Some (Directory x.directory)) f.2 in
      let same : g.path ≡ parent_path f.0.path =
      one_path home number (E (suc i)) (E j) (h.placed (suc i) (omega (arith, low))) (h.placed j (omega (arith, high))) g.path
      (parent_path f.0.path)
      e.directory (named_holds (E (suc i)) g ng ∙ at) above in
      let there : E j (entry_of g) ≡ Some (Directory e.directory) =
      entry_at_path ops home number E h j (suc i) (omega (arith, high)) (omega (arith, low)) g e.directory ng (ap (at_path (E j)) same
      ∙ above) in
      let here = held_named ops home number E h (suc i) j (omega (arith, low)) (omega (arith, high)) g (Directory e.directory) ng there in
      any_from (λ p. before.is_latest (map op_before ops) i j (parent_path p)) (before.paths_named (before.op_at (map op_before ops) j))
      f.0.path
      (subst (λ o. Contains (before.paths_named o) f.0.path) (sym (at_before ops j)) (touched_named (op_at ops j) f.0 f.1))
      (and_from (before.creates (before.op_at (map op_before ops) i) (parent_path f.0.path))
      (not (list_any (λ k. before.creates (before.op_at (map op_before ops) k) (parent_path f.0.path)) (before.places_between i j)))
      (ap (λ o. before.creates o (parent_path f.0.path)) (at_before ops i)
      ∙ says_creates (op_at ops i) (parent_path f.0.path) (Directory e.directory) latest.made same)
      (ap not (none_between (λ k. before.creates (before.op_at (map op_before ops) k) (parent_path f.0.path)) (i + 1) (j - (i + 1))
      (λ k from to. ⊎_elim
      (λ (yes : before.creates (before.op_at (map op_before ops) k) (parent_path f.0.path) ≡ true).
      (let before_j : k < j = omega (arith, from, to) in
      let w : IsMadeAt (op_at ops k) (parent_path f.0.path) = creates_says (op_at ops k) (parent_path f.0.path)
      (sym (ap (λ o. before.creates o (parent_path f.0.path)) (at_before ops k)) ∙ yes) in
      let m = made_again k j before_j (omega (arith, high)) g e.directory here there (subst (IsMadeAt (op_at ops k)) (sym same) w) in
      let behind = m.1 in
      absurd (latest.last m.0 (omega (arith, from, behind)) m.2 m.3)))
      (λ (no : before.creates (before.op_at (map op_before ops) k) (parent_path f.0.path) ≡ false). no)
      (cases_Bool (before.creates (before.op_at (map op_before ops) k) (parent_path f.0.path)))))))
