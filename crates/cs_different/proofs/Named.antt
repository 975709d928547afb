-- A file that has a path is held by an entry.
use Rattle.std.proofs.Common.{◌≡◌, ℕ, [], ◌∷◌, Some, sym, ap, ◌∙◌, ⊎_elim}
use Rattle.std.specs.FinMap.{entries, get, get-from_entries}
use Rattle.cs_tree_model.specs.Laws.Paths.{path_exact, path_total}
use Rattle.cs_tree_model.specs.Tree.{Path}
use Rattle.cs_entries.specs.declared.entry.Entry.{Entry}
use Rattle.cs_entries.specs.declared.node.FileKind.{FileKind}
use Rattle.cs_entries.specs.declared.node.Node.{Node}
use Rattle.cs_entries.specs.declared.node.Node.TheVariants.{Directory, File}
use Rattle.cs_entries.specs.Paths.{at_path, entry_in}
use Rattle.cs_entries.specs.Tables.{Table, below, held_in, paths_in}
use Rattle.cs_entries.specs.Laws.Listed.{In, listed_leads}
use Rattle.cs_entries.specs.Laws.Paths.{IsMore, in_directory, last_cases}
use Rattle.cs_entries.specs.Laws.Records.{find_in, in_table}

-- what names lead to is held, if it is a file
held_at : (t : Table) (q : Path) (kind : FileKind) (f : ℕ) → at_path (held_in t) q ≡ Some (File kind f)
    → (e : Entry) × (get t e ≡ Some (File kind f))
held_at t q kind f is = ⊎_elim
    (λ (root : q ≡ []). absurd (no_file (sym (ap (at_path (held_in t)) root) ∙ is)))
    (λ (w : IsMore q).
    (let i = in_directory (held_in t) w.front w.last (File kind f) (ap (at_path (held_in t)) (sym w.is) ∙ is) in
    (entry_in i.directory w.last, i.held)))
    (last_cases q)
  where
    no_file : Some (Directory 0) ≡ Some (File kind f) → ⊥
    no_file e = cc e

pub held_somewhere : (t : Table) (deep : ℕ) (q : Path) (kind : FileKind) (f : ℕ) → get (paths_in deep t) q ≡ Some (File kind f)
    → (e : Entry) × (get t e ≡ Some (File kind f))
unfolding paths_in
held_somewhere t deep q kind f is =
    (let listed = ([], Directory 0) ∷ below (entries t) deep [] 0 in
    let inside : In (q, File kind f) listed =
    find_in path_total path_exact q listed (File kind f) (sym (get-from_entries path_total listed q) ∙ is) in
    ⊎_elim
    (λ (root : ◌≡◌ {A = Path × Node} (q, File kind f) ([], Directory 0)). absurd (other (ap (λ x. x.1) root)))
    (λ (later : In (q, File kind f) (below (entries t) deep [] 0)).
    (let w = listed_leads (held_in t) (entries t) (in_table t) deep [] 0 q (File kind f) later in
    held_at t q kind f (ap (at_path (held_in t)) w.1 ∙ w.2)))
    inside)
  where
    other : ◌≡◌ {A = Node} (File kind f) (Directory 0) → ⊥
    other e = cc e
