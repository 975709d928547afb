-- Entries of paths, and limits that come last.
use Rattle.std.proofs.Common.{◌≡◌, ℕ, Bool, true, false, Option, None, Some, Result, Ok, Err, refl, ap, ◌∙◌}
use Rattle.cs_entries.specs.declared.entry.DirEntry.{DirEntry}
use Rattle.cs_entries.specs.declared.node.FileKind.TheVariants.{Regular, Symlink}
use Rattle.cs_entries.specs.declared.node.Node.{Node}
use Rattle.cs_entries.specs.declared.node.Node.TheVariants.{Directory, File}
use Rattle.cs_tree_model.specs.Tree.{Path, parent_path}
use Rattle.cs_trace.specs.Judging.{and_then, covered_by, entry_below, free_at, is_too_much, node_at, parent_at, parent_by}
use Rattle.cs_trace.specs.Judging.{unless_too_large, vacant_by}
use Rattle.cs_trace.specs.Kept.{free_number, parent_number}
use Rattle.cs_trace.specs.Resolving.{covers_by, new_entry_at}
use Rattle.cs_trace.specs.State.{State}
use Rattle.cs_trace.specs.declared.fault.TraceFaultKind.{TraceFaultKind}
use Rattle.cs_trace.specs.declared.fault.TraceFaultKind.TheVariants.{TooLarge}
use Rattle.cs_trace.specs.declared.operation.Operation.TheVariants as operation

-- ---- a limit that comes last

pub last : {A B : Type 0} (r : Result A TraceFaultKind) (large : Bool) (f : A → B)
    → and_then r (λ x. unless_too_large large (f x)) ≡ and_then (and_then r (unless_too_large large)) (λ x. Ok (f x))
last (Ok x) true f = refl
last (Ok x) false f = refl
last (Err kind) large f = refl

-- ---- the entry of a path, by its number

free_by : (above here : Option Node) (p : Path)
    → and_then (and_then (parent_by above) (λ directory. Ok (entry_below directory p))) (λ e. and_then (vacant_by here) (λ _. Ok e))
    ≡ and_then (and_then (parent_by above) (λ d. and_then (vacant_by here) (λ _. Ok d))) (λ d. Ok (entry_below d p))
free_by None here p = refl
free_by (Some (File kind file)) here p = refl
free_by (Some (Directory d)) (Some node) p = refl
free_by (Some (Directory d)) None p = refl

pub free_entry : (s : State) (p : Path) → free_at s p ≡ and_then (free_number s.system.entries p) (λ d. Ok (entry_below d p))
free_entry s p = free_by (node_at s (parent_path p)) (node_at s p) p

pub found_at : (s : State) (p : Path) (d : ℕ) → free_number s.system.entries p ≡ Ok d → free_at s p ≡ Ok (entry_below d p)
found_at s p d found = free_entry s p ∙ ap (λ r. and_then r (λ d. Ok (entry_below d p))) found

pub refused_at : (s : State) (p : Path) (kind : TraceFaultKind) → free_number s.system.entries p ≡ Err kind → free_at s p ≡ Err kind
refused_at s p kind fault = free_entry s p ∙ ap (λ r. and_then r (λ d. Ok (entry_below d p))) fault

pub entry_found : (s : State) (p : Path) (d : ℕ) → free_number s.system.entries p ≡ Ok d → is_too_much s.made p ≡ false
    → new_entry_at s p ≡ Ok (entry_below d p)
entry_found s p d found small =
    (λ i. and_then (found_at s p d found i) (unless_too_large (small i)))

pub entry_refused : (s : State) (p : Path) (kind : TraceFaultKind) → free_number s.system.entries p ≡ Err kind
    → new_entry_at s p ≡ Err kind
entry_refused s p kind fault = ap (λ r. and_then r (unless_too_large (is_too_much s.made p))) (refused_at s p kind fault)

pub entry_large : (s : State) (p : Path) (d : ℕ) → free_number s.system.entries p ≡ Ok d → is_too_much s.made p ≡ true
    → new_entry_at s p ≡ Err TooLarge
entry_large s p d found large =
    (λ i. and_then (found_at s p d found i) (unless_too_large (large i)))

pub parent_found : (s : State) (p : Path) (d : ℕ) → parent_number s.system.entries p ≡ Ok d → parent_at s p ≡ Ok (entry_below d p)
parent_found s p d found = ap (λ r. and_then r (λ directory. Ok (entry_below directory p))) found

pub parent_refused : (s : State) (p : Path) (kind : TraceFaultKind) → parent_number s.system.entries p ≡ Err kind
    → parent_at s p ≡ Err kind
parent_refused s p kind fault = ap (λ r. and_then r (λ directory. Ok (entry_below directory p))) fault

-- what an fsync covers
pub covered : (here : Option Node) (p : Path) → covered_by here p ≡ and_then (covers_by here p) (λ c. Ok (operation.Sync c))
covered None p = refl
covered (Some (Directory d)) p = refl
covered (Some (File Symlink file)) p = refl
covered (Some (File Regular file)) p = refl
