-- What the lines that make an entry are, by what was found.
use Rattle.std.proofs.Common.{◌≡◌, ℕ, ◌||◌, Bool, true, false, List, Result, Ok, Err, refl, ap, ◌∙◌, length}
use Rattle.cs_entries.specs.DirEntries.{entry_of}
use Rattle.cs_entries.specs.declared.entry.DirEntry.{DirEntry}
use Rattle.cs_tree_model.specs.Tree.{Path}
use Rattle.cs_trace.specs.Judging.{and_then, creat, entry_below, file_at, free_at, has_too_many_names, is_too_much, link, mkdir, symlink}
use Rattle.cs_trace.specs.Judging.{unless_too_large}
use Rattle.cs_trace.specs.Kept.{Freely, free_number}
use Rattle.cs_trace.specs.Names.{rights_of}
use Rattle.cs_trace.specs.Operations.{number_for}
use Rattle.cs_trace.specs.Outcomes.{Fails}
use Rattle.cs_trace.specs.Resolving.{new_entry_at}
use Rattle.cs_trace.specs.State.{State}
use Rattle.cs_trace.specs.declared.fault.TraceFaultKind.{TraceFaultKind}
use Rattle.cs_trace.specs.declared.fault.TraceFaultKind.TheVariants.{TooLarge}
use Rattle.cs_trace.specs.declared.operation.Operation.TheVariants as operation
use Rattle.cs_trace_lines.specs.Values.{Claims}
use Rattle.cs_trace.proofs.Entering.{found_at, last, refused_at}

-- the rest of a call that fails
pub fails_then : {A B : Type 0} (r : Result A TraceFaultKind) (f : A → Result B TraceFaultKind) (kind : TraceFaultKind)
    → Fails r kind Freely → Fails (and_then r f) kind Freely
fails_then r f kind fails = record { fault = λ other. ap (λ q. and_then q f) (fails.fault other); memory = λ _. tt }

-- a call that has this fault, and takes no memory
pub fails_by : {A : Type 0} (r : Result A TraceFaultKind) (kind : TraceFaultKind) → r ≡ Err kind → Fails r kind Freely
fails_by r kind is = record { fault = λ _. is; memory = λ _. tt }

module _ (s : State) (p : Path) where
  abbrev large : Bool
  large = is_too_much s.made p

  made_by : {B : Type 0} (f : DirEntry → B) (e : DirEntry) → new_entry_at s p ≡ Ok e
      → and_then (free_at s p) (λ x. unless_too_large large (f x)) ≡ Ok (f e)
  made_by f e is = last (free_at s p) large f ∙ ap (λ r. and_then r (λ x. Ok (f x))) is

  fails_from : {B : Type 0} (f : DirEntry → B) (kind : TraceFaultKind) → Fails (new_entry_at s p) kind Freely
      → Fails (and_then (free_at s p) (λ x. unless_too_large large (f x))) kind Freely
  fails_from f kind fails = record {
    fault = λ other. last (free_at s p) large f ∙ ap (λ r. and_then r (λ x. Ok (f x))) (fails.fault other);
    memory = λ _. tt;
  }

  pub creat_made : (claims : Claims) (e : DirEntry) → new_entry_at s p ≡ Ok e
      → creat s p claims ≡ Ok (operation.Creat e (length s.system.sizes) (rights_of claims))
  creat_made claims e is = made_by (λ x. operation.Creat x (length s.system.sizes) (rights_of claims)) e is

  pub creat_fails : (claims : Claims) (kind : TraceFaultKind) → Fails (new_entry_at s p) kind Freely → Fails (creat s p claims) kind Freely
  creat_fails claims kind fails = fails_from (λ x. operation.Creat x (length s.system.sizes) (rights_of claims)) kind fails

  pub mkdir_made : (claims : Claims) (e : DirEntry) → new_entry_at s p ≡ Ok e
      → mkdir s p claims ≡ Ok (operation.Mkdir e (number_for s.version s.system.homes (entry_of e)) (rights_of claims))
  mkdir_made claims e is = made_by (λ x. operation.Mkdir x (number_for s.version s.system.homes (entry_of x)) (rights_of claims)) e is

  pub mkdir_fails : (claims : Claims) (kind : TraceFaultKind) → Fails (new_entry_at s p) kind Freely → Fails (mkdir s p claims) kind Freely
  mkdir_fails claims kind fails =
      fails_from (λ x. operation.Mkdir x (number_for s.version s.system.homes (entry_of x)) (rights_of claims)) kind fails

  pub symlink_made : (claims : Claims) (target : List ℕ) (e : DirEntry) → new_entry_at s p ≡ Ok e
      → symlink s p claims target ≡ Ok (operation.Symlink e (length s.system.sizes) (rights_of claims) target)
  symlink_made claims target e is = made_by (λ x. operation.Symlink x (length s.system.sizes) (rights_of claims) target) e is

  pub symlink_fails : (claims : Claims) (target : List ℕ) (kind : TraceFaultKind) → Fails (new_entry_at s p) kind Freely
      → Fails (symlink s p claims target) kind Freely
  symlink_fails claims target kind fails =
      fails_from (λ x. operation.Symlink x (length s.system.sizes) (rights_of claims) target) kind fails

-- ---- one path more, q, for the file at p

module _ (s : State) (p q : Path) where
  abbrev too_large : Bool
  too_large = has_too_many_names p || is_too_much s.made q

  pub link_missing : (kind : TraceFaultKind) → file_at s p ≡ Err kind → link s p q ≡ Err kind
  link_missing kind is =
      ap (λ r. and_then r (λ file. and_then (free_at s q) (λ e. unless_too_large too_large (operation.Link e file)))) is

  pub link_refused : (file : ℕ) (kind : TraceFaultKind) → file_at s p ≡ Ok file → free_number s.system.entries q ≡ Err kind
      → link s p q ≡ Err kind
  link_refused file kind is refused = λ i.
      and_then (is i) (λ n. and_then (refused_at s q kind refused i) (λ e. unless_too_large too_large (operation.Link e n)))

  pub link_large : (file d : ℕ) → file_at s p ≡ Ok file → free_number s.system.entries q ≡ Ok d → too_large ≡ true
      → link s p q ≡ Err TooLarge
  link_large file d is found large = λ i.
      and_then (is i) (λ n. and_then (found_at s q d found i) (λ e. unless_too_large (large i) (operation.Link e n)))

  pub link_made : (file d : ℕ) → file_at s p ≡ Ok file → free_number s.system.entries q ≡ Ok d → too_large ≡ false
      → link s p q ≡ Ok (operation.Link (entry_below d q) file)
  link_made file d is found small = λ i.
      and_then (is i) (λ n. and_then (found_at s q d found i) (λ e. unless_too_large (small i) (operation.Link e n)))
