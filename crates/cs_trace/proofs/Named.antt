-- Paths that have a name: their directories, and what their entries hold.
use Rattle.std.proofs.Common.{◌≡◌, ◌≢◌, ℕ, ◌==◌, Bool, true, false, List, [], ◌∷◌, ◌++◌, Option, None, Some, Result, Ok, Err, length}
use Rattle.std.proofs.Common.{refl, sym, ap, ◌∙◌, subst, arith, ⊎_elim}
use Rattle.std.specs.Option.{option_and_then}
use Rattle.std.specs.Prelude.{if◌then◌else◌}
use Rattle.std.specs.Result.{result_ok}
use Rattle.cs_entries.specs.DirEntries.{last_name}
use Rattle.cs_entries.specs.Entries.{Entries}
use Rattle.cs_entries.specs.Laws.Paths.{IsMore, at_more, in_directory, last_cases}
use Rattle.cs_entries.specs.Paths.{at_path, entry_in}
use Rattle.cs_entries.specs.declared.node.Node.{Node}
use Rattle.cs_entries.specs.declared.node.Node.TheVariants.{Directory}
use Rattle.cs_names.proofs.Joined.{AreLegalNames-front}
use Rattle.cs_names.specs.Joined.{AreLegalNames}
use Rattle.cs_names.specs.Laws.{IsLegalName-name_in, name_in-same}
use Rattle.cs_names.specs.Legal.{IsLegalName, name_in}
use Rattle.cs_names.specs.Paths.{name_before, names_in, path_in}
use Rattle.cs_names.specs.Pieces.{pieces}
use Rattle.cs_names.specs.declared.fault.NameFault.{NameFault}
use Rattle.cs_names.specs.declared.fault.NameFault.TheVariants.{Forbidden}
use Rattle.cs_start.specs.Names.{below_root, entry_path_of, path_of}
use Rattle.cs_tree_model.specs.Laws.Reads.{parent_of_snoc}
use Rattle.cs_tree_model.specs.Tree.{Path, parent_path}
use Rattle.cs_trace_lines.specs.Values.{Claims}
use Rattle.cs_trace.specs.Names.{are_user_names, new_path_of}
use Rattle.cs_trace.proofs.StartTables.{last_of_snoc}

pub whole_path : (p : Path) → p ≢ [] → parent_path p ++ last_name p ∷ [] ≡ p
whole_path p named = ⊎_elim
    (λ (none : p ≡ []). absurd (named none))
    (λ (w : IsMore p).
    (let front = ap parent_path w.is ∙ parent_of_snoc w.front w.last in
    let last = ap last_name w.is ∙ last_of_snoc w.front w.last in
    (λ i. front i ++ last i ∷ []) ∙ sym w.is))
    (last_cases p)

some_path : (front : Path) (name : List ℕ) → front ++ name ∷ [] ≢ []
some_path [] name none = absurd (cc)
some_path (x ∷ front) name none = absurd (cc)

-- a path that has a last name
pub record HasLast (p front : Path) (name : List ℕ) : Type 0 where
  pub parent : parent_path p ≡ front
  pub last : last_name p ≡ name
  pub some : p ≢ []

pub has_last : (p front : Path) (name : List ℕ) → p ≡ front ++ name ∷ [] → HasLast p front name
has_last p front name is = record {
  parent = ap parent_path is ∙ parent_of_snoc front name;
  last = ap last_name is ∙ last_of_snoc front name;
  some = λ none. some_path front name (sym is ∙ none);
}

-- what is at a path is what its entry holds
pub at_entry : (m : Entries) (p : Path) (d : ℕ) → p ≢ [] → at_path m (parent_path p) ≡ Some (Directory d)
    → at_path m p ≡ m (entry_in d (last_name p))
at_entry m p d named above =
    ap (at_path m) (sym (whole_path p named)) ∙ at_more m (parent_path p) (last_name p) d above

-- above what is there is a directory
pub above_is : (m : Entries) (p : Path) (node : Node) → p ≢ [] → at_path m p ≡ Some node
    → (d : ℕ) × (at_path m (parent_path p) ≡ Some (Directory d))
above_is m p node named at =
    let i = in_directory m (parent_path p) (last_name p) node (ap (at_path m) (whole_path p named) ∙ at) in
    (i.directory, i.above)

-- ---- names that are read are legal

names_by : (text : List ℕ) (p : Path) (first : Result (List ℕ) NameFault) (others : Result Path NameFault) → name_in text ≡ first
    → ((q : Path) → others ≡ Ok q → AreLegalNames q) → name_before first others ≡ Ok p → AreLegalNames p
names_by text p (Err fault) others is rest e = absurd (cc)
names_by text p (Ok name) (Err fault) is rest e = absurd (cc)
names_by text p (Ok name) (Ok more) is rest e =
    let whole : name ∷ more ≡ p = cc in
    let same = name_in-same text name is in
    subst AreLegalNames whole (subst IsLegalName same (IsLegalName-name_in text (is ∙ ap Ok (sym same))), rest more refl)

legal_names : (texts p : Path) → names_in texts ≡ Ok p → AreLegalNames p
legal_names [] p e = let none : [] ≡ p = cc in subst AreLegalNames none tt
legal_names (text ∷ texts) p e = names_by text p (name_in text) (names_in texts) refl (legal_names texts) e

legal_by : (slash alone : Bool) (rest : List ℕ) (p : Path)
    → (if slash then (if alone then Ok [] else names_in (pieces 47 rest)) else Err Forbidden) ≡ Ok p → AreLegalNames p
legal_by false alone rest p e = absurd (cc)
legal_by true true rest p e = let none : [] ≡ p = cc in subst AreLegalNames none tt
legal_by true false rest p e = legal_names (pieces 47 rest) p e

legal_text : (text : List ℕ) (p : Path) → path_in text ≡ Ok p → AreLegalNames p
legal_text [] p e = absurd (cc)
legal_text (c ∷ rest) p e = legal_by (c == 47) (length rest == 0) rest p e

ok_is : (r : Result Path NameFault) (p : Path) → result_ok r ≡ Some p → r ≡ Ok p
ok_is (Ok q) p e = let same : q ≡ p = cc in ap Ok same
ok_is (Err fault) p e = absurd (cc)

below_is : (read : Option Path) (p : Path) → option_and_then below_root read ≡ Some p → (read ≡ Some p) × (p ≢ [])
below_is None p e = absurd (cc)
below_is (Some []) p e = absurd (cc)
below_is (Some (x ∷ names)) p e =
    let same : x ∷ names ≡ p = cc in (ap Some same, λ none. let no : x ∷ names ≡ [] = same ∙ none in absurd (cc))

-- the path of an entry has a last name, which isn't empty
pub entry_named : (text : List ℕ) (p : Path) → entry_path_of text ≡ Some p → (p ≢ []) × (last_name p ≢ [])
entry_named text p e =
    let read = below_is (path_of text) p e in
    let legal = legal_text text p (ok_is (path_in text) p read.0) in
    let last = (AreLegalNames-front (parent_path p) (last_name p) (subst AreLegalNames (sym (whole_path p read.1)) legal)).1 in
    (read.1, λ none. (let some = last.some in omega (arith, some, ap length none)))

-- the same of the path of a new entry
pub named_new : (text : List ℕ) (claims : Claims) (p : Path) → new_path_of text claims ≡ Some p → (p ≢ []) × (last_name p ≢ [])
named_new text claims p is = entry_named text p (by (are_user_names claims) (entry_path_of text) is)
  where
    by : (legal : Bool) (o : Option Path) → option_and_then (λ q. if legal then Some q else None) o ≡ Some p → o ≡ Some p
    by legal None e = absurd (cc)
    by true (Some q) e = e
    by false (Some q) e = absurd (cc)
