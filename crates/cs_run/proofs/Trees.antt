-- What a tree says of its numbers.
use Rattle.std.proofs.Common.{◌≡◌, ◌≢◌, ℕ, true, false, List, [], ◌∷◌, ◌++◌, Option, None, Some, refl, sym, ap, ◌∙◌}
use Rattle.std.proofs.lemmas.Bool.{and_parts, false≢true}
use Rattle.std.specs.Option.{is_some, option_map, option_and_then}
use Rattle.cs_permit.specs.declared.call.OpenFile.{OpenFile}
use Rattle.cs_permit.specs.Modes.{removes_on_close}
use Rattle.cs_permit.specs.Rules.{file_at, is_directory, is_directory_kind}
use Rattle.cs_run.specs.Effects.{removes_file}
use Rattle.cs_tree_model.specs.Laws.Round.{found_in, numbered_in}
use Rattle.cs_tree_model.specs.Record.{IsDirectory, kind_of, metadata_of}
use Rattle.cs_tree_model.specs.Tree.{IsTree, NameBytes, Path, Tree, content_numbered, number_at, number_in, path_numbered, record_at}
use Rattle.cs_tree_model.specs.Tree.{record_numbered}
use Rattle.cs_tree_model.specs.declared.record.MetadataBuf.{MetadataBuf}
use Rattle.cs_tree_model.specs.declared.record.Record.{Record}

module _ (t : Tree) (is : IsTree t) where
  -- the record at a path is the one of its number
  known : (p : Path) (r : Record) (n : ℕ) → record_at t p ≡ Some r → r.number ≡ n → record_numbered t n ≡ Some r
  known p r n there same = ap (record_numbered t) (sym same) ∙ (numbered_in t is p r there).1

  -- a name leads to a number that a record has
  pub name_leads : (d : ℕ) (x : NameBytes) (n : ℕ) → number_in t d x ≡ Some n → is_some (record_numbered t n) ≡ true
  name_leads d x n found = by (path_numbered t d) found
    where
      at : (q : Path) (o : Option Record) → record_at t q ≡ o → option_map (λ (r : Record). r.number) o ≡ Some n
          → is_some (record_numbered t n) ≡ true
      at q None there e = absurd (false≢true (ap is_some e))
      at q (Some r) there e =
          (let same : r.number ≡ n = (let two : Some r.number ≡ Some n = e in cc) in ap is_some (known q r n there same))

      by : (o : Option Path) → option_and_then (λ p. number_at t (p ++ x ∷ [])) o ≡ Some n → is_some (record_numbered t n) ≡ true
      by None e = absurd (false≢true (ap is_some e))
      by (Some p) e = at (p ++ x ∷ []) (record_at t (p ++ x ∷ [])) refl e

  -- a directory has no bytes
  no_bytes : (n : ℕ) (p : Path) (d : Record) → record_at t p ≡ Some d → d.number ≡ n → IsDirectory d → is_some (content_numbered t n) ≡ true
      → ⊥
  no_bytes n p d there same directory bytes =
      false≢true (sym (ap is_some (ap (option_and_then (λ (r : Record). r.content)) (known p d n there same) ∙ directory)) ∙ bytes)

  -- a file that has bytes has no entries
  pub no_names_in_file : (n : ℕ) → is_some (content_numbered t n) ≡ true → (x : NameBytes) → number_in t n x ≡ None
  no_names_in_file n bytes x = by (path_numbered t n) refl
    where
      at : (p : Path) → path_numbered t n ≡ Some p → (o : Option Record) → record_at t (p ++ x ∷ []) ≡ o
          → option_map (λ (r : Record). r.number) o ≡ None
      at p e None there = refl
      at p e (Some r) there =
          let d = is.in_directory p x r there in
          let f = found_in t is n p e in
          let one : d.0 ≡ f.0 = (let two : Some d.0 ≡ Some f.0 = sym d.1 ∙ f.1 in cc) in
          absurd (no_bytes n p d.0 d.1 (ap (λ (r : Record). r.number) one ∙ f.2) d.2 bytes)

      by : (o : Option Path) → path_numbered t n ≡ o → option_and_then (λ p. number_at t (p ++ x ∷ [])) o ≡ None
      by None e = refl
      by (Some p) e = at p e (record_at t (p ++ x ∷ [])) refl

  -- and isn't the root
  pub file_is_not_root : (n : ℕ) → is_some (content_numbered t n) ≡ true → n ≢ 0
  file_is_not_root n bytes root = no_bytes n [] is.root.0 is.root.1 (is.root.3 ∙ sym root) is.root.2 bytes

-- a mapped option is there if the option is
pub some_mapped : {A B : Type 0} (f : A → B) (o : Option A) → is_some (option_map f o) ≡ is_some o
some_mapped f None = refl
some_mapped f (Some a) = refl

-- the file that an open removes has bytes
pub removed_has_bytes : (t : Tree) (o : OpenFile) → removes_file t (Some o) ≡ true → is_some (content_numbered t o.file) ≡ true
removed_has_bytes t o e = (and_parts (is_some (content_numbered t o.file)) (removes_on_close o.mode) e).0

-- a file that is there and isn't a directory has bytes
pub file_has_bytes : (t : Tree) (n : ℕ) (f : MetadataBuf) → file_at t n ≡ Some f → is_directory f ≡ false
    → is_some (content_numbered t n) ≡ true
file_has_bytes t n f there file = by (record_numbered t n) there
  where
    at : (content : Option (List ℕ)) → is_directory_kind (kind_of content) ≡ false → is_some content ≡ true
    at None e = absurd (false≢true (sym e))
    at (Some bytes) e = refl

    by : (o : Option Record) → option_map metadata_of o ≡ Some f → is_some (option_and_then (λ (r : Record). r.content) o) ≡ true
    by None e = absurd (false≢true (ap is_some e))
    by (Some r) e =
        (let same : metadata_of r ≡ f = (let two : Some (metadata_of r) ≡ Some f = e in cc) in at r.content (ap is_directory same ∙ file))
