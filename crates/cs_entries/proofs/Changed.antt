-- One entry more, or one less, in the map of one directory.
use Rattle.std.proofs.Common.{◌≡◌, ◌≢◌, ◌<◌, ℕ, zero, suc, ◌&&◌, cond, List, [], ◌∷◌, Option, Some, length}
use Rattle.std.proofs.Common.{refl, sym, ap, ◌∙◌, arith, ⊎_elim}
use Rattle.std.proofs.lemmas.Bool.{cases_eq, eq-eqb, ne_eqb}
use Rattle.std.proofs.lemmas.List.{get_or-set_same, length-set}
use Rattle.std.proofs.lemmas.Map.Text.{hash_map_updates_text}
use Rattle.std.proofs.lemmas.Option.{slice_get-get_or}
use Rattle.std.specs.HashMap.{HashMap, UpdatesBy, get_by_text}
use Rattle.std.specs.Prelude.{option_and_then, slice_get, slice_set}
use Rattle.std.specs.Str.{bytes_eq}
use Rattle.std.specs.String.{string_bytes, string_eq}
use Rattle.std.specs.declared.string.String.{String}
use Rattle.cs_names.specs.Texts.{same_bytes}
use Rattle.cs_tree_model.specs.Tree.{NameBytes}
use Rattle.cs_entries.specs.declared.node.Node.{Node}
use Rattle.cs_entries.specs.Directories.{entries_in}
use Rattle.cs_entries.specs.Entries.{Entry, put}
use Rattle.cs_entries.specs.Paths.{entry_in}

slice_set_same : {X : Type 0} (xs : List X) (k : ℕ) (x : X) → k < length xs → slice_get (slice_set xs k x) k ≡ Some x
slice_set_same xs k x low =
    slice_get-get_or (slice_set xs k x) k x (omega (arith, low, length-set xs k x)) ∙ ap Some (get_or-set_same xs k x x low)

slice_set_other : {X : Type 0} (xs : List X) (k j : ℕ) (x : X) → j ≢ k → slice_get (slice_set xs k x) j ≡ slice_get xs j
slice_set_other [] k j x apart = refl
slice_set_other (y ∷ ys) zero zero x apart = absurd (apart refl)
slice_set_other (y ∷ ys) zero (suc j) x apart = refl
slice_set_other (y ∷ ys) (suc k) zero x apart = refl
slice_set_other (y ∷ ys) (suc k) (suc j) x apart = slice_set_other ys k j x (λ same. apart (ap suc same))

module _ {Y S : Type 0} (ds : List (HashMap (String Y) Node S)) (d : ℕ) (old new : HashMap (String Y) Node S) (low : d < length ds)
    (is : slice_get ds d ≡ Some old) (name : NameBytes) (held : Option Node)
    (changes : (q : NameBytes) → get_by_text new q ≡ cond (same_bytes name q) held (get_by_text old q)) where
  pub changed : (e : Entry) → entries_in (slice_set ds d new) e ≡ put (entries_in ds) (entry_in d name) held e
  changed e = ⊎_elim
      (λ (same : d ≡ e.directory).
      (ap (λ k. option_and_then (λ (m : HashMap (String Y) Node S). get_by_text m e.name) (slice_get (slice_set ds d new) k)) (sym same)
      ∙ ap (option_and_then (λ (m : HashMap (String Y) Node S). get_by_text m e.name)) (slice_set_same ds d new low)
      ∙ changes e.name
      ∙ ap (cond (same_bytes name e.name) held)
      (ap (option_and_then (λ (m : HashMap (String Y) Node S). get_by_text m e.name)) (sym is)
      ∙ ap (λ k. option_and_then (λ (m : HashMap (String Y) Node S). get_by_text m e.name) (slice_get ds k)) same)
      ∙ ap (λ b. cond (b && same_bytes name e.name) held (entries_in ds e)) (sym (eq-eqb d e.directory same))))
      (λ (apart : d ≢ e.directory).
      (ap (option_and_then (λ (m : HashMap (String Y) Node S). get_by_text m e.name))
      (slice_set_other ds d e.directory new (λ same. apart (sym same)))
      ∙ ap (λ b. cond (b && same_bytes name e.name) held (entries_in ds e)) (sym (ne_eqb d e.directory apart))))
      (cases_eq d e.directory)

-- what the map of one directory has by its names after a change at one of them
pub updated : {Y S : Type 0} (m n : HashMap (String Y) Node S) (name : NameBytes) (held : Option Node)
    → UpdatesBy string_eq (λ k. bytes_eq name (string_bytes k)) m n held
    → (q : NameBytes) → get_by_text n q ≡ cond (same_bytes name q) held (get_by_text m q)
updated m n name held h q = hash_map_updates_text name m n held h q
