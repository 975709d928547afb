-- An empty map has nothing at any name.
use Rattle.std.proofs.Common.{◌≡◌, ◌≤◌, ℕ, zero, suc, Bool, true, false, cond, not, List, [], ◌∷◌, ◌++◌, None, Some, refl, sym, ap, arith, length}
use Rattle.std.proofs.lemmas.Bool.{false≢true}
use Rattle.std.specs.Cmp.Lexicographic.{nat_list_eq_equiv}
use Rattle.std.specs.HashMap.{HashMap, get_by_text, hash_map_len}
use Rattle.std.specs.Map.{lookup}
use Rattle.std.specs.Prelude.{option_and_then, slice_get}
use Rattle.std.specs.Str.{bytes_eq}
use Rattle.std.specs.String.{string_bytes}
use Rattle.std.specs.declared.string.String.{String}
use Rattle.cs_tree_model.specs.Tree.{NameBytes}
use Rattle.cs_entries.specs.declared.node.Node.{Node}
use Rattle.cs_entries.specs.Directories.{entries_in}
use Rattle.cs_entries.specs.Entries.{Entry}

pub not_false : (b : Bool) → not b ≡ false → b ≡ true
not_false true h = refl
not_false false h = sym h

pub not_true : (b : Bool) → not b ≡ true → b ≡ true → ⊥
not_true true h k = absurd (false≢true h)
not_true false h k = absurd (false≢true k)

pub nothing_in : {Y X S : Type 0} (m : HashMap (String Y) X S) → hash_map_len m ≡ 0 → (name : NameBytes)
    → get_by_text m name ≡ None
nothing_in {Y} {X} {S} m h name = by m.entries h
  where
    by : (es : List (String Y × X)) → length es ≡ 0 → lookup (λ k. bytes_eq name (string_bytes k)) es ≡ None
    by [] none = refl
    by (e ∷ es) none = absurd (omega (arith, none))

-- a map that isn't empty has something at its first name
pub first_in : {Y X S : Type 0} (m : HashMap (String Y) X S) → (hash_map_len m ≡ 0 → ⊥)
    → (name : NameBytes) × (x : X) × (get_by_text m name ≡ Some x)
first_in {Y} {X} {S} m some = by m.entries some
  where
    by : (es : List (String Y × X)) → (length es ≡ 0 → ⊥)
        → (name : NameBytes) × (x : X) × (lookup (λ k. bytes_eq name (string_bytes k)) es ≡ Some x)
    by [] h = absurd (h refl)
    by (e ∷ es) h = (
      string_bytes e.0,
      e.1,
      ap (λ b. cond b (Some e.1) (lookup (λ k. bytes_eq (string_bytes e.0) (string_bytes k)) es))
          (nat_list_eq_equiv.refl (string_bytes e.0)),
    )

-- one more empty map at the end
pub pushed : {Y S : Type 0} (ds : List (HashMap (String Y) Node S)) (m : HashMap (String Y) Node S) → hash_map_len m ≡ 0
    → (e : Entry) → entries_in (ds ++ m ∷ []) e ≡ entries_in ds e
pushed {Y} {S} ds m none e = by ds e.directory
  where
    by : (ds : List (HashMap (String Y) Node S)) (d : ℕ)
        → option_and_then (λ (m : HashMap (String Y) Node S). get_by_text m e.name) (slice_get (ds ++ m ∷ []) d)
        ≡ option_and_then (λ (m : HashMap (String Y) Node S). get_by_text m e.name) (slice_get ds d)
    by [] zero = nothing_in m none e.name
    by [] (suc d) = refl
    by (n ∷ ns) zero = refl
    by (n ∷ ns) (suc d) = by ns d

-- a directory that has no map holds nothing
pub past : {Y S : Type 0} (ds : List (HashMap (String Y) Node S)) (d : ℕ) → length ds ≤ d → slice_get ds d ≡ None
past [] d low = refl
past (n ∷ ns) zero low = absurd (omega (arith, low))
past (n ∷ ns) (suc d) low = past ns d (omega (arith, low))
