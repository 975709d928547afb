-- A directory's answers for names, by the bytes of their texts.
use Rattle.std.specs.Prelude.{◌≡◌, ℕ, List, Option, Some}
use Rattle.std.specs.FinMap.{FinMap, from_entries}
use Rattle.std.specs.declared.string.String.{String}
use Rattle.cs_tree_model.specs.Maps.Texts.{by_bytes}
use Rattle.cs_tree_model.specs.Maps.Values.{map_values}
use Rattle.cs_tree_model.specs.Tree.{NameBytes, name_cmp}
use Rattle.cs_overlay.specs.declared.answers.Answer.{Answer}

-- the answer for each name
abbrev pub numbers_of : {Y : Type 0} → List (String Y × Answer) → FinMap name_cmp (Option ℕ)
numbers_of es = map_values (λ s. s.number) (from_entries (by_bytes es))

-- the answer for a name has the name
abbrev pub AreNamed : (NameBytes → Option Answer) → Type 0
AreNamed said = (x : NameBytes) (s : Answer) → said x ≡ Some s → s.name ≡ x
