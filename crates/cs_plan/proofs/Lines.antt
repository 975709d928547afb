-- Lines of the first places, one more at a time.
use Rattle.std.proofs.Common.{◌≡◌, ℕ, ◌+◌, List, ◌++◌, sym, ap, ◌∙◌, []}
use Rattle.std.proofs.lemmas.List.{flat_map_more}
use Rattle.std.specs.List.{flat_map, range_with_len}
use Rattle.cs_sets.specs.Laws.Lists.{range_more}

pub lines_more : (line : ℕ → List ℕ) (n : ℕ) → flat_map line (range_with_len 0 n) ++ line n ≡ flat_map line (range_with_len 0 (n + 1))
lines_more line n = flat_map_more line [] (range_with_len 0 n) n ∙ ap (flat_map line) (sym (range_more n))
