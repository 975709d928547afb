-- How the bytes of a file are kept; for private clauses.
use Rattle.std.specs.Prelude.{◌≡◌, ℕ, true, List, map}
use Rattle.cs_trace_lines.specs.Sparse.{Part, are_apart, laid_out}
use Rattle.cs_trace_lines.specs.declared.sparse.Kept.{Kept}
use Rattle.cs_trace_lines.specs.declared.sparse.Kept.TheVariants as kept
use Rattle.cs_trace_lines.specs.declared.sparse.Part.{Part as KeptPart}

abbrev pub part_value : KeptPart → Part
part_value p = record { at = p.at; bytes = p.bytes.items }

abbrev pub bytes_of : Kept → List ℕ
bytes_of (kept.Whole bytes) = bytes.items
bytes_of (kept.Parts count parts) = laid_out count (map part_value parts.items)

abbrev pub IsKept : Kept → Type 0
IsKept (kept.Whole bytes) = Unit {0}
IsKept (kept.Parts count parts) = are_apart 0 count (map part_value parts.items) ≡ true
