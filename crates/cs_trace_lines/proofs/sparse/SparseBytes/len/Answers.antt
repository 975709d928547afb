use Rattle.std.proofs.Common.{map, length, sym, ap, ◌∙◌, subst}
use Rattle.cs_trace_lines.specs.Kept.{IsKept, bytes_of, part_value}
use Rattle.cs_trace_lines.proofs.Apart.{length-laid_out}
use Rattle.cs_trace_lines.proofs.sparse.SparseBytes.len.Goals as goal

pub returns-in-Parts : goal.returns-in-Parts
returns-in-Parts c =
    sym (length-laid_out c.in-Parts.length (map part_value c.in-Parts.parts.items) (subst IsKept c.in-Parts.is c.self.invariant))
    ∙ ap length (ap bytes_of (sym c.in-Parts.is) ∙ c.self.view_is)
