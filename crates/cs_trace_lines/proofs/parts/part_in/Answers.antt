use Rattle.std.proofs.Common.{sym, ap, ◌∙◌, subst, option_and_then, option_map}
use Rattle.cs_trace_lines.specs.Faults.{IsRead}
use Rattle.cs_trace_lines.specs.Fields.{fields_of}
use Rattle.cs_trace_lines.specs.Kept.{part_value}
use Rattle.cs_trace_lines.specs.Lines.{part_of}
use Rattle.cs_trace_lines.proofs.parts.part_in.Goals as goal

pub returns : goal.returns
returns c =
    let same = ap (λ ms. option_and_then (part_of c.args.version) (option_map fields_of ms)) c.in_ok-members.ensures
    ∙ ap (part_of c.args.version) (sym c.put_members.ensures) in
    subst (λ part. IsRead part_value part c.part_of.result) (sym same) c.part_of.ensures
