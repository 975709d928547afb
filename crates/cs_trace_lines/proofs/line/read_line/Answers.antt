use Rattle.std.proofs.Common.{◌≡◌, refl, sym, ap, ◌∙◌, option_and_then, option_map}
use Rattle.std.specs.Prelude.{Option, Some, None, Result, Ok, Err, IfErr, IfOk}
use Rattle.serde_json.specs.Data.{Data, Members}
use Rattle.serde_json.specs.Find.{as_object}
use Rattle.serde_json.specs.Read.{read}
use Rattle.cs_trace_lines.specs.Faults.{IsRead}
use Rattle.cs_trace_lines.specs.Fields.{Fields, fields_in, fields_of}
use Rattle.cs_trace_lines.specs.Lines.{Line, line_in, line_of}
use Rattle.cs_trace_lines.specs.Said.{line_value}
use Rattle.cs_trace_lines.specs.declared.fault.LineFault.{LineFault}
use Rattle.cs_trace_lines.specs.declared.fault.LineFault.TheVariants.{Syntax}
use Rattle.cs_trace_lines.specs.declared.line.Line.{Line as ReadLine}
use Rattle.cs_trace_lines.specs.declared.version.Version.{Version}
use Rattle.cs_trace_lines.proofs.line.read_line.Goals as goal

read_by : (line other : Option Line) → line ≡ other → (r : Result ReadLine LineFault) → IsRead line_value other r
    → IfOk r (λ read. line ≡ Some (line_value read))
read_by line other same (Ok read) is = same ∙ is
read_by line other same (Err fault) is = tt

refused_by : (line other : Option Line) → line ≡ other → (r : Result ReadLine LineFault) → IsRead line_value other r
    → IfErr r (λ fault. fault ≡ Syntax → line ≡ None)
refused_by line other same (Ok read) is = tt
refused_by line other same (Err fault) is = λ syntax. same ∙ is syntax

fields_of_object : (spelled : Option Data) → option_and_then fields_in spelled ≡ option_map fields_of (option_and_then as_object spelled)
fields_of_object None = refl
fields_of_object (Some d) = refl

-- the line of what was read, by the fields that its members were put into
line_by_members : (version : Version) (spelled : Option Data) (ms : Members) (fields : Fields)
    → option_and_then as_object spelled ≡ Some ms → fields ≡ fields_of ms
    → option_and_then (line_of version) (option_and_then fields_in spelled) ≡ line_of version fields
line_by_members version spelled ms fields is filled =
    ap (option_and_then (line_of version)) (fields_of_object spelled ∙ ap (option_map fields_of) is ∙ ap Some (sym filled))

pub returns-clause-read : goal.returns-clause-read
unfolding line_in
returns-clause-read c =
    let same = line_by_members c.args.version (read c.args.text.now) _ _ c.in_ok-members.ensures c.put_members.ensures in
    read_by _ _ same c.line_of.result c.line_of.ensures

pub returns-clause-fault : goal.returns-clause-fault
unfolding line_in
returns-clause-fault c =
    let same = line_by_members c.args.version (read c.args.text.now) _ _ c.in_ok-members.ensures c.put_members.ensures in
    refused_by _ _ same c.line_of.result c.line_of.ensures
