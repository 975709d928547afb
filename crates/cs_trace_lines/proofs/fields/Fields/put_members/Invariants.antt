use Rattle.std.proofs.Common.{◌≡◌, List, ◌++◌}
use Rattle.serde_json.specs.View.{members_view}
use Rattle.serde_json.proofs.Views.{Entry}
use Rattle.cs_trace_lines.specs.Fields.{fields_of}
use Rattle.cs_trace_lines.specs.Reading.{field_values}
use Rattle.cs_trace_lines.proofs.fields.Fields.put_members.Given as goal

abbrev pub invariant-loop-key : goal.invariant-loop-key
invariant-loop-key l =
    (done : List Entry) × (l.fn.members.entries ≡ done ++ l.key-iterator) × (field_values l.self ≡ fields_of (members_view done))
