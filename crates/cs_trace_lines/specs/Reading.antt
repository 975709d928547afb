-- What the fields that are read of a line say; for private clauses.
use Rattle.std.specs.Prelude.{◌||◌, ℕ, Bool, List, Option, Some, codes, not, if◌then◌else◌}
use Rattle.std.specs.Option.{option_map}
use Rattle.std.specs.String.{string_bytes}
use Rattle.serde_json.specs.View.{items_view, number_view}
use Rattle.cs_trace_lines.specs.Fields.{Field, Array, Number, Other, Text, Fields, is_key, is_known}
use Rattle.cs_trace_lines.specs.declared.fields.Field.{Field as ReadField}
use Rattle.cs_trace_lines.specs.declared.fields.Field.TheVariants as field
use Rattle.cs_trace_lines.specs.declared.fields.Fields.{Fields as ReadFields}

abbrev pub field_value : ReadField → Field
field_value (field.Text text) = Text (string_bytes text)
field_value (field.Number number) = Number (number_view number)
field_value (field.Array values) = Array (items_view values.items)
field_value field.Other = Other

abbrev pub field_values : ReadFields → Fields
field_values f = record {
  trace = option_map field_value f.trace;
  profile = option_map field_value f.profile;
  block = option_map field_value f.block;
  start = option_map field_value f.start;
  op = option_map field_value f.op;
  path = option_map field_value f.path;
  from = option_map field_value f.from;
  to = option_map field_value f.to;
  owner = option_map field_value f.owner;
  group = option_map field_value f.group;
  mode = option_map field_value f.mode;
  bytes = option_map field_value f.bytes;
  offset = option_map field_value f.offset;
  length = option_map field_value f.length;
  text = option_map field_value f.text;
  target = option_map field_value f.target;
  parts = option_map field_value f.parts;
  at = option_map field_value f.at;
  note = option_map field_value f.note;
  others = f.has_others;
}

abbrev pub replaced_if : Bool → Field → Option Field → Option Field
replaced_if is field old = if is then Some field else old

-- the fields with this one under its key, in place of an earlier one
abbrev pub with_field : List ℕ → Field → Fields → Fields
with_field key field f = record {
  trace = replaced_if (is_key key (codes "trace")) field f.trace;
  profile = replaced_if (is_key key (codes "profile")) field f.profile;
  block = replaced_if (is_key key (codes "block")) field f.block;
  start = replaced_if (is_key key (codes "start")) field f.start;
  op = replaced_if (is_key key (codes "op")) field f.op;
  path = replaced_if (is_key key (codes "path")) field f.path;
  from = replaced_if (is_key key (codes "from")) field f.from;
  to = replaced_if (is_key key (codes "to")) field f.to;
  owner = replaced_if (is_key key (codes "owner")) field f.owner;
  group = replaced_if (is_key key (codes "group")) field f.group;
  mode = replaced_if (is_key key (codes "mode")) field f.mode;
  bytes = replaced_if (is_key key (codes "bytes")) field f.bytes;
  offset = replaced_if (is_key key (codes "offset")) field f.offset;
  length = replaced_if (is_key key (codes "length")) field f.length;
  text = replaced_if (is_key key (codes "text")) field f.text;
  target = replaced_if (is_key key (codes "target")) field f.target;
  parts = replaced_if (is_key key (codes "parts")) field f.parts;
  at = replaced_if (is_key key (codes "at")) field f.at;
  note = replaced_if (is_key key (codes "note")) field f.note;
  others = not (is_known key) || f.others;
}
