use Rattle.std.proofs.Common.{◌≡◌, [], ◌∷◌, ◌++◌, string_bytes, sym, ap, ◌∙◌, subst, append_assoc}
use Rattle.std.specs.List.Sorted.{IsStrictlySortedBy}
use Rattle.std.specs.Map.{keys_of}
use Rattle.std.specs.String.{string_cmp}
use Rattle.serde_json.specs.View.{members_view, view}
use Rattle.serde_json.proofs.Views.{Entry, put_last}
use Rattle.cs_trace_lines.specs.Fields.{field_of, fields_of}
use Rattle.cs_trace_lines.specs.Reading.{field_value, field_values, with_field}
use Rattle.cs_trace_lines.proofs.Members.{fields_of-put}
use Rattle.cs_trace_lines.proofs.fields.Fields.put_members.Goals as goal

pub loop-key-preserved : goal.loop-key-preserved
loop-key-preserved c =
    let l = c.loop-key in
    let done = l.invariant.0 in
    let e : Entry = (c.in-Some.key, c.in-Some.value) in
    let left = c.next.new.self in
    let all : c.args.members.entries ≡ done ++ e ∷ left = l.invariant.1 ∙ ap (λ es. done ++ es) c.in-Some.ensures.steps in
    let last =
    put_last done e left
    (subst (λ es. IsStrictlySortedBy string_cmp (keys_of es)) all c.into_iter-key-iterator.ensures.into_iter_gives.5) in
    let put : with_field c.as_str.result.now (field_value c.of.result) (field_values l.self)
    ≡ with_field (string_bytes e.0) (field_of (view e.1)) (fields_of (members_view done)) =
    ap (λ name. with_field name (field_value c.of.result) (field_values l.self)) c.as_str.ensures.value
    ∙ ap (λ field. with_field (string_bytes e.0) field (field_values l.self)) c.of.ensures
    ∙ ap (with_field (string_bytes e.0) (field_of (view e.1))) l.invariant.2 in (
      done ++ e ∷ [],
      all ∙ sym (append_assoc done (e ∷ []) left),
      c.put.ensures ∙ put ∙ sym (fields_of-put (string_bytes e.0) (view e.1) (members_view done)) ∙ ap fields_of last,
    )
