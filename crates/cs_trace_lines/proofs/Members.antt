-- One member more, in the fields of an object.
use Rattle.std.proofs.Common.{◌≡◌, ℕ, Bool, true, false, not, ◌||◌, List, Ordering, Less, Equal, Greater, nat_cmp, codes, refl, sym, ap}
use Rattle.std.proofs.Common.{◌∙◌}
use Rattle.std.proofs.lemmas.Bool.{false≢true}
use Rattle.std.proofs.lemmas.Map.Text.{is_eq-slice_cmp}
use Rattle.std.proofs.lemmas.Slice.Eq.{bytes_eq-Decides}
use Rattle.std.specs.Cmp.Lexicographic.{slice_cmp}
use Rattle.std.specs.Option.{option_map}
use Rattle.std.specs.Ordering.{is_eq, match_ordering}
use Rattle.serde_json.specs.Data.{Data, Members, no_members, member, put}
use Rattle.serde_json.proofs.Views.{get_member-put, get_member-put_other}
use Rattle.cs_trace_lines.specs.Fields.{field_at, field_of, fields_of, has_others, is_key, is_known}
use Rattle.cs_trace_lines.specs.Reading.{replaced_if, with_field}

put_by : (same : Bool) (key k : List ℕ) (d : Data) (ms : Members) → is_key k key ≡ same
    → field_at key (put k d ms) ≡ replaced_if same (field_of d) (field_at key ms)
put_by true key k d ms is =
    let here : k ≡ key = (bytes_eq-Decides k key).0 is in
    ap (λ name. field_at name (put k d ms)) (sym here) ∙ ap (option_map field_of) (get_member-put k d ms)
put_by false key k d ms is =
    ap (option_map field_of) (get_member-put_other key k d ms (λ here. false≢true (sym is ∙ (bytes_eq-Decides k key).1 (sym here))))

field_at-put : (key k : List ℕ) (d : Data) (ms : Members)
    → field_at key (put k d ms) ≡ replaced_if (is_key k key) (field_of d) (field_at key ms)
field_at-put key k d ms = put_by (is_key k key) key k d ms refl

swapped : (a b c : Bool) → a || (b || c) ≡ b || (a || c)
swapped true true c = refl
swapped true false c = refl
swapped false b c = refl

once : (a c : Bool) → a || c ≡ a || (a || c)
once true c = refl
once false c = refl

others_by : (o : Ordering) (k l : List ℕ) (d e : Data) (ms : Members) → slice_cmp nat_cmp k l ≡ o
    → has_others (put k d ms) ≡ not (is_known k) || has_others ms
    → has_others (match_ordering o (member k d (member l e ms)) (member l d ms) (member l e (put k d ms))) ≡ not (is_known k)
    || (not (is_known l) || has_others ms)
others_by Less k l d e ms is later = refl
others_by Equal k l d e ms is later =
    let same : k ≡ l = (bytes_eq-Decides k l).0 (sym (is_eq-slice_cmp k l) ∙ ap is_eq is) in
    once (not (is_known l)) (has_others ms) ∙ ap (λ name. not (is_known name) || (not (is_known l) || has_others ms)) (sym same)
others_by Greater k l d e ms is later =
    ap (λ b. not (is_known l) || b) later ∙ swapped (not (is_known l)) (not (is_known k)) (has_others ms)

has_others-put : (k : List ℕ) (d : Data) (ms : Members) → has_others (put k d ms) ≡ not (is_known k) || has_others ms
has_others-put k d no_members = refl
has_others-put k d (member l e ms) = others_by _ k l d e ms refl (has_others-put k d ms)

pub fields_of-put : (k : List ℕ) (d : Data) (ms : Members) → fields_of (put k d ms) ≡ with_field k (field_of d) (fields_of ms)
fields_of-put k d ms = λ i. record {
  trace = field_at-put (codes "trace") k d ms i;
  profile = field_at-put (codes "profile") k d ms i;
  block = field_at-put (codes "block") k d ms i;
  start = field_at-put (codes "start") k d ms i;
  op = field_at-put (codes "op") k d ms i;
  path = field_at-put (codes "path") k d ms i;
  from = field_at-put (codes "from") k d ms i;
  to = field_at-put (codes "to") k d ms i;
  owner = field_at-put (codes "owner") k d ms i;
  group = field_at-put (codes "group") k d ms i;
  mode = field_at-put (codes "mode") k d ms i;
  bytes = field_at-put (codes "bytes") k d ms i;
  offset = field_at-put (codes "offset") k d ms i;
  length = field_at-put (codes "length") k d ms i;
  text = field_at-put (codes "text") k d ms i;
  target = field_at-put (codes "target") k d ms i;
  parts = field_at-put (codes "parts") k d ms i;
  at = field_at-put (codes "at") k d ms i;
  note = field_at-put (codes "note") k d ms i;
  others = has_others-put k d ms i;
}
