-- What a line's object has under each key of the format before version 4.
use Rattle.std.specs.Prelude.{ℕ, ◌==◌, ◌||◌, ◌&&◌, Bool, false, not, is_some, filter, length, List}
use Rattle.std.specs.Prelude.{[], ◌∷◌, nat_eq, codes, Option, None, Some}
use Rattle.std.specs.Cmp.Lexicographic.{pointwise}
use Rattle.std.specs.List.{list_any}
use Rattle.std.specs.Option.{option_map}
use Rattle.serde_json.specs.Data.{Num, Data, null, boolean, number, string, array, object, Members}
use Rattle.serde_json.specs.Data.{no_members, member}
use Rattle.serde_json.specs.Find.{as_object, get_member}

-- a text, a number, or a value that no key of the format has
pub data Field : Type 0 where
  Text : List ℕ → Field
  Number : Num → Field
  Other : Field

-- the field of each key that the format has, and whether there are other keys
pub record Fields : Type 0 where
  pub trace : Option Field
  pub profile : Option Field
  pub block : Option Field
  pub start : Option Field
  pub op : Option Field
  pub path : Option Field
  pub from : Option Field
  pub to : Option Field
  pub owner : Option Field
  pub group : Option Field
  pub mode : Option Field
  pub bytes : Option Field
  pub offset : Option Field
  pub length : Option Field
  pub text : Option Field
  pub note : Option Field
  pub others : Bool

-- what the format looks at in a value
abbrev pub field_of : Data → Field
field_of null = Other
field_of (boolean b) = Other
field_of (number n) = Number n
field_of (string s) = Text s
field_of (array ds) = Other
field_of (object ms) = Other

-- the field of a key
abbrev pub field_at : List ℕ → Members → Option Field
field_at key ms = option_map field_of (get_member key ms)

-- the key has this name
abbrev pub is_key : List ℕ → List ℕ → Bool
is_key key name = pointwise nat_eq key name

-- a key that the format has
abbrev pub is_known : List ℕ → Bool
is_known key =
    list_any (is_key key)
    (codes "trace" ∷ codes "profile" ∷ codes "block" ∷ codes "start" ∷ codes "op" ∷ codes "path"
    ∷ codes "from" ∷ codes "to" ∷ codes "owner" ∷ codes "group" ∷ codes "mode" ∷ codes "bytes"
    ∷ codes "offset" ∷ codes "length" ∷ codes "text" ∷ codes "note" ∷ [])

-- there is a key that the format does not have
abbrev pub has_others : Members → Bool
has_others no_members = false
has_others (member key d ms) = not (is_known key) || has_others ms

-- the fields of these members
abbrev pub fields_of : Members → Fields
fields_of ms = record {
  trace = field_at (codes "trace") ms;
  profile = field_at (codes "profile") ms;
  block = field_at (codes "block") ms;
  start = field_at (codes "start") ms;
  op = field_at (codes "op") ms;
  path = field_at (codes "path") ms;
  from = field_at (codes "from") ms;
  to = field_at (codes "to") ms;
  owner = field_at (codes "owner") ms;
  group = field_at (codes "group") ms;
  mode = field_at (codes "mode") ms;
  bytes = field_at (codes "bytes") ms;
  offset = field_at (codes "offset") ms;
  length = field_at (codes "length") ms;
  text = field_at (codes "text") ms;
  note = field_at (codes "note") ms;
  others = has_others ms;
}

-- the fields of an object; None of any other value
abbrev pub fields_in : Data → Option Fields
fields_in d = option_map fields_of (as_object d)

-- the fields that say something: all but the note
abbrev pub saying_fields : Fields → List (Option Field)
saying_fields f =
    f.trace ∷ f.profile ∷ f.block ∷ f.start ∷ f.op ∷ f.path ∷ f.from ∷ f.to ∷ f.owner ∷ f.group
    ∷ f.mode ∷ f.bytes ∷ f.offset ∷ f.length ∷ f.text ∷ []

-- exactly so many keys, a note not counted, and each is one that the format has
abbrev pub has_keys : ℕ → Fields → Bool
has_keys count f = not f.others && (length (filter is_some (saying_fields f)) == count)

-- the text of a field
abbrev pub text_of : Field → Option (List ℕ)
text_of (Text s) = Some s
text_of (Number n) = None
text_of Other = None
