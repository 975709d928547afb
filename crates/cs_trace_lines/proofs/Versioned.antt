-- Symbolic links are made in the fourth version alone, and lead where a symbolic link may.
use Rattle.std.proofs.Common.{◌≡◌, ℕ, Bool, true, false, List, Option, None, Some, refl, subst}
use Rattle.std.specs.Option.{option_and_then, option_map, option_map_or}
use Rattle.std.specs.Prelude.{if◌then◌else◌}
use Rattle.serde_json.specs.Read.{read}
use Rattle.cs_trace_lines.specs.Fields.{Field, Fields, fields_in}
use Rattle.cs_trace_lines.specs.Lines.{Header, Line, Mode, Operation, OperationLine, Creat, Mkdir, SetAttr, Symlink, Sync}
use Rattle.cs_trace_lines.specs.Lines.{Start, StartContent, StartLink, OfDirectory, OfFile, OfSymlink, UnknownOperation, UnknownStart}
use Rattle.cs_trace_lines.specs.Values.{Claims}
use Rattle.cs_trace_lines.specs.Lines.{belongs_to, file_bytes_in, header_in}
use Rattle.cs_trace_lines.specs.Values.{claims_in, content_in, has_only, is_target, symlink_claims_in, target_in}
use Rattle.cs_trace_lines.specs.Lines.{header_key_count, header_with, key_count, kind_in, line_by, line_in, line_of, verb_named}
use Rattle.cs_trace_lines.specs.Values.{mode_in}
use Rattle.cs_trace_lines.specs.Lines.{operation_named, operation_of, operation_with, start_key_count, start_line_named}
use Rattle.cs_trace_lines.specs.Lines.{start_line_with, start_under, start_with, verb_in, version_in}
use Rattle.cs_trace_lines.specs.Values.{text_in, whole_number_in}
use Rattle.cs_trace_lines.specs.Versions.{is_fourth}
use Rattle.cs_trace_lines.specs.declared.start.StartKind.{StartKind}
use Rattle.cs_trace_lines.specs.declared.start.StartKind.TheVariants as kind
use Rattle.cs_trace_lines.specs.declared.verb.Verb.{Verb}
use Rattle.cs_trace_lines.specs.declared.verb.Verb.TheVariants as verb
use Rattle.cs_trace_lines.specs.declared.version.Version.{Version}
use Rattle.cs_trace_lines.specs.declared.version.Version.TheVariants.{First, Second, Third, Fourth}
use Rattle.cs_trace_lines.proofs.Octal.{and_then_by, if_by, map_by}

abbrev pub IsOfVersion : Version → Line → Type 0
IsOfVersion version (Operation (Symlink path claims target)) = (is_fourth version ≡ true) × (is_target target ≡ true)
IsOfVersion version _ = Unit {0}

abbrev HasVersion : Version → OperationLine → Type 0
HasVersion version o = IsOfVersion version (Operation o)

and_then_from : {A B : Type 0} (o : Option A) (f : A → Option B) (P : B → Type 0)
    → ((x : A) → o ≡ Some x → (y : B) → f x ≡ Some y → P y) → (y : B) → option_and_then f o ≡ Some y → P y
and_then_from None f P each y is = absurd (cc)
and_then_from (Some x) f P each y is = each x refl y is

kept_by : {A : Type 0} (f : A → Bool) (x : A) (t : Bool) → f x ≡ t → (y : A) → (if t then Some x else None) ≡ Some y → f y ≡ true
kept_by f x true is y same = let equal : x ≡ y = cc in subst (λ z. f z ≡ true) equal is
kept_by f x false is y same = absurd (cc)

is_target_in : (field : Option Field) (target : List ℕ) → target_in field ≡ Some target → is_target target ≡ true
is_target_in field =
    and_then_by (text_in field) (λ text. if is_target text then Some text else None) (λ text. is_target text ≡ true)
    (λ text. kept_by is_target text (is_target text) refl)

verb_belongs : (version : Version) (name : List ℕ) (v : Verb) → verb_in version name ≡ Some v → belongs_to version v ≡ true
verb_belongs version name =
    and_then_by (verb_named name) (λ v. if belongs_to version v then Some v else None) (λ v. belongs_to version v ≡ true)
    (λ v. kept_by (belongs_to version) v (belongs_to version v) refl)

fourth_by : (version : Version) → belongs_to version verb.Symlink ≡ true → is_fourth version ≡ true
fourth_by First is = is
fourth_by (Second profile) is = is
fourth_by (Third profile block) is = is
fourth_by (Fourth profile block) is = is

header_versioned : (version : Version) (f : Fields) (line : Line) → header_in f ≡ Some line → IsOfVersion version line
header_versioned version f =
    and_then_by (version_in f) (header_with f) (IsOfVersion version) (λ own.
    if_by (has_only own (header_key_count own) f) _ (IsOfVersion version)
    (map_by (claims_in f) (Header own) (IsOfVersion version) (λ _ _. tt)))

start_versioned : (version : Version) (f : Fields) (claims : Option Claims) (content : StartContent) (line : Line)
    → start_with claims f.path content ≡ Some line → IsOfVersion version line
start_versioned version f claims content =
    and_then_by (text_in f.path) _ (IsOfVersion version) (λ path. map_by claims _ (IsOfVersion version) (λ _ _. tt))

under_versioned : (version : Version) (f : Fields) (kind : StartKind) (line : Line)
    → start_under version f kind ≡ Some line → IsOfVersion version line
under_versioned version f kind.Directory = start_versioned version f (claims_in f) OfDirectory
under_versioned version f kind.File =
    and_then_by (file_bytes_in version f) _ (IsOfVersion version) (λ bytes. start_versioned version f (claims_in f) (OfFile bytes))
under_versioned version f kind.Symlink =
    and_then_by (target_in f.target) _ (IsOfVersion version)
    (λ target. start_versioned version f (symlink_claims_in f) (OfSymlink target))
under_versioned version f kind.Link =
    and_then_by (text_in f.path) _ (IsOfVersion version)
    (λ path. map_by (text_in f.from) (StartLink path) (IsOfVersion version) (λ _ _. tt))

kind_versioned : (version : Version) (f : Fields) (kind : Option StartKind) (line : Line)
    → option_map_or (start_line_with version f) kind (Some UnknownStart) ≡ Some line → IsOfVersion version line
kind_versioned version f None line is =
    let same : UnknownStart ≡ line = cc in subst (IsOfVersion version) same tt
kind_versioned version f (Some kind) line is =
    if_by (has_only version (start_key_count f kind) f) _ (IsOfVersion version) (under_versioned version f kind) line is

sync_versioned : (version : Version) (o : OperationLine) → Some Sync ≡ Some o → HasVersion version o
sync_versioned version o is = let same : Sync ≡ o = cc in subst (HasVersion version) same tt

operation_versioned : (version : Version) (v : Verb) → belongs_to version v ≡ true → (f : Fields) (o : OperationLine)
    → operation_of version v f ≡ Some o → HasVersion version o
operation_versioned version verb.Creat belongs f =
    and_then_by (text_in f.path) _ (HasVersion version) (λ path. map_by (claims_in f) (Creat path) (HasVersion version) (λ _ _. tt))
operation_versioned version verb.Mkdir belongs f =
    and_then_by (text_in f.path) _ (HasVersion version) (λ path. map_by (claims_in f) (Mkdir path) (HasVersion version) (λ _ _. tt))
operation_versioned version verb.Symlink belongs f =
    and_then_by (text_in f.path) _ (HasVersion version)
    (λ path. and_then_from (target_in f.target) _ (HasVersion version)
    (λ target is. map_by (symlink_claims_in f) _ (HasVersion version)
    (λ _ _. (fourth_by version belongs, is_target_in f.target target is))))
operation_versioned version verb.Unlink belongs f = map_by (text_in f.path) _ (HasVersion version) (λ _ _. tt)
operation_versioned version verb.Rmdir belongs f = map_by (text_in f.path) _ (HasVersion version) (λ _ _. tt)
operation_versioned version verb.Rename belongs f =
    and_then_by (text_in f.from) _ (HasVersion version) (λ from. map_by (text_in f.to) _ (HasVersion version) (λ _ _. tt))
operation_versioned version verb.Link belongs f =
    and_then_by (text_in f.from) _ (HasVersion version) (λ from. map_by (text_in f.to) _ (HasVersion version) (λ _ _. tt))
operation_versioned version verb.Write belongs f =
    and_then_by (text_in f.path) _ (HasVersion version)
    (λ path. and_then_by (whole_number_in f.offset) _ (HasVersion version)
    (λ offset. map_by (content_in version f) _ (HasVersion version) (λ _ _. tt)))
operation_versioned version verb.Truncate belongs f =
    and_then_by (text_in f.path) _ (HasVersion version) (λ path. map_by (whole_number_in f.length) _ (HasVersion version) (λ _ _. tt))
operation_versioned version verb.Chmod belongs f =
    and_then_by (text_in f.path) _ (HasVersion version) (λ path. map_by (mode_in f.mode) _ (HasVersion version) (λ _ _. tt))
operation_versioned version verb.Chown belongs f =
    and_then_by (text_in f.path) _ (HasVersion version)
    (λ path. and_then_by (text_in f.owner) _ (HasVersion version)
    (λ owner. map_by (text_in f.group) _ (HasVersion version) (λ _ _. tt)))
operation_versioned version verb.Fsync belongs f = map_by (text_in f.path) _ (HasVersion version) (λ _ _. tt)
operation_versioned version verb.Fdatasync belongs f = map_by (text_in f.path) _ (HasVersion version) (λ _ _. tt)
operation_versioned version verb.FsyncRange belongs f =
    and_then_by (text_in f.path) _ (HasVersion version)
    (λ path. and_then_by (whole_number_in f.offset) _ (HasVersion version)
    (λ offset. map_by (whole_number_in f.length) _ (HasVersion version) (λ _ _. tt)))
operation_versioned version verb.Sync belongs f = sync_versioned version
operation_versioned version verb.Say belongs f = map_by (text_in f.text) _ (HasVersion version) (λ _ _. tt)

named_versioned : (version : Version) (f : Fields) (v : Option Verb) → ((w : Verb) → v ≡ Some w → belongs_to version w ≡ true)
    → (line : Line) → option_map_or (operation_with version f) v (Some UnknownOperation) ≡ Some line → IsOfVersion version line
named_versioned version f None each line is =
    let same : UnknownOperation ≡ line = cc in subst (IsOfVersion version) same tt
named_versioned version f (Some v) each line is =
    if_by (has_only version (key_count v) f) _ (IsOfVersion version)
    (map_by (operation_of version v f) Operation (IsOfVersion version)
    (λ o. operation_versioned version v (each v refl) f o)) line is

line_versioned_by : (version : Version) (f : Fields) (trace start op : Option Field) (line : Line)
    → line_by version f trace start op ≡ Some line → IsOfVersion version line
line_versioned_by version f (Some trace) None None line is = header_versioned version f line is
line_versioned_by version f None (Some start) None line is =
    and_then_by (text_in f.start) (start_line_named version f) (IsOfVersion version)
    (λ name. kind_versioned version f (kind_in version name)) line is
line_versioned_by version f None None (Some op) line is =
    and_then_by (text_in f.op) (operation_named version f) (IsOfVersion version)
    (λ name. named_versioned version f (verb_in version name) (verb_belongs version name)) line is
line_versioned_by version f (Some trace) (Some start) op line is = absurd (cc)
line_versioned_by version f (Some trace) None (Some op) line is = absurd (cc)
line_versioned_by version f None (Some start) (Some op) line is = absurd (cc)
line_versioned_by version f None None None line is = absurd (cc)

pub line_versioned : (version : Version) (text : List ℕ) (line : Line) → line_in version text ≡ Some line → IsOfVersion version line
unfolding line_in
line_versioned version text =
    and_then_by (option_and_then fields_in (read text)) (line_of version) (IsOfVersion version)
    (λ f. line_versioned_by version f f.trace f.start f.op)
