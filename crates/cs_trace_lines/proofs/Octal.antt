-- The permissions of a line are three octal digits.
use Rattle.std.proofs.Common.{◌≡◌, ℕ, ◌+◌, ◌-◌, ◌*◌, ◌≤◌, Bool, true, false, List, [], ◌∷◌, Option, None, Some, refl, subst, arith}
use Rattle.std.proofs.lemmas.Bool.Decides.{nat_tests}
use Rattle.std.specs.Option.{option_and_then, option_map, option_map_or}
use Rattle.std.specs.Prelude.{if◌then◌else◌, ◌&&◌}
use Rattle.serde_json.specs.Read.{read}
use Rattle.cs_trace_lines.specs.Fields.{Field, Fields, fields_in}
use Rattle.cs_trace_lines.specs.Lines.{Change, Header, Line, Mode, Operation, OperationLine, Owner, Creat, Mkdir, SetAttr, Symlink, Sync}
use Rattle.cs_trace_lines.specs.Values.{Claims}
use Rattle.cs_trace_lines.specs.Lines.{Start, StartContent, StartLink, OfDirectory, OfFile, OfSymlink, UnknownOperation, UnknownStart}
use Rattle.cs_trace_lines.specs.Lines.{file_bytes_in, header_in}
use Rattle.cs_trace_lines.specs.Values.{claims_in, content_in, has_only, symlink_claims_in, target_in}
use Rattle.cs_trace_lines.specs.Lines.{header_key_count, header_with, key_count, kind_in, line_by, line_in, line_of}
use Rattle.cs_trace_lines.specs.Values.{is_octal, mode_in}
use Rattle.cs_trace_lines.specs.Lines.{operation_named, operation_of, operation_with, start_key_count, start_line_named}
use Rattle.cs_trace_lines.specs.Values.{permissions_in}
use Rattle.cs_trace_lines.specs.Lines.{start_line_with, start_under, start_with, verb_in, version_in}
use Rattle.cs_trace_lines.specs.Values.{text_in, whole_number_in}
use Rattle.cs_trace_lines.specs.declared.start.StartKind.{StartKind}
use Rattle.cs_trace_lines.specs.declared.start.StartKind.TheVariants as kind
use Rattle.cs_trace_lines.specs.declared.verb.Verb.{Verb}
use Rattle.cs_trace_lines.specs.declared.verb.Verb.TheVariants as verb
use Rattle.cs_trace_lines.specs.declared.version.Version.{Version}

abbrev pub HasOctal : Claims → Type 0
HasOctal claims = claims.permissions ≤ 511

abbrev pub HasOctalChange : Change → Type 0
HasOctalChange (Mode permissions) = permissions ≤ 511
HasOctalChange (Owner owner group) = Unit {0}

abbrev pub IsOctal : Line → Type 0
IsOctal (Header version claims) = HasOctal claims
IsOctal (Start line) = HasOctal line.claims
IsOctal (Operation (Creat path claims)) = HasOctal claims
IsOctal (Operation (Mkdir path claims)) = HasOctal claims
IsOctal (Operation (Symlink path claims target)) = HasOctal claims
IsOctal (Operation (SetAttr path change)) = HasOctalChange change
IsOctal _ = Unit {0}

pub and_then_by : {A B : Type 0} (o : Option A) (f : A → Option B) (P : B → Type 0) → ((x : A) → (y : B) → f x ≡ Some y → P y) → (y : B)
    → option_and_then f o ≡ Some y → P y
and_then_by None f P each y is = absurd (cc)
and_then_by (Some x) f P each y is = each x y is

pub map_by : {A B : Type 0} (o : Option A) (f : A → B) (P : B → Type 0) → ((x : A) → o ≡ Some x → P (f x)) → (y : B)
    → option_map f o ≡ Some y
    → P y
map_by None f P each y is = absurd (cc)
map_by (Some x) f P each y is = let same : f x ≡ y = cc in subst P same (each x refl)

pub if_by : {B : Type 0} (t : Bool) (o : Option B) (P : B → Type 0) → ((y : B) → o ≡ Some y → P y) → (y : B)
    → (if t then o else None) ≡ Some y
    → P y
if_by true o P each y is = each y is
if_by false o P each y is = absurd (cc)

octal_by : (a b c n : ℕ) (t : Bool) → is_octal a && is_octal b && is_octal c ≡ t
    → (if t then Some ((a - 48) * 64 + (b - 48) * 8 + (c - 48)) else None) ≡ Some n → n ≤ 511
octal_by a b c n true is gives =
    let same : (a - 48) * 64 + (b - 48) * 8 + (c - 48) ≡ n = cc in
    grind (arith, nat_tests)
octal_by a b c n false is gives = absurd (cc)

permissions_octal : (text : List ℕ) (n : ℕ) → permissions_in text ≡ Some n → n ≤ 511
permissions_octal [] n is = absurd (cc)
permissions_octal (a ∷ []) n is = absurd (cc)
permissions_octal (a ∷ b ∷ []) n is = absurd (cc)
permissions_octal (a ∷ b ∷ c ∷ []) n is = octal_by a b c n _ refl is
permissions_octal (a ∷ b ∷ c ∷ d ∷ more) n is = absurd (cc)

mode_octal : (mode : Option Field) (n : ℕ) → mode_in mode ≡ Some n → n ≤ 511
mode_octal mode = and_then_by (text_in mode) permissions_in (λ n. n ≤ 511) permissions_octal

claims_octal : (f : Fields) (claims : Claims) → claims_in f ≡ Some claims → claims.permissions ≤ 511
claims_octal f =
    and_then_by (text_in f.owner) _ HasOctal (λ owner.
    and_then_by (text_in f.group) _ HasOctal (λ group.
    map_by (mode_in f.mode) _ HasOctal (λ n is. mode_octal f.mode n is)))

header_octal : (f : Fields) (line : Line) → header_in f ≡ Some line → IsOctal line
header_octal f =
    and_then_by (version_in f) (header_with f) IsOctal (λ version.
    if_by (has_only version (header_key_count version) f) _ IsOctal
    (map_by (claims_in f) (Header version) IsOctal (claims_octal f)))

symlink_octal : (f : Fields) (claims : Claims) → symlink_claims_in f ≡ Some claims → claims.permissions ≤ 511
symlink_octal f =
    and_then_by (text_in f.owner) _ HasOctal (λ owner. map_by (text_in f.group) _ HasOctal (λ _ _. omega arith))

start_octal : (f : Fields) (claims : Option Claims) → ((c : Claims) → claims ≡ Some c → HasOctal c) → (content : StartContent)
    → (line : Line) → start_with claims f.path content ≡ Some line → IsOctal line
start_octal f claims octal content = and_then_by (text_in f.path) _ IsOctal (λ path. map_by claims _ IsOctal octal)

under_octal : (version : Version) (f : Fields) (kind : StartKind) (line : Line) → start_under version f kind ≡ Some line → IsOctal line
under_octal version f kind.Directory = start_octal f (claims_in f) (claims_octal f) OfDirectory
under_octal version f kind.File =
    and_then_by (file_bytes_in version f) _ IsOctal (λ bytes. start_octal f (claims_in f) (claims_octal f) (OfFile bytes))
under_octal version f kind.Symlink =
    and_then_by (target_in f.target) _ IsOctal (λ target. start_octal f (symlink_claims_in f) (symlink_octal f) (OfSymlink target))
under_octal version f kind.Link =
    and_then_by (text_in f.path) _ IsOctal (λ path. map_by (text_in f.from) (StartLink path) IsOctal (λ _ _. tt))

kind_octal : (version : Version) (f : Fields) (kind : Option StartKind) (line : Line)
    → option_map_or (start_line_with version f) kind (Some UnknownStart) ≡ Some line → IsOctal line
kind_octal version f None line is = let same : UnknownStart ≡ line = cc in subst IsOctal same tt
kind_octal version f (Some kind) line is =
    if_by (has_only version (start_key_count f kind) f) _ IsOctal (under_octal version f kind) line is

abbrev HasOctalOperation : OperationLine → Type 0
HasOctalOperation o = IsOctal (Operation o)

sync_octal : (o : OperationLine) → Some Sync ≡ Some o → HasOctalOperation o
sync_octal o is = let same : Sync ≡ o = cc in subst HasOctalOperation same tt

operation_octal : (version : Version) (v : Verb) (f : Fields) (o : OperationLine) → operation_of version v f ≡ Some o → HasOctalOperation o
operation_octal version verb.Creat f =
    and_then_by (text_in f.path) _ HasOctalOperation (λ path. map_by (claims_in f) (Creat path) HasOctalOperation (claims_octal f))
operation_octal version verb.Mkdir f =
    and_then_by (text_in f.path) _ HasOctalOperation (λ path. map_by (claims_in f) (Mkdir path) HasOctalOperation (claims_octal f))
operation_octal version verb.Symlink f =
    and_then_by (text_in f.path) _ HasOctalOperation
    (λ path. and_then_by (target_in f.target) _ HasOctalOperation
    (λ target. map_by (symlink_claims_in f) _ HasOctalOperation (symlink_octal f)))
operation_octal version verb.Unlink f = map_by (text_in f.path) _ HasOctalOperation (λ _ _. tt)
operation_octal version verb.Rmdir f = map_by (text_in f.path) _ HasOctalOperation (λ _ _. tt)
operation_octal version verb.Rename f =
    and_then_by (text_in f.from) _ HasOctalOperation (λ from. map_by (text_in f.to) _ HasOctalOperation (λ _ _. tt))
operation_octal version verb.Link f =
    and_then_by (text_in f.from) _ HasOctalOperation (λ from. map_by (text_in f.to) _ HasOctalOperation (λ _ _. tt))
operation_octal version verb.Write f =
    and_then_by (text_in f.path) _ HasOctalOperation
    (λ path. and_then_by (whole_number_in f.offset) _ HasOctalOperation
    (λ offset. map_by (content_in version f) _ HasOctalOperation (λ _ _. tt)))
operation_octal version verb.Truncate f =
    and_then_by (text_in f.path) _ HasOctalOperation (λ path. map_by (whole_number_in f.length) _ HasOctalOperation (λ _ _. tt))
operation_octal version verb.Chmod f =
    and_then_by (text_in f.path) _ HasOctalOperation (λ path. map_by (mode_in f.mode) _ HasOctalOperation (λ n is. mode_octal f.mode n is))
operation_octal version verb.Chown f =
    and_then_by (text_in f.path) _ HasOctalOperation
    (λ path. and_then_by (text_in f.owner) _ HasOctalOperation (λ owner. map_by (text_in f.group) _ HasOctalOperation (λ _ _. tt)))
operation_octal version verb.Fsync f = map_by (text_in f.path) _ HasOctalOperation (λ _ _. tt)
operation_octal version verb.Fdatasync f = map_by (text_in f.path) _ HasOctalOperation (λ _ _. tt)
operation_octal version verb.FsyncRange f =
    and_then_by (text_in f.path) _ HasOctalOperation
    (λ path. and_then_by (whole_number_in f.offset) _ HasOctalOperation
    (λ offset. map_by (whole_number_in f.length) _ HasOctalOperation (λ _ _. tt)))
operation_octal version verb.Sync f = sync_octal
operation_octal version verb.Say f = map_by (text_in f.text) _ HasOctalOperation (λ _ _. tt)

named_octal : (version : Version) (f : Fields) (v : Option Verb) (line : Line)
    → option_map_or (operation_with version f) v (Some UnknownOperation) ≡ Some line → IsOctal line
named_octal version f None line is = let same : UnknownOperation ≡ line = cc in subst IsOctal same tt
named_octal version f (Some v) line is =
    if_by (has_only version (key_count v) f) _ IsOctal (map_by (operation_of version v f) Operation IsOctal (operation_octal version v f))
    line is

line_octal_by : (version : Version) (f : Fields) (trace start op : Option Field) (line : Line)
    → line_by version f trace start op ≡ Some line → IsOctal line
line_octal_by version f (Some trace) None None line is = header_octal f line is
line_octal_by version f None (Some start) None line is =
    and_then_by (text_in f.start) (start_line_named version f) IsOctal (λ name. kind_octal version f (kind_in version name)) line is
line_octal_by version f None None (Some op) line is =
    and_then_by (text_in f.op) (operation_named version f) IsOctal (λ name. named_octal version f (verb_in version name)) line is
line_octal_by version f (Some trace) (Some start) op line is = absurd (cc)
line_octal_by version f (Some trace) None (Some op) line is = absurd (cc)
line_octal_by version f None (Some start) (Some op) line is = absurd (cc)
line_octal_by version f None None None line is = absurd (cc)

pub line_octal : (version : Version) (text : List ℕ) (line : Line) → line_in version text ≡ Some line → IsOctal line
unfolding line_in
line_octal version text =
    and_then_by (option_and_then fields_in (read text)) (line_of version) IsOctal (λ f. line_octal_by version f f.trace f.start f.op)
