-- The messages: the number of each type, its fields, and the one spelling of a message.
use Rattle.std.specs.Prelude.{ℕ, ◌<◌, ◌≤◌, ◌+◌, ◌^◌, ◌==◌, Bool, true, false, not, ◌&&◌}
use Rattle.std.specs.Prelude.{if◌then◌else◌, Option, Some, None, List, ◌++◌, length, map}
use Rattle.std.specs.Int.{w8, w16, w32, to_le_bytes}
use Rattle.std.specs.Prelude.{String}
use Rattle.std.specs.String.{string_bytes}
use Rattle.std.specs.Cow.{cow_str_bytes}
use Rattle.std.specs.Global.{Global}
use Rattle.std.specs.Borrow.{Bor}
use Rattle.cs_names.specs.declared.limits.TheConstants.{MESSAGE_BYTES}
use Rattle.cs_wire.specs.declared.kind.TKind.{TKind}
use Rattle.cs_wire.specs.declared.kind.TKind.TheVariants as tk
use Rattle.cs_wire.specs.declared.kind.RKind.{RKind}
use Rattle.cs_wire.specs.declared.kind.RKind.TheVariants as rk
use Rattle.cs_wire.specs.declared.message.TMessage.{TMessage}
use Rattle.cs_wire.specs.declared.message.TBody.{TBody}
use Rattle.cs_wire.specs.declared.message.TBody.TheVariants as t
use Rattle.cs_wire.specs.declared.message.RMessage.{RMessage}
use Rattle.cs_wire.specs.declared.message.RBody.{RBody}
use Rattle.cs_wire.specs.declared.message.RBody.TheVariants as r
use Rattle.cs_wire.specs.declared.message.Qid.{Qid}
use Rattle.cs_wire.specs.declared.message.Stat.{Stat}
use Rattle.cs_wire.specs.declared.stat.StatRef.{StatRef}
use Rattle.cs_wire.specs.Fields.{Shape, Nothing, One, Two, Four, Eight, Text, Raw, Several, Boxed}
use Rattle.cs_wire.specs.Fields.{◌▸◌, Value, bytes_of_field, IsIn, entry, holds_bytes}

-- the number of a type of a client's message
abbrev pub t_number : TKind → ℕ
t_number tk.Version = 100
t_number tk.Auth = 102
t_number tk.Attach = 104
t_number tk.Flush = 108
t_number tk.Walk = 110
t_number tk.Open = 112
t_number tk.Create = 114
t_number tk.Read = 116
t_number tk.Write = 118
t_number tk.Clunk = 120
t_number tk.Remove = 122
t_number tk.Stat = 124
t_number tk.Wstat = 126

-- the type with that number
unfoldable pub t_kind_of : ℕ → Option TKind
t_kind_of n =
    if n == 100 then Some tk.Version else if n == 102 then Some tk.Auth
    else if n == 104 then Some tk.Attach else if n == 108 then Some tk.Flush
    else if n == 110 then Some tk.Walk else if n == 112 then Some tk.Open
    else if n == 114 then Some tk.Create else if n == 116 then Some tk.Read
    else if n == 118 then Some tk.Write else if n == 120 then Some tk.Clunk
    else if n == 122 then Some tk.Remove else if n == 124 then Some tk.Stat
    else if n == 126 then Some tk.Wstat else None

-- the number of a type of reply
abbrev pub r_number : RKind → ℕ
r_number rk.Version = 101
r_number rk.Auth = 103
r_number rk.Attach = 105
r_number rk.Error = 107
r_number rk.Flush = 109
r_number rk.Walk = 111
r_number rk.Open = 113
r_number rk.Create = 115
r_number rk.Read = 117
r_number rk.Write = 119
r_number rk.Clunk = 121
r_number rk.Remove = 123
r_number rk.Stat = 125
r_number rk.Wstat = 127

-- the type with that number
unfoldable pub r_kind_of : ℕ → Option RKind
r_kind_of n =
    if n == 101 then Some rk.Version else if n == 103 then Some rk.Auth
    else if n == 105 then Some rk.Attach else if n == 107 then Some rk.Error
    else if n == 109 then Some rk.Flush else if n == 111 then Some rk.Walk
    else if n == 113 then Some rk.Open else if n == 115 then Some rk.Create
    else if n == 117 then Some rk.Read else if n == 119 then Some rk.Write
    else if n == 121 then Some rk.Clunk else if n == 123 then Some rk.Remove
    else if n == 125 then Some rk.Stat else if n == 127 then Some rk.Wstat else None

-- qid[13]: type[1] vers[4] path[8]
abbrev pub qid_shape : Shape
qid_shape = One ▸ Four ▸ Eight

-- type[2] dev[4] qid[13] mode[4] atime[4] mtime[4] length[8] name[s] uid[s] gid[s] muid[s]
abbrev pub stat_shape : Shape
stat_shape = Two ▸ Four ▸ qid_shape ▸ Four ▸ Four ▸ Four ▸ Eight ▸ Text ▸ Text ▸ Text ▸ Text

-- the fields of a client's message
abbrev pub t_layout : TKind → Shape
t_layout tk.Version = Four ▸ Text
t_layout tk.Auth = Four ▸ Text ▸ Text
t_layout tk.Attach = Four ▸ Four ▸ Text ▸ Text
t_layout tk.Flush = Two
t_layout tk.Walk = Four ▸ Four ▸ Several Text
t_layout tk.Open = Four ▸ One
t_layout tk.Create = Four ▸ Text ▸ Four ▸ One
t_layout tk.Read = Four ▸ Eight ▸ Four
t_layout tk.Write = Four ▸ Eight ▸ Raw
t_layout tk.Clunk = Four
t_layout tk.Remove = Four
t_layout tk.Stat = Four
t_layout tk.Wstat = Four ▸ Boxed stat_shape

-- the fields of a reply
abbrev pub r_layout : RKind → Shape
r_layout rk.Version = Four ▸ Text
r_layout rk.Auth = qid_shape
r_layout rk.Attach = qid_shape
r_layout rk.Error = Text
r_layout rk.Flush = Nothing
r_layout rk.Walk = Several qid_shape
r_layout rk.Open = qid_shape ▸ Four
r_layout rk.Create = qid_shape ▸ Four
r_layout rk.Read = Raw
r_layout rk.Write = Four
r_layout rk.Clunk = Nothing
r_layout rk.Remove = Nothing
r_layout rk.Stat = Boxed stat_shape
r_layout rk.Wstat = Nothing

-- whether a client's message is read with no copy: the bytes of a write are lent
abbrev pub t_lent : TKind → Bool
t_lent tk.Write = true
t_lent kind = false

-- One way of the conversation: its types, their numbers and their fields, and which are read with
-- no copy.
pub record Side (Kind : Type 0) : Type 0 where
  pub number : Kind → ℕ
  pub kind_of : ℕ → Option Kind
  pub layout : Kind → Shape
  pub lent : Kind → Bool

-- what clients send
abbrev pub requests : Side TKind
requests = record { number = t_number; kind_of = t_kind_of; layout = t_layout; lent = t_lent }

-- what the server sends
abbrev pub replies : Side RKind
replies = record { number = r_number; kind_of = r_kind_of; layout = r_layout; lent = λ _. false }

-- A message as a value, not as it is in memory: its type, its tag, and the values of its fields.
pub record Message {Kind : Type 0} (side : Side Kind) : Type 0 where
  pub kind : Kind
  pub tag : ℕ
  pub fields : Value (side.layout kind)

-- the bytes of its fields
unfoldable pub fields_of : {Kind : Type 0} {side : Side Kind} → Message side → List ℕ
fields_of {Kind} {side} m = bytes_of_field (side.layout m.kind) m.fields

-- a field of the message takes memory if it is copied
abbrev pub takes_memory : {Kind : Type 0} {side : Side Kind} → Message side → Bool
takes_memory {Kind} {side} m = not (side.lent m.kind) && holds_bytes (side.layout m.kind) m.fields

-- each field can hold what it is to hold
unfoldable pub FieldsFit : {Kind : Type 0} {side : Side Kind} → Message side → Type 0
FieldsFit {Kind} {side} m = IsIn (side.layout m.kind) m.fields

-- size[4] type[1] tag[2] and the fields; the size counts itself
unfoldable pub spelling : {Kind : Type 0} {side : Side Kind} → Message side → List ℕ
spelling {Kind} {side} m =
    to_le_bytes w32 (length (fields_of m) + 7)
    ++ (to_le_bytes w8 (side.number m.kind) ++ (to_le_bytes w16 m.tag ++ fields_of m))

-- what has a spelling: each field is in its range, and the size is
pub record IsMessage {Kind : Type 0} {side : Side Kind} (m : Message side) : Type 0 where
  pub tag_fits : m.tag < 2 ^ 16
  pub fields_fit : FieldsFit m
  pub size_fits : length (spelling m) < 2 ^ 32

-- what has a spelling that is no longer than a message may be
pub record Fits {Kind : Type 0} {side : Side Kind} (m : Message side) : Type 0 where
  pub is_message : IsMessage m
  pub is_small : length (spelling m) ≤ MESSAGE_BYTES

-- a qid as its three fields
abbrev pub qid_of : Qid → Value qid_shape
qid_of q = (q.kind, (q.vers, q.path))

-- a stat as its fields
abbrev pub stat_of : Stat → Value stat_shape
stat_of s = (
  s.kind,
  (
    s.dev,
    (
      qid_of s.qid,
      (
        s.mode,
        (
          s.atime,
          (
            s.mtime,
            (
              s.length,
              (
                string_bytes s.name,
                (string_bytes s.uid, (string_bytes s.gid, string_bytes s.muid)),
              ),
            ),
          ),
        ),
      ),
    ),
  ),
)

-- the bytes of the texts
abbrev pub names_of : List (String Global) → List (List ℕ)
names_of names = map string_bytes names

-- likewise, of texts that are borrowed
abbrev pub texts_in : List (Bor (List ℕ)) → List (List ℕ)
texts_in texts = map (λ text. text.now) texts

-- the texts of a borrowed stat
abbrev pub users_in : StatRef → Value (Text ▸ Text ▸ Text ▸ Text)
users_in s = (s.name.now, (s.uid.now, (s.gid.now, s.muid.now)))

-- a borrowed stat as its fields
abbrev pub stat_in : StatRef → Value stat_shape
stat_in s =
    (s.kind, (s.dev, (qid_of s.qid, (s.mode, (s.atime, (s.mtime, (s.length, users_in s)))))))

-- The bytes of a stat entry (stat(5)): its size, which doesn't count itself, and its fields.
unfoldable pub stat_entry : Value stat_shape → List ℕ
stat_entry v = entry (bytes_of_field stat_shape v)

-- what has an entry, of less than 65,536 bytes
unfoldable pub IsEntry : Value stat_shape → Type 0
IsEntry v = IsIn (Boxed stat_shape) v

-- What a client's message asks, as its type and what its fields hold.
abbrev pub with_request {ℓ} : {A : Type ℓ} → ((kind : TKind) → Value (t_layout kind) → A) → TBody
    → A
with_request f (t.Version msize version) = f tk.Version (msize, string_bytes version)
with_request f (t.Auth afid uname aname) =
    f tk.Auth (afid, (string_bytes uname, string_bytes aname))
with_request f (t.Attach fid afid uname aname) =
    f tk.Attach (fid, (afid, (string_bytes uname, string_bytes aname)))
with_request f (t.Flush oldtag) = f tk.Flush oldtag
with_request f (t.Walk fid newfid wname) = f tk.Walk (fid, (newfid, names_of wname.items))
with_request f (t.Open fid mode) = f tk.Open (fid, mode)
with_request f (t.Create fid name perm mode) = f tk.Create (fid, (string_bytes name, (perm, mode)))
with_request f (t.Read fid offset count) = f tk.Read (fid, (offset, count))
with_request f (t.Write fid offset bytes) = f tk.Write (fid, (offset, bytes.now))
with_request f (t.Clunk fid) = f tk.Clunk fid
with_request f (t.Remove fid) = f tk.Remove fid
with_request f (t.Stat fid) = f tk.Stat fid
with_request f (t.Wstat fid stat) = f tk.Wstat (fid, stat_of stat)

-- What a reply says, likewise.
abbrev pub with_reply {ℓ} : {A : Type ℓ} → ((kind : RKind) → Value (r_layout kind) → A) → RBody → A
with_reply f (r.Version msize version) = f rk.Version (msize, cow_str_bytes version)
with_reply f (r.Auth aqid) = f rk.Auth (qid_of aqid)
with_reply f (r.Attach qid) = f rk.Attach (qid_of qid)
with_reply f (r.Error ename) = f rk.Error (cow_str_bytes ename)
with_reply f r.Flush = f rk.Flush tt
with_reply f (r.Walk wqid) = f rk.Walk (map qid_of wqid.items)
with_reply f (r.Open qid iounit) = f rk.Open (qid_of qid, iounit)
with_reply f (r.Create qid iounit) = f rk.Create (qid_of qid, iounit)
with_reply f (r.Read bytes) = f rk.Read bytes.items
with_reply f (r.Write count) = f rk.Write count
with_reply f r.Clunk = f rk.Clunk tt
with_reply f r.Remove = f rk.Remove tt
with_reply f (r.Stat stat) = f rk.Stat (stat_of stat)
with_reply f r.Wstat = f rk.Wstat tt

-- a client's message as a value
abbrev pub t_view : TMessage → Message requests
t_view m = with_request (λ kind fields. record { kind = kind; tag = m.tag; fields = fields }) m.body

-- a reply as a value
abbrev pub r_view : RMessage → Message replies
r_view m = with_reply (λ kind fields. record { kind = kind; tag = m.tag; fields = fields }) m.body
