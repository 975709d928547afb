-- What the parts of an encoder go by: of a body, its number, its fields' bytes and their size.
use Rattle.std.specs.Prelude.{ℕ, List, Option}
use Rattle.cs_wire.specs.declared.message.TBody.{TBody}
use Rattle.cs_wire.specs.declared.message.RBody.{RBody}
use Rattle.cs_wire.specs.Fields.{bytes_of_field, size_of, IsIn}
use Rattle.cs_wire.specs.Messages.{t_number, t_layout, r_number, r_layout, with_request, with_reply}

-- the number of its type
abbrev pub request_number : TBody → ℕ
request_number body = with_request (λ kind _. t_number kind) body

-- the bytes of its fields
abbrev pub request_bytes : TBody → List ℕ
request_bytes body = with_request (λ kind fields. bytes_of_field (t_layout kind) fields) body

-- none if a field can't hold what it is to hold
abbrev pub request_size : TBody → Option ℕ
request_size body = with_request (λ kind fields. size_of (t_layout kind) fields) body

-- the same of a reply: the number of its type, the bytes of its fields, and their size
abbrev pub reply_number : RBody → ℕ
reply_number body = with_reply (λ kind _. r_number kind) body

abbrev pub reply_bytes : RBody → List ℕ
reply_bytes body = with_reply (λ kind fields. bytes_of_field (r_layout kind) fields) body

abbrev pub reply_size : RBody → Option ℕ
reply_size body = with_reply (λ kind fields. size_of (r_layout kind) fields) body

-- each field can hold what it is to hold
abbrev pub RequestFits : TBody → Type 0
RequestFits body = with_request (λ kind fields. IsIn (t_layout kind) fields) body

abbrev pub ReplyFits : RBody → Type 0
ReplyFits body = with_reply (λ kind fields. IsIn (r_layout kind) fields) body
