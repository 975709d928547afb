-- The stat that a Twstat sends, with the bytes of its texts.
use Rattle.std.specs.Prelude.{ℕ, List, string_bytes}
use Rattle.cs_wire.specs.declared.message.Qid.{Qid}
use Rattle.cs_wire.specs.declared.message.Stat.{Stat}

-- its fields
pub record SentFields : Type 0 where
  pub kind : ℕ
  pub dev : ℕ
  pub qid : Qid
  pub mode : ℕ
  pub atime : ℕ
  pub mtime : ℕ
  pub length : ℕ
  pub name : List ℕ
  pub uid : List ℕ
  pub gid : List ℕ
  pub muid : List ℕ

-- what a stat says
abbrev pub sent_of : Stat → SentFields
sent_of s = record {
  kind = s.kind;
  dev = s.dev;
  qid = s.qid;
  mode = s.mode;
  atime = s.atime;
  mtime = s.mtime;
  length = s.length;
  name = string_bytes s.name;
  uid = string_bytes s.uid;
  gid = string_bytes s.gid;
  muid = string_bytes s.muid;
}
