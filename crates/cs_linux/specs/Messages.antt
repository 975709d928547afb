-- The replies that Linux's client gets, and what it means by a request.
use Rattle.std.specs.Prelude.{◌≡◌, ◌≢◌, ℕ, List, [], codes}
use Rattle.cs_names.specs.declared.rule_id.RuleId.{RuleId}
use Rattle.cs_names.specs.Rules as rules
use Rattle.cs_wire.specs.declared.kind.RKind.TheVariants as rk
use Rattle.cs_wire.specs.declared.kind.TKind.{TKind}
use Rattle.cs_wire.specs.declared.kind.TKind.TheVariants as tk
use Rattle.cs_wire.specs.Fields.{Value}
use Rattle.cs_wire.specs.Messages.{Message, replies, requests, stat_shape, t_layout}
use Rattle.cs_linux.specs.declared.errno.Errno.TheVariants.{InputOutput, NoMemory}
use Rattle.cs_linux.specs.Errors.{errno_of, text_of}

-- the text of a reply that reports that memory ran out
abbrev pub memory_text : List ℕ
memory_text = codes "out of memory"

-- The text that the client gets in place of another: that of the error for the rule with this
-- text, of ENOMEM if memory ran out, else of EIO.
pub record IsLinuxText (text sent : List ℕ) : Type 0 where
  pub of_rule : (rule : RuleId) → text ≡ rules.text_of rule → sent ≡ text_of (errno_of rule)
  pub of_memory : text ≡ memory_text → sent ≡ text_of NoMemory
  pub of_others : text ≢ memory_text → ((rule : RuleId) → text ≢ rules.text_of rule)
      → sent ≡ text_of InputOutput

-- an Rerror (error(5))
abbrev pub error_message : ℕ → List ℕ → Message replies
error_message tag text = record { kind = rk.Error; tag = tag; fields = text }

-- the greatest number of four bytes: of a Twstat's field, that it is not to change (stat(5))
abbrev pub dont_touch : ℕ
dont_touch = 4294967295

-- A stat as the user asked for it, without what the client fills in unasked: when the file was
-- made, and who changed it last.
abbrev pub as_user_asked : Value stat_shape → Value stat_shape
as_user_asked (kind, (dev, (qid, (mode, (atime, (mtime, (length, (name, (uid, (gid, muid)))))))))) =
    (kind, (dev, (qid, (mode, (dont_touch, (mtime, (length, (name, (uid, (gid, []))))))))))

-- what the fields of a request are meant to say
abbrev pub meant_by : (kind : TKind) → Value (t_layout kind) → Value (t_layout kind)
meant_by tk.Wstat (fid, stat) = (fid, as_user_asked stat)
meant_by kind fields = fields

-- What a client of Linux means by a request.
abbrev pub as_client_means : Message requests → Message requests
as_client_means m = record m { fields = meant_by m.kind m.fields }
