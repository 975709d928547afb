-- What a wstat changes: no field of all ones, no empty text, and none that has the present value.
use Rattle.std.specs.Prelude.{◌≡◌, ◌⊎◌, ℕ, ◌==◌, not, ◌&&◌, ◌||◌, Bool, false, List, [], Option}
use Rattle.std.specs.Prelude.{None, Some, is_some, if◌then◌else◌}
use Rattle.std.specs.Option.{option_map_or}
use Rattle.cs_tree_model.specs.declared.record.MetadataBuf.{MetadataBuf}
use Rattle.cs_tree_model.specs.Tree.{NameBytes, Tree}
use Rattle.cs_users.specs.Members.{same_name}
use Rattle.cs_wire.specs.declared.message.Qid.{Qid}
use Rattle.cs_permit.specs.declared.call.WstatCall.{WstatCall}
use Rattle.cs_permit.specs.Shown.{qid_of, shown_name, shown_length}

-- all ones, of a field of two bytes, of four and of eight
abbrev pub ones_2 : ℕ
ones_2 = 0xFFFF

abbrev pub ones_4 : ℕ
ones_4 = 0xFFFFFFFF

abbrev pub ones_8 : ℕ
ones_8 = 0xFFFFFFFFFFFFFFFF

-- the new value of a number, from the one that says "don't touch", the present one, and the one
-- sent
abbrev pub new_number : ℕ → ℕ → ℕ → Option ℕ
new_number ones present sent = if sent == ones || sent == present then None else Some sent

-- the new value of a text, from the present one and the one that is sent
abbrev pub new_text : List ℕ → List ℕ → Option (List ℕ)
new_text present sent = if same_name sent [] || same_name sent present then None else Some sent

-- a test of a new value, if there is one
abbrev pub if_new : {A : Type 0} → Option A → (A → Bool) → Bool
if_new new test = option_map_or test new false

-- the new name; the root's present one is a slash
abbrev pub new_name : Tree → WstatCall → Option NameBytes
new_name t c = new_text (shown_name t c.number) c.stat.name

-- the new length; a directory's present one is 0
abbrev pub new_length : WstatCall → MetadataBuf → Option ℕ
new_length c file = new_number ones_8 (shown_length file.kind) c.stat.length

-- the new mode
abbrev pub new_mode : WstatCall → MetadataBuf → Option ℕ
new_mode c file = new_number ones_4 file.mode c.stat.mode

-- the new mtime
abbrev pub new_mtime : WstatCall → MetadataBuf → Option ℕ
new_mtime c file = new_number ones_4 file.mtime c.stat.mtime

-- the new group, which is in the field gid
abbrev pub new_group : WstatCall → MetadataBuf → Option (List ℕ)
new_group c file = new_text file.group c.stat.gid

-- a qid whose 13 bytes are all ones
abbrev pub ones_qid : Qid
ones_qid = record { kind = 0xFF; vers = ones_4; path = ones_8 }

-- two qids have the same 13 bytes
abbrev pub same_qid : Qid → Qid → Bool
same_qid a b = a.kind == b.kind && a.vers == b.vers && a.path == b.path

-- type, dev, qid, atime, uid or muid changes
abbrev pub changes_fixed : WstatCall → MetadataBuf → Bool
changes_fixed c file =
    is_some (new_number ones_2 0 c.stat.kind)
    || is_some (new_number ones_4 0 c.stat.dev)
    || not (same_qid c.stat.qid ones_qid || same_qid c.stat.qid (qid_of file))
    || is_some (new_number ones_4 file.atime c.stat.atime)
    || is_some (new_text file.owner c.stat.uid)
    || is_some (new_text file.muid c.stat.muid)

-- mode or mtime changes
abbrev pub changes_attributes : WstatCall → MetadataBuf → Bool
changes_attributes c file = is_some (new_mode c file) || is_some (new_mtime c file)

-- a field is not to be touched, or has the present value: a number
abbrev pub IsKept : ℕ → ℕ → ℕ → Type 0
IsKept ones present sent = (sent ≡ ones) ⊎ (sent ≡ present)

-- and a text
abbrev pub IsKeptText : List ℕ → List ℕ → Type 0
IsKeptText present sent = (sent ≡ []) ⊎ (sent ≡ present)

-- each field of the stat is not to be touched, or has the present value
pub record KeepsEach (t : Tree) (c : WstatCall) (file : MetadataBuf) : Type 0 where
  pub kind : IsKept ones_2 0 c.stat.kind
  pub dev : IsKept ones_4 0 c.stat.dev
  pub qid : (c.stat.qid ≡ ones_qid) ⊎ (c.stat.qid ≡ qid_of file)
  pub mode : IsKept ones_4 file.mode c.stat.mode
  pub atime : IsKept ones_4 file.atime c.stat.atime
  pub mtime : IsKept ones_4 file.mtime c.stat.mtime
  pub len : IsKept ones_8 (shown_length file.kind) c.stat.length
  pub name : IsKeptText (shown_name t c.number) c.stat.name
  pub uid : IsKeptText file.owner c.stat.uid
  pub gid : IsKeptText file.group c.stat.gid
  pub muid : IsKeptText file.muid c.stat.muid

-- the wstat gives no field a new value
pub record ChangesNothing (t : Tree) (c : WstatCall) (file : MetadataBuf) : Type 0 where
  pub name : new_name t c ≡ None
  pub len : new_length c file ≡ None
  pub mode : new_mode c file ≡ None
  pub mtime : new_mtime c file ≡ None
  pub group : new_group c file ≡ None
