-- What a client is shown of a file: qid, name, stat, and entry in a read of its directory.
use Rattle.std.specs.Prelude.{ℕ, ◌/◌, List, [], ◌∷◌, Option, unwrap_or, option_and_then}
use Rattle.std.specs.Option.{option_map, option_map_or}
use Rattle.cs_tree_model.specs.declared.record.MetadataBuf.{MetadataBuf}
use Rattle.cs_tree_model.specs.declared.record.Kind.{Kind}
use Rattle.cs_tree_model.specs.declared.record.Kind.TheVariants.{Directory, File}
use Rattle.cs_tree_model.specs.Tree.{NameBytes, Tree, name_numbered, number_in}
use Rattle.cs_wire.specs.declared.message.Qid.{Qid}
use Rattle.cs_wire.specs.Fields.{Value}
use Rattle.cs_wire.specs.Messages.{stat_entry, stat_shape, qid_of as qid_value}
use Rattle.cs_permit.specs.Rules.{file_at}

-- the high byte of the mode, the version and the number
abbrev pub qid_of : MetadataBuf → Qid
qid_of file = record { kind = file.mode / 0x1000000; vers = file.vers; path = file.number }

-- the qid of a file, or zeros for no file
abbrev pub qid_or_zeros : Option MetadataBuf → Qid
qid_or_zeros file = option_map_or qid_of file (record { kind = 0; vers = 0; path = 0 })

-- the qid of the file of a number, or zeros if no file has it
abbrev pub qid_at : Tree → ℕ → Qid
qid_at t n = qid_or_zeros (file_at t n)

-- the name of a file in its directory, and a slash for the root
abbrev pub shown_name : Tree → ℕ → NameBytes
shown_name t n = unwrap_or (name_numbered t n) (47 ∷ [])

-- the length in a stat, 0 for a directory
abbrev pub shown_length : Kind → ℕ
shown_length Directory = 0
shown_length (File length) = length

-- a stat of these fields, whose type and dev are 0
abbrev pub stat_with : Qid → ℕ → ℕ → ℕ → ℕ → List ℕ → List ℕ → List ℕ → List ℕ → Value stat_shape
stat_with qid mode atime mtime len name uid gid muid =
    (0, (0, (qid_value qid, (mode, (atime, (mtime, (len, (name, (uid, (gid, muid))))))))))

-- the stat of a file of that name
abbrev pub stat_of_file : NameBytes → MetadataBuf → Value stat_shape
stat_of_file name file =
    stat_with (qid_of file) file.mode file.atime file.mtime (shown_length file.kind)
    name file.owner file.group file.muid

-- the stat of the file of a number under a name, if the file is there
abbrev pub stat_as : Tree → ℕ → NameBytes → Option (Value stat_shape)
stat_as t n name = option_map (stat_of_file name) (file_at t n)

-- the stat of the file of a number, if it is there
abbrev pub stat_at : Tree → ℕ → Option (Value stat_shape)
stat_at t n = stat_as t n (shown_name t n)

-- the stat of the file of a name in a directory, if it is there
abbrev pub stat_in : Tree → ℕ → NameBytes → Option (Value stat_shape)
stat_in t d x = option_and_then (λ n. stat_as t n x) (number_in t d x)

-- the bytes of an entry in a read of its directory: those of its stat
abbrev pub entry_of : Option (Value stat_shape) → List ℕ
entry_of stat = option_map_or stat_entry stat []

-- the bytes of the entry of a name in a directory
abbrev pub entry_bytes : Tree → ℕ → NameBytes → List ℕ
entry_bytes t d x = entry_of (stat_in t d x)
