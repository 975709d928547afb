-- What is printed of a micro-operation and of a state as JSON.
use Rattle.std.specs.Prelude.{ℕ, List, [], ◌∷◌, ◌++◌, Option, None, Some, codes, decimal}
use Rattle.std.specs.Prelude.{length, if◌then◌else◌}
use Rattle.std.specs.Str.{is_utf8}
use Rattle.serde_json.specs.Data.{string}
use Rattle.serde_json.specs.Written.{compact_text}
use Rattle.cs_names.specs.Paths.{path_text}
use Rattle.cs_entries.specs.declared.node.FileKind.TheVariants.{Regular, Symlink}
use Rattle.cs_entries.specs.declared.node.Node.{Node}
use Rattle.cs_entries.specs.declared.node.Node.TheVariants.{Directory, File}
use Rattle.cs_micro.specs.Texts.{kind_text, mode_text}
use Rattle.cs_micro.specs.declared.micro_op.MicroOp.{MicroOp}
use Rattle.cs_micro.specs.declared.micro_op.MicroOp.TheVariants.{CreateDirEntry, DeleteDirEntry}
use Rattle.cs_micro.specs.declared.micro_op.MicroOp.TheVariants.{MoveDirEntry, LinkDirEntry}
use Rattle.cs_micro.specs.declared.micro_op.MicroOp.TheVariants.{ChangeFileSize, WriteBlock}
use Rattle.cs_micro.specs.declared.micro_op.MicroOp.TheVariants.{SetAttr, Say}
use Rattle.cs_trace_lines.specs.Versions.{is_fourth}
use Rattle.cs_trace_lines.specs.declared.version.Version.{Version}
use Rattle.cs_plan.specs.Texts.{places_text}
use Rattle.cs_plan.specs.declared.recipe.Recipe.{Recipe}
use Rattle.cs_plan.specs.declared.recipe.Recipe.TheVariants.{Prefix, Hole, Pick}
use Rattle.cs_start.specs.declared.rights.Rights.{Rights}
use Rattle.cs_list.specs.Profiles.{array_of}
use Rattle.cs_list.specs.declared.profiles.Profiles.{Profiles}
use Rattle.cs_trace.specs.declared.operation.Target.{Target}
use Rattle.cs_trace.specs.declared.operation.Target.TheVariants as targets

-- a text as a JSON string
abbrev pub quoted : List ℕ → List ℕ
quoted text = compact_text (string text)

-- a path as a JSON string, or null if there is none
abbrev pub quoted_or_null : Option (List (List ℕ)) → List ℕ
quoted_or_null None = codes "null"
quoted_or_null (Some p) = quoted (path_text p)

-- bytes as a JSON string, or null if they are no text
abbrev pub quoted_text : List ℕ → List ℕ
quoted_text bytes = if is_utf8 bytes then quoted bytes else codes "null"

-- what a new entry is of; a file or a symbolic link has its number, and a symbolic link its target
abbrev pub node_fields : Node → List ℕ → List ℕ
node_fields (Directory d) bytes = codes "\"node\":\"dir\""
node_fields (File Regular file) bytes = codes "\"node\":\"file\",\"file\":" ++ decimal file
node_fields (File Symlink file) bytes =
    codes "\"node\":\"symlink\",\"file\":"
    ++ (decimal file ++ (codes ",\"target\":" ++ quoted_text bytes))

abbrev pub create_fields : List (List ℕ) → Node → List ℕ → List ℕ
create_fields p node bytes =
    codes "\"kind\":\"create_dir_entry\",\"path\":"
    ++ (quoted (path_text p) ++ (codes "," ++ node_fields node bytes))

-- a deleted entry has the kind of what it held
abbrev pub delete_fields : List (List ℕ) → Node → List ℕ
delete_fields p node =
    codes "\"kind\":\"delete_dir_entry\",\"path\":"
    ++ (quoted (path_text p) ++ (codes ",\"node\":\"" ++ (kind_text node ++ codes "\"")))

-- both paths of a move
abbrev pub moved_fields : List (List ℕ) → List (List ℕ) → List ℕ
moved_fields p q =
    codes "\"kind\":\"move_dir_entry\",\"path\":"
    ++ (quoted (path_text p) ++ (codes ",\"to\":" ++ quoted (path_text q)))

-- in the fourth version also the kind of what is moved: a directory may be
abbrev pub move_fields : Version → List (List ℕ) → List (List ℕ) → Node → List ℕ
move_fields version p q node =
    if is_fourth version
    then moved_fields p q ++ (codes ",\"node\":\"" ++ (kind_text node ++ codes "\""))
    else moved_fields p q

abbrev pub link_fields : List (List ℕ) → ℕ → List ℕ
link_fields p file =
    codes "\"kind\":\"link_dir_entry\",\"path\":"
    ++ (quoted (path_text p) ++ (codes ",\"file\":" ++ decimal file))

-- the number of a file, and one of its paths
abbrev pub file_fields : Option (List (List ℕ)) → ℕ → List ℕ
file_fields path file =
    codes "\"path\":" ++ (quoted_or_null path ++ (codes ",\"file\":" ++ decimal file))

abbrev pub size_fields : Option (List (List ℕ)) → ℕ → ℕ → List ℕ
size_fields path file to =
    codes "\"kind\":\"change_file_size\","
    ++ (file_fields path file ++ (codes ",\"length\":" ++ decimal to))

abbrev pub block_fields : Option (List (List ℕ)) → ℕ → ℕ → ℕ → ℕ → List ℕ
block_fields path file block at count =
    codes "\"kind\":\"write_block\","
    ++ (file_fields path file
    ++ (codes ",\"block\":"
    ++ (decimal block
    ++ (codes ",\"at\":" ++ (decimal at ++ (codes ",\"count\":" ++ decimal count))))))

-- whose owner, group and permissions are set: a file, with one of its paths, or a directory
abbrev pub target_fields : Option (List (List ℕ)) → Target → List ℕ
target_fields path (targets.File file) = file_fields path file
target_fields path (targets.Directory d p) = codes "\"path\":" ++ quoted (path_text p)

abbrev pub rights_fields : Rights → List ℕ
rights_fields rights =
    codes "\"mode\":\""
    ++ (mode_text rights.permissions
    ++ (codes "\",\"owner\":"
    ++ (quoted rights.owner ++ (codes ",\"group\":" ++ quoted rights.group))))

abbrev pub set_attr_fields : Option (List (List ℕ)) → Target → Rights → List ℕ
set_attr_fields path target rights =
    codes "\"kind\":\"set_attr\","
    ++ (target_fields path target ++ (codes "," ++ rights_fields rights))

-- the kind of a micro-operation and the fields of its kind; the file that it changes has the path
abbrev pub fields_text : Version → Option (List (List ℕ)) → MicroOp → List ℕ
fields_text version path (CreateDirEntry e node rights bytes) = create_fields e.path node bytes
fields_text version path (DeleteDirEntry e node) = delete_fields e.path node
fields_text version path (MoveDirEntry a b node old) = move_fields version a.path b.path node
fields_text version path (LinkDirEntry e kind file old half) = link_fields e.path file
fields_text version path (ChangeFileSize file to) = size_fields path file to
fields_text version path (WriteBlock file block start at bytes) =
    block_fields path file block at (length bytes)
fields_text version path (SetAttr target rights) = set_attr_fields path target rights
fields_text version path Say = codes "\"kind\":\"say\""

-- places as a JSON array, with commas between them
abbrev pub places_array : List ℕ → List ℕ
places_array [] = codes "[]"
places_array (place ∷ places) = codes "[" ++ (places_text (place ∷ places) ++ codes "]")

-- the kind of a recipe and the fields of its kind
abbrev pub recipe_fields : Recipe → List ℕ
recipe_fields (Prefix k) = codes "\"kind\":\"prefix\",\"end\":" ++ decimal k
recipe_fields (Hole i j) =
    codes "\"kind\":\"hole\",\"missing\":" ++ (decimal i ++ (codes ",\"end\":" ++ decimal j))
recipe_fields (Pick places) = codes "\"kind\":\"pick\",\"places\":" ++ places_array places

-- the line of a micro-operation of a trace of the version: its place, what it does, its line of the
-- trace, and what it needs
abbrev pub op_line : Version → ℕ → MicroOp → Option (List (List ℕ)) → ℕ → List ℕ → List ℕ
op_line version place op path line needs =
    codes "{\"op\":"
    ++ (decimal place
    ++ (codes ","
    ++ (fields_text version path op
    ++ (codes ",\"line\":"
    ++ (decimal line ++ (codes ",\"needs\":" ++ (places_array needs ++ codes "}\n")))))))

-- the line of a state: its number, what it has, how many lines are acknowledged in it, the first
-- state with an equal tree, and the profiles whose file systems may leave it
abbrev pub state_line : ℕ → Recipe → ℕ → ℕ → Profiles → List ℕ
state_line number recipe says first profiles =
    codes "{\"state\":"
    ++ (decimal number
    ++ (codes ","
    ++ (recipe_fields recipe
    ++ (codes ",\"says\":"
    ++ (decimal says
    ++ (codes ",\"same\":"
    ++ (decimal first ++ (codes ",\"profiles\":" ++ (array_of profiles ++ codes "}\n")))))))))
