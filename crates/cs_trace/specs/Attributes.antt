-- Owner, group and permissions of each file and directory, and what an operation leaves of them.
use Rattle.std.specs.Prelude.{ℕ, ◌==◌, List, [], ◌∷◌, ◌++◌, Option, length, slice_get, slice_set}
use Rattle.std.specs.Prelude.{if◌then◌else◌}
use Rattle.cs_entries.specs.declared.node.Node.{Node}
use Rattle.cs_entries.specs.declared.node.Node.TheVariants.{Directory, File}
use Rattle.cs_tree_model.specs.Tree.{Path}
use Rattle.cs_trace.specs.declared.operation.Operation.{Operation}
use Rattle.cs_trace.specs.declared.operation.Operation.TheVariants.{Creat, Mkdir, SetAttr, Symlink}
use Rattle.cs_start.specs.declared.rights.Rights.{Rights}
use Rattle.cs_trace.specs.declared.operation.Target.{Target}
use Rattle.cs_trace.specs.declared.operation.Target.TheVariants as targets
use Rattle.cs_trace_lines.specs.declared.version.Version.{Version}
use Rattle.cs_trace_lines.specs.declared.version.Version.TheVariants.{First}

-- each file's and symbolic link's, and each directory's, by its number
pub record Attributes : Type 0 where
  pub files : List Rights
  pub directories : List Rights

abbrev pub no_attributes : Attributes
no_attributes = record { files = []; directories = [] }

-- a new file or symbolic link has the next number
abbrev pub with_file : Attributes → Rights → Attributes
with_file a rights = record a { files = a.files ++ rights ∷ [] }

-- the rights of a directory of the number, which may be the next one
abbrev pub rights_with : List Rights → ℕ → Rights → List Rights
rights_with all number rights =
    if number == length all then all ++ rights ∷ [] else slice_set all number rights

abbrev pub with_directory : Attributes → ℕ → Rights → Attributes
with_directory a number rights = record a { directories = rights_with a.directories number rights }

-- the attributes with these rights in place of those before
abbrev pub with_set : Attributes → Target → Rights → Attributes
with_set a (targets.File file) rights = record a { files = slice_set a.files file rights }
with_set a (targets.Directory number path) rights = with_directory a number rights

abbrev pub attributes_after : Attributes → Operation → Attributes
attributes_after a (Creat e file rights) = with_file a rights
attributes_after a (Symlink e file rights target) = with_file a rights
attributes_after a (Mkdir e directory rights) = with_directory a directory rights
attributes_after a (SetAttr target before after) = with_set a target after
attributes_after a _ = a

-- no line of the first version needs them, and none are kept
abbrev pub kept_in : Version → Attributes → Attributes → Attributes
kept_in First before after = before
kept_in _ before after = after

-- the rights of a file, a symbolic link or a directory
abbrev pub rights_at : Attributes → Node → Option Rights
rights_at a (Directory number) = slice_get a.directories number
rights_at a (File kind file) = slice_get a.files file

-- the file or directory at a path, as a chmod and a chown name it
abbrev pub target_of : Node → Path → Target
target_of (Directory number) p = targets.Directory number p
target_of (File kind file) p = targets.File file
