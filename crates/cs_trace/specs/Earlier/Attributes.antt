-- Owner, group and permissions, as before version 4.
use Rattle.std.specs.Prelude.{ℕ, List, [], ◌∷◌, ◌++◌, Option, refl, slice_get, slice_set}
use Rattle.std.specs.Coded.{Coded, code_by, coded×, coded_ℕ, coded_list}
use Rattle.std.specs.FinMap.{FinMap, code, empty, get, insert}
use Rattle.cs_tree_model.specs.Tree.{Path, path_cmp}
use Rattle.cs_trace.specs.Earlier.Node.{Node}
use Rattle.cs_trace.specs.Earlier.Node.{Directory, File}
use Rattle.cs_trace.specs.Earlier.Operation.{Operation}
use Rattle.cs_trace.specs.Earlier.Operation.{Creat, Mkdir, SetAttr}
use Rattle.cs_start.specs.declared.rights.Rights.{Rights}
use Rattle.cs_trace.specs.Earlier.Target.{Target}
use Rattle.cs_trace.specs.Earlier.Target as targets
use Rattle.cs_trace_lines.specs.Earlier.Version.{Version}
use Rattle.cs_trace_lines.specs.Earlier.Version.{First}

-- owner, group and permissions of the last directory at each path
abbrev pub Directories : Type 0
Directories = FinMap path_cmp Rights

abbrev pub rights_code : Coded Rights
rights_code = code_by
    (List ℕ × (List ℕ × ℕ))
    (coded× (coded_list coded_ℕ) (coded× (coded_list coded_ℕ) coded_ℕ))
    (λ r. (r.owner, (r.group, r.permissions)))
    (λ p. record { owner = p.0; group = p.1.0; permissions = p.1.1 })
    (λ _. refl)

abbrev pub directories_code : Coded Directories
directories_code = code (coded_list (coded_list coded_ℕ)) rights_code

-- each file's, by its number, and each directory's, by its path
pub record Attributes : Type 0 where
  pub files : List Rights
  pub directories : Directories

abbrev pub no_attributes : Attributes
no_attributes = record { files = []; directories = empty }

-- a new file has the next number
abbrev pub with_file : Attributes → Rights → Attributes
with_file a rights = record a { files = a.files ++ rights ∷ [] }

abbrev pub with_directory : Attributes → Path → Rights → Attributes
with_directory a p rights = record a { directories = insert a.directories p rights }

-- the attributes with these rights in place of those before
abbrev pub with_set : Attributes → Target → Rights → Attributes
with_set a (targets.File file) rights = record a { files = slice_set a.files file rights }
with_set a (targets.Directory p) rights = with_directory a p rights

abbrev pub attributes_after : Attributes → Operation → Attributes
attributes_after a (Creat p file rights) = with_file a rights
attributes_after a (Mkdir p rights) = with_directory a p rights
attributes_after a (SetAttr target before after) = with_set a target after
attributes_after a _ = a

-- no line of the first version needs them, and none are kept
abbrev pub kept_in : Version → Attributes → Attributes → Attributes
kept_in First before after = before
kept_in _ before after = after

-- those of the file or directory at a path
abbrev pub rights_at : Attributes → Node → Path → Option Rights
rights_at a Directory p = get a.directories p
rights_at a (File file) p = slice_get a.files file

-- the file or directory at a path, as a chmod and a chown name it
abbrev pub target_of : Node → Path → Target
target_of Directory p = targets.Directory p
target_of (File file) p = targets.File file
