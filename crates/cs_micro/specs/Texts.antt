-- What is printed of a micro-operation, and of a trace that isn't broken up.
use Rattle.std.specs.Prelude.{ℕ, ◌/◌, ◌%◌, List, ◌++◌, codes, decimal, length}
use Rattle.cs_names.specs.Paths.{path_text}
use Rattle.cs_entries.specs.declared.node.FileKind.TheVariants.{Regular, Symlink}
use Rattle.cs_entries.specs.declared.node.Node.{Node}
use Rattle.cs_entries.specs.declared.node.Node.TheVariants.{Directory, File}
use Rattle.cs_start.specs.declared.rights.Rights.{Rights}
use Rattle.cs_trace.specs.declared.operation.Target.{Target}
use Rattle.cs_trace.specs.declared.operation.Target.TheVariants as targets
use Rattle.cs_micro.specs.declared.fault.MicroFault.{MicroFault}
use Rattle.cs_micro.specs.declared.fault.MicroFault.TheVariants.{TooMany, Memory}
use Rattle.cs_micro.specs.declared.micro_op.MicroOp.{MicroOp}
use Rattle.cs_micro.specs.declared.micro_op.MicroOp.TheVariants.{CreateDirEntry, DeleteDirEntry}
use Rattle.cs_micro.specs.declared.micro_op.MicroOp.TheVariants.{MoveDirEntry, LinkDirEntry}
use Rattle.cs_micro.specs.declared.micro_op.MicroOp.TheVariants.{ChangeFileSize, WriteBlock}
use Rattle.cs_micro.specs.declared.micro_op.MicroOp.TheVariants.{SetAttr, Say}

abbrev pub kind_text : Node → List ℕ
kind_text (Directory number) = codes "dir"
kind_text (File Regular file) = codes "file"
kind_text (File Symlink file) = codes "symlink"

abbrev pub target_text : Target → List ℕ
target_text (targets.File file) = codes "file " ++ decimal file
target_text (targets.Directory number p) = codes "dir " ++ path_text p

-- permissions as three octal digits
abbrev pub mode_text : ℕ → List ℕ
mode_text permissions =
    decimal (permissions / 64) ++ (decimal (permissions / 8 % 8) ++ decimal (permissions % 8))

abbrev pub rights_text : Rights → List ℕ
rights_text rights =
    mode_text rights.permissions ++ (codes " " ++ (rights.owner ++ (codes " " ++ rights.group)))

-- the kind, and its fields
abbrev pub op_text : MicroOp → List ℕ
op_text (CreateDirEntry e node rights bytes) =
    codes "create_dir_entry " ++ (path_text e.path ++ (codes " " ++ kind_text node))
op_text (DeleteDirEntry e node) = codes "delete_dir_entry " ++ path_text e.path
op_text (MoveDirEntry a b node old) =
    codes "move_dir_entry " ++ (path_text a.path ++ (codes " " ++ path_text b.path))
op_text (LinkDirEntry e kind file old half) =
    codes "link_dir_entry " ++ (path_text e.path ++ (codes " " ++ decimal file))
op_text (ChangeFileSize file to) =
    codes "change_file_size " ++ (decimal file ++ (codes " " ++ decimal to))
op_text (WriteBlock file block start at bytes) =
    codes "write_block "
    ++ (decimal file
    ++ (codes " "
    ++ (decimal block ++ (codes " " ++ (decimal at ++ (codes " " ++ decimal (length bytes)))))))
op_text (SetAttr target rights) =
    codes "set_attr " ++ (target_text target ++ (codes " " ++ rights_text rights))
op_text Say = codes "say"

abbrev pub fault_text : MicroFault → List ℕ
fault_text TooMany = codes "too many micro-operations"
fault_text Memory = codes "out of memory"
