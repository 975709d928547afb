-- What the parts of a line that is read say.
use Rattle.std.specs.String.{string_bytes}
use Rattle.cs_trace_lines.specs.Lines as said
use Rattle.cs_trace_lines.specs.Lines.{Change, StartContent, StartLine, OperationLine, Line}
use Rattle.cs_trace_lines.specs.Values.{Claims}
use Rattle.cs_trace_lines.specs.declared.line.Change.{Change as ReadChange}
use Rattle.cs_trace_lines.specs.declared.line.Change.TheVariants as change
use Rattle.cs_trace_lines.specs.declared.line.Claims.{Claims as ReadClaims}
use Rattle.cs_trace_lines.specs.declared.line.StartContent.{StartContent as ReadContent}
use Rattle.cs_trace_lines.specs.declared.line.StartContent.TheVariants as content
use Rattle.cs_trace_lines.specs.declared.line.StartLine.{StartLine as ReadStart}
use Rattle.cs_trace_lines.specs.declared.line.OperationLine.{OperationLine as ReadOperation}
use Rattle.cs_trace_lines.specs.declared.line.OperationLine.TheVariants as operation
use Rattle.cs_trace_lines.specs.declared.line.Line.{Line as ReadLine}
use Rattle.cs_trace_lines.specs.declared.line.Line.TheVariants as line

abbrev pub claims_of : ReadClaims → Claims
claims_of c = record {
  owner = string_bytes c.owner;
  group = string_bytes c.group;
  permissions = c.permissions;
}

abbrev pub content_of : ReadContent → StartContent
content_of content.Directory = said.OfDirectory
content_of (content.File bytes) = said.OfFile bytes
content_of (content.Symlink target) = said.OfSymlink (string_bytes target)

abbrev pub start_of : ReadStart → StartLine
start_of s = record {
  path = string_bytes s.path;
  claims = claims_of s.claims;
  content = content_of s.content;
}

abbrev pub change_value : ReadChange → Change
change_value (change.Mode permissions) = said.Mode permissions
change_value (change.Owner owner group) = said.Owner (string_bytes owner) (string_bytes group)

abbrev pub operation_value : ReadOperation → OperationLine
operation_value (operation.Creat path claims) = said.Creat (string_bytes path) (claims_of claims)
operation_value (operation.Mkdir path claims) = said.Mkdir (string_bytes path) (claims_of claims)
operation_value (operation.Symlink path claims target) =
    said.Symlink (string_bytes path) (claims_of claims) (string_bytes target)
operation_value (operation.Unlink path) = said.Unlink (string_bytes path)
operation_value (operation.Rmdir path) = said.Rmdir (string_bytes path)
operation_value (operation.Rename from to) = said.Rename (string_bytes from) (string_bytes to)
operation_value (operation.Link from to) = said.Link (string_bytes from) (string_bytes to)
operation_value (operation.Write path offset bytes) =
    said.Write (string_bytes path) offset bytes.items
operation_value (operation.Truncate path size) = said.Truncate (string_bytes path) size
operation_value (operation.SetAttr path change) =
    said.SetAttr (string_bytes path) (change_value change)
operation_value (operation.Fsync path) = said.Fsync (string_bytes path)
operation_value (operation.Fdatasync path) = said.Fdatasync (string_bytes path)
operation_value (operation.FsyncRange path offset length) =
    said.FsyncRange (string_bytes path) offset length
operation_value operation.Sync = said.Sync
operation_value (operation.Say text) = said.Say (string_bytes text)

abbrev pub line_value : ReadLine → Line
line_value (line.Header version claims) = said.Header version (claims_of claims)
line_value (line.Start start) = said.Start (start_of start)
line_value (line.StartLink path from) = said.StartLink (string_bytes path) (string_bytes from)
line_value (line.Operation o) = said.Operation (operation_value o)
line_value line.UnknownStart = said.UnknownStart
line_value line.UnknownOperation = said.UnknownOperation
