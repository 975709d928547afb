-- What a call that is granted leaves of a run, and its answer.
use Rattle.std.specs.Prelude.{ℕ, ◌==◌, not, ◌&&◌, ◌||◌, Bool, false, if◌then◌else◌, List, [], ◌∷◌}
use Rattle.std.specs.Prelude.{◌++◌, Option, None, Some, is_some, length, option_map, bit_and}
use Rattle.std.specs.Prelude.{bit_or, bit_xor}
use Rattle.std.specs.Option.{option_map_or}
use Rattle.cs_tree_model.specs.declared.change.Change.{Change}
use Rattle.cs_tree_model.specs.declared.change.New.{New}
use Rattle.cs_tree_model.specs.declared.change.Stamp.{Stamp}
use Rattle.cs_tree_model.specs.declared.record.MetadataBuf.{MetadataBuf}
use Rattle.cs_tree_model.specs.Mode.{is_directory_mode}
use Rattle.cs_tree_model.specs.Stores.{tree_with_file, tree_with_change, tree_without_file}
use Rattle.cs_tree_model.specs.Stores.{written_to}
use Rattle.cs_tree_model.specs.Tree.{Tree, content_numbered}
use Rattle.cs_names.specs.declared.rule_id.RuleId.TheVariants.{H2}
use Rattle.cs_permit.specs.declared.call.Call.{Call}
use Rattle.cs_permit.specs.declared.call.Call.TheVariants.{Attach, Walk, Open, Create, Read, Write}
use Rattle.cs_permit.specs.declared.call.Call.TheVariants.{Close, Remove, Stat, Wstat}
use Rattle.cs_permit.specs.declared.call.CloseCall.{CloseCall}
use Rattle.cs_permit.specs.declared.call.CreateCall.{CreateCall}
use Rattle.cs_permit.specs.declared.call.OpenCall.{OpenCall}
use Rattle.cs_permit.specs.declared.call.OpenFile.{OpenFile}
use Rattle.cs_permit.specs.declared.call.RemoveCall.{RemoveCall}
use Rattle.cs_permit.specs.declared.call.StatCall.{StatCall}
use Rattle.cs_permit.specs.declared.call.WriteCall.{WriteCall}
use Rattle.cs_permit.specs.declared.call.WstatCall.{WstatCall}
use Rattle.cs_permit.specs.Calls.{RulesView}
use Rattle.cs_permit.specs.Modes.{removes_on_close, truncates}
use Rattle.cs_permit.specs.Changes.{new_group, new_length, new_mode, new_mtime, new_name}
use Rattle.cs_permit.specs.Rules.{file_at, is_append_only, on_file}
use Rattle.cs_permit.specs.Shown.{qid_at, stat_at}
use Rattle.cs_permit.specs.Writes.{write_start}
use Rattle.cs_run.specs.declared.answer.Answer.{Answer}
use Rattle.cs_run.specs.declared.answer.Answer.TheVariants as a
use Rattle.cs_run.specs.declared.turn.Turn.{Turn}
use Rattle.cs_run.specs.Opens.{open_numbered, opens_without, opens_without_if}
use Rattle.cs_run.specs.Pages.{data_read}
use Rattle.cs_run.specs.Walks.{requested_walk}

-- What a call leaves: the tree, the opens, and what the client is answered.
pub record CallResult : Type 0 where
  pub tree : Tree
  pub opens : List OpenFile
  pub answer : Answer

-- what is left: this tree, these opens, and this answer
abbrev pub call_result : Tree → List OpenFile → Answer → CallResult
call_result tree opens answer = record { tree = tree; opens = opens; answer = answer }

-- the moment of the turn, and the user
abbrev pub stamp : Turn → List ℕ → Stamp
stamp turn user = record { now = turn.moment; user = user }

-- the open that a turn makes
abbrev pub new_open : Turn → ℕ → ℕ → OpenFile
new_open turn number mode = record {
  number = turn.place;
  file = number;
  mode = mode;
  pass = turn.pass;
}

-- ---- open

-- the open's mode has the bit 0x10 (OTRUNC), and the file isn't append-only
abbrev pub truncates_file : Tree → OpenCall → Bool
truncates_file tree call = truncates call.mode && not (on_file tree call.number is_append_only)

-- the change to no bytes, which changes no other field
abbrev pub change_to_no_bytes : Change
change_to_no_bytes =
    record { name = None; length = Some 0; mode = None; group = None; mtime = None }

-- the tree after an open
abbrev pub opened_tree : Tree → Turn → OpenCall → Tree
opened_tree tree turn call =
    if truncates_file tree call
    then tree_with_change call.number change_to_no_bytes (stamp turn call.user) tree
    else tree

-- an open: the file may be emptied, and one open more is there, last. The answer's qid is that of
-- the file after this
unfoldable pub open_effect : Tree → List OpenFile → Turn → OpenCall → CallResult
open_effect tree opens turn call =
    call_result (opened_tree tree turn call) (opens ++ new_open turn call.number call.mode ∷ [])
    (a.Opened (qid_at (opened_tree tree turn call) call.number) turn.place call.number)

-- ---- create

-- the mode of the file of a number, 0 if it is gone
abbrev pub mode_at : Tree → ℕ → ℕ
mode_at tree number = option_map_or (λ file. file.mode) (file_at tree number) 0

-- all bits of a mode but those of the mask
abbrev pub all_but : ℕ → ℕ
all_but mask = bit_xor 0xFFFFFFFF mask

-- perm & (~0777 | (dir & 0777)) of a directory, and the same with 0666 of a file: the directory's
-- mode is a mask, and the high bits are kept
abbrev pub created_mode : ℕ → ℕ → ℕ
created_mode perm dir =
    if is_directory_mode perm
    then bit_and perm (bit_or (all_but 0o777) (bit_and dir 0o777))
    else bit_and perm (bit_or (all_but 0o666) (bit_and dir 0o666))

-- what a new file is made of
abbrev pub requested_new : Tree → CreateCall → New
requested_new tree call = record { mode = created_mode call.perm (mode_at tree call.number) }

-- the tree with the new file
abbrev pub created_tree : Tree → Turn → CreateCall → Tree
created_tree tree turn call =
    tree_with_file call.number call.name (requested_new tree call) (stamp turn call.user) tree

-- a create: the new file takes the next number, and one open more is on it
unfoldable pub create_effect : Tree → List OpenFile → Turn → CreateCall → CallResult
create_effect tree opens turn call =
    call_result (created_tree tree turn call) (opens ++ new_open turn tree.next call.mode ∷ [])
    (a.Opened (qid_at (created_tree tree turn call) tree.next) turn.place tree.next)

-- ---- write

-- a write puts at least one byte, and not into a directory, on which no fid is open for writing
abbrev pub writes : Tree → WriteCall → Bool
writes tree call = not (length call.bytes == 0) && is_some (content_numbered tree call.number)

-- the tree with the bytes of a write
abbrev pub written_tree : Tree → Turn → WriteCall → Tree
written_tree tree turn call =
    if writes tree call
    then written_to call.number (write_start tree call) call.bytes (stamp turn call.user) tree
    else tree

-- a write answers how many bytes it has
unfoldable pub write_effect : Tree → List OpenFile → Turn → WriteCall → CallResult
write_effect tree opens turn call =
    call_result (written_tree tree turn call) opens (a.Written (length call.bytes))

-- ---- close and remove

-- the file of an open must be removed: it is still there, and the open's mode says so; no
-- directory is opened so
abbrev pub removes_file : Tree → Option OpenFile → Bool
removes_file tree None = false
removes_file tree (Some o) = is_some (content_numbered tree o.file) && removes_on_close o.mode

-- the tree without the file of an open that asks for its removal
abbrev pub closed_tree : Tree → Turn → List ℕ → Option OpenFile → Tree
closed_tree tree turn user None = tree
closed_tree tree turn user (Some o) =
    if removes_file tree (Some o) then tree_without_file o.file (stamp turn user) tree else tree

-- a close ends its open, if there is one, and may remove its file
unfoldable pub close_effect : Tree → List OpenFile → Turn → CloseCall → CallResult
close_effect tree opens turn call =
    call_result (closed_tree tree turn call.user (open_numbered call.open_number turn.pass opens))
    (opens_without call.open_number turn.pass opens) a.Closed

-- a remove removes the file, and ends the open of its fid, if the fid is open
unfoldable pub remove_effect : Tree → List OpenFile → Turn → RemoveCall → CallResult
remove_effect tree opens turn call =
    call_result (tree_without_file call.number (stamp turn call.user) tree)
    (opens_without_if call.open_number turn.pass opens) a.Removed

-- ---- wstat

-- the fields that a wstat changes, each with its new value
abbrev pub change_of : Tree → WstatCall → MetadataBuf → Change
change_of tree call file = record {
  name = new_name tree call;
  length = new_length call file;
  mode = new_mode call file;
  group = new_group call file;
  mtime = new_mtime call file;
}

-- the change that a wstat asks for, if its file is there
abbrev pub requested_change : Tree → WstatCall → Option Change
requested_change tree call = option_map (change_of tree call) (file_at tree call.number)

-- a change names a field
abbrev pub changes_some : Change → Bool
changes_some change =
    is_some change.name || is_some change.length || is_some change.mode || is_some change.group
    || is_some change.mtime

-- the tree after a change, if that names a field
abbrev pub changed_by : Tree → Turn → WstatCall → Change → Tree
changed_by tree turn call change =
    if changes_some change then tree_with_change call.number change (stamp turn call.user) tree
    else tree

-- the tree with all fields that a wstat changes, in one change
abbrev pub changed_tree : Tree → Turn → WstatCall → Tree
changed_tree tree turn call =
    option_map_or (changed_by tree turn call) (requested_change tree call) tree

-- a wstat changes the file
unfoldable pub wstat_effect : Tree → List OpenFile → Turn → WstatCall → CallResult
wstat_effect tree opens turn call = call_result (changed_tree tree turn call) opens a.Changed

-- ---- calls that change nothing

-- what a stat says of the file; nothing of one that is gone
abbrev pub stat_answer : Tree → StatCall → Answer
stat_answer tree call = option_map_or a.Stat (stat_at tree call.number) (a.Denied H2)

-- ---- every call

-- what each call leaves that is granted
abbrev pub effect_of : RulesView → Turn → Call → CallResult
effect_of view turn (Attach call) =
    call_result view.tree view.opens (a.Attached (qid_at view.tree 0))
effect_of view turn (Walk call) =
    call_result view.tree view.opens (a.Walked (requested_walk view.tree view.users call))
effect_of view turn (Open call) = open_effect view.tree view.opens turn call
effect_of view turn (Create call) = create_effect view.tree view.opens turn call
effect_of view turn (Read call) =
    call_result view.tree view.opens (a.Data (data_read view.tree call))
effect_of view turn (Write call) = write_effect view.tree view.opens turn call
effect_of view turn (Close call) = close_effect view.tree view.opens turn call
effect_of view turn (Remove call) = remove_effect view.tree view.opens turn call
effect_of view turn (Stat call) = call_result view.tree view.opens (stat_answer view.tree call)
effect_of view turn (Wstat call) = wstat_effect view.tree view.opens turn call
