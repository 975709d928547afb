-- The steps of a rename onto a name that is taken: for each reply the next request, or the client's
-- reply.
use Rattle.std.specs.Prelude.{◌≡◌, ◌⊎◌, ℕ, ◌-◌, ◌==◌, ◌&&◌, Bool, false, if◌then◌else◌, Option}
use Rattle.std.specs.Prelude.{Some, None, List, [], ◌∷◌, length, nat_eq, slice_get, MatchBool, Vec}
use Rattle.std.specs.Cmp.Lexicographic.{pointwise}
use Rattle.std.specs.Global.{Global}
use Rattle.std.specs.String.{string_bytes}
use Rattle.std.specs.Cow.{cow_str_bytes}
use Rattle.cs_names.specs.declared.rule_id.RuleId.TheVariants.{Q7}
use Rattle.cs_names.specs.Rules.{text_of}
use Rattle.cs_wire.specs.declared.message.Qid.{Qid}
use Rattle.cs_wire.specs.declared.message.RBody.{RBody}
use Rattle.cs_wire.specs.declared.message.RBody.TheVariants as r
use Rattle.cs_wire.specs.declared.message.RMessage.{RMessage}
use Rattle.cs_wire.specs.declared.message.TBody.{TBody}
use Rattle.cs_wire.specs.declared.message.TBody.TheVariants as t
use Rattle.cs_wire.specs.declared.message.TMessage.{TMessage}
use Rattle.cs_wire.specs.Messages.{Message, requests, stat_of, t_view}
use Rattle.cs_linux.specs.declared.rename.File.{File}
use Rattle.cs_linux.specs.declared.rename.Rename.{Rename}
use Rattle.cs_linux.specs.declared.rename.Renaming.{Renaming}
use Rattle.cs_linux.specs.declared.rename.Renaming.TheVariants as at
use Rattle.cs_linux.specs.declared.rename.Step.{Step}
use Rattle.cs_linux.specs.declared.rename.Step.TheVariants.{Ask, Answer}
use Rattle.cs_linux.specs.Requests.{asks_name_alone, dot, is_directory, tclunk, tremove, tstat}
use Rattle.cs_linux.specs.Requests.{twalk, twstat}

-- the server gets this request, and the rename continues in this state
abbrev pub Asks : Step → Renaming → Message requests → Type 0
Asks step renaming asked = (m : TMessage) × (step ≡ Ask renaming m) × (t_view m ≡ asked)

-- the client gets the refusal of its own request: nothing was changed
abbrev pub Refuses : Step → Rename → Type 0
Refuses step rename = step ≡ Answer rename.refusal

-- the server gets this request, or the rename stays refused because memory ran out
abbrev pub MayAsk : Step → Rename → Renaming → Message requests → Type 0
MayAsk step rename renaming asked = Asks step renaming asked ⊎ Refuses step rename

-- the reply says that a name is taken
abbrev pub is_taken : RBody → Bool
is_taken (r.Error ename) = pointwise nat_eq (cow_str_bytes ename) (text_of Q7)
is_taken other = false

-- a request for only a new name that was refused so begins a rename, and any other reply is the
-- client's
abbrev pub Begins : Step → ℕ → TBody → RMessage → Vec ℕ Global → Type 0
Begins step tag (t.Wstat fid stat) reply directories =
    MatchBool (is_taken reply.body && asks_name_alone (stat_of stat))
    (Asks step (at.Source (record {
      tag = tag;
      fid = fid;
      stat = stat;
      refusal = reply;
      directories = directories;
    })) (tstat tag fid))
    (step ≡ Answer reply)
Begins step tag other reply directories = step ≡ Answer reply

-- an error is what the client is answered
abbrev pub Ends : Step → Rename → RMessage → RBody → Type 0
Ends step rename reply (r.Error ename) = step ≡ Answer reply
Ends step rename reply other = Refuses step rename

-- the last fid that wasn't tried yet: the last of the first so many
abbrev pub last_untried : List ℕ → ℕ → Option ℕ
last_untried fids left = if left == 0 then None else slice_get fids (left - 1)

-- that fid is asked whether it has the file: by a walk to the file's name, and no further
abbrev pub TriesFid : Step → Rename → File → ℕ → Option ℕ → Type 0
TriesFid step rename file left (Some directory) =
    MayAsk step rename (at.Directory rename file directory (left - 1))
    (twalk rename.tag directory (string_bytes file.name ∷ dot ∷ []))
TriesFid step rename file left None = Refuses step rename

-- of the first so many fids the last is tried; if there is none the rename stays refused
abbrev pub Tries : Step → Rename → File → ℕ → Type 0
Tries step rename file left =
    TriesFid step rename file left (last_untried rename.directories.items left)

-- the walk found the file of that number, and no more
abbrev pub came_to : ℕ → List Qid → Bool
came_to number (qid ∷ []) = qid.path == number
came_to number others = false

-- the file was shown: its directory is looked for, unless it is a directory itself
abbrev pub AfterSource : Step → Rename → RMessage → RBody → Type 0
AfterSource step rename reply (r.Stat stat) =
    MatchBool (is_directory stat.qid)
    (Refuses step rename)
    (Tries step rename (record {
      name = stat.name;
      number = stat.qid.path;
    }) (length rename.directories.items))
AfterSource step rename reply other = Ends step rename reply other

-- a directory was asked for the file: if it has it, the new name is looked for there, else another
-- directory is tried
abbrev pub AfterDirectory : Step → Rename → File → ℕ → ℕ → RBody → Type 0
AfterDirectory step rename file directory left (r.Walk wqid) =
    MatchBool (came_to file.number wqid.items)
    (MayAsk step rename (at.Target rename)
    (twalk rename.tag directory (string_bytes rename.stat.name ∷ [])))
    (Tries step rename file left)
AfterDirectory step rename file directory left other = Tries step rename file left

-- the walk found these files at the new name: a directory's fid is released, and a file is removed
abbrev pub FreesTarget : Step → Rename → List Qid → Type 0
FreesTarget step rename (qid ∷ []) =
    MatchBool (is_directory qid)
    (Asks step (at.Release rename) (tclunk rename.tag))
    (Asks step (at.Removal rename) (tremove rename.tag))
FreesTarget step rename others = Refuses step rename

-- the new name was looked for
abbrev pub AfterTarget : Step → Rename → RMessage → RBody → Type 0
AfterTarget step rename reply (r.Walk wqid) = FreesTarget step rename wqid.items
AfterTarget step rename reply other = Ends step rename reply other

-- it was removed: the rename is asked for again
abbrev pub AfterRemoval : Step → Rename → RMessage → RBody → Type 0
AfterRemoval step rename reply r.Remove =
    Asks step at.Again (twstat rename.tag rename.fid (stat_of rename.stat))
AfterRemoval step rename reply other = Ends step rename reply other

-- The step after a reply.
abbrev pub Follows : Renaming → RMessage → Step → Type 0
Follows (at.Source rename) reply step = AfterSource step rename reply reply.body
Follows (at.Directory rename file directory left) reply step =
    AfterDirectory step rename file directory left reply.body
Follows (at.Target rename) reply step = AfterTarget step rename reply reply.body
Follows (at.Removal rename) reply step = AfterRemoval step rename reply reply.body
Follows at.Again reply step = step ≡ Answer reply
Follows (at.Release rename) reply step = Refuses step rename
