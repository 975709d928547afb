-- What sets the owner, group and permissions of a directory: its making, and what sets them later.
use Rattle.std.proofs.Common.{◌≡◌, ℕ, ◌<◌, true, false, cond, inl, inr, refl, sym, ap, ◌∙◌}
use Rattle.std.proofs.lemmas.Bool.{false≢true, eqb-true}
use Rattle.cs_entries.specs.declared.node.Node.TheVariants.{Directory, File}
use Rattle.cs_start.specs.declared.rights.Rights.{Rights}
use Rattle.cs_trace.specs.declared.operation.Target.TheVariants as targets
use Rattle.cs_trace_lines.specs.Versions.{profile_of}
use Rattle.cs_micro.specs.declared.micro_op.MicroOp.{MicroOp}
use Rattle.cs_micro.specs.declared.micro_op.MicroOp.TheVariants.{CreateDirEntry, DeleteDirEntry, MoveDirEntry, LinkDirEntry, ChangeFileSize}
use Rattle.cs_micro.specs.declared.micro_op.MicroOp.TheVariants.{WriteBlock, SetAttr, Say}
use Rattle.cs_micro.specs.Micros.{Micros}
use Rattle.cs_apm.specs.Laws.Reasons.{needs_exactly}
use Rattle.cs_apm.specs.Orders.{needs_of}
use Rattle.cs_apm.specs.Owners.{directory_after}
use Rattle.cs_apm.specs.Reasons.{Settles, settles_one_directory}
use Rattle.cs_apm.specs.Rules.{op_at}
use Rattle.cs_state.specs.Owners.{sets_directory}
use Rattle.cs_state.proofs.Lasting.{IsSaidBy}

settling : (o : MicroOp) (n : ℕ) → sets_directory n o ≡ true → Settles o n
settling (CreateDirEntry e (Directory d) rights bytes) n is =
    inl (inl (e, rights, bytes, ap (λ c. CreateDirEntry e (Directory c) rights bytes) (eqb-true d n is)))
settling (CreateDirEntry e (File kind file) rights bytes) n is = absurd (false≢true is)
settling (DeleteDirEntry e node) n is = absurd (false≢true is)
settling (MoveDirEntry a b node old) n is = absurd (false≢true is)
settling (LinkDirEntry e kind file old half) n is = absurd (false≢true is)
settling (ChangeFileSize file to) n is = absurd (false≢true is)
settling (WriteBlock file block start at bytes) n is = absurd (false≢true is)
settling (SetAttr (targets.Directory d path) rights) n is =
    inr (path, rights, ap (λ c. SetAttr (targets.Directory c path) rights) (eqb-true d n is))
settling (SetAttr (targets.File file) rights) n is = absurd (false≢true is)
settling Say n is = absurd (false≢true is)

-- of two, the second needs the first
pub directory_needed : (micros : Micros) (directory j k : ℕ) → j < k → sets_directory directory (op_at micros.ops j) ≡ true
    → sets_directory directory (op_at micros.ops k) ≡ true → needs_of micros j k ≡ true
directory_needed micros directory j k before first second =
    (needs_exactly micros.ops micros.syncs micros.version (profile_of micros.version) j k).1
    (record {
      before = before;
      reason = settles_one_directory directory (settling (op_at micros.ops j) directory first)
          (settling (op_at micros.ops k) directory second);
    })

unset : (n : ℕ) (owner : Rights) (o : MicroOp) → sets_directory n o ≡ false → directory_after n owner o ≡ owner
unset n owner (CreateDirEntry e (Directory d) rights bytes) is = ap (λ b. cond b rights owner) is
unset n owner (CreateDirEntry e (File kind file) rights bytes) is = refl
unset n owner (DeleteDirEntry e node) is = refl
unset n owner (MoveDirEntry a b node old) is = refl
unset n owner (LinkDirEntry e kind file old half) is = refl
unset n owner (ChangeFileSize file to) is = refl
unset n owner (WriteBlock file block start at bytes) is = refl
unset n owner (SetAttr (targets.Directory d path) rights) is = ap (λ b. cond b rights owner) is
unset n owner (SetAttr (targets.File file) rights) is = refl
unset n owner Say is = refl

any_owner : (n : ℕ) (owner other : Rights) (o : MicroOp) → sets_directory n o ≡ true
    → directory_after n owner o ≡ directory_after n other o
any_owner n owner other (CreateDirEntry e (Directory d) rights bytes) is =
    ap (λ b. cond b rights owner) is ∙ sym (ap (λ b. cond b rights other) is)
any_owner n owner other (CreateDirEntry e (File kind file) rights bytes) is = absurd (false≢true is)
any_owner n owner other (DeleteDirEntry e node) is = absurd (false≢true is)
any_owner n owner other (MoveDirEntry a b node old) is = absurd (false≢true is)
any_owner n owner other (LinkDirEntry e kind file old half) is = absurd (false≢true is)
any_owner n owner other (ChangeFileSize file to) is = absurd (false≢true is)
any_owner n owner other (WriteBlock file block start at bytes) is = absurd (false≢true is)
any_owner n owner other (SetAttr (targets.Directory d path) rights) is =
    ap (λ b. cond b rights owner) is ∙ sym (ap (λ b. cond b rights other) is)
any_owner n owner other (SetAttr (targets.File file) rights) is = absurd (false≢true is)
any_owner n owner other Say is = absurd (false≢true is)

-- the last of them says all
pub directory_says : (n : ℕ) → IsSaidBy Rights (directory_after n) (sets_directory n)
directory_says n = record { kept = unset n; said = any_owner n }
