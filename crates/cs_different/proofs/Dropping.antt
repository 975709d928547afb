-- What micro-operations don't change.
use Rattle.std.proofs.Common.{◌≡◌, ℕ, ◌==◌, Bool, true, false, cond, List, Option, None, Some, refl, ap, ◌∙◌}
use Rattle.std.proofs.lemmas.Bool.{eq-eqb, eqb-true, false≢true}
use Rattle.cs_start.specs.declared.rights.Rights.{Rights}
use Rattle.cs_trace.specs.declared.operation.Target.TheVariants as targets
use Rattle.cs_micro.specs.declared.micro_op.MicroOp.{MicroOp}
use Rattle.cs_micro.specs.declared.micro_op.MicroOp.TheVariants.{CreateDirEntry, DeleteDirEntry, MoveDirEntry, LinkDirEntry, ChangeFileSize}
use Rattle.cs_micro.specs.declared.micro_op.MicroOp.TheVariants.{WriteBlock, SetAttr, Say}
use Rattle.cs_apm.specs.Contents.{changes_file}
use Rattle.cs_apm.specs.Owners.{owner_after}
use Rattle.cs_entries.specs.Tables.{Table}
use Rattle.cs_apm.specs.States.{directories_after, entries_after}
use Rattle.cs_plan.specs.Scenes.{is_say}
use Rattle.cs_same_states.specs.Reaching.{changed_file}
use Rattle.cs_different.specs.Wants.{makes}

number_of : Option ℕ → ℕ → ℕ
number_of None d = d
number_of (Some n) d = n

pub number_is : (a b : ℕ) → Some a ≡ Some b → a ≡ b
unfolding number_of
number_is a b e = ap (λ o. number_of o a) e

-- what changes a file changes no entry
pub idle_entries : (o : MicroOp) (n : ℕ) → changed_file o ≡ Some n → (m : Table) → entries_after m o ≡ m
idle_entries (ChangeFileSize file size) n e m = refl
idle_entries (WriteBlock file block start at bytes) n e m = refl
idle_entries (SetAttr (targets.File file) rights) n e m = refl
idle_entries (SetAttr (targets.Directory d path) rights) n e m = absurd (cc e)
idle_entries (CreateDirEntry g node rights bytes) n e m = absurd (cc e)
idle_entries (DeleteDirEntry g node) n e m = absurd (cc e)
idle_entries (MoveDirEntry a b node old) n e m = absurd (cc e)
idle_entries (LinkDirEntry g kind file old half) n e m = absurd (cc e)
idle_entries Say n e m = absurd (cc e)

-- and sets the owner, group and permissions of no directory
pub idle_directories : (o : MicroOp) (n : ℕ) → changed_file o ≡ Some n → (all : List Rights) → directories_after all o ≡ all
idle_directories (ChangeFileSize file size) n e all = refl
idle_directories (WriteBlock file block start at bytes) n e all = refl
idle_directories (SetAttr (targets.File file) rights) n e all = refl
idle_directories (SetAttr (targets.Directory d path) rights) n e all = absurd (cc e)
idle_directories (CreateDirEntry f node rights bytes) n e all = absurd (cc e)
idle_directories (DeleteDirEntry f node) n e all = absurd (cc e)
idle_directories (MoveDirEntry a b node old) n e all = absurd (cc e)
idle_directories (LinkDirEntry f kind file old half) n e all = absurd (cc e)
idle_directories Say n e all = absurd (cc e)

pub idle_say : (o : MicroOp) (n : ℕ) → changed_file o ≡ Some n → is_say o ≡ false
idle_say (ChangeFileSize file size) n e = refl
idle_say (WriteBlock file block start at bytes) n e = refl
idle_say (SetAttr target rights) n e = refl
idle_say (CreateDirEntry g node rights bytes) n e = refl
idle_say (DeleteDirEntry g node) n e = refl
idle_say (MoveDirEntry a b node old) n e = refl
idle_say (LinkDirEntry g kind file old half) n e = refl
idle_say Say n e = absurd (cc e)

-- what makes a file changes none
pub maker_idle : (o : MicroOp) (f n : ℕ) → makes f o ≡ true → changed_file o ≡ Some n → ⊥
maker_idle (CreateDirEntry g node rights bytes) f n t e = cc e
maker_idle (DeleteDirEntry g node) f n t e = cc e
maker_idle (MoveDirEntry a b node old) f n t e = cc e
maker_idle (LinkDirEntry g kind file old half) f n t e = cc e
maker_idle (ChangeFileSize file size) f n t e = false≢true t
maker_idle (WriteBlock file block start at bytes) f n t e = false≢true t
maker_idle (SetAttr target rights) f n t e = false≢true t
maker_idle Say f n t e = cc e

pub changes_changed : (o : MicroOp) (n : ℕ) → changes_file n o ≡ true → changed_file o ≡ Some n
changes_changed (ChangeFileSize file size) n t = ap Some (eqb-true file n t)
changes_changed (WriteBlock file block start at bytes) n t = ap Some (eqb-true file n t)
changes_changed (SetAttr target rights) n t = absurd (false≢true t)
changes_changed (CreateDirEntry g node rights bytes) n t = absurd (false≢true t)
changes_changed (DeleteDirEntry g node) n t = absurd (false≢true t)
changes_changed (MoveDirEntry a b node old) n t = absurd (false≢true t)
changes_changed (LinkDirEntry g kind file old half) n t = absurd (false≢true t)
changes_changed Say n t = absurd (false≢true t)

pub changes_own : (o : MicroOp) (n block start at : ℕ) (bytes : List ℕ) → o ≡ WriteBlock n block start at bytes → changes_file n o ≡ true
changes_own o n block start at bytes e = ap (changes_file n) e ∙ eq-eqb n n refl

-- a write sets no owner
pub idle_owner : (o : MicroOp) (n : ℕ) → (changed_file o ≡ Some n
    → (block start at : ℕ) × (bytes : List ℕ) × (o ≡ WriteBlock n block start at bytes))
    → (r : Rights) → owner_after n r o ≡ r
idle_owner (SetAttr (targets.File file) rights) n writes r = by (file == n) refl
  where
    by : (b : Bool) → (file == n) ≡ b → cond b rights r ≡ r
    by false e = refl
    by true e = (let w = writes (ap Some (eqb-true file n e)) in let q = w.4 in absurd (cc q))
idle_owner (SetAttr (targets.Directory d path) rights) n writes r = refl
idle_owner (ChangeFileSize file size) n writes r = refl
idle_owner (WriteBlock file block start at bytes) n writes r = refl
idle_owner (CreateDirEntry g node rights bytes) n writes r = refl
idle_owner (DeleteDirEntry g node) n writes r = refl
idle_owner (MoveDirEntry a b node old) n writes r = refl
idle_owner (LinkDirEntry g kind file old half) n writes r = refl
idle_owner Say n writes r = refl
