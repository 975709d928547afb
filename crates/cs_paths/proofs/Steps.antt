-- What steps put where, by the micro-operations that they are of.
use Rattle.std.proofs.Common.{◌≡◌, ℕ, true, List, Option, Some, refl, sym, ap, ◌∙◌, subst, IfSome, suc, [], ◌∷◌, length}
use Rattle.std.proofs.lemmas.Bool.{false≢true}
use Rattle.cs_entries.specs.declared.entry.Entry.{Entry}
use Rattle.cs_entries.specs.declared.node.Node.{Node}
use Rattle.cs_entries.specs.declared.node.Node.TheVariants.{Directory, File}
use Rattle.cs_entries.specs.DirEntries.{entry_of}
use Rattle.cs_entries.specs.Entries.{EntryOp, MovesDirectory}
use Rattle.cs_entries.specs.Entries as entry
use Rattle.cs_entries.specs.Laws.Listed.{node_of}
use Rattle.cs_entries.specs.Laws.One.{no_directory, no_node}
use Rattle.cs_entries.specs.Rules.{moves_directory}
use Rattle.cs_micro.specs.Legal.{entry_op}
use Rattle.cs_micro.specs.declared.micro_op.MicroOp.{MicroOp}
use Rattle.cs_micro.specs.declared.micro_op.MicroOp.TheVariants.{CreateDirEntry, DeleteDirEntry}
use Rattle.cs_micro.specs.declared.micro_op.MicroOp.TheVariants.{MoveDirEntry, LinkDirEntry}
use Rattle.cs_micro.specs.declared.micro_op.MicroOp.TheVariants.{ChangeFileSize, WriteBlock}
use Rattle.cs_micro.specs.declared.micro_op.MicroOp.TheVariants.{SetAttr, Say}
use Rattle.cs_apm.specs.Slots.{AreSteps, IsKnownStep, IsStep}
use Rattle.cs_apm.specs.declared.slot.Step.{Step}
use Rattle.cs_apm.specs.declared.slot.Step.TheVariants.{Set, Move, Other}
use Rattle.cs_paths.specs.PathOrders.{moved_directory}
use Rattle.cs_paths.proofs.Homes.{SetsLow, StepFits}

-- a step puts a directory at the entry at which its micro-operation makes it
pub step_fits : (entries : List Entry) (May : ℕ → Entry → Type 0) (o : MicroOp) (s : Step) → IsStep entries o s
    → ((e : Entry) (c : ℕ) → entry_op o ≡ entry.Create e (Directory c) → May c e) → StepFits entries May s
step_fits entries May (CreateDirEntry e node rights bytes) (Set i s) is may = λ c here.
    subst (May c) (sym is.0.1)
    (may (entry_of e) c (ap (entry.Create (entry_of e)) (node_of node (Directory c) (sym is.1 ∙ here))))
step_fits entries May (DeleteDirEntry e node) (Set i s) is may = λ c here.
    absurd (no_node (Directory c) (sym is.1 ∙ here))
step_fits entries May (LinkDirEntry e kind file old half) (Set i s) is may = λ c here.
    absurd (no_directory kind file c (sym is.1 ∙ here))
step_fits entries May (MoveDirEntry a b node old) (Move i j) is may = tt
step_fits entries May (ChangeFileSize file to) Other is may = tt
step_fits entries May (WriteBlock file block start at bytes) Other is may = tt
step_fits entries May (SetAttr target rights) Other is may = tt
step_fits entries May Say Other is may = tt
step_fits entries May o s is may = absurd is

-- the place at which a directory is made
pub record IsMade (entries : List Entry) (s : Step) (e : Entry) (d : ℕ) : Type 0 where
  pub place : ℕ
  pub step : s ≡ Set place (Some (Directory d))

pub made_step : (entries : List Entry) (o : MicroOp) (s : Step) (e : Entry) (d : ℕ) → IsStep entries o s
    → entry_op o ≡ entry.Create e (Directory d) → IsMade entries s e d
made_step entries (CreateDirEntry f node rights bytes) (Set i s) e d is here =
    let same : node ≡ Directory d = cc in record {
      place = i;
      step = ap (Set i) (is.1 ∙ ap Some same);
    }
made_step entries (DeleteDirEntry f node) s e d is here = absurd (cc)
made_step entries (LinkDirEntry f kind file old half) s e d is here = absurd (cc)
made_step entries (MoveDirEntry a b node old) s e d is here = absurd (cc)
made_step entries (ChangeFileSize file to) s e d is here = absurd (cc)
made_step entries (WriteBlock file block start at bytes) s e d is here = absurd (cc)
made_step entries (SetAttr target rights) s e d is here = absurd (cc)
made_step entries Say s e d is here = absurd (cc)
made_step entries o s e d is here = absurd is

-- what a step puts is put at a place in range
pub sets_low : (n directories files : ℕ) (s : Step) → IsKnownStep n directories files s → SetsLow n s
sets_low n directories files (Set i s) is = is.0
sets_low n directories files (Move i j) is = is.1
sets_low n directories files Other is = tt

-- the directory that is moved, from the entry's move
pub moved_by : (P : ℕ → Type 0) (o : MicroOp)
    → ((a b : Entry) (c : ℕ) (old : Option Node) → entry_op o ≡ entry.Move a b (Directory c) old → P c)
    → IfSome (moved_directory o) P
moved_by P (MoveDirEntry a b (Directory c) old) each = each (entry_of a) (entry_of b) c old refl
moved_by P (MoveDirEntry a b (File kind file) old) each = tt
moved_by P (CreateDirEntry e node rights bytes) each = tt
moved_by P (DeleteDirEntry e node) each = tt
moved_by P (LinkDirEntry e kind file old half) each = tt
moved_by P (ChangeFileSize file to) each = tt
moved_by P (WriteBlock file block start at bytes) each = tt
moved_by P (SetAttr target rights) each = tt
moved_by P Say each = tt

pub moves_is : (o : EntryOp) → moves_directory o ≡ true → MovesDirectory o
moves_is (entry.Move a b (Directory c) old) is = tt
moves_is (entry.Move a b (File kind file) old) is = absurd (false≢true is)
moves_is (entry.Create e node) is = absurd (false≢true is)
moves_is (entry.Link e kind file) is = absurd (false≢true is)
moves_is (entry.Delete e node) is = absurd (false≢true is)
moves_is entry.Other is = absurd (false≢true is)

-- there is a step of each micro-operation
pub steps_long : (entries : List Entry) (ops : List MicroOp) (steps : List Step) → AreSteps entries ops steps
    → length steps ≡ length ops
steps_long entries [] [] are = refl
steps_long entries [] (s ∷ steps) are = absurd are
steps_long entries (o ∷ ops) [] are = absurd are
steps_long entries (o ∷ ops) (s ∷ steps) are = ap suc (steps_long entries ops steps are.1)
