use Rattle.std.proofs.Common.{◌≡◌, ℕ, true, Some, length}
use Rattle.std.specs.Prelude.{slice_get}
use Rattle.cs_apm.specs.Atlases.{content_before}
use Rattle.cs_state.specs.Steps.{AreFileSteps}
use Rattle.cs_state.specs.declared.file_steps.FileSteps.{FileSteps}
use Rattle.cs_state.proofs.file_steps.all_steps.Given as goal

abbrev pub invariant-loop-file : goal.invariant-loop-file
invariant-loop-file l = record {
  long : length l.all.items ≡ l.file;
  each : (file : ℕ) (steps : FileSteps) → slice_get l.all.items file ≡ Some steps → slice_get l.tables.changed.items file ≡ Some true
      → AreFileSteps file (length (content_before l.trace l.ops file).bytes) l.ops steps;
}
