use Rattle.std.proofs.Common.{◌≡◌, ◌≤◌, ◌<◌, ◌+◌, ◌*◌, ℕ, length, get_or}
use Rattle.cs_state.specs.declared.file_steps.TheConstants.{PAGE_BYTES}
use Rattle.cs_apm.specs.States.{Content}
use Rattle.cs_state.specs.Steps.{row_at, struck_by, AgreeIn}
use Rattle.cs_state.specs.Windows.{byte_of, whole_content}
use Rattle.cs_state.proofs.bytes.part_left.Given as goal

abbrev pub invariant-loop-page : goal.invariant-loop-page
invariant-loop-page l = record {
  long : length l.part.items ≡ l.count;
  done : (g : Content) → ((page : ℕ) → AgreeIn page (struck_by l.ops l.members (whole_content l.start) (row_at l.steps page)) g)
      → (k : ℕ) → k < l.count → l.offset + k < l.page * PAGE_BYTES → get_or l.part.items k 0 ≡ byte_of g (l.offset + k);
  rest : (k : ℕ) → k < l.count → l.page * PAGE_BYTES ≤ l.offset + k
      → get_or l.part.items k 0 ≡ byte_of (whole_content l.start) (l.offset + k);
}
