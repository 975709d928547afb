use Rattle.std.proofs.Common.{ap, ◌∙◌}
use Rattle.cs_entries.specs.Directories.{entries_in}
use Rattle.cs_entries.proofs.Nothing.{pushed}
use Rattle.cs_entries.proofs.changes.grow.Goals as goal

pub maps-preserved : goal.maps-preserved
maps-preserved c = λ e.
    ap (λ ds. entries_in ds e) c.in_ok-push.ensures.items
    ∙ pushed c.maps.directories.items c.new.result c.new.ensures.len e ∙ c.maps.invariant e
