-- The changes of files that a crash may lose.
use Rattle.std.specs.Prelude.{ℕ, ◌-◌, if◌then◌else◌, List, map, Option, None}
use Rattle.cs_micro.specs.declared.micro_op.MicroOp.{MicroOp}
use Rattle.cs_micro.specs.declared.sync_point.SyncPoint.{SyncPoint}
use Rattle.cs_apm.specs.Rules as rules
use Rattle.cs_plan.specs.Plans.{places_below}
use Rattle.cs_same_states.specs.Reaching.{changed_file}

-- the file whose change at the place is lost, unless a sync point that covers the change comes
-- before the last operation
abbrev pub lost_at : List MicroOp → List SyncPoint → ℕ → ℕ → Option ℕ
lost_at ops syncs last place =
    if rules.is_synced syncs place last (rules.op_at ops place) then None
    else changed_file (rules.op_at ops place)

-- the file whose change is lost at each place of a prefix
abbrev pub losses_of : List MicroOp → List SyncPoint → ℕ → List (Option ℕ)
losses_of ops syncs end = map (lost_at ops syncs (end - 1)) (places_below end)
