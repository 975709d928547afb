-- What a grant does to the opens.
use Rattle.std.proofs.Common.{◌≡◌, true, false, refl}
use Rattle.cs_permit.specs.Calls.{RulesView}
use Rattle.cs_permit.specs.declared.call.Call.{Call}
use Rattle.cs_permit.specs.declared.call.Call.TheVariants.{Create, Open}
use Rattle.cs_run.specs.Effects.{effect_of, new_open, open_effect, create_effect, write_effect, close_effect, remove_effect, wstat_effect}
use Rattle.cs_run.specs.Laws.{OpensOne, opens_one}
use Rattle.cs_run.specs.Opens.{opens_without_if}
use Rattle.cs_run.specs.Outcomes.{closed_open_number}
use Rattle.cs_run.specs.declared.turn.Turn.{Turn}

pub one_more : (s : RulesView) (w : Turn) (call : Call) → opens_one call ≡ true → OpensOne s.opens (effect_of s w call).opens w
unfolding open_effect create_effect
one_more s w (Open c) e = record { one = new_open w c.number c.mode; more = refl; number = refl; pass = refl }
one_more s w (Create c) e = record { one = new_open w s.tree.next c.mode; more = refl; number = refl; pass = refl }
one_more s w call e = absurd cc

pub as_left : (s : RulesView) (w : Turn) (call : Call) → opens_one call ≡ false
    → (effect_of s w call).opens ≡ opens_without_if (closed_open_number call) w.pass s.opens
unfolding write_effect close_effect remove_effect wstat_effect
as_left s w (Open c) e = absurd cc
as_left s w (Create c) e = absurd cc
as_left s w call e = refl
