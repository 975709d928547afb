-- Which allocation of a step is refused, as data.
use Rattle.std.specs.Prelude.{Bool, true, false}
use Rattle.cs_run.specs.Marks.{CallMark}
use Rattle.cs_run.specs.Marks.{Ample as ample, NoGrant as no_grant}

-- Whether memory suffices for a step on a run.
pub data StepMark : Type 0 where
  Ample : StepMark
  -- an allocation for the entry or the receipt fails
  NoEntry : StepMark
  -- an allocation that the grant makes fails
  NoGrant : StepMark

-- an allocation for the entry or the receipt fails
abbrev pub refuses_entry : StepMark → Bool
refuses_entry Ample = false
refuses_entry NoEntry = true
refuses_entry NoGrant = false

-- whether memory suffices for the grant
abbrev pub call_mark : StepMark → CallMark
call_mark Ample = ample
call_mark NoEntry = ample
call_mark NoGrant = no_grant
