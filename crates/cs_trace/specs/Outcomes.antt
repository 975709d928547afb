-- What a call returns that may be out of memory; for private clauses.
use Rattle.std.specs.Prelude.{◌≡◌, ◌≢◌, Result, Ok, Err}
use Rattle.cs_trace.specs.declared.fault.TraceFaultKind.{TraceFaultKind}
use Rattle.cs_trace.specs.declared.fault.TraceFaultKind.TheVariants.{Memory}

-- a call that fails has the expected fault, or is out of memory, and that only if the expected
-- result meets May
pub record Fails {A : Type 0} (expected : Result A TraceFaultKind) (kind : TraceFaultKind)
    (May : Result A TraceFaultKind → Type 0) : Type 0 where
  pub fault : kind ≢ Memory → expected ≡ Err kind
  pub memory : kind ≡ Memory → May expected

-- a call gives the expected value, or fails as expected
abbrev pub Gives : {A : Type 0}
    → Result A TraceFaultKind → Result A TraceFaultKind
    → (Result A TraceFaultKind → Type 0) → Type 0
Gives expected (Ok x) May = expected ≡ Ok x
Gives expected (Err kind) May = Fails expected kind May

-- a call that changes a value in place leaves the expected value, or fails as expected
abbrev pub Leaves : {A : Type 0}
    → Result A TraceFaultKind → Result (Unit {0}) TraceFaultKind → A
    → (Result A TraceFaultKind → Type 0) → Type 0
Leaves expected (Ok _) new May = expected ≡ Ok new
Leaves expected (Err kind) new May = Fails expected kind May
