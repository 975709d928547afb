-- What is printed of a picks file that is not read.
use Rattle.std.specs.Prelude.{ℕ, List, ◌++◌, codes, decimal}
use Rattle.cs_inputs.specs.declared.picks_fault.PicksFault.{PicksFault}
use Rattle.cs_inputs.specs.declared.picks_fault.PicksFault.TheVariants.{Syntax, Memory}

abbrev pub fault_text : PicksFault → List ℕ
fault_text (Syntax line) = codes "picks line " ++ (decimal line ++ codes ": Syntax")
fault_text Memory = codes "out of memory"
