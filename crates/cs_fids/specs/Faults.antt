-- The text of each fault.
use Rattle.std.specs.Prelude.{ℕ, List, codes}
use Rattle.cs_fids.specs.declared.fault.FidFault.{FidFault}
use Rattle.cs_fids.specs.declared.fault.FidFault.TheVariants.{TableFull, Unknown, AlreadyOpen}
use Rattle.cs_fids.specs.declared.fault.FidFault.TheVariants.{NotOpen, InUse, Memory}

abbrev pub fault_text : FidFault → List ℕ
fault_text TableFull = codes "fid table full"
fault_text Unknown = codes "unknown fid"
fault_text AlreadyOpen = codes "fid is open"
fault_text NotOpen = codes "fid not open"
fault_text InUse = codes "fid in use"
fault_text Memory = codes "out of memory"
