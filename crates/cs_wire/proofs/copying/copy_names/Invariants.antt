use Rattle.std.proofs.Common.{◌≡◌, take}
use Rattle.cs_wire.specs.Messages.{names_of, texts_in}
use Rattle.cs_wire.proofs.copying.copy_names.Given as goal

abbrev pub invariant-loop-name : goal.invariant-loop-name
invariant-loop-name l = names_of l.copy.items ≡ texts_in (take l.name-index l.names)
