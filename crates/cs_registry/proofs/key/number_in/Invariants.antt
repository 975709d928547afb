use Rattle.std.proofs.Common.{◌≡◌, ◌<◌, ◌^◌, take}
use Rattle.cs_registry.specs.Naming.{number_in}
use Rattle.cs_registry.proofs.key.number_in.Given as goal

abbrev pub invariant-loop-digit : goal.invariant-loop-digit
invariant-loop-digit l = record { is : l.number ≡ number_in (take l.digit-index l.digits); below : l.number < 10 ^ l.digit-index }
