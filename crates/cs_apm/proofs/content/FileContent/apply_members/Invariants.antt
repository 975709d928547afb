use Rattle.std.proofs.Common.{◌≡◌, take}
use Rattle.cs_apm.specs.Contents.{content_left}
use Rattle.cs_apm.proofs.content.FileContent.apply_members.Given as goal

abbrev pub invariant-loop-place : goal.invariant-loop-place
invariant-loop-place l = l.self ≡ content_left l.file l.initial.self l.ops (take l.place-index l.places)
