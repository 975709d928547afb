use Rattle.std.proofs.Common.{◌≡◌, Some, length, refl, sym, subst, ◌∙◌}
use Rattle.std.specs.Prelude.{IsSome}
use Rattle.cs_wire.specs.Messages.{stat_in, stat_entry}
use Rattle.cs_wire.proofs.WhatFits.{entry_some}
use Rattle.cs_wire.proofs.stat.StatRef.entry_length.Goals as goal

pub unwrap-requires : goal.unwrap-requires
unwrap-requires c =
    let is : c.size_of_entry.result ≡ Some (length (stat_entry (stat_in c.args.self.now))) =
    c.size_of_entry.ensures.size ∙ entry_some (stat_in c.args.self.now) c.requires in
    subst (λ r. IsSome r) (sym is) refl

pub returns : goal.returns
returns c =
    let is : c.size_of_entry.result ≡ Some (length (stat_entry (stat_in c.args.self.now))) =
    c.size_of_entry.ensures.size ∙ entry_some (stat_in c.args.self.now) c.requires in
    let same : Some c.unwrap.result ≡ Some (length (stat_entry (stat_in c.args.self.now))) = sym c.unwrap.ensures ∙ is in
    cc
