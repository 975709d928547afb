use Rattle.std.proofs.Common.{◌≡◌, ℕ, List, length, nat_eq, subst, sym, ap, ◌∙◌}
use Rattle.std.specs.Prelude.{IfSome}
use Rattle.std.proofs.lemmas.List.Filters.{dedup_is}
use Rattle.cs_users.specs.Groups.{members_of, somebody_at}
use Rattle.cs_users.specs.Marks.{AreMarks}
use Rattle.cs_users.proofs.Grouping.{leader_of-row}
use Rattle.cs_users.proofs.Membership.{dedup-members_of}
use Rattle.cs_users.proofs.groups.Group.of.Goals as goal

pub returns : goal.returns
returns c =
    let members : c.dedup.new.self.items ≡ members_of c.args.rows.now c.args.place =
    dedup_is nat_eq c.sort_unstable.new.self.items c.dedup.new.self.items c.dedup.ensures.filtered
    ∙ dedup-members_of c.args.rows.now c.args.place c.at-row.result.now c.sort_unstable.new.self.items c.at-row.ensures.named c.requires
    c.at-row.ensures.row
    (rw (← c.in_ok-members.ensures) c.sort_unstable.ensures.permutation) c.sort_unstable.ensures.sorted in
    record {
      leader = c.place_unless_none.ensures ∙ ap (somebody_at c.args.rows.now) c.leader.ensures ∙ sym
          (leader_of-row c.args.rows.now c.args.place c.at-row.result.now c.requires c.at-row.ensures.row);
      members = members;
      marks =
          subst (λ (places : List ℕ). IfSome c.in_ok-marks.marks (λ m. AreMarks (length c.args.rows.now) places m.words.items))
          (c.as_slice.ensures.value ∙ members)
          (subst (λ (n : ℕ). IfSome c.in_ok-marks.marks (λ m. AreMarks n c.as_slice.result.now m.words.items)) c.len.ensures.value
          c.in_ok-marks.ensures);
    }
