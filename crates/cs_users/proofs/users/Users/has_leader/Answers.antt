use Rattle.std.proofs.Common.{ℕ, ◌==◌, List, length, sym, ap, ◌∙◌, arith}
use Rattle.cs_users.proofs.Grouping.{kept_long, kept_low, led_kept, other_kept, unled_kept}
use Rattle.cs_users.proofs.users.Users.has_leader.Goals as goal

pub at-row-requires : goal.at-row-requires
at-row-requires c =
    kept_low c.self.inside.rows c.self.inside.groups.items c.self.invariant c.args.self.now c.self.view_is c.args.group c.requires.group

pub index-requires : goal.index-requires
index-requires c =
    let long = kept_long c.self.inside.rows c.self.inside.groups.items c.self.invariant c.args.self.now c.self.view_is in
    omega (arith, long, c.requires.group, c.self.inside.groups.ok)

pub returns-then-is_led_by : goal.returns-then-is_led_by
returns-then-is_led_by c =
    c.if-is_led_by.true ∙ led_kept c.self.inside.rows c.self.inside.groups.items c.self.invariant c.args.self.now c.self.view_is
    c.args.group c.index.result.now c.requires.group c.index.ensures c.args.user c.at-row.result.now c.requires.user c.at-row.ensures.row
    (sym c.is_led_by.ensures ∙ c.if-is_led_by.true)

pub returns-then-is_empty : goal.returns-then-is_empty
returns-then-is_empty c =
    c.has_member.ensures ∙ unled_kept c.self.inside.rows c.self.inside.groups.items c.self.invariant c.args.self.now c.self.view_is
    c.args.group c.index.result.now c.requires.group c.index.ensures c.args.user c.at-row.result.now c.requires.user c.at-row.ensures.row
    (sym c.is_led_by.ensures ∙ c.if-is_led_by.false)
    (ap (λ (l : List ℕ). length l == 0) (sym c.leader.ensures) ∙ sym c.is_empty.ensures ∙ c.if-is_empty.true)

pub returns-else-is_empty : goal.returns-else-is_empty
returns-else-is_empty c =
    c.if-is_empty.false ∙ other_kept c.self.inside.rows c.self.inside.groups.items c.self.invariant c.args.self.now c.self.view_is
    c.args.group c.index.result.now c.requires.group c.index.ensures c.args.user c.at-row.result.now c.requires.user c.at-row.ensures.row
    (sym c.is_led_by.ensures ∙ c.if-is_led_by.false)
    (ap (λ (l : List ℕ). length l == 0) (sym c.leader.ensures) ∙ sym c.is_empty.ensures ∙ c.if-is_empty.false)
