use Rattle.std.proofs.Common.{ℕ, List, [], ◌∷◌, ◌++◌, Vec, sym, ap, ◌∙◌}
use Rattle.std.specs.Global.{Global}
use Rattle.std.specs.Prelude.{None, Some}
use Rattle.std.proofs.lemmas.List.{append-nil}
use Rattle.cs_users.specs.Groups.{somebody_at}
use Rattle.cs_users.proofs.Grouping.{filter_map-push}
use Rattle.cs_users.proofs.groups.all_members.Goals as goal
use Rattle.cs_users.proofs.groups.all_members.Goals.{in-Some+in_ok-push, in_default}

pub returns : goal.returns
returns c =
    let name_is = ap (somebody_at c.args.rows.now) (sym c.name.ensures.value) ∙ sym c.place_unless_none.ensures in
    elim c.match-place_unless_none.branch [
      | in-Some+in_ok-push w ↦
          let more =
          filter_map-push (somebody_at c.args.rows.now) c.args.row.now.members c.args.row.now.name (Some w.in-Some.own)
          (name_is ∙ w.in-Some.is) in
          ap (λ (v : Vec ℕ Global). v.items) w.places-is ∙ w.in_ok-push.ensures.items ∙ ap
          (λ (places : List ℕ). places ++ w.in-Some.own ∷ []) c.in_ok-places.ensures ∙ sym more
      | in_default w ↦
          let more =
          filter_map-push (somebody_at c.args.rows.now) c.args.row.now.members c.args.row.now.name None (name_is ∙ w.in_default.is) in
          ap (λ (v : Vec ℕ Global). v.items) w.places-is ∙ c.in_ok-places.ensures ∙ sym (more ∙ append-nil _)
    ]
