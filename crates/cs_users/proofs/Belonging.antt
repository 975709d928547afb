-- The tests of membership and leadership decide the relations.
use Rattle.std.proofs.Common.{◌≡◌, ◌≢◌, ℕ, Bool, ◌&&◌, not, List, [], refl, subst, Decides, Any, Contains}
use Rattle.std.specs.Prelude.{slice_index_or}
use Rattle.std.specs.Cmp.Lexicographic.{bytes_decides}
use Rattle.std.specs.List.{list_any}
use Rattle.std.proofs.lemmas.Bool.Decides.{Decides-and, Decides-or, Decides-not, Decides-like}
use Rattle.std.proofs.lemmas.List.Folds.{Any-from_list_any, list_any-from_Any}
use Rattle.cs_users.specs.Rows.{Row, none_name}
use Rattle.cs_users.specs.Members.{IsKnown, Lists, HasLeader, IsMember, IsLeader, is_known, lists_member, has_leader, is_member, is_leader}
use Rattle.cs_users.specs.Members.{same_name}

any_decides : {X : Type 0} (p : X → Bool) (P : X → Type 0) → ((x : X) → Decides (p x) (P x)) → (xs : List X)
    → Decides (list_any p xs) (Any P xs)
any_decides p P each xs = (
  λ found. let a = Any-from_list_any p xs found in (a.0, a.1, a.2, a.3, (each a.1).0 a.4),
  λ a. list_any-from_Any p xs (a.0, a.1, a.2, a.3, (each a.1).1 a.4),
)

contains_decides : (texts : List (List ℕ)) (text : List ℕ) → Decides (list_any (λ t. same_name t text) texts) (Contains texts text)
contains_decides texts text =
    Decides-like (list_any (λ t. same_name t text) texts)
    (λ a. (a.0, a.2, subst (λ (t : List ℕ). slice_index_or texts a.0 t ≡ t) a.4 a.3))
    (λ a. (a.0, text, a.1, a.2, refl))
    (any_decides (λ t. same_name t text) (λ t. t ≡ text) (λ t. bytes_decides t text) texts)

pub is_known-decides : (rows : List Row) (name : List ℕ) → Decides (is_known rows name) (IsKnown rows name)
is_known-decides rows name = any_decides (λ row. same_name row.name name) (λ row. row.name ≡ name) (λ row. bytes_decides row.name name) rows

lists_decides : (rows : List Row) (group user : List ℕ) → Decides (lists_member rows group user) (Lists rows group user)
lists_decides rows group user =
    any_decides (λ row. same_name row.name group && list_any (λ member. same_name member user) row.members)
    (λ row. (row.name ≡ group) × Contains row.members user)
    (λ row. Decides-and _ _ (bytes_decides row.name group) (contains_decides row.members user)) rows

leader_decides : (rows : List Row) (group leader : List ℕ) → Decides (has_leader rows group leader) (HasLeader rows group leader)
leader_decides rows group leader =
    any_decides (λ row. same_name row.name group && same_name row.leader leader)
    (λ row. (row.name ≡ group) × (row.leader ≡ leader))
    (λ row. Decides-and _ _ (bytes_decides row.name group) (bytes_decides row.leader leader)) rows

both_decide : (rows : List Row) (user group : List ℕ)
    → Decides (is_known rows user && is_known rows group && not (same_name user none_name))
    ((IsKnown rows user × IsKnown rows group) × (user ≢ none_name))
both_decide rows user group =
    Decides-and _ _ (Decides-and _ _ (is_known-decides rows user) (is_known-decides rows group))
    (Decides-not _ (bytes_decides user none_name))

pub is_member-decides : (rows : List Row) (user group : List ℕ) → Decides (is_member rows user group) (IsMember rows user group)
is_member-decides rows user group =
    Decides-like (is_member rows user group)
    (λ m. record { user_known = m.0.0.0; group_known = m.0.0.1; somebody = m.0.1; belongs = m.1 })
    (λ m. (((m.user_known, m.group_known), m.somebody), m.belongs))
    (Decides-and _ _ (both_decide rows user group) (Decides-or _ _ (bytes_decides user group) (lists_decides rows group user)))

pub is_leader-decides : (rows : List Row) (user group : List ℕ) → Decides (is_leader rows user group) (IsLeader rows user group)
is_leader-decides rows user group =
    Decides-like (is_leader rows user group)
    (λ m. record { user_known = m.0.0.0; group_known = m.0.0.1; somebody = m.0.1; leads = m.1 })
    (λ m. (((m.user_known, m.group_known), m.somebody), m.leads))
    (Decides-and _ _ (both_decide rows user group)
    (Decides-or _ _ (leader_decides rows group user) (Decides-and _ _ (leader_decides rows group []) (is_member-decides rows user group))))
