-- What is kept of one line more.
use Rattle.std.proofs.Common.{◌≡◌, ℕ, ◌+◌, ◌<◌, ◌==◌, ◌&&◌, ◌||◌, Bool, true, false, List, [], ◌∷◌, ◌++◌, length, get_or, sym, subst, ap}
use Rattle.std.proofs.Common.{◌∙◌, refl, ⊎_elim, arith}
use Rattle.std.specs.Prelude.{IfSome, Option, None, Some, option_to_list}
use Rattle.std.specs.List.{filter_map}
use Rattle.std.specs.List.Sorted.{IsStrictlyIncreasing}
use Rattle.std.specs.Option.{option_map_or}
use Rattle.std.proofs.lemmas.Bool.{cases_eq}
use Rattle.std.proofs.lemmas.List.{length_push, get_or_append_left, get_or_at}
use Rattle.std.proofs.lemmas.List.Elements.{filter_map-append}
use Rattle.std.proofs.lemmas.Option.{slice_get-get_or}
use Rattle.cs_users.specs.declared.groups.Group.{Group}
use Rattle.cs_users.specs.Groups.{leader_of, members_of, name_at, somebody_at}
use Rattle.cs_users.specs.declared.marks.Marks.{Marks}
use Rattle.cs_users.specs.Marks.{AreMarks, is_marked}
use Rattle.cs_users.specs.Kept.{AreGroups, AreKept, IsGroup}
use Rattle.cs_users.specs.Members.{is_leader, is_member}
use Rattle.cs_users.specs.Rows.{Row, AreNamed}
use Rattle.cs_users.proofs.Ascending.{has}
use Rattle.cs_users.proofs.Membership.{has-members_of, is_at, is_leader-at, members_increasing}

-- what is kept of one row more
pub groups_more : (rows : List Row) (n : ℕ) (groups : List Group) (group : Group) → AreGroups rows n groups → IsGroup rows n group
    → AreGroups rows (n + 1) (groups ++ group ∷ [])
groups_more rows n groups group are is = record {
  long = length_push groups group ∙ ap (λ m. m + 1) are.long;
  each = λ place d below. ⊎_elim
      (λ (e : place ≡ n).
      let last : get_or (groups ++ group ∷ []) place d ≡ group = get_or_at groups group [] d place (are.long ∙ sym e) in
      subst (IsGroup rows place) (sym last) (subst (λ v. IsGroup rows v group) (sym e) is))
      (λ (e : place ≡ n → ⊥).
      let long = are.long in
      let low : place < n = omega arith in
      let same : get_or (groups ++ group ∷ []) place d ≡ get_or groups place d =
      get_or_append_left groups (group ∷ []) d place (omega arith) in
      subst (IsGroup rows place) (sym same) (are.each place d low))
      (cases_eq place n);
}

-- the leader of the row at a place
pub leader_of-row : (rows : List Row) (place : ℕ) (row : Row) → place < length rows → row ≡ get_or rows place row
    → leader_of rows place ≡ somebody_at rows row.leader
leader_of-row rows place row low is =
    ap (λ (o : Option Row). option_map_or (λ r. somebody_at rows r.leader) o None) (slice_get-get_or rows place row low ∙ ap Some (sym is))

-- the places of the names before, and of one name more
pub filter_map-push : (place_of : List ℕ → Option ℕ) (names : List (List ℕ)) (name : List ℕ) (found : Option ℕ) → place_of name ≡ found
    → filter_map place_of (names ++ name ∷ []) ≡ filter_map place_of names ++ option_to_list found
filter_map-push place_of names name None e = filter_map-append place_of names (name ∷ []) ∙ rw e refl
filter_map-push place_of names name (Some place) e = filter_map-append place_of names (name ∷ []) ∙ rw e refl

-- ---- a leader is the user that the row names, or a member if it names none

so_led : (leads led empty member : Bool) → leads ≡ (led || (empty && member)) → led ≡ true → true ≡ leads
so_led leads led empty member is told = sym (is ∙ rw told refl)

so_member : (leads led empty member : Bool) → leads ≡ (led || (empty && member)) → led ≡ false → empty ≡ true → member ≡ leads
so_member leads led empty member is untold told = sym (is ∙ rw untold (rw told refl))

so_none : (leads led empty member : Bool) → leads ≡ (led || (empty && member)) → led ≡ false → empty ≡ false → false ≡ leads
so_none leads led empty member is untold none = sym (is ∙ rw untold (rw none refl))

-- ---- a mark says whether a row is a member

so_marked : (marks : Option Marks) (count user : ℕ) (places members : List ℕ) → members ≡ places → user < count
    → IfSome marks (λ m. AreMarks count places m.words.items)
    → IfSome marks (λ m. is_marked m.words.items user ≡ has members user)
so_marked None count user places members same within are = are
so_marked (Some m) count user places members same within are = are user within ∙ ap (λ (xs : List ℕ). has xs user) (sym same)

-- ---- what a users file keeps, of the rows that are seen of it

module _ (rows : List Row) (groups : List Group) (kept : AreKept rows groups) (now : List Row) (view : rows ≡ now) where
  pub kept_named : AreNamed now
  kept_named = subst AreNamed view kept.named

  pub kept_low : (at : ℕ) → at < length now → at < length rows
  kept_low at low = subst (λ (rs : List Row). at < length rs) (sym view) low

  kept_now : AreGroups now (length now) groups
  kept_now = subst (λ (rs : List Row). AreGroups rs (length rs) groups) view kept.kept

  pub kept_long : length groups ≡ length now
  kept_long = kept_now.long

  module _ (at : ℕ) (group : Group) (low : at < length now) (is : group ≡ get_or groups at group) where
    members_kept : group.members.items ≡ members_of now at
    members_kept = ap (λ (g : Group). g.members.items) is ∙ (kept_now.each at group low).members

    pub increasing_kept : IsStrictlyIncreasing group.members.items
    increasing_kept = subst IsStrictlyIncreasing (sym members_kept) (members_increasing now at)

    pub member_kept : (user : ℕ) → user < length now → has group.members.items user ≡ is_member now (name_at now user) (name_at now at)
    member_kept user within = ap (λ (xs : List ℕ). has xs user) members_kept ∙ has-members_of now at user within

    pub marked_kept : (user : ℕ) → user < length now → IfSome group.marks (λ m. is_marked m.words.items user ≡ has group.members.items user)
    marked_kept user within =
        so_marked group.marks (length now) user (members_of now at) group.members.items members_kept within
        (subst (λ (g : Group). IfSome g.marks (λ m. AreMarks (length now) (members_of now at) m.words.items)) (sym is)
        (kept_now.each at group low).marks)

    leader_kept : (user : ℕ) (row : Row) → user < length now → row ≡ get_or rows at row
        → is_leader now (name_at now user) (name_at now at)
        ≡ (is_at group.leader user || ((length row.leader == 0) && is_member now (name_at now user) (name_at now at)))
    leader_kept user row within is_row =
        let stands : row ≡ get_or now at row = subst (λ (rs : List Row). row ≡ get_or rs at row) view is_row in
        let leader : group.leader ≡ somebody_at now row.leader =
        ap (λ (g : Group). g.leader) is ∙ (kept_now.each at group low).leader ∙ leader_of-row now at row low stands in
        is_leader-at now at user row kept_named low within stands ∙ ap
        (λ (o : Option ℕ). is_at o user || ((length row.leader == 0) && is_member now (name_at now user) (name_at now at))) (sym leader)

    -- the leader, a member if the row names no leader, and any other user
    pub led_kept : (user : ℕ) (row : Row) → user < length now → row ≡ get_or rows at row → is_at group.leader user ≡ true
        → true ≡ is_leader now (name_at now user) (name_at now at)
    led_kept user row within is_row told =
        so_led (is_leader now (name_at now user) (name_at now at)) (is_at group.leader user) (length row.leader == 0)
        (is_member now (name_at now user) (name_at now at)) (leader_kept user row within is_row) told

    pub unled_kept : (user : ℕ) (row : Row) → user < length now → row ≡ get_or rows at row → is_at group.leader user ≡ false
        → (length row.leader == 0) ≡ true
        → is_member now (name_at now user) (name_at now at) ≡ is_leader now (name_at now user) (name_at now at)
    unled_kept user row within is_row untold none =
        so_member (is_leader now (name_at now user) (name_at now at)) (is_at group.leader user) (length row.leader == 0)
        (is_member now (name_at now user) (name_at now at)) (leader_kept user row within is_row) untold none

    pub other_kept : (user : ℕ) (row : Row) → user < length now → row ≡ get_or rows at row → is_at group.leader user ≡ false
        → (length row.leader == 0) ≡ false
        → false ≡ is_leader now (name_at now user) (name_at now at)
    other_kept user row within is_row untold some =
        so_none (is_leader now (name_at now user) (name_at now at)) (is_at group.leader user) (length row.leader == 0)
        (is_member now (name_at now user) (name_at now at)) (leader_kept user row within is_row) untold some
