-- What is kept of a line says what its row says.
use Rattle.std.proofs.Common.{◌≡◌, ℕ, ◌<◌, ◌≤◌, ◌==◌, ◌&&◌, ◌||◌, not, Bool, true, false, cond, List, [], ◌∷◌, ◌++◌, length, get_or, refl}
use Rattle.std.proofs.Common.{sym, subst, ap, ◌∙◌, ⊎_elim, arith}
use Rattle.std.specs.Prelude.{Option, Some, None, nat_eq}
use Rattle.std.specs.Cmp.Lexicographic.{bytes_decides, nat_list_eq_equiv}
use Rattle.std.specs.List.{cons_option, dedup, filter_map, list_any, range_with_len}
use Rattle.std.specs.List.Sorted.{IsPermutation, IsSorted, IsStrictlyIncreasing}
use Rattle.std.specs.Option.{is_some, option_map_or}
use Rattle.std.specs.Ordering.{nat_cmp}
use Rattle.std.proofs.lemmas.Bool.{cases_Bool, eq-eqb, ne_eqb, eqb-true}
use Rattle.std.proofs.lemmas.List.Folds.{list_any-append}
use Rattle.std.proofs.lemmas.Map.Views.{any-filter_same}
use Rattle.cs_users.specs.Groups.{members_of, name_at, place_of, somebody_at}
use Rattle.cs_users.specs.Members.{has_leader, is_known, is_leader, is_member, lists_member, same_name}
use Rattle.cs_users.specs.Rows.{Row, AreNamed, none_name}
use Rattle.cs_users.proofs.Ascending.{dedup-filter, filter_increasing, has, has-range}
use Rattle.cs_users.proofs.Naming.{list_any-named, row_named}
use Rattle.cs_users.proofs.Places.{find-at_place, is_some-place_of, name_at-place_of, name_at-row, place_of-row, row_at_place}

-- whether that place was found
abbrev pub is_at : Option ℕ → ℕ → Bool
is_at found place = option_map_or (λ p. p == place) found false

blank : Row
blank = record { id = []; name = []; leader = []; members = [] }

-- ---- one name

at_own : (none : Bool) (place : ℕ) → is_at (cond none None (Some place)) place ≡ not none
at_own true place = refl
at_own false place = eq-eqb place place refl

elsewhere : (found : Option ℕ) (place : ℕ) → ((p : ℕ) → found ≡ Some p → p ≡ place → ⊥) → is_at found place ≡ false
elsewhere None place differs = refl
elsewhere (Some p) place differs = ne_eqb p place (differs p refl)

unless : (none : Bool) (found : Option ℕ) (p : ℕ) → cond none None found ≡ Some p → found ≡ Some p
unless true found p e = absurd cc
unless false found p e = e

-- a name is found at the place of a user if it is that user's, and not `none`
is_at-somebody : (rows : List Row) (user name : List ℕ) (place : ℕ) → place_of rows user ≡ Some place
    → is_at (somebody_at rows name) place ≡ (same_name name user && not (same_name user none_name))
is_at-somebody rows user name place there =
    ⊎_elim
    (λ (same : same_name name user ≡ true).
    let own : is_at (somebody_at rows user) place ≡ not (same_name user none_name) =
    ap (λ (o : Option ℕ). is_at (cond (same_name user none_name) None o) place) there ∙ at_own (same_name user none_name) place in
    rw same (subst (λ (n : List ℕ). is_at (somebody_at rows n) place ≡ not (same_name user none_name))
    (sym ((bytes_decides name user).0 same)) own))
    (λ (differs : same_name name user ≡ false).
    rw differs (elsewhere (somebody_at rows name) place (λ p found same.
    let at : place_of rows name ≡ Some place = unless (same_name name none_name) (place_of rows name) p found ∙ ap Some same in
    let equal : name ≡ user = sym (name_at-place_of rows name place blank at) ∙ name_at-place_of rows user place blank there in
    let yes = (bytes_decides name user).1 equal in absurd cc)))
    (cases_Bool (same_name name user))

-- ---- names

has-cons_option : (found : Option ℕ) (places : List ℕ) (place : ℕ)
    → has (cons_option found places) place ≡ (is_at found place || has places place)
has-cons_option None places place = refl
has-cons_option (Some p) places place = refl

shared : (a b c : Bool) → ((a && c) || (b && c)) ≡ ((a || b) && c)
shared true true true = refl
shared true true false = refl
shared true false true = refl
shared true false false = refl
shared false b c = refl

-- the place of a user other than `none` is found if the name is among them
has-somebody : (rows : List Row) (user : List ℕ) (place : ℕ) (names : List (List ℕ)) → place_of rows user ≡ Some place
    → has (filter_map (somebody_at rows) names) place ≡ (list_any (λ name. same_name name user) names && not (same_name user none_name))
has-somebody rows user place [] there = refl
has-somebody rows user place (name ∷ names) there =
    let one = is_at-somebody rows user name place there in
    let others = has-somebody rows user place names there in
    has-cons_option (somebody_at rows name) (filter_map (somebody_at rows) names) place
    ∙ rw one (rw others (shared (same_name name user) (list_any (λ n. same_name n user) names) (not (same_name user none_name))))

-- no place past the rows is found
has-past : (rows : List Row) (place : ℕ) (names : List (List ℕ)) → length rows ≤ place
    → has (filter_map (somebody_at rows) names) place ≡ false
has-past rows place [] past = refl
has-past rows place (name ∷ names) past =
    let none : is_at (somebody_at rows name) place ≡ false = elsewhere (somebody_at rows name) place (λ p found same.
    let at = row_at_place rows name p blank (unless (same_name name none_name) (place_of rows name) p found) in
    let within = at.0 in absurd (omega arith)) in
    has-cons_option (somebody_at rows name) (filter_map (somebody_at rows) names) place ∙ rw none (has-past rows place names past)

-- ---- members

module _ (rows : List Row) (named : AreNamed rows) (user group : List ℕ) (place at : ℕ) (row : Row)
    (user_at : place_of rows user ≡ Some place) (group_at : place_of rows group ≡ Some at) (is : row ≡ get_or rows at row) where
  user_known : is_known rows user ≡ true
  user_known = sym (is_some-place_of rows user) ∙ ap is_some user_at

  group_known : is_known rows group ≡ true
  group_known = sym (is_some-place_of rows group) ∙ ap is_some group_at

  found : row_named rows group ≡ Some row
  found = find-at_place (λ r. same_name r.name group) rows at row group_at is

  name_is : row.name ≡ group
  name_is = ap (λ (r : Row). r.name) is ∙ (row_at_place rows group at row group_at).1

  listed_is : lists_member rows group user ≡ list_any (λ member. same_name member user) row.members
  listed_is =
      list_any-named (λ r. list_any (λ member. same_name member user) r.members) rows group named ∙ ap
      (λ (o : Option Row). option_map_or (λ r. list_any (λ member. same_name member user) r.members) o false) found

  led_is : (leader : List ℕ) → has_leader rows group leader ≡ same_name row.leader leader
  led_is leader =
      list_any-named (λ r. same_name r.leader leader) rows group named ∙ ap
      (λ (o : Option Row). option_map_or (λ r. same_name r.leader leader) o false) found

  own_is : same_name user group ≡ same_name row.name user
  own_is = nat_list_eq_equiv.symm user group ∙ ap (λ (n : List ℕ). same_name n user) (sym name_is)

  regrouped : (somebody own own' listed listed' : Bool) → own ≡ own' → listed ≡ listed'
      → (somebody && (own || listed)) ≡ ((listed' || (own' || false)) && somebody)
  regrouped true true own' true listed' e f = rw (← e) (rw (← f) refl)
  regrouped true true own' false listed' e f = rw (← e) (rw (← f) refl)
  regrouped true false own' true listed' e f = rw (← e) (rw (← f) refl)
  regrouped true false own' false listed' e f = rw (← e) (rw (← f) refl)
  regrouped false own own' true listed' e f = rw (← f) refl
  regrouped false own true false listed' e f = rw (← f) refl
  regrouped false own false false listed' e f = rw (← f) refl

  -- a member is one whom the group lists, or the group itself, and somebody
  is_member-listed : is_member rows user group
      ≡ (list_any (λ name. same_name name user) (row.members ++ row.name ∷ []) && not (same_name user none_name))
  is_member-listed =
      rw user_known (rw group_known (rw (list_any-append (λ name. same_name name user) row.members (row.name ∷ []))
      (regrouped (not (same_name user none_name)) (same_name user group) (same_name row.name user) (lists_member rows group user)
      (list_any (λ member. same_name member user) row.members) own_is listed_is)))

  empty_is : (bytes : List ℕ) → same_name bytes [] ≡ (length bytes == 0)
  empty_is [] = refl
  empty_is (b ∷ bytes) = sym (ne_eqb (length (b ∷ bytes)) 0 (omega arith))

  led_by : (somebody led led' empty empty' member : Bool) → led ≡ led' → empty ≡ empty' → (somebody ≡ false → member ≡ false)
      → (somebody && (led || (empty && member))) ≡ ((led' && somebody) || (empty' && member))
  led_by true true led' empty empty' member e f g = rw (← e) refl
  led_by true false led' empty empty' member e f g = rw (← e) (rw (← f) refl)
  led_by false led led' empty empty' member e f g = let none = g refl in rw none (nothing led' empty')
    where
      nothing : (a b : Bool) → false ≡ ((a && false) || (b && false))
      nothing true true = refl
      nothing true false = refl
      nothing false true = refl
      nothing false false = refl

  nobody : not (same_name user none_name) ≡ false → is_member rows user group ≡ false
  nobody none = rw user_known (rw group_known (rw none refl))

  -- a leader is one whose place is the leader's, or a member if the line names no leader
  is_leader-placed : is_leader rows user group
      ≡ (is_at (somebody_at rows row.leader) place || ((length row.leader == 0) && is_member rows user group))
  is_leader-placed =
      rw (is_at-somebody rows user row.leader place user_at)
      (ap (λ b. b && is_known rows group && not (same_name user none_name)
      && (has_leader rows group user || (has_leader rows group [] && is_member rows user group))) user_known
      ∙ ap (λ b. b && not (same_name user none_name)
      && (has_leader rows group user || (has_leader rows group [] && is_member rows user group))) group_known
      ∙ led_by (not (same_name user none_name)) (has_leader rows group user) (same_name row.leader user) (has_leader rows group [])
      (length row.leader == 0) (is_member rows user group) (led_is user) (led_is [] ∙ empty_is row.leader) nobody)

-- ---- places

-- the members of a group that ascend
pub members_increasing : (rows : List Row) (group : ℕ) → IsStrictlyIncreasing (members_of rows group)
unfolding members_of
members_increasing rows group = filter_increasing (λ user. is_member rows (name_at rows user) (name_at rows group)) (length rows)

-- a place is among them if a member has it
pub has-members_of : (rows : List Row) (group user : ℕ) → user < length rows
    → has (members_of rows group) user ≡ is_member rows (name_at rows user) (name_at rows group)
unfolding members_of
has-members_of rows group user low =
    let test = λ (u : ℕ). is_member rows (name_at rows u) (name_at rows group) in
    any-filter_same (λ u. u == user) test (test user) (λ u same. ap test (eqb-true u user same)) (range_with_len 0 (length rows))
    ∙ ap (λ b. test user && b) (has-range (length rows) user low) ∙ and_true (test user)
  where
    and_true : (b : Bool) → (b && true) ≡ b
    and_true true = refl
    and_true false = refl

-- what was found of those that the line lists and of its own name, once each and in order, is the places of the members
pub dedup-members_of : (rows : List Row) (group : ℕ) (row : Row) (sorted : List ℕ) → AreNamed rows → group < length rows
    → row ≡ get_or rows group row
    → IsPermutation (filter_map (somebody_at rows) (row.members ++ row.name ∷ [])) sorted → IsSorted nat_cmp sorted
    → dedup nat_eq sorted ≡ members_of rows group
unfolding members_of
dedup-members_of rows group row sorted named low is moved up =
    dedup-filter (λ user. is_member rows (name_at rows user) (name_at rows group)) (length rows)
    (filter_map (somebody_at rows) (row.members ++ row.name ∷ [])) sorted moved up
    (λ place past. has-past rows place (row.members ++ row.name ∷ []) past)
    (λ place within. has-somebody rows (name_at rows place) place (row.members ++ row.name ∷ []) (placed place within)
    ∙ sym (is_member-listed rows named (name_at rows place) (name_at rows group) place group row (placed place within) (placed group low)
    is))
  where
    placed : (place : ℕ) → place < length rows → place_of rows (name_at rows place) ≡ Some place
    placed place within = ap (place_of rows) (name_at-row rows place row within) ∙ place_of-row rows place row named within

-- a leader by the places of both
pub is_leader-at : (rows : List Row) (group user : ℕ) (row : Row) → AreNamed rows → group < length rows → user < length rows
    → row ≡ get_or rows group row
    → is_leader rows (name_at rows user) (name_at rows group)
    ≡ (is_at (somebody_at rows row.leader) user
    || ((length row.leader == 0) && is_member rows (name_at rows user) (name_at rows group)))
is_leader-at rows group user row named low within is =
    is_leader-placed rows named (name_at rows user) (name_at rows group) user group row (placed user within) (placed group low) is
  where
    placed : (place : ℕ) → place < length rows → place_of rows (name_at rows place) ≡ Some place
    placed place inside = ap (place_of rows) (name_at-row rows place row inside) ∙ place_of-row rows place row named inside

-- ---- names that no row has

unknown : (rows : List Row) (name : List ℕ) → place_of rows name ≡ None → is_known rows name ≡ false
unknown rows name e = sym (is_some-place_of rows name) ∙ ap is_some e

neither : (known somebody more : Bool) → (known && false && somebody && more) ≡ false
neither true somebody more = refl
neither false somebody more = refl

pub is_member-no_user : (rows : List Row) (user group : List ℕ) → place_of rows user ≡ None → is_member rows user group ≡ false
is_member-no_user rows user group e = rw (unknown rows user e) refl

pub is_member-no_group : (rows : List Row) (user group : List ℕ) → place_of rows group ≡ None → is_member rows user group ≡ false
is_member-no_group rows user group e =
    rw (unknown rows group e)
    (neither (is_known rows user) (not (same_name user none_name)) (same_name user group || lists_member rows group user))

pub is_leader-no_user : (rows : List Row) (user group : List ℕ) → place_of rows user ≡ None → is_leader rows user group ≡ false
is_leader-no_user rows user group e =
    ap (λ b. b && is_known rows group && not (same_name user none_name)
    && (has_leader rows group user || (has_leader rows group [] && is_member rows user group))) (unknown rows user e)

pub is_leader-no_group : (rows : List Row) (user group : List ℕ) → place_of rows group ≡ None → is_leader rows user group ≡ false
is_leader-no_group rows user group e =
    ap (λ b. is_known rows user && b && not (same_name user none_name)
    && (has_leader rows group user || (has_leader rows group [] && is_member rows user group))) (unknown rows group e)
    ∙ neither (is_known rows user) (not (same_name user none_name))
    (has_leader rows group user || (has_leader rows group [] && is_member rows user group))

-- a test of the names at two places is a test of those names
pub asked_at : (asks : List Row → List ℕ → List ℕ → Bool) (rows : List Row) (user group : List ℕ) (place at : ℕ)
    → place_of rows user ≡ Some place → place_of rows group ≡ Some at
    → asks rows (name_at rows place) (name_at rows at) ≡ asks rows user group
asked_at asks rows user group place at e f =
    ap (λ (n : List ℕ). asks rows n (name_at rows at)) (name_at-place_of rows user place blank e) ∙ ap (asks rows user)
    (name_at-place_of rows group at blank f)

-- a name that is found among the rows that are kept is found among those that are seen
pub place_seen : (rows now : List Row) (name : List ℕ) (result found : Option ℕ) → rows ≡ now → result ≡ place_of rows name → result ≡ found
    → place_of now name ≡ found
place_seen rows now name result found view is e = subst (λ (rs : List Row). place_of rs name ≡ found) view (sym is ∙ e)
