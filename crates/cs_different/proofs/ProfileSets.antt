-- Those of a scene's sets that a file system of another profile may leave too.
use Rattle.std.proofs.Common.{◌≡◌, ◌↔◌, ℕ, ◌+◌, ◌<◌, Bool, true, false, cond, List, [], ◌∷◌, refl, sym, ap, ◌∙◌, subst, get_or, length, map}
use Rattle.std.proofs.lemmas.List.Elements.{All-filter, filter_passes}
use Rattle.std.proofs.lemmas.List.FromFn.{length-map-range_with_len}
use Rattle.std.specs.List.{All, Contains, filter, range_with_len}
use Rattle.cs_trace_lines.specs.Versions.{profile_of}
use Rattle.cs_trace_lines.specs.declared.profile.Profile.{Profile}
use Rattle.cs_micro.specs.Micros.{Micros}
use Rattle.cs_micro.specs.declared.micro_op.MicroOp.{MicroOp}
use Rattle.cs_apm.specs.Orders.{needs_by}
use Rattle.cs_plan.specs.Scenes.{Scene, micros_of}
use Rattle.cs_sets.specs.Chains.{IsBackward}
use Rattle.cs_sets.specs.declared.row.Row.{Row}
use Rattle.cs_sets.specs.Different.{IsLike, different, firsts, leave_alike, state_of}
use Rattle.cs_sets.specs.Every.{IsBefore, every}
use Rattle.cs_sets.specs.Following.{chosen}
use Rattle.cs_sets.specs.Orders.{needs_in, table}
use Rattle.cs_sets.specs.Places.{places_of}
use Rattle.cs_sets.specs.Rows.{needed_in}
use Rattle.cs_sets.specs.Sets.{IsAllowed, is_member}
use Rattle.cs_sets.specs.Laws.Ascending.{every_ordered}
use Rattle.cs_sets.specs.Laws.Complete.{each_allowed, has_each}
use Rattle.cs_sets.specs.Laws.Lists.{Ordered, all_pairs}
use Rattle.cs_sets.specs.Laws.Members.{allowed_below, contains_has}
use Rattle.cs_different.specs.Members.{AreAll, IsMember, firsts_under, has_seconds, members_under, order_under, stricter}
use Rattle.cs_different.specs.Seen.{none_seen, same_seen, see}
use Rattle.cs_different.specs.Sets.{IsLeavable, LeaveSame, leave_same}
use Rattle.cs_different.specs.Under.{AreDifferentUnder}
use Rattle.cs_different.specs.Wants.{Wants}
use Rattle.cs_different.proofs.Alike.{left_is_like, left_told}
use Rattle.cs_different.proofs.Firsts.{firsts_among}
use Rattle.cs_different.proofs.Gluing.{AreColumns, law_by, leavable, listed_by, passing_found, seen_listed}
use Rattle.cs_different.proofs.Halves.{halves_say, in_filter}
use Rattle.cs_different.proofs.Passing.{ordered_filter}
use Rattle.cs_different.proofs.Profiles.{allowed_by_both, both_allow}
use Rattle.cs_different.proofs.Shown.{seconds_seen}

module _ (s : Scene) (profile : Profile) where
  abbrev m : Micros
  m = micros_of s

  abbrev ops : List MicroOp
  ops = m.ops

  abbrev own : Profile
  own = profile_of m.version

  abbrev needs : ℕ → ℕ → Bool
  needs = needs_in (order_under s profile)

  abbrev n : ℕ
  n = length (order_under s profile)

  pub order_long : length (order_under s profile) ≡ length ops
  unfolding table
  order_long =
      length-map-range_with_len (λ j. map (λ i. needs_by m (stricter profile own) i j) (range_with_len 0 j)) 0 (length ops)

  abbrev holds : List ℕ → Bool
  holds = has_seconds (firsts_under ops profile)

  module _ (told : (p : List ℕ) → IsAllowed needs n p ↔ IsAllowed (needs_by m (stricter profile own)) (length ops) p)
      (back : IsBackward needs) where
    inside : (p : List ℕ) → IsAllowed (needs_by m (stricter profile own)) (length ops) p → (i : ℕ) → Contains p i → i < length ops
    inside p h i there = allowed_below (needs_by m (stricter profile own)) (length ops) p h i (contains_has p i there)

    pub leavable_by : (p : List ℕ) → IsAllowed needs n p → IsLeavable s p
    leavable_by p h = (both_allow m profile own (length ops) p ((told p).0 h)).1

    member_of : (p : List ℕ) → IsAllowed needs n p → holds p ≡ true → IsMember s profile p
    member_of p h t =
        let by = (told p).0 h in
        let both = both_allow m profile own (length ops) p by in
        record {
          leavable = both.1;
          left = record { allowed = both.0; halves = (halves_say ops p profile (inside p by)).0 t };
        }

    of_member : (p : List ℕ) → IsMember s profile p → IsAllowed needs n p × (holds p ≡ true)
    of_member p is =
        let by = allowed_by_both m profile own (length ops) p is.left.allowed is.leavable in
        ((told p).1 by, (halves_say ops p profile (inside p by)).1 is.left.halves)

    are_members : All (IsMember s profile) (members_under s profile)
    are_members = λ k d low.
        member_of (get_or (members_under s profile) k d)
        (All-filter holds (IsAllowed needs n) (every needs n) (each_allowed needs back n) k d low)
        (filter_passes holds (every needs n) k d low)

    has_members : (p : List ℕ) → IsMember s profile p → Contains (members_under s profile) p
    has_members p is =
        let by = of_member p is in
        in_filter holds (every needs n) p (has_each needs back n p by.0) by.1

    members_ordered : Ordered IsBefore (members_under s profile)
    members_ordered = ordered_filter IsBefore holds (every needs n) (every_ordered needs back n)

    -- what is enumerated are all sets of the profile
    pub all_members : AreAll (IsMember s profile) (members_under s profile)
    all_members = record {
      are = are_members;
      each = has_members;
      ascending = all_pairs IsBefore (members_under s profile) members_ordered;
    }

    pub different_members : AreDifferentUnder s profile (firsts (leave_same s) (members_under s profile))
    different_members =
        firsts_among (leave_same s) (left_is_like s) (LeaveSame s) (left_told s) (IsMember s profile) (members_under s profile)
        are_members has_members members_ordered

    -- of the classes of sets by what is seen, if no half of a rename wants anything
    module _ (wants : ℕ → ℕ → Bool) (are : (z k : ℕ) → wants z k ≡ true → Wants s z k) (rows : List Row) (cols : AreColumns needs n rows)
        (long : n ≡ length ops) (one : All (λ i. (z : ℕ) → wants z i ≡ false) (firsts_under ops profile))
        (two : All (λ i. (z : ℕ) → wants z (i + 1) ≡ false) (firsts_under ops profile)) where
      law : (places : List ℕ) → IsAllowed needs n places → LeaveSame s places (chosen (state_of (see wants) none_seen places) n)
      law places allowed = law_by s wants needs back n long places allowed are leavable_by

      tells : (places : List ℕ) → IsAllowed needs n places → holds (chosen (state_of (see wants) none_seen places) n) ≡ holds places
      tells places allowed =
          ap holds (seen_listed s wants needs back n long places allowed)
          ∙ seconds_seen wants (is_member places) (length ops) (firsts_under ops profile) one two
          ∙ ap holds (sym (listed_by s wants needs back n long places allowed))

      mapped : (xs : List Row) → map places_of (filter (λ row. holds (places_of row)) xs) ≡ filter holds (map places_of xs)
      mapped [] = refl
      mapped (x ∷ xs) = by (holds (places_of x)) (filter (λ row. holds (places_of row)) xs) (filter holds (map places_of xs)) (mapped xs)
        where
          by : (b : Bool) (rest : List Row) (others : List (List ℕ)) → map places_of rest ≡ others
              → map places_of (cond b (x ∷ rest) rest) ≡ cond b (places_of x ∷ others) others
          by true rest others e = ap (λ v. places_of x ∷ v) e
          by false rest others e = e

      pub kept_leavable : (found kept : List Row) → All (λ row. IsAllowed (needed_in rows) (length rows) (places_of row)) found
          → kept ≡ filter (λ row. holds (places_of row)) found → All (λ row. IsLeavable s (places_of row)) kept
      kept_leavable found kept all e =
          subst (All (λ (row : Row). IsLeavable s (places_of row))) (sym e)
          (All-filter (λ row. holds (places_of row)) (λ row. IsLeavable s (places_of row)) found
          (λ k d low. leavable_by (places_of (get_or found k d)) (leavable s wants needs n rows cols back law found all k d low)))

      pub kept_found : (found kept : List Row) → All (λ row. IsAllowed (needed_in rows) (length rows) (places_of row)) found
          → ((like : (ℕ → Bool) → (ℕ → Bool) → Bool) → IsLike like
          → ((a b : ℕ → Bool) → same_seen (length rows) a b ≡ true → like a b ≡ true)
          → firsts (leave_alike like (see wants) none_seen) (map places_of found)
          ≡ different like (see wants) none_seen (needed_in rows) (length rows))
          → kept ≡ filter (λ row. holds (places_of row)) found
          → firsts (leave_same s) (map places_of kept) ≡ firsts (leave_same s) (members_under s profile)
      kept_found found kept all found_firsts e =
          ap (λ (v : List Row). firsts (leave_same s) (map places_of v)) e ∙ ap (firsts (leave_same s)) (mapped found)
          ∙ passing_found s wants needs n rows cols back law holds tells found all found_firsts
