-- What is left of a prefix if a crash loses a file's changes.
use Rattle.std.specs.Prelude.{ℕ, ◌+◌, ◌-◌, ◌==◌, ◌&&◌, ◌||◌, not, nat_eq, Bool, List, length, take}
use Rattle.std.specs.Prelude.{Option, None, slice_index, slice_index_or}
use Rattle.std.specs.Cmp.Lexicographic.{pointwise}
use Rattle.std.specs.List.{filter, list_all}
use Rattle.cs_plan.specs.Plans.{places_below, is_kept}
use Rattle.cs_picks.specs.Changes.{is_same_file}

-- the file loses the change at the place
abbrev pub loses_at : List (Option ℕ) → ℕ → ℕ → Bool
loses_at losses file place = is_same_file file (slice_index_or losses place None)

-- the places at which the file loses a change
abbrev pub lost_places : List (Option ℕ) → ℕ → List ℕ
lost_places losses file = filter (loses_at losses file) (places_below (length losses))

-- the place stays if these are missing: it is none of them, and needs none by any chain
abbrev pub stays : (ℕ → ℕ → Bool) → List ℕ → ℕ → Bool
stays needs lost place = list_all (λ missing. is_kept needs missing place) lost

-- the prefix loses what the prefix that is a place shorter loses, and its last place
abbrev pub loses_one_more : List ℕ → List ℕ → ℕ → Bool
loses_one_more shorter lost end =
    length lost == length shorter + 1
    && (pointwise nat_eq (take (length shorter) lost) shorter
    && slice_index lost (length shorter) + 1 == end)

-- the last place of the prefix doesn't stay, and of the places before that it loses what the
-- shorter prefix loses: both leave the same set
abbrev pub adds_nothing : (ℕ → ℕ → Bool) → List ℕ → List ℕ → ℕ → Bool
adds_nothing needs shorter lost end =
    not (stays needs lost (end - 1))
    && (pointwise nat_eq lost shorter || loses_one_more shorter lost end)

-- some places are lost, and the prefix that is a place shorter doesn't give the same set
abbrev pub is_given : (ℕ → ℕ → Bool) → List ℕ → List ℕ → ℕ → Bool
is_given needs shorter lost end =
    not (length lost == 0) && (length shorter == 0 || not (adds_nothing needs shorter lost end))

-- the places before the end without these, and without all that need one by any chain
abbrev pub left_of : (ℕ → ℕ → Bool) → List ℕ → ℕ → List ℕ
left_of needs lost end = filter (stays needs lost) (places_below end)
