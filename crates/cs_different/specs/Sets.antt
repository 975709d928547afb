-- What sets of a scene's micro-operations leave, and which of the sets differ.
use Rattle.std.specs.Prelude.{◌≡◌, ◌==◌, ◌&&◌, ℕ, Bool, List, length, map}
use Rattle.std.specs.BTreeMap.{is_at}
use Rattle.std.specs.List.{list_any}
use Rattle.std.specs.Ordering.{nat_cmp}
use Rattle.cs_tree_model.specs.Tree.{Tree}
use Rattle.cs_sets.specs.Orders.{needs_in}
use Rattle.cs_apm.specs.Orders.{needs_of}
use Rattle.cs_apm.specs.States.{crash_state_of}
use Rattle.cs_sets.specs.Sets.{IsAllowed}
use Rattle.cs_plan.specs.Scenes.{Scene, micros_of, order_in, says_of}
use Rattle.cs_sets.specs.Places.{places_of}
use Rattle.cs_different.specs.Digests.{digest_of, with_part}
use Rattle.cs_different.specs.FirstSets.{AreFirstSets}
use Rattle.cs_different.specs.Telling.{same_tree}
use Rattle.cs_different.specs.declared.leaving.Left.{Left}
use Rattle.cs_different.specs.declared.finding.Found.{Found}

-- the tree that a crash leaves if exactly these micro-operations are on the disk
abbrev pub tree_left : Scene → List ℕ → Tree
tree_left s places = crash_state_of s.trace (micros_of s) places

-- how many acknowledged lines are among them
abbrev pub says_left : Scene → List ℕ → ℕ
says_left s places = says_of (micros_of s).ops places

-- two sets leave equal trees and equally many acknowledged lines
pub record LeaveSame (s : Scene) (a b : List ℕ) : Type 0 where
  pub trees : tree_left s a ≡ tree_left s b
  pub says : says_left s a ≡ says_left s b

-- of all sets that a crash may leave, the first of those that leave the same, ascending
abbrev pub AreDifferent : Scene → List (List ℕ) → Type 0
AreDifferent s sets =
    AreFirstSets (LeaveSame s) (IsAllowed (needs_in (order_in s)) (length (order_in s))) sets

-- ---- as tests

abbrev pub leave_same : Scene → List ℕ → List ℕ → Bool
leave_same s a b = same_tree (tree_left s a) (tree_left s b) && says_left s a == says_left s b

-- the digest of what a set leaves
abbrev pub digest_left : Scene → List ℕ → ℕ
digest_left s places = with_part (digest_of (tree_left s places)) (says_left s places)

-- ---- what is kept

-- a crash may leave the set, by the rules
abbrev pub IsLeavable : Scene → List ℕ → Type 0
IsLeavable s places = IsAllowed (needs_of (micros_of s)) (length (micros_of s).ops) places

-- this is what the set leaves
pub record IsLeft (s : Scene) (places : List ℕ) (left : Left) : Type 0 where
  pub tree : left.tree ≡ tree_left s places
  pub says : left.says ≡ says_left s places
  pub digest : left.digest ≡ digest_left s places

-- a crash may leave the set, and this is its digest
pub record IsFound (s : Scene) (found : Found) : Type 0 where
  pub set : IsLeavable s (places_of found.set)
  pub digest : found.digest ≡ digest_left s (places_of found.set)

-- the table has the digests of exactly what was kept
abbrev pub AreTold : (ℕ → Bool) → List Found → Type 0
AreTold has kept = (d : ℕ) → has d ≡ list_any (λ f. is_at (nat_cmp f.digest) d) kept

abbrev pub sets_of : List Found → List (List ℕ)
sets_of found = map (λ f. places_of f.set) found
