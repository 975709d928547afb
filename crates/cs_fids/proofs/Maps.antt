-- The map of a list of entries.
use Rattle.std.proofs.Common.{◌≡◌, ◌∙◌, ℕ, Bool, true, false, cond, nat_eq, List, [], ◌∷◌, Option, None, Some, length}
use Rattle.std.proofs.Common.{◌+◌, ◌-◌, ◌≤◌, is_some}
use Rattle.std.proofs.Common.{min, arith, refl, sym, ap, zero-le}
use Rattle.std.proofs.lemmas.Bool.{eqb-true}
use Rattle.cs_names.specs.declared.limits.TheConstants.{FIDS}
use Rattle.std.specs.Map.{lookup, keys_of}
use Rattle.std.specs.List.{IsDistinct, AllByRecursion}
use Rattle.std.specs.Ordering.{nat_cmp, eq_by_cmp}
use Rattle.std.specs.Cmp.{unsigned_tied, nat_cmp_total, eq_by_cmp_equiv}
use Rattle.std.specs.FinMap.{find, get, insert, remove, get-from_entries, get-insert, get-remove, len, len-empty, len-insert, same_map}
use Rattle.std.specs.FinMap.{nat_cmp-IsAntisymmetric}
use Rattle.cs_fids.specs.declared.entry.FidEntry.{FidEntry}
use Rattle.cs_fids.specs.declared.fid.TheConstants.{NOFID}
use Rattle.cs_fids.specs.Opens.{table_of}
use Rattle.cs_fids.specs.Tables.{AreFids, Fids, fid_at, map_of, room_beside}

find_is : (fid : ℕ) (list : List (ℕ × FidEntry)) → find nat_cmp fid list ≡ lookup (nat_eq fid) list
find_is fid [] = refl
find_is fid (e ∷ list) =
    ap (λ b. cond b (Some e.1) (find nat_cmp fid list)) (unsigned_tied fid e.0) ∙ ap (cond (nat_eq fid e.0) (Some e.1)) (find_is fid list)

-- a map finds what a scan of its list finds
pub get_is : (fid : ℕ) (list : List (ℕ × FidEntry)) → get (map_of list) fid ≡ lookup (nat_eq fid) list
get_is fid list = get-from_entries nat_cmp_total list fid ∙ find_is fid list

-- a table finds what a scan of its list finds
pub found_at : (list : List (ℕ × FidEntry)) (spare capacity : ℕ) (table : Fids) (fid : ℕ) (found : Option FidEntry)
    → table_of list spare capacity ≡ table → found ≡ lookup (nat_eq fid) list → fid_at table fid ≡ found
found_at list spare capacity table fid found same is = ap (λ (t : Fids). get t.fids fid) (sym same) ∙ get_is fid list ∙ sym is

eq_back : (a b : ℕ) → nat_eq a b ≡ nat_eq b a
eq_back a b = sym (unsigned_tied a b) ∙ (eq_by_cmp_equiv nat_cmp_total).symm a b ∙ unsigned_tied b a

module _ (fid : ℕ) (old new : List (ℕ × FidEntry)) where
  -- a list that finds one new entry is the map with that entry
  pub inserted : (entry : FidEntry) → ((q : ℕ) → lookup (nat_eq q) new ≡ cond (nat_eq fid q) (Some entry) (lookup (nat_eq q) old))
      → map_of new ≡ insert (map_of old) fid entry
  inserted entry is = same_map nat_cmp_total nat_cmp-IsAntisymmetric _ _ (λ q.
      get_is q new ∙ is q ∙ ap (λ b. cond b (Some entry) (lookup (nat_eq q) old)) (eq_back fid q ∙ sym (unsigned_tied q fid))
      ∙ ap (cond (eq_by_cmp nat_cmp q fid) (Some entry)) (sym (get_is q old)) ∙ sym (get-insert nat_cmp_total (map_of old) fid entry q))

  -- a list that finds one entry less is the map without it
  pub taken : ((q : ℕ) → lookup (nat_eq q) new ≡ cond (nat_eq fid q) None (lookup (nat_eq q) old)) → map_of new ≡ remove (map_of old) fid
  taken is = same_map nat_cmp_total nat_cmp-IsAntisymmetric _ _ (λ q.
      get_is q new ∙ is q ∙ ap (λ b. cond b None (lookup (nat_eq q) old)) (eq_back fid q ∙ sym (unsigned_tied q fid))
      ∙ ap (cond (eq_by_cmp nat_cmp q fid) None) (sym (get_is q old)) ∙ sym (get-remove nat_cmp_total (map_of old) fid q))

again : (fid q : ℕ) (entry : FidEntry) (list : List (ℕ × FidEntry)) → lookup (nat_eq fid) list ≡ Some entry → (b : Bool) → nat_eq fid q ≡ b
    → cond b (Some entry) (lookup (nat_eq q) list) ≡ lookup (nat_eq q) list
again fid q entry list there true same = sym there ∙ ap (λ n. lookup (nat_eq n) list) (eqb-true fid q same)
again fid q entry list there false same = refl

-- a list that finds again an entry that the old one found is the same map
pub same_again : (fid : ℕ) (old new : List (ℕ × FidEntry)) (entry : FidEntry) → lookup (nat_eq fid) old ≡ Some entry
    → ((q : ℕ) → lookup (nat_eq q) new ≡ cond (nat_eq fid q) (Some entry) (lookup (nat_eq q) old)) → map_of new ≡ map_of old
same_again fid old new entry there is =
    same_map nat_cmp_total nat_cmp-IsAntisymmetric _ _
    (λ q. get_is q new ∙ is q ∙ again fid q entry old there (nat_eq fid q) refl ∙ sym (get_is q old))

-- and the same table, if the room is the same too
pub same_table : (old new : List (ℕ × FidEntry)) (room left capacity : ℕ) → map_of new ≡ map_of old → length new ≡ length old → left ≡ room
    → table_of new left capacity ≡ table_of old room capacity
same_table old new room left capacity maps lengths rooms =
    let rests : min (room_beside new left) (capacity - length new) ≡ min (room_beside old room) (capacity - length old) =
    ap (λ n. min (min left (FIDS - n)) (capacity - n)) lengths ∙ ap (λ n. min (min n (FIDS - length old)) (capacity - length old)) rooms in
    λ i. record { fids = maps i; room = rests i }

-- a key that is none of the list's isn't found in it
pub absent : (fid : ℕ) (list : List (ℕ × FidEntry)) → AllByRecursion (λ q. nat_eq fid q ≡ false) (keys_of list)
    → lookup (nat_eq fid) list ≡ None
absent fid [] h = refl
absent fid (e ∷ list) h = ap (λ b. cond b (Some e.1) (lookup (nat_eq fid) list)) h.0 ∙ absent fid list h.1

-- with each key once, the map is as long as its list
pub len_is : (list : List (ℕ × FidEntry)) → IsDistinct nat_eq (keys_of list) → len (map_of list) ≡ length list
unfolding IsDistinct
len_is [] d = len-empty nat_cmp FidEntry
len_is (e ∷ list) d =
    let rest : len (map_of list) ≡ length list = len_is list d.1 in
    let new : len (map_of (e ∷ list)) ≡ len (map_of list) + 1 =
    len-insert nat_cmp_total (map_of list) e.0 e.1 ∙ ap (λ o. cond (is_some o) (len (map_of list)) (len (map_of list) + 1))
    (get_is e.0 list ∙ absent e.0 list d.0) in
    new ∙ omega arith

-- entries that differ from a table's at one number, which is none of NOFID's
pub are_fids : (old new : List (ℕ × FidEntry)) (fid : ℕ) (put : Option FidEntry) → AreFids old
    → ((q : ℕ) → lookup (nat_eq q) new ≡ cond (nat_eq fid q) put (lookup (nat_eq q) old)) → (nat_eq fid NOFID ≡ true → put ≡ None)
    → IsDistinct nat_eq (keys_of new) → length new ≤ FIDS → AreFids new
are_fids old new fid put are is other distinct few = record {
  few = few;
  nofid = is NOFID ∙ by (nat_eq fid NOFID) refl;
  distinct = distinct;
}
  where
    by : (b : Bool) → nat_eq fid NOFID ≡ b → cond b put (lookup (nat_eq NOFID) old) ≡ None
    by true same = other same
    by false same = are.nofid

pub no_fids : AreFids []
unfolding IsDistinct
no_fids = record { few = zero-le; nofid = refl; distinct = tt }
