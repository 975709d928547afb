-- A table with one entry replaced.
use Rattle.std.proofs.Common.{◌≡◌, ◌∙◌, ◌-◌, ◌<◌, ◌≤◌, ◌==◌, ◌||◌, ℕ, true, false, is_some, arith, cond, min, nat_eq}
use Rattle.std.proofs.Common.{List, None, Some, IsSome, length, refl, sym, subst, ap}
use Rattle.std.proofs.lemmas.Bool.{eqb-true}
use Rattle.std.specs.FinMap.{get, insert, len}
use Rattle.std.specs.Map.{lookup}
use Rattle.indexmap.specs.IndexMap.{IndexMap, WritesThrough, get_by, spare}
use Rattle.cs_names.specs.declared.limits.TheConstants.{FIDS}
use Rattle.cs_fids.specs.Entries.{is_open}
use Rattle.cs_fids.specs.Opens.{AreOpens, IsDescending, is_among, is_open_in, table_of}
use Rattle.cs_fids.specs.declared.entry.FidEntry.{FidEntry}
use Rattle.cs_fids.specs.declared.fid.TheConstants.{NOFID}
use Rattle.cs_fids.specs.Tables.{AreFids, Fids, fid_at, map_of}
use Rattle.cs_fids.proofs.Keeping.{below, in_place, len_in_place, with_open}
use Rattle.cs_fids.proofs.Maps.{are_fids, found_at, get_is, inserted, same_again, same_table}

module _ {S : Type 0} (old : IndexMap ℕ FidEntry S) (fid : ℕ) (there : FidEntry) (found : Some there ≡ get_by (nat_eq fid) old) where
  -- what the map has there
  pub was_in : get (map_of old.entries) fid ≡ Some there
  was_in = get_is fid old.entries ∙ sym found

  module _ (entry : FidEntry) (new : IndexMap ℕ FidEntry S) (writes : WritesThrough nat_eq (nat_eq fid) old entry new) where
    updates : (q : ℕ) → get_by (nat_eq q) new ≡ cond (nat_eq fid q) (Some entry) (get_by (nat_eq q) old)
    updates = (writes.3 (subst IsSome found refl)).0

    -- the map has the new entry there
    pub inserts : map_of new.entries ≡ insert (map_of old.entries) fid entry
    inserts = inserted fid old.entries new.entries entry updates

    pub long : length new.entries ≡ length old.entries
    long = writes.2

    -- the entries are still a table's
    pub still_fids : AreFids old.entries → AreFids new.entries
    still_fids are =
        are_fids old.entries new.entries fid (Some entry) are updates
        (λ same. absurd_of (found ∙ ap (λ n. lookup (nat_eq n) old.entries) (eqb-true fid NOFID same) ∙ are.nofid)) writes.4
        (subst (λ n. n ≤ FIDS) (sym long) are.few)
      where
        absurd_of : Some there ≡ None → Some entry ≡ None
        absurd_of is = absurd (cc)

    module _ (opens : List ℕ) (capacity : ℕ) (are : AreFids old.entries × AreOpens (map_of old.entries) opens capacity) where
      -- a fid that was not open is open
      pub opened : is_open there ≡ false → is_open entry ≡ true → (numbers : List ℕ) (room : ℕ)
          → ((n : ℕ) → is_among n numbers ≡ (n == fid || is_among n opens)) → IsDescending numbers → room ≡ capacity
          → AreFids new.entries × AreOpens (map_of new.entries) numbers room
      opened walked is numbers room among descending same =
          let fits : len (map_of old.entries) ≤ capacity = are.1.fits in
          let all : len (map_of new.entries) ≡ len (map_of old.entries) =
          ap len inserts ∙ len_in_place (map_of old.entries) fid entry (ap is_some was_in) in (
            still_fids are.0,
            with_open (map_of old.entries) opens capacity are.1 fid (map_of new.entries) entry inserts (omega arith) numbers room is among
                descending same,
          )

      -- the numbers of the open fids are the same, if the entry is open exactly if the old one was
      pub kept : is_open entry ≡ is_open there → AreFids new.entries × AreOpens (map_of new.entries) opens capacity
      kept same = (
        still_fids are.0,
        in_place (map_of old.entries) opens capacity are.1 fid (map_of new.entries) there entry was_in same inserts,
      )

    module _ (table : Fids) (capacity : ℕ) (same : table_of old.entries (spare old) capacity ≡ table) where
      -- the map has the new entry there, and the room stays
      pub now_at : map_of new.entries ≡ insert table.fids fid entry
      now_at = inserts ∙ ap (λ (t : Fids). insert t.fids fid entry) same

      pub same_room : (table_of new.entries (spare new) capacity).room ≡ table.room
      same_room =
          (λ i. min (min (writes.6 i) (FIDS - long i)) (capacity - long i)) ∙ ap (λ (t : Fids). t.room) same

      -- the same entry again leaves the table
      pub stays : entry ≡ there → table_of new.entries (spare new) capacity ≡ table
      stays e =
          same_table old.entries new.entries (spare old) (spare new) capacity
          (same_again fid old.entries new.entries entry (sym found ∙ ap Some (sym e)) updates) long writes.6 ∙ same

  module _ (opens : List ℕ) (capacity : ℕ) (are : AreOpens (map_of old.entries) opens capacity) (walked : is_open there ≡ false) where
    -- a fid that is not open is not among the open ones, for which there is memory
    pub not_among : is_among fid opens ≡ false
    not_among = are.among fid ∙ ap is_open_in was_in ∙ walked

    pub has_place : length opens < capacity
    has_place =
        let fits : len (map_of old.entries) ≤ capacity = are.fits in
        let fewer : length opens < len (map_of old.entries) =
        below (map_of old.entries) opens capacity are fid (map_of old.entries) there was_in walked in
        omega arith

  -- what the table found there
  pub was_at : (table : Fids) (capacity : ℕ) → table_of old.entries (spare old) capacity ≡ table → fid_at table fid ≡ Some there
  was_at table capacity same = found_at old.entries (spare old) capacity table fid (Some there) same found
