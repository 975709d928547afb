-- A table with one fid less.
use Rattle.std.proofs.Common.{◌≡◌, ◌∙◌, ◌≤◌, ◌==◌, ◌&&◌, ℕ, true, false, not, cond, nat_eq, List, None, Some, length}
use Rattle.std.proofs.Common.{refl, sym, ap, arith}
use Rattle.std.specs.FinMap.{get, len, remove}
use Rattle.std.specs.List.{IsDistinct}
use Rattle.std.specs.Map.{keys_of, lookup}
use Rattle.cs_names.specs.declared.limits.TheConstants.{FIDS}
use Rattle.cs_fids.specs.Entries.{is_open}
use Rattle.cs_fids.specs.Opens.{AreOpens, IsDescending, is_among, is_open_in}
use Rattle.cs_fids.specs.Tables.{AreFids, map_of}
use Rattle.cs_fids.specs.declared.entry.FidEntry.{FidEntry}
use Rattle.cs_fids.proofs.Keeping.{len_taken, without_open, without_walked}
use Rattle.cs_fids.proofs.Maps.{are_fids, get_is, len_is, taken}

module _ (old : List (ℕ × FidEntry)) (opens : List ℕ) (capacity : ℕ) (are : AreFids old × AreOpens (map_of old) opens capacity)
    (fid : ℕ) (e : FidEntry) (found : Some e ≡ lookup (nat_eq fid) old) where
  was : get (map_of old) fid ≡ Some e
  was = get_is fid old ∙ sym found

  -- an open fid is among the open ones
  pub is_there : is_open e ≡ true → is_among fid opens ≡ true
  is_there is = are.1.among fid ∙ ap is_open_in was ∙ is

  module _ (new : List (ℕ × FidEntry)) (updates : (q : ℕ) → lookup (nat_eq q) new ≡ cond (nat_eq fid q) None (lookup (nat_eq q) old))
      (distinct : IsDistinct nat_eq (keys_of new)) where
    removes : map_of new ≡ remove (map_of old) fid
    removes = taken fid old new updates

    fids : AreFids new
    fids =
        let all : len (map_of old) ≡ length old = len_is old are.0.distinct in
        let long : len (map_of new) ≡ length new = len_is new distinct in
        let less : len (map_of new) ≤ len (map_of old) = rw removes (len_taken (map_of old) fid) in
        let few : length old ≤ FIDS = are.0.few in
        are_fids old new fid None are.0 updates (λ is. refl) distinct (omega arith)

    pub without_one_open : (numbers : List ℕ) (room : ℕ) → ((n : ℕ) → is_among n numbers ≡ (not (n == fid) && is_among n opens))
        → IsDescending numbers → room ≡ capacity → AreFids new × AreOpens (map_of new) numbers room
    without_one_open numbers room among descending stays = (
      fids,
      without_open (map_of old) opens capacity are.1 fid (map_of new) removes numbers room among descending stays,
    )

    pub without_one_walked : is_open e ≡ false → AreFids new × AreOpens (map_of new) opens capacity
    without_one_walked is = (
      fids,
      without_walked (map_of old) opens capacity are.1 fid (map_of new) removes (ap is_open_in was ∙ is),
    )
