-- A table with one fid more.
use Rattle.std.proofs.Common.{◌≡◌, ◌≢◌, ◌∙◌, ◌+◌, ◌-◌, ◌<◌, ◌≤◌, ◌==◌, ◌||◌, ℕ, true, false, cond, nat_eq, List, None, Some, length}
use Rattle.std.proofs.Common.{sym, ap, arith}
use Rattle.std.proofs.lemmas.Bool.{eqb-true}
use Rattle.std.specs.FinMap.{get, insert, len}
use Rattle.std.specs.List.{IsDistinct}
use Rattle.std.specs.Map.{keys_of, lookup}
use Rattle.cs_fids.specs.Entries.{is_open}
use Rattle.cs_fids.specs.Opens.{AreOpens, IsDescending, is_among, is_open_in, table_of}
use Rattle.cs_fids.specs.Tables.{AreFids, map_of}
use Rattle.cs_fids.specs.declared.entry.FidEntry.{FidEntry}
use Rattle.cs_fids.specs.declared.fid.TheConstants.{NOFID}
use Rattle.cs_fids.proofs.Keeping.{as_it_was, at_most, len_put, with_open}
use Rattle.cs_fids.proofs.Maps.{are_fids, inserted, len_is}

module _ (old : List (ℕ × FidEntry)) (opens : List ℕ) (capacity spare : ℕ) (are : AreFids old × AreOpens (map_of old) opens capacity)
    (fid : ℕ) (has : 0 < (table_of old spare capacity).room) where
  all : len (map_of old) ≡ length old
  all = len_is old are.0.distinct

  -- there is memory for one open fid more
  pub has_place : length opens < capacity
  has_place = (let few : length opens ≤ len (map_of old) = at_most (map_of old) opens capacity are.1 fid (map_of old) in
      omega (arith, all, has))

  module _ (named : fid ≢ NOFID) (e put : FidEntry) (same : put ≡ e) (new : List (ℕ × FidEntry))
      (updates : (q : ℕ) → lookup (nat_eq q) new ≡ cond (nat_eq fid q) (Some put) (lookup (nat_eq q) old))
      (distinct : IsDistinct nat_eq (keys_of new)) where
    pub inserts : map_of new ≡ insert (map_of old) fid e
    inserts = inserted fid old new put updates ∙ ap (insert (map_of old) fid) same

    more : len (map_of new) ≤ length old + 1
    more = (let most : len (map_of new) ≤ len (map_of old) + 1 = rw inserts (len_put (map_of old) fid e) in omega (arith, all))

    fits : len (map_of new) ≤ capacity
    fits = (let most : len (map_of new) ≤ length old + 1 = more in omega (arith, has))

    fids : AreFids new
    fids =
        let long : len (map_of new) ≡ length new = len_is new distinct in
        let most : len (map_of new) ≤ length old + 1 = more in
        are_fids old new fid (Some put) are.0 updates (λ is. absurd (named (eqb-true fid NOFID is))) distinct (omega (arith, has))

    pub with_one_open : is_open e ≡ true → (numbers : List ℕ) (room : ℕ) → ((n : ℕ) → is_among n numbers ≡ (n == fid || is_among n opens))
        → IsDescending numbers → room ≡ capacity → AreFids new × AreOpens (map_of new) numbers room
    with_one_open is numbers room among descending stays = (
      fids,
      with_open (map_of old) opens capacity are.1 fid (map_of new) e inserts fits numbers room is among descending stays,
    )

    pub with_one_walked : is_open e ≡ false → get (map_of old) fid ≡ None → AreFids new × AreOpens (map_of new) opens capacity
    with_one_walked is none = (
      fids,
      as_it_was (map_of old) opens capacity are.1 fid (map_of new) e inserts fits (is ∙ ap is_open_in (sym none)),
    )
