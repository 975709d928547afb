-- What a call that changes a table does to the numbers of its open fids.
use Rattle.std.proofs.Common.{◌≡◌, ◌∙◌, ℕ, ◌+◌, ◌-◌, ◌<◌, ◌≤◌, ◌&&◌, ◌||◌, ◌==◌, Bool, true, false, cond, not, List, [], length, Option}
use Rattle.std.proofs.Common.{Some, None, is_some, option_copied, Bor, Result, Ok, Err, IfOk, OnErr, refl, sym, ap, arith}
use Rattle.std.proofs.Common.{zero-le}
use Rattle.std.specs.Cmp.{nat_cmp_total}
use Rattle.std.specs.FinMap as map
use Rattle.std.specs.FinMap.{get, len, len-insert, len-remove}
use Rattle.std.specs.Ordering.{nat_cmp}
use Rattle.cs_fids.specs.Entries.{as_opened, is_open}
use Rattle.cs_fids.specs.FidOf.{FidOf}
use Rattle.cs_fids.specs.Opens.{AreOpens, IsDescending, is_among, is_open_in}
use Rattle.cs_fids.specs.Tables.{FailsAs, FidMap, opened_in, walked_in}
use Rattle.cs_fids.specs.declared.entry.FidEntry.{FidEntry}
use Rattle.cs_fids.specs.declared.entry.FidEntry.TheVariants as entry
use Rattle.cs_fids.specs.declared.fault.FidFault.{FidFault}
use Rattle.cs_fids.specs.declared.fid.Opened.{Opened}
use Rattle.cs_fids.specs.declared.fid.Walked.{Walked}
use Rattle.cs_fids.proofs.Numbers.{as_open, no_more, one_more, open_is_some, open_no_more, opened_too, still_open}

-- at most one fid more, none more in its place, and none more taken out
pub len_put : (m : FidMap) (fid : ℕ) (e : FidEntry) → len (map.insert m fid e) ≤ len m + 1
len_put m fid e = by (map.contains_key m fid) (len-insert nat_cmp_total m fid e)
  where
    by : (b : Bool) → len (map.insert m fid e) ≡ cond b (len m) (len m + 1) → len (map.insert m fid e) ≤ len m + 1
    by true is = omega arith
    by false is = omega arith

pub len_in_place : (m : FidMap) (fid : ℕ) (e : FidEntry) → is_some (get m fid) ≡ true → len (map.insert m fid e) ≡ len m
len_in_place m fid e there = len-insert nat_cmp_total m fid e ∙ ap (λ b. cond b (len m) (len m + 1)) there

pub len_taken : (m : FidMap) (fid : ℕ) → len (map.remove m fid) ≤ len m
len_taken m fid = by (map.contains_key m fid) (len-remove nat_cmp_total m fid)
  where
    by : (b : Bool) → len (map.remove m fid) ≡ cond b (len m - 1) (len m) → len (map.remove m fid) ≤ len m
    by true is = omega arith
    by false is = omega arith

module _ (old : FidMap) (opens : List ℕ) (capacity : ℕ) (are : AreOpens old opens capacity) (fid : ℕ) (new : FidMap) where
  -- no more fids are open than there are
  pub at_most : length opens ≤ len old
  at_most = no_more opens old are.descending (λ n among. open_is_some (get old n) (sym (are.among n) ∙ among))

  -- and fewer if one isn't open
  pub below : (e : FidEntry) → get old fid ≡ Some e → is_open e ≡ false → length opens < len old
  below e there walked = one_more old opens fid are.among are.descending (ap is_some there) (ap is_open_in there ∙ walked)

  module _ (e : FidEntry) (inserts : new ≡ map.insert old fid e) (fits : len new ≤ capacity) where
    pub with_open : (numbers : List ℕ) (room : ℕ) → is_open e ≡ true → ((n : ℕ) → is_among n numbers ≡ (n == fid || is_among n opens))
        → IsDescending numbers → room ≡ capacity → AreOpens new numbers room
    with_open numbers room is put descending same = record {
      among = λ n. opened_too old opens fid are.among e numbers is put n ∙ ap (λ m. is_open_in (get m n)) (sym inserts);
      descending = descending;
      fits = omega arith;
    }

    pub as_it_was : is_open e ≡ is_open_in (get old fid) → AreOpens new opens capacity
    as_it_was same = record {
      among = λ n. as_open old opens fid are.among e same n ∙ ap (λ m. is_open_in (get m n)) (sym inserts);
      descending = are.descending;
      fits = fits;
    }

  -- a fid's entry is replaced by one that is open exactly if it was
  pub in_place : (there e : FidEntry) → get old fid ≡ Some there → is_open e ≡ is_open there → new ≡ map.insert old fid e
      → AreOpens new opens capacity
  in_place there e found same inserts =
      let long : len new ≡ len old = ap len inserts ∙ len_in_place old fid e (ap is_some found) in
      let few : len old ≤ capacity = are.fits in
      as_it_was e inserts (omega arith) (same ∙ ap is_open_in (sym found))

  module _ (removes : new ≡ map.remove old fid) where
    fewer : len new ≤ capacity
    fewer = (let less : len new ≤ len old = rw removes (len_taken old fid) in let fits : len old ≤ capacity = are.fits in omega arith)

    pub without_open : (numbers : List ℕ) (room : ℕ) → ((n : ℕ) → is_among n numbers ≡ (not (n == fid) && is_among n opens))
        → IsDescending numbers → room ≡ capacity → AreOpens new numbers room
    without_open numbers room taken descending same = record {
      among = λ n. open_no_more old opens fid are.among numbers taken n ∙ ap (λ m. is_open_in (get m n)) (sym removes);
      descending = descending;
      fits = (let less : len new ≤ capacity = fewer in omega arith);
    }

    pub without_walked : is_open_in (get old fid) ≡ false → AreOpens new opens capacity
    without_walked walked = record {
      among = λ n. still_open old opens fid are.among walked n ∙ ap (λ m. is_open_in (get m n)) (sym removes);
      descending = are.descending;
      fits = fewer;
    }

-- a lent option is Some exactly if the option is
pub lent_alike : (e : FidEntry) (o : Option (Bor (FidOf Opened))) → option_copied o ≡ as_opened e → is_some o ≡ is_open e
lent_alike (entry.Walked w) None same = refl
lent_alike (entry.Walked w) (Some x) same = absurd (cc)
lent_alike (entry.Opened f) None same = absurd (cc)
lent_alike (entry.Opened f) (Some x) same = refl

-- if there is no fid, none is open
pub none_open : (capacity : ℕ) → AreOpens map.empty [] capacity
none_open capacity = record {
  among = λ n. ap is_open_in (sym (map.get-empty nat_cmp n));
  descending = λ i j d less within. absurd (omega arith);
  fits = rw (map.len-empty nat_cmp FidEntry) zero-le;
}

-- a slot's fid that moved, was opened or got another place
pub moved_alike : {A : Type 0} (there e : FidEntry) (result : Result A FidFault) (made : FidOf Walked → FidOf Walked)
    → FailsAs result (walked_in (Some there)) → IfOk (walked_in (Some there)) (λ w. e ≡ entry.Walked (made w)) → OnErr result (e ≡ there)
    → is_open e ≡ is_open there
moved_alike (entry.Walked w) e result made fails moved left = ap is_open moved
moved_alike (entry.Opened f) e (Ok x) made fails moved left = absurd (cc)
moved_alike (entry.Opened f) e (Err fault) made fails moved left = ap is_open left

pub placed_alike : {A : Type 0} (there e : FidEntry) (result : Result A FidFault) (made : FidOf Opened → FidOf Opened)
    → FailsAs result (opened_in (Some there)) → IfOk (opened_in (Some there)) (λ f. e ≡ entry.Opened (made f)) → OnErr result (e ≡ there)
    → is_open e ≡ is_open there
placed_alike (entry.Opened f) e result made fails placed left = ap is_open placed
placed_alike (entry.Walked w) e (Ok x) made fails placed left = absurd (cc)
placed_alike (entry.Walked w) e (Err fault) made fails placed left = ap is_open left

pub opened_now : {A : Type 0} (there e : FidEntry) (x : A) (made : FidOf Walked → FidOf Opened)
    → FailsAs {F = FidOf Walked} (Ok x) (walked_in (Some there)) → IfOk (walked_in (Some there)) (λ w. e ≡ entry.Opened (made w))
    → (is_open there ≡ false) × (is_open e ≡ true)
opened_now (entry.Walked w) e x made fails opened = (refl, ap is_open opened)
opened_now (entry.Opened f) e x made fails opened = absurd (cc)
