-- An entry of a table that takes the place of another.
use Rattle.std.proofs.Common.{◌≡◌, ◌≢◌, ◌∙◌, ℕ, ◌-◌, ◌<◌, arith, Bool, true, false, cond, Option, None, Some, Result, refl, sym, ap, rules}
use Rattle.std.specs.Prelude.{IfOk, IsOk, IsSome, Ok, is_some, option_and_then}
use Rattle.std.specs.Option.{ok_or}
use Rattle.cs_fids.specs.declared.fault.FidFault.{FidFault}
use Rattle.cs_fids.specs.declared.fault.FidFault.TheVariants.{Unknown}
use Rattle.std.specs.Ordering.{nat_cmp, eq_by_cmp}
use Rattle.std.specs.Cmp.{nat_cmp_total, eq_by_cmp_equiv}
use Rattle.std.specs.FinMap.{contains_key, empty_of_len, get, get-empty, insert, len, remove, get-insert, len-remove, same_map}
use Rattle.std.specs.FinMap.{nat_cmp-IsAntisymmetric}
use Rattle.cs_fids.specs.declared.entry.FidEntry.{FidEntry}
use Rattle.cs_fids.specs.declared.entry.FidEntry.TheVariants as entry
use Rattle.cs_fids.specs.declared.fid.Walked.{Walked}
use Rattle.cs_fids.specs.Entries.{as_walked}
use Rattle.cs_fids.specs.FidOf.{FidOf}
use Rattle.cs_fids.specs.Fids.{moved_to, opened_fid}
use Rattle.cs_fids.specs.Tables.{FailsAs, FidMap, walked_in}
use Rattle.cs_session.specs.Opens.{open_left}

cond_twice : (b : Bool) (x y z : Option FidEntry) → cond b x (cond b y z) ≡ cond b x z
cond_twice true x y z = refl
cond_twice false x y z = refl

pub get_inserted : (m : FidMap) (fid : ℕ) (e : FidEntry) → get (insert m fid e) fid ≡ Some e
get_inserted m fid e =
    get-insert nat_cmp_total m fid e fid ∙ ap (λ b. cond b (Some e) (get m fid)) ((eq_by_cmp_equiv nat_cmp_total).refl fid)

pub insert_again : (m : FidMap) (fid : ℕ) (a b : FidEntry) → insert (insert m fid a) fid b ≡ insert m fid b
insert_again m fid a b =
    same_map nat_cmp_total nat_cmp-IsAntisymmetric (insert (insert m fid a) fid b) (insert m fid b)
    (λ q.
    get-insert nat_cmp_total (insert m fid a) fid b q
    ∙ ap (cond (eq_by_cmp nat_cmp q fid) (Some b)) (get-insert nat_cmp_total m fid a q)
    ∙ cond_twice (eq_by_cmp nat_cmp q fid) (Some b) (Some a) (get m q)
    ∙ sym (get-insert nat_cmp_total m fid b q))

not_empty : (m : FidMap) (fid : ℕ) (e : FidEntry) → get m fid ≡ Some e → len m ≢ 0
not_empty m fid e there none =
    let is : get m fid ≡ None = ap (λ (x : FidMap). get x fid) (empty_of_len m none) ∙ get-empty nat_cmp fid in
    absurd (cc)

held : (o : Option FidEntry) (e : FidEntry) → ok_or o Unknown ≡ Ok e → o ≡ Some e
held None e is = absurd (cc)
held (Some x) e is = cc

-- an entry that is taken out leaves fewer
pub taken_fewer : (m m' : FidMap) (fid : ℕ) (e : FidEntry) → ok_or (get m fid) Unknown ≡ Ok e → m' ≡ remove m fid → len m' < len m
taken_fewer m m' fid e taken left =
    let there : get m fid ≡ Some e = held (get m fid) e taken in
    let some : len m ≢ 0 = not_empty m fid e there in
    let found : contains_key m fid ≡ true = ap is_some there in
    let count : len (remove m fid) ≡ len m - 1 = len-remove nat_cmp_total m fid ∙ ap (λ b. cond b (len m - 1) (len m)) found in
    let same : len m' ≡ len (remove m fid) = ap len left in
    omega (arith, some, count, same)

module _ (old mid new : FidMap) (fid number mode open_number : ℕ) where
  reopened : (f : FidOf Walked) → mid ≡ insert old fid (entry.Walked (moved_to f number))
      → IfOk (walked_in (get mid fid)) (λ w. new ≡ insert mid fid (entry.Opened (opened_fid w mode open_number)))
      → new ≡ insert old fid (entry.Opened (opened_fid (moved_to f number) mode open_number))
  reopened f m o =
      let there : get mid fid ≡ Some (entry.Walked (moved_to f number)) =
      ap (λ (x : FidMap). get x fid) m ∙ get_inserted old fid (entry.Walked (moved_to f number)) in
      let is = rw there at o in
      is ∙ ap (λ (x : FidMap). insert x fid (entry.Opened (opened_fid (moved_to f number) mode open_number))) m ∙ insert_again old fid
      (entry.Walked (moved_to f number)) (entry.Opened (opened_fid (moved_to f number) mode open_number))

  -- a fid that was moved in its place can be opened
  pub can_open : {A : Type 0} (opened : Result A FidFault) (o : Option FidEntry) → IsSome (option_and_then as_walked o)
      → IfOk (walked_in o) (λ w. mid ≡ insert old fid (entry.Walked (moved_to w number)))
      → FailsAs opened (walked_in (get mid fid)) → IsOk opened
  can_open opened None h m f = absurd (search rules)
  can_open opened (Some (entry.Opened x)) h m f = absurd (search rules)
  can_open opened (Some (entry.Walked x)) h m f =
      let there : get mid fid ≡ Some (entry.Walked (moved_to x number)) =
      ap (λ (y : FidMap). get y fid) m ∙ get_inserted old fid (entry.Walked (moved_to x number)) in
      rw there at f

  -- and is then open
  pub opens : (o : Option FidEntry) → IsSome (option_and_then as_walked o)
      → IfOk (walked_in o) (λ w. mid ≡ insert old fid (entry.Walked (moved_to w number)))
      → IfOk (walked_in (get mid fid)) (λ w. new ≡ insert mid fid (entry.Opened (opened_fid w mode open_number)))
      → new ≡ open_left old fid (option_and_then as_walked o) mode open_number number
  opens None h m o = absurd (search rules)
  opens (Some (entry.Opened x)) h m o = absurd (search rules)
  opens (Some (entry.Walked x)) h m o = reopened x m o
