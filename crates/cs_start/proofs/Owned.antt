-- What one more entry changes in the paths that files were made at.
use Rattle.std.proofs.Common.{◌≡◌, ◌<◌, ℕ, zero, suc, ◌+◌, Bool, true, false, cond, List, [], ◌∷◌, ◌++◌, Option, None, Some, refl, sym, ap, ◌∙◌, add-one, arith, length, length-append}
use Rattle.std.proofs.lemmas.Bool.{eq-eqb, false≢true}
use Rattle.std.specs.Prelude.{◌&&◌, ◌==◌, if◌then◌else◌}
use Rattle.std.specs.declared.cmp.Ordering.TheVariants.{Less, Equal, Greater}
use Rattle.std.specs.FinMap.{entries, entries-insert, find, get, get-entries, insert, put}
use Rattle.std.specs.FinMap.Entries.{by_order}
use Rattle.std.specs.Option.{option_or}
use Rattle.std.specs.Ordering.{is_eq}
use Rattle.cs_tree_model.specs.Laws.Paths.{path_total}
use Rattle.cs_tree_model.specs.Tree.{Path, path_cmp}
use Rattle.cs_start.specs.Entries.{StartEntries}
use Rattle.cs_start.specs.Owned.{AreBelow, is_own, number_of, or_root, own_in, own_paths}
use Rattle.cs_start.specs.declared.entry.StartEntry.{StartEntry}
use Rattle.cs_start.proofs.Unions.{or_nothing}

abbrev pub Listed : Type 0
Listed = List (Path × StartEntry)

-- ---- another entry, at a path that has none

none_chosen : (b : Bool) (v : StartEntry) (o : Option StartEntry) → cond b (Some v) o ≡ None → (b ≡ false) × (o ≡ None)
none_chosen true v o is = absurd (cc)
none_chosen false v o is = (refl, is)

put-other : (n : ℕ) (p : Path) (e : StartEntry) (es : Listed) → is_own n e ≡ false → find path_cmp p es ≡ None
    → own_in n (put path_cmp p e es) ≡ own_in n es
put-other n p e [] other none = ap (λ b. option_or None (if b then Some p else None)) other
put-other n p e (f ∷ es) other none =
    let parts = none_chosen (is_eq (path_cmp p f.0)) f.1 (find path_cmp p es) none in
    elim (path_cmp p f.0)
    as (λ o. path_cmp p f.0 ≡ o → own_in n (by_order o ((p, e) ∷ f ∷ es) ((f.0, e) ∷ es) (f ∷ put path_cmp p e es)) ≡ own_in n (f ∷ es)) [
      | Less ↦ λ is. ap (λ b. option_or (own_in n (f ∷ es)) (if b then Some p else None)) other ∙ or_nothing (own_in n (f ∷ es))
      | Equal ↦ λ is. absurd (false≢true (sym parts.0 ∙ ap is_eq is))
      | Greater ↦ λ is. ap (λ o. option_or o (if is_own n f.1 then Some f.0 else None)) (put-other n p e es other parts.1)
    ] refl

none_left : (o p : Option Path) → option_or o p ≡ None → o ≡ None
none_left None p is = refl
none_left (Some x) p is = absurd (cc)

-- the entry of a new file
put-own : (n : ℕ) (p : Path) (e : StartEntry) (es : Listed) → is_own n e ≡ true → own_in n es ≡ None → find path_cmp p es ≡ None
    → own_in n (put path_cmp p e es) ≡ Some p
put-own n p e [] own nothing none = ap (λ b. option_or None (if b then Some p else None)) own
put-own n p e (f ∷ es) own nothing none =
    let parts = none_chosen (is_eq (path_cmp p f.0)) f.1 (find path_cmp p es) none in
    elim (path_cmp p f.0)
    as (λ o. path_cmp p f.0 ≡ o → own_in n (by_order o ((p, e) ∷ f ∷ es) ((f.0, e) ∷ es) (f ∷ put path_cmp p e es)) ≡ Some p) [
      | Less ↦ λ is. (λ i. option_or (nothing i) (if own i then Some p else None))
      | Equal ↦ λ is. absurd (false≢true (sym parts.0 ∙ ap is_eq is))
      | Greater ↦ λ is.
          ap (λ o. option_or o (if is_own n f.1 then Some f.0 else None))
          (put-own n p e es own (none_left (own_in n es) (if is_own n f.1 then Some f.0 else None) nothing) parts.1)
    ] refl

absent : (m : StartEntries) (p : Path) → get m p ≡ None → find path_cmp p (entries m) ≡ None
absent m p none = sym (get-entries m p) ∙ none

-- an entry that isn't the own one of any of these files: a directory, or a further path
pub paths-other : (m : StartEntries) (p : Path) (e : StartEntry) (count : ℕ) → ((n : ℕ) → n < count → is_own n e ≡ false) → get m p ≡ None
    → own_paths (insert m p e) count ≡ own_paths m count
paths-other m p e zero other none = refl
paths-other m p e (suc n) other none =
    (λ i. paths-other m p e n (λ k low. other k (omega arith)) none i
    ++ or_root ((ap (own_in n) (entries-insert path_total m p e)
    ∙ put-other n p e (entries m) (other n (omega arith)) (absent m p none)) i) ∷ [])

-- the entry of the next file
pub paths-own : (m : StartEntries) (p : Path) (e : StartEntry) (count : ℕ) → is_own count e ≡ true
    → ((n : ℕ) → n < count → is_own n e ≡ false)
    → own_in count (entries m) ≡ None → get m p ≡ None → own_paths (insert m p e) (suc count) ≡ own_paths m count ++ p ∷ []
paths-own m p e count own other nothing none =
    (λ i. paths-other m p e count other none i
    ++ or_root ((ap (own_in count) (entries-insert path_total m p e) ∙ put-own count p e (entries m) own nothing (absent m p none)) i) ∷ [])

-- ---- numbers below a count

own_by : (own : Bool) (number n : ℕ) → (own ≡ true → number < n) → own && (number == n) ≡ false
own_by false number n low = refl
own_by true number n low = let less : number < n = low refl in grind (arith, less)

pub own-none : (n : ℕ) (es : Listed) → AreBelow es n → own_in n es ≡ None
own-none n [] low = refl
own-none n (e ∷ es) low = λ i. option_or (own-none n es low.1 i) (if own_by e.1.own (number_of e.1.node) n low.0 i then Some e.0 else None)

pub below-more : (es : Listed) (count : ℕ) → AreBelow es count → AreBelow es (suc count)
below-more [] count low = tt
below-more (e ∷ es) count low = (λ own. let less = low.0 own in omega (arith, less), below-more es count low.1)

pub below-put : (p : Path) (e : StartEntry) (count : ℕ) (es : Listed) → (e.own ≡ true → number_of e.node < count) → AreBelow es count
    → AreBelow (put path_cmp p e es) count
below-put p e count [] low all = (low, tt)
below-put p e count (f ∷ es) low all =
    elim (path_cmp p f.0) as (λ o. AreBelow (by_order o ((p, e) ∷ f ∷ es) ((f.0, e) ∷ es) (f ∷ put path_cmp p e es)) count) [
      | Less ↦ (low, all)
      | Equal ↦ (low, all.1)
      | Greater ↦ (all.0, below-put p e count es low all.1)
    ]

-- ---- the next entry of a start

pub length-own_paths : (m : StartEntries) (count : ℕ) → length (own_paths m count) ≡ count
length-own_paths m zero = refl
length-own_paths m (suc n) =
    let old = length-own_paths m n in
    omega (arith, old, length-append (own_paths m n) (or_root (own_in n (entries m)) ∷ []))

-- no file was made at the path of this entry: it is a directory's, or that of a further path
pub other-paths : (m : StartEntries) (p : Path) (e : StartEntry) (count : ℕ) → e.own ≡ false → get m p ≡ None
    → own_paths (insert m p e) count ≡ own_paths m count
other-paths m p e count further none = paths-other m p e count (λ n low. ap (λ own. own && (number_of e.node == n)) further) none

pub next-paths : (m : StartEntries) (p : Path) (e : StartEntry) (count : ℕ) → AreBelow (entries m) count → e.own ≡ true
    → number_of e.node ≡ count
    → get m p ≡ None → own_paths (insert m p e) (count + 1) ≡ own_paths m count ++ p ∷ []
next-paths m p e count low own number none =
    ap (own_paths (insert m p e)) (add-one count)
    ∙ paths-own m p e count (ap (λ o. o && (number_of e.node == count)) own ∙ eq-eqb (number_of e.node) count number)
    (λ n below. ap (λ o. o && (number_of e.node == n)) own ∙ other n below) (own-none count (entries m) low) none
  where
    other : (n : ℕ) → n < count → number_of e.node == n ≡ false
    other n below = let less : n < number_of e.node = omega (arith, number, below) in grind (arith, less)
