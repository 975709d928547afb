-- One byte of a file: the operations that reach it say what it is.
use Rattle.std.proofs.Common.{◌≡◌, ◌≢◌, ℕ, zero, suc, ◌+◌, ◌-◌, ◌<◌, ◌≤◌, ◌==◌, ◌&&◌, Bool, true, false, cond, nat_le, nat_lt, List, []}
use Rattle.std.proofs.Common.{◌∷◌, ◌++◌, length, map, take, replicate, get_or, refl, sym, ap, ◌∙◌, subst, arith, ⊎_elim, length-append}
use Rattle.std.proofs.lemmas.Bool.{cases_eq, cases_lt, eq-eqb, false≢true, le-leb, le-ltb, lt-ltb, ne_eqb}
use Rattle.std.proofs.lemmas.List.{ext_get_or, get_or-take, get_or_past, length-replicate, length-take, length-take-le}
use Rattle.std.specs.Prelude.{fold}
use Rattle.cs_trace.specs.declared.limits.TheConstants.{LARGE_FILE_BYTES}
use Rattle.cs_tree_model.specs.Laws.Bytes.{zeros_behind}
use Rattle.cs_micro.specs.declared.micro_op.MicroOp.{MicroOp}
use Rattle.cs_micro.specs.declared.micro_op.MicroOp.TheVariants.{CreateDirEntry, DeleteDirEntry, MoveDirEntry, LinkDirEntry, ChangeFileSize}
use Rattle.cs_micro.specs.declared.micro_op.MicroOp.TheVariants.{WriteBlock, SetAttr, Say}
use Rattle.cs_apm.specs.Contents.{content_after, content_left}
use Rattle.cs_apm.specs.Rules.{op_at}
use Rattle.cs_apm.specs.States.{Content, overwritten, content_with_size, visible}
use Rattle.cs_state.specs.Steps.{items_that_pass}
use Rattle.cs_state.specs.Windows.{byte_of}
use Rattle.cs_state.proofs.Showing.{byte_before, byte_behind, byte_inside}
use Rattle.cs_same_states.specs.Reaching.{floor_after, floor_in, reaches}
use Rattle.cs_same_states.specs.Windows.{IsWindow}

-- ---- the floor

one_falls : (n base : ℕ) (o : MicroOp) → floor_after n base o ≤ base
one_falls n base (ChangeFileSize file size) = ⊎_elim
    (λ (less : size < base). by (file == n) (nat_lt size base) (omega (arith, less)))
    (λ (ge : base ≤ size). subst (λ b. cond (file == n && b) size base ≤ base) (sym (le-ltb size base ge)) (none (file == n)))
    (cases_lt size base)
  where
    by : (a b : Bool) → size ≤ base → cond (a && b) size base ≤ base
    by true true low = low
    by true false low = omega arith
    by false b low = omega arith

    none : (a : Bool) → cond (a && false) size base ≤ base
    none true = omega arith
    none false = omega arith
one_falls n base _ = omega arith

falls : (n base : ℕ) (ops : List MicroOp) → fold (floor_after n) base ops ≤ base
falls n base [] = omega arith
falls n base (o ∷ ops) = (let a = falls n (floor_after n base o) ops in let b = one_falls n base o in omega (arith, a, b))

one_low : (n base size : ℕ) → floor_after n base (ChangeFileSize n size) ≤ size
one_low n base size = subst (λ b. cond (b && nat_lt size base) size base ≤ size) (sym (eq-eqb n n refl)) (⊎_elim
    (λ (less : size < base). subst (λ b. cond b size base ≤ size) (sym (lt-ltb size base less)) (omega arith))
    (λ (ge : base ≤ size). subst (λ b. cond b size base ≤ size) (sym (le-ltb size base ge)) ge)
    (cases_lt size base))

fold_low : (n base : ℕ) (ops : List MicroOp) (k size : ℕ) → op_at ops k ≡ ChangeFileSize n size → fold (floor_after n) base ops ≤ size
fold_low n base [] k size is = absurd (cc is)
fold_low n base (o ∷ ops) zero size is =
    (let a = falls n (floor_after n base o) ops in let b = subst (λ v. floor_after n base v ≤ size) (sym is) (one_low n base size) in
    omega (arith, a, b))
fold_low n base (o ∷ ops) (suc k) size is = fold_low n (floor_after n base o) ops k size is

pub floor_low : (n : ℕ) (ops : List MicroOp) (k size : ℕ) → op_at ops k ≡ ChangeFileSize n size → floor_in ops n ≤ size
unfolding floor_in
floor_low n ops k size is = fold_low n LARGE_FILE_BYTES ops k size is

-- ---- one byte

module _ (floor n i : ℕ) where
  -- the files have the same byte, and the same size if that isn't before the floor
  abbrev Agree : Content → Content → Type 0
  Agree f g = (floor ≤ i → f.size ≡ g.size) × (byte_of f i ≡ byte_of g i)

  -- no size that it gives the file is before the floor
  abbrev IsAbove : MicroOp → Type 0
  IsAbove o = (size : ℕ) → o ≡ ChangeFileSize n size → floor ≤ size

  cut_behind : (to : ℕ) (b : Bool) (xs : List ℕ) → i < to → get_or (cond b (take to xs) xs) i 0 ≡ get_or xs i 0
  cut_behind to true xs low = get_or-take to xs i 0 low
  cut_behind to false xs low = refl

  taken : (to : ℕ) (xs ys : List ℕ) → get_or xs i 0 ≡ get_or ys i 0 → get_or (take to xs) i 0 ≡ get_or (take to ys) i 0
  taken to xs ys e = ⊎_elim
      (λ (low : i < to). get_or-take to xs i 0 low ∙ e ∙ sym (get_or-take to ys i 0 low))
      (λ (high : to ≤ i). get_or_past (take to xs) i 0 (let l = length-take to xs in omega (arith, l, high)) ∙ sym
      (get_or_past (take to ys) i 0 (let l = length-take to ys in omega (arith, l, high))))
      (cases_lt i to)

  same_cut : (to : ℕ) (f g : Content) → floor ≤ to → Agree f g → Agree (content_with_size to f) (content_with_size to g)
  same_cut to f g above h = (
    λ _. refl,
    ⊎_elim
        (λ (low : i < floor).
        cut_behind to (nat_lt to f.size) f.bytes (omega (arith, low, above)) ∙ h.1 ∙ sym
        (cut_behind to (nat_lt to g.size) g.bytes (omega (arith, low, above))))
        (λ (high : floor ≤ i). by (nat_lt to f.size) (nat_lt to g.size) (ap (nat_lt to) (h.0 high)))
        (cases_lt i floor),
  )
    where
      by : (a b : Bool) → a ≡ b → get_or (cond a (take to f.bytes) f.bytes) i 0 ≡ get_or (cond b (take to g.bytes) g.bytes) i 0
      by true true e = taken to f.bytes g.bytes h.1
      by true false e = absurd (false≢true (sym e))
      by false true e = absurd (false≢true e)
      by false false e = h.1

  same_write : (at : ℕ) (new : List ℕ) (f g : Content) → Agree f g → Agree (overwritten at new f) (overwritten at new g)
  same_write at new f g h = (
    h.0,
    ⊎_elim
        (λ (before : i < at). byte_before at new f i before ∙ h.1 ∙ sym (byte_before at new g i before))
        (λ (ge : at ≤ i). ⊎_elim
        (λ (inside : i < at + length new). byte_inside at new f i ge inside ∙ sym (byte_inside at new g i ge inside))
        (λ (behind : at + length new ≤ i). byte_behind at new f i behind ∙ h.1 ∙ sym (byte_behind at new g i behind))
        (cases_lt i (at + length new)))
        (cases_lt i at),
  )

  both : (o : MicroOp) (f g : Content) → IsAbove o → Agree f g → Agree (content_after n f o) (content_after n g o)
  both (ChangeFileSize file size) f g above h = ⊎_elim
      (λ (e : file ≡ n). subst (λ b. Agree (cond b (content_with_size size f) f) (cond b (content_with_size size g) g))
      (sym (eq-eqb file n e)) (same_cut size f g (above size (ap (λ k. ChangeFileSize k size) e)) h))
      (λ (e : file ≢ n). subst (λ b. Agree (cond b (content_with_size size f) f) (cond b (content_with_size size g) g))
      (sym (ne_eqb file n e)) h)
      (cases_eq file n)
  both (WriteBlock file block start at bytes) f g above h = by (file == n)
    where
      by : (b : Bool) → Agree (cond b (overwritten (start + at) bytes f) f) (cond b (overwritten (start + at) bytes g) g)
      by true = same_write (start + at) bytes f g h
      by false = h
  both (CreateDirEntry e node rights bytes) f g above h = h
  both (DeleteDirEntry e node) f g above h = h
  both (MoveDirEntry a b node old) f g above h = h
  both (LinkDirEntry e kind linked old half) f g above h = h
  both (SetAttr target rights) f g above h = h
  both Say f g above h = h

  -- what doesn't reach it leaves it
  one : (o : MicroOp) (f g : Content) → IsAbove o → reaches floor n i o ≡ false → Agree f g → Agree (content_after n f o) g
  one (ChangeFileSize file size) f g above none h = ⊎_elim
      (λ (e : file ≡ n). subst (λ b. Agree (cond b (content_with_size size f) f) g) (sym (eq-eqb file n e)) (⊎_elim
      (λ (low : i < floor). (
        λ high. absurd (omega (arith, low, high)),
        cut_behind size (nat_lt size f.size) f.bytes (let up = above size (ap (λ k. ChangeFileSize k size) e) in omega (arith, low, up)) ∙
            h.1,
      ))
      (λ (high : floor ≤ i). absurd (false≢true (sym none ∙ ap (λ b. b && nat_le floor i) (eq-eqb file n e) ∙ le-leb floor i high)))
      (cases_lt i floor)))
      (λ (e : file ≢ n). subst (λ b. Agree (cond b (content_with_size size f) f) g) (sym (ne_eqb file n e)) h)
      (cases_eq file n)
  one (WriteBlock file block start at bytes) f g above none h = ⊎_elim
      (λ (e : file ≡ n). subst (λ b. Agree (cond b (overwritten (start + at) bytes f) f) g) (sym (eq-eqb file n e)) (h.0, hidden e ∙ h.1))
      (λ (e : file ≢ n). subst (λ b. Agree (cond b (overwritten (start + at) bytes f) f) g) (sym (ne_eqb file n e)) h)
      (cases_eq file n)
    where
      hidden : file ≡ n → byte_of (overwritten (start + at) bytes f) i ≡ byte_of f i
      hidden e = ⊎_elim
          (λ (before : i < start + at). byte_before (start + at) bytes f i before)
          (λ (ge : start + at ≤ i). ⊎_elim
          (λ (inside : i < start + at + length bytes). absurd (false≢true (sym none
          ∙ ap (λ b. b && (nat_le (start + at) i && nat_lt i (start + at + length bytes))) (eq-eqb file n e)
          ∙ ap (λ b. b && nat_lt i (start + at + length bytes)) (le-leb (start + at) i ge)
          ∙ lt-ltb i (start + at + length bytes) inside)))
          (λ (behind : start + at + length bytes ≤ i). byte_behind (start + at) bytes f i behind)
          (cases_lt i (start + at + length bytes)))
          (cases_lt i (start + at))
  one (CreateDirEntry e node rights bytes) f g above none h = h
  one (DeleteDirEntry e node) f g above none h = h
  one (MoveDirEntry a b node old) f g above none h = h
  one (LinkDirEntry e kind linked old half) f g above none h = h
  one (SetAttr target rights) f g above none h = h
  one Say f g above none h = h

  module _ (ops : List MicroOp) (above : (k : ℕ) → IsAbove (op_at ops k)) where
    abbrev passes : ℕ → Bool
    passes k = reaches floor n i (op_at ops k)

    abbrev left : Content → List ℕ → Content
    left f places = fold (content_after n) f (map (op_at ops) places)

    those : (places : List ℕ) (f g : Content) → Agree f g → Agree (left f places) (left g (items_that_pass passes places))
    those [] f g h = h
    those (k ∷ places) f g h = by (passes k) refl (those places)
      where
        by : (b : Bool) → passes k ≡ b → ((f g : Content) → Agree f g → Agree (left f places) (left g (items_that_pass passes places)))
            → Agree (left (content_after n f (op_at ops k)) places) (left g (cond b (k ∷ []) [] ++ items_that_pass passes places))
        by true is rest = rest (content_after n f (op_at ops k)) (content_after n g (op_at ops k)) (both (op_at ops k) f g (above k) h)
        by false is rest = rest (content_after n f (op_at ops k)) g (one (op_at ops k) f g (above k) is h)

    -- sets of which the same reach the byte leave the same there
    pub byte_same : (f : Content) (places others : List ℕ) → items_that_pass passes places ≡ items_that_pass passes others
        → byte_of (content_left n f ops places) i ≡ byte_of (content_left n f ops others) i
    unfolding content_left
    byte_same f places others same =
        (those places f f (λ _. refl, refl)).1 ∙ ap (λ ks. byte_of (left f ks) i) same ∙ sym (those others f f (λ _. refl, refl)).1

-- ---- what is seen of a file

visible_long : (f : Content) → length (visible f) ≡ f.size
visible_long f =
    length-take-le f.size (f.bytes ++ replicate f.size 0)
    (let a = length-append f.bytes (replicate f.size 0) in let b = length-replicate {A = ℕ} f.size 0 in omega (arith, a, b))

visible_at : (f : Content) (k : ℕ) → k < f.size → get_or (visible f) k 0 ≡ byte_of f k
visible_at f k low = get_or-take f.size (f.bytes ++ replicate f.size 0) k 0 low ∙ zeros_behind f.bytes f.size k

-- files of one size with the same bytes before their end show the same
pub same_visible : (f g : Content) → f.size ≡ g.size → ((i : ℕ) → i < f.size → byte_of f i ≡ byte_of g i) → visible f ≡ visible g
same_visible f g size same =
    ext_get_or 0 (visible f) (visible g) (visible_long f ∙ size ∙ sym (visible_long g)) (λ k low.
    let inside : k < f.size = (let l = visible_long f in omega (arith, low, l)) in
    visible_at f k inside ∙ same k inside ∙ sym (visible_at g k (omega (arith, inside, size))))

-- windows of the same bytes
pub same_windows : (offset s u : ℕ) (f g : Content) (xs ys : List ℕ) → IsWindow offset f s xs → IsWindow offset g u ys → xs ≡ ys → (i : ℕ)
    → offset ≤ i → i < offset + length xs → byte_of f i ≡ byte_of g i
same_windows offset s u f g xs ys one two same i from low =
    let k : i - offset < length xs = omega (arith, from, low) in
    let back : offset + (i - offset) ≡ i = omega (arith, from) in
    ap (byte_of f) (sym back) ∙ sym (one.part (i - offset) k) ∙ ap (λ v. get_or v (i - offset) 0) same
    ∙ two.part (i - offset) (subst (λ v. i - offset < length v) same k) ∙ ap (byte_of g) back
