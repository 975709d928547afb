-- Those that reach a page: they leave the bytes in it that all of a set leave.
use Rattle.std.proofs.Common.{◌≡◌, ◌≢◌, ℕ, zero, suc, ◌+◌, ◌*◌, ◌/◌, ◌%◌, ◌<◌, ◌≤◌, ◌==◌, ◌&&◌, Bool, true, false, cond, nat_lt, List, []}
use Rattle.std.proofs.Common.{◌∷◌, ◌++◌, Option, None, Some, refl, sym, ap, ◌∙◌, subst, arith, ⊎_elim, length, map, take, get_or}
use Rattle.std.proofs.lemmas.Bool.{cases_Bool, cases_eq, cases_lt, eq-eqb, eqb-true, false≢true}
use Rattle.std.proofs.lemmas.List.{get_or-take, get_or_append_left, get_or_at, get_or_past, length-take, length_push, take_more, append-nil}
use Rattle.std.proofs.lemmas.List.Sums.{fold_push}
use Rattle.std.proofs.lemmas.Option.{get_or_from_slice_get, slice_get-get_or, slice_get_within}
use Rattle.std.specs.Global.{Vec}
use Rattle.std.specs.List.{All}
use Rattle.std.specs.Option.{option_map_or}
use Rattle.std.specs.Prelude.{fold, slice_get, IsSome}
use Rattle.cs_micro.specs.declared.micro_op.MicroOp.{MicroOp}
use Rattle.cs_micro.specs.declared.micro_op.MicroOp.TheVariants.{ChangeFileSize, WriteBlock}
use Rattle.cs_apm.specs.Contents.{changes_file, content_after, content_left}
use Rattle.cs_apm.specs.Rules.{op_at}
use Rattle.cs_apm.specs.States.{Content, overwritten, content_with_size}
use Rattle.cs_state.specs.declared.file_steps.TheConstants.{PAGE_BYTES}
use Rattle.cs_state.specs.Shares.{numbers_that_pass, mark_at}
use Rattle.cs_state.specs.Steps.{member_struck, items_that_pass, reaches, places_reaching, resizes, size_before, content_after_cut}
use Rattle.cs_state.specs.Steps.{struck_by, touches, AgreeIn, AreRows, HasRow, IsFitting}
use Rattle.cs_state.specs.Windows.{byte_of, size_after}
use Rattle.cs_paths.proofs.Listing.{ids_are, ids_have}
use Rattle.cs_state.proofs.Showing.{byte_before, byte_behind, byte_inside, one_size}

-- ---- folds over those that pass a test

pub fold_ids : {S : Type 0} (g : S → ℕ → S) (s : S) (f : ℕ → Bool) (k : ℕ)
    → fold g s (numbers_that_pass f (suc k)) ≡ cond (f k) (g (fold g s (numbers_that_pass f k)) k) (fold g s (numbers_that_pass f k))
fold_ids g s f k = by (f k)
  where
    by : (b : Bool)
        → fold g s (numbers_that_pass f k ++ cond b (k ∷ []) [])
        ≡ cond b (g (fold g s (numbers_that_pass f k)) k) (fold g s (numbers_that_pass f k))
    by true = fold_push g s (numbers_that_pass f k) k
    by false = ap (fold g s) (append-nil (numbers_that_pass f k))

pub fold_map : {S X : Type 0} (g : S → X → S) (h : ℕ → X) (s : S) (ks : List ℕ) → fold g s (map h ks) ≡ fold (λ s k. g s (h k)) s ks
fold_map g h s [] = refl
fold_map g h s (k ∷ ks) = fold_map g h (g s (h k)) ks

pub picked_end : (f : ℕ → Bool) (xs ys : List ℕ) → items_that_pass f (xs ++ ys) ≡ items_that_pass f xs ++ items_that_pass f ys
picked_end f [] ys = refl
picked_end f (x ∷ xs) ys = by (f x) (picked_end f xs ys)
  where
    by : (b : Bool) → items_that_pass f (xs ++ ys) ≡ items_that_pass f xs ++ items_that_pass f ys
        → cond b (x ∷ []) [] ++ items_that_pass f (xs ++ ys) ≡ (cond b (x ∷ []) [] ++ items_that_pass f xs) ++ items_that_pass f ys
    by true same = ap (λ l. x ∷ l) same
    by false same = same

pub picked_more : (f : ℕ → Bool) (xs : List ℕ) (i : ℕ) → i < length xs
    → items_that_pass f (take (i + 1) xs) ≡ items_that_pass f (take i xs) ++ cond (f (get_or xs i 0)) (get_or xs i 0 ∷ []) []
picked_more f xs i low =
    ap (items_that_pass f) (take_more xs i 0 low) ∙ picked_end f (take i xs) (get_or xs i 0 ∷ []) ∙ ap
    (λ l. items_that_pass f (take i xs) ++ l) (append-nil (cond (f (get_or xs i 0)) (get_or xs i 0 ∷ []) []))

-- those that pass two tests, one after the other
pub picked_ids : (f g : ℕ → Bool) (n : ℕ) → items_that_pass g (numbers_that_pass f n) ≡ numbers_that_pass (λ k. f k && g k) n
picked_ids f g zero = refl
picked_ids f g (suc n) = picked_end g (numbers_that_pass f n) (cond (f n) (n ∷ []) []) ∙ (λ i. picked_ids f g n i ++ by (f n) (g n) refl i)
  where
    by : (a b : Bool) → b ≡ g n → items_that_pass g (cond a (n ∷ []) []) ≡ cond (a && b) (n ∷ []) []
    by true b same = append-nil (cond (g n) (n ∷ []) []) ∙ ap (λ v. cond v (n ∷ []) []) (sym same)
    by false b same = refl

-- an element of a list with one more
pub each_more : {X : Type 0} (P : ℕ → X → Type 0) (xs : List X) (x : X) → ((k : ℕ) (y : X) → slice_get xs k ≡ Some y → P k y)
    → P (length xs) x → (k : ℕ) (y : X) → slice_get (xs ++ x ∷ []) k ≡ Some y → P k y
each_more P xs x each last k y there =
    let inside = slice_get_within (xs ++ x ∷ []) k y there in
    let got = get_or_from_slice_get (xs ++ x ∷ []) k y y there in
    let more = length_push xs x in
    ⊎_elim
    (λ (same : k ≡ length xs). subst (λ v. P k v) (sym (get_or_at xs x [] y k (sym same)) ∙ got) (subst (λ v. P v x) (sym same) last))
    (λ (other : k ≢ length xs).
    let low : k < length xs = omega (arith, inside, more, other) in
    each k y (slice_get-get_or xs k y low ∙ ap Some (sym (get_or_append_left xs (x ∷ []) y k low) ∙ got)))
    (cases_eq k (length xs))

pub picked_same : (f g : ℕ → Bool) (n : ℕ) (xs : List ℕ) → ((k : ℕ) → k < n → f k ≡ g k) → ((k : ℕ) → k < length xs → get_or xs k 0 < n)
    → items_that_pass f xs ≡ items_that_pass g xs
picked_same f g n [] same low = refl
picked_same f g n (x ∷ xs) same low =
    (λ i. cond (same x (low 0 (omega arith)) i) (x ∷ []) [] ++ picked_same f g n xs same (λ k l. low (suc k) (omega (arith, l))) i)

-- those that pass one test pass the other
pub ids_same : (f g : ℕ → Bool) (n : ℕ) → ((k : ℕ) → k < n → f k ≡ g k) → numbers_that_pass f n ≡ numbers_that_pass g n
ids_same f g zero same = refl
ids_same f g (suc n) same = (λ i. ids_same f g n (λ k low. same k (omega (arith, low))) i ++ cond (same n (omega arith) i) (n ∷ []) [])

-- ---- the rows of pages

module _ (n size : ℕ) (ops : List MicroOp) where
  abbrev test : ℕ → Bool
  test k = changes_file n (op_at ops k)

  module _ (sizes : List ℕ) (each : (k : ℕ) → k < length ops → get_or sizes k 0 ≡ size_before n size ops k) where
    reaching_is : (page : Option ℕ)
        → places_reaching sizes ops (numbers_that_pass test (length ops)) page ≡ numbers_that_pass (touches n size ops page) (length ops)
    reaching_is page =
        picked_same (λ k. reaches page (get_or sizes k 0) (op_at ops k)) (λ k. reaches page (size_before n size ops k) (op_at ops k))
        (length ops) (numbers_that_pass test (length ops))
        (λ k low. ap (λ s. reaches page s (op_at ops k)) (each k low)) (λ k low. (ids_are test (length ops) k low).0)
        ∙ picked_ids test (λ k. reaches page (size_before n size ops k) (op_at ops k)) (length ops)

    module _ (rows : ℕ → Option (Vec ℕ)) (has : All (λ k. HasRow rows (op_at ops k)) (numbers_that_pass test (length ops))) where
      has_row : (k : ℕ) → k < length ops → test k ≡ true → HasRow rows (op_at ops k)
      has_row k low is =
          let w = ids_have test (length ops) k low is in
          subst (λ j. HasRow rows (op_at ops j)) w.2 (has w.0 0 w.1)

      -- a page without a row is reached by cuts only
      one_unwritten : (page s : ℕ) → rows page ≡ None → (o : MicroOp) → (changes_file n o ≡ true → HasRow rows o)
          → (changes_file n o && reaches None s o) ≡ (changes_file n o && reaches (Some page) s o)
      one_unwritten page s none (ChangeFileSize file to) there = refl
      one_unwritten page s none (WriteBlock file block start at bytes) there = by (file == n) (other == page) refl there
        where
          other : ℕ
          other = (start + at) / PAGE_BYTES

          by : (a b : Bool) → (other == page) ≡ b → (a ≡ true → IsSome (rows other)) → (a && false) ≡ (a && b)
          by false b is there = refl
          by true false is there = refl
          by true true is there = absurd (false≢true (subst IsSome (ap rows (eqb-true other page is) ∙ none) (there refl)))
      one_unwritten page s none _ there = refl

      unwritten : (page : ℕ) → rows page ≡ None
          → numbers_that_pass (touches n size ops None) (length ops) ≡ numbers_that_pass (touches n size ops (Some page)) (length ops)
      unwritten page none = ids_same (touches n size ops None) (touches n size ops (Some page)) (length ops)
          (λ k low. one_unwritten page (size_before n size ops k) none (op_at ops k) (has_row k low))

      -- each page's row, or the cuts if it has none, are those that reach it
      pub rows_are : AreRows sizes ops (numbers_that_pass test (length ops)) rows → (cuts : List ℕ)
          → cuts ≡ places_reaching sizes ops (numbers_that_pass test (length ops)) None
          → (page : ℕ) → option_map_or (λ row. row.items) (rows page) cuts ≡ numbers_that_pass (touches n size ops (Some page)) (length ops)
      rows_are are cuts cut page = by (rows page) refl
        where
          by : (o : Option (Vec ℕ)) → rows page ≡ o
              → option_map_or (λ row. row.items) o cuts ≡ numbers_that_pass (touches n size ops (Some page)) (length ops)
          by (Some row) is = are page row is ∙ reaching_is (Some page)
          by None is = cut ∙ reaching_is None ∙ unwritten page is

-- ---- one micro-operation

module _ (n page i : ℕ) (from : page * PAGE_BYTES ≤ i) (end : i < page * PAGE_BYTES + PAGE_BYTES) where
  taken : (to : ℕ) (xs ys : List ℕ) → get_or xs i 0 ≡ get_or ys i 0 → get_or (take to xs) i 0 ≡ get_or (take to ys) i 0
  taken to xs ys same = ⊎_elim
      (λ (low : i < to). get_or-take to xs i 0 low ∙ same ∙ sym (get_or-take to ys i 0 low))
      (λ (high : to ≤ i).
      get_or_past (take to xs) i 0 (let t = length-take to xs in omega (arith, t, high)) ∙ sym
      (get_or_past (take to ys) i 0 (let t = length-take to ys in omega (arith, t, high))))
      (cases_lt i to)

  over : (at : ℕ) (piece : List ℕ) (g f : Content) → byte_of g i ≡ byte_of f i
      → byte_of (overwritten at piece g) i ≡ byte_of (overwritten at piece f) i
  over at piece g f same = ⊎_elim
      (λ (before : i < at). byte_before at piece g i before ∙ same ∙ sym (byte_before at piece f i before))
      (λ (ge : at ≤ i). ⊎_elim
      (λ (within : i < at + length piece). byte_inside at piece g i ge within ∙ sym (byte_inside at piece f i ge within))
      (λ (behind : at + length piece ≤ i). byte_behind at piece g i behind ∙ same ∙ sym (byte_behind at piece f i behind))
      (cases_lt i (at + length piece)))
      (cases_lt i at)

  -- what is written into another page leaves this one
  apart : (first : ℕ) (piece : List ℕ) (f : Content) → first % PAGE_BYTES + length piece ≤ PAGE_BYTES → (first / PAGE_BYTES == page) ≡ false
      → byte_of f i ≡ byte_of (overwritten first piece f) i
  apart first piece f fits not =
      let other : first / PAGE_BYTES ≢ page = λ same. false≢true (sym not ∙ eq-eqb (first / PAGE_BYTES) page same) in
      ⊎_elim
      (λ (before : i < first). sym (byte_before first piece f i before))
      (λ (ge : first ≤ i). sym (byte_behind first piece f i (omega (arith, other, ge, fits, from, end))))
      (cases_lt i first)

  module _ (size : ℕ) (f g : Content) (same : byte_of g i ≡ byte_of f i) where
    cut_one : (file to : ℕ) (c : Bool) → (c ≡ true → f.size ≡ size)
        → byte_of (cond (c && nat_lt to size) (content_after_cut g (ChangeFileSize file to)) g) i
        ≡ byte_of (cond c (content_with_size to f) f) i
    cut_one file to false sized = same
    cut_one file to true sized =
        by (nat_lt to size)
        ∙ ap (λ s. get_or (cond (nat_lt to s) (take to f.bytes) f.bytes) i 0) (sym (sized refl))
      where
        by : (a : Bool)
            → byte_of (cond a (content_after_cut g (ChangeFileSize file to)) g) i ≡ get_or (cond a (take to f.bytes) f.bytes) i 0
        by true = taken to g.bytes f.bytes same
        by false = same

    write_one : (first : ℕ) (piece : List ℕ) (c : Bool) → first % PAGE_BYTES + length piece ≤ PAGE_BYTES
        → byte_of (cond (c && (first / PAGE_BYTES == page)) (overwritten first piece g) g) i
        ≡ byte_of (cond c (overwritten first piece f) f) i
    write_one first piece false fits = same
    write_one first piece true fits = by (first / PAGE_BYTES == page) refl
      where
        by : (b : Bool) → (first / PAGE_BYTES == page) ≡ b
            → byte_of (cond b (overwritten first piece g) g) i ≡ byte_of (overwritten first piece f) i
        by true is = over first piece g f same
        by false is = same ∙ apart first piece f fits is

    one_step : (o : MicroOp) → IsFitting o → (resizes n o ≡ true → f.size ≡ size)
        → byte_of (cond (changes_file n o && reaches (Some page) size o) (content_after_cut g o) g) i ≡ byte_of (content_after n f o) i
    one_step (ChangeFileSize file to) fits sized = cut_one file to (file == n) sized
    one_step (WriteBlock file block start at piece) fits sized = write_one (start + at) piece (file == n) fits
    one_step _ fits sized = same

-- ---- one after the other

pub unresized : (n s : ℕ) (o : MicroOp) → resizes n o ≡ false → size_after n s o ≡ s
unresized n s (ChangeFileSize file to) is = ap (λ b. cond b to s) is
unresized n s _ is = refl

module _ (n : ℕ) (start : Content) (ops : List MicroOp) (members : List Bool) where
  abbrev left : ℕ → Content
  left k = fold (λ f j. content_after n f (op_at ops j)) start (numbers_that_pass (mark_at members) k)

  left_more : (k : ℕ) → left (suc k) ≡ cond (mark_at members k) (content_after n (left k) (op_at ops k)) (left k)
  left_more k = fold_ids (λ f j. content_after n f (op_at ops j)) start (mark_at members) k

  -- if each that changes the size is a member, the size is what all leave
  sizes_same : (k : ℕ) → ((j : ℕ) → j < k → resizes n (op_at ops j) ≡ true → mark_at members j ≡ true)
      → (left k).size ≡ size_before n start.size ops k
  sizes_same zero all = refl
  sizes_same (suc k) all =
      let before = sizes_same k (λ j low is. all j (omega (arith, low)) is) in
      ap (λ (f : Content). f.size) (left_more k) ∙ ⊎_elim
      (λ (here : mark_at members k ≡ true).
      ap (λ b. (cond b (content_after n (left k) (op_at ops k)) (left k)).size) here ∙ one_size n (left k) (op_at ops k) ∙ ap
      (λ s. size_after n s (op_at ops k)) before)
      (λ (gone : mark_at members k ≡ false).
      ap (λ b. (cond b (content_after n (left k) (op_at ops k)) (left k)).size) gone ∙ before ∙ sym
      (unresized n (size_before n start.size ops k) (op_at ops k) (none gone)))
      (cases_Bool (mark_at members k))
    where
      none : mark_at members k ≡ false → resizes n (op_at ops k) ≡ false
      none gone = ⊎_elim
          (λ (yes : resizes n (op_at ops k) ≡ true). absurd (false≢true (sym gone ∙ all k (omega arith) yes)))
          (λ (not : resizes n (op_at ops k) ≡ false). not)
          (cases_Bool (resizes n (op_at ops k)))

  module _ (count page : ℕ) (fits : (k : ℕ) → k < count → IsFitting (op_at ops k))
      (closed : (j k : ℕ) → j < k → mark_at members k ≡ true → resizes n (op_at ops j) ≡ true → resizes n (op_at ops k) ≡ true
      → mark_at members j ≡ true) where
    abbrev shown : ℕ → Content
    shown k = fold (member_struck ops members) start (numbers_that_pass (touches n start.size ops (Some page)) k)

    module _ (i : ℕ) (from : page * PAGE_BYTES ≤ i) (end : i < page * PAGE_BYTES + PAGE_BYTES) where
      agree_at : (k : ℕ) → k ≤ count → byte_of (shown k) i ≡ byte_of (left k) i
      agree_at zero low = refl
      agree_at (suc k) low =
          ap (λ f. byte_of f i) (fold_ids (member_struck ops members) start (touches n start.size ops (Some page)) k)
          ∙ by (agree_at k (omega (arith, low))) (mark_at members k) refl
          ∙ sym (ap (λ f. byte_of f i) (left_more k))
        where
          same_both : (b : Bool) → cond b (shown k) (shown k) ≡ shown k
          same_both true = refl
          same_both false = refl

          by : byte_of (shown k) i ≡ byte_of (left k) i → (b : Bool) → mark_at members k ≡ b
              → byte_of
              (cond (touches n start.size ops (Some page) k) (cond b (content_after_cut (shown k) (op_at ops k)) (shown k)) (shown k)) i
              ≡ byte_of (cond b (content_after n (left k) (op_at ops k)) (left k)) i
          by before true here =
              one_step n page i from end (size_before n start.size ops k) (left k) (shown k) before (op_at ops k)
              (fits k (omega (arith, low)))
              (λ is. sizes_same k (λ j less was. closed j k less here was is))
          by before false gone = ap (λ f. byte_of f i) (same_both (touches n start.size ops (Some page) k)) ∙ before

    pub agree : AgreeIn page (struck_by ops members start (numbers_that_pass (touches n start.size ops (Some page)) count))
        (content_left n start ops (numbers_that_pass (mark_at members) count))
    unfolding content_left
    agree i from end =
        agree_at i from end count (omega arith) ∙ sym
        (ap (λ f. byte_of f i) (fold_map (content_after n) (op_at ops) start (numbers_that_pass (mark_at members) count)))
