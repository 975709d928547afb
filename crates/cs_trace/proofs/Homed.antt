-- Numbers of directories by the entries at which they were made.
use Rattle.std.proofs.Common.{◌≡◌, ◌≢◌, ◌⊎◌, ◌<◌, ◌≤◌, ℕ, suc, Bool, true, false, ◌+◌, List, [], ◌∷◌, ◌++◌, Option, None, Some, length}
use Rattle.std.proofs.Common.{refl, sym, ap, subst, ◌∙◌, arith, ⊎_elim, length-append}
use Rattle.std.specs.Prelude.{if◌then◌else◌}
use Rattle.std.proofs.lemmas.Bool.{cases_lt}
use Rattle.std.proofs.lemmas.List.{map-append}
use Rattle.std.proofs.lemmas.Option.{same_Some}
use Rattle.std.specs.Option.{is_some}
use Rattle.std.specs.String.{string_bytes}
use Rattle.std.specs.FinMap.{empty, get, get-empty, insert}
use Rattle.cs_entries.specs.declared.entry.Entry.{Entry}
use Rattle.cs_entries.specs.Entries.{entry_eq}
use Rattle.cs_entries.specs.Laws.One.{entry_cases}
use Rattle.cs_entries.specs.Laws.Records.{entry_exact, entry_total}
use Rattle.cs_entries.specs.Paths.{entry_in}
use Rattle.cs_entries.specs.Tables.{Table, entry_cmp}
use Rattle.cs_entries.specs.declared.node.Node.{Node}
use Rattle.cs_entries.specs.declared.node.Node.TheVariants.{Directory}
use Rattle.cs_tree_model.specs.Maps.Changes.{get-insert_same, get-insert_other}
use Rattle.cs_trace.specs.Homes.{AreFirst, IsFirst, home_of, homes_in}
use Rattle.cs_trace.specs.Operations.{number_for, place_of}
use Rattle.cs_trace.specs.declared.homes.Home.{Home}
use Rattle.cs_trace_lines.specs.Versions.{is_fourth}
use Rattle.cs_trace_lines.specs.declared.version.Version.{Version}

-- ---- the place of an entry in a list

place_by : (b : Bool) (n m : ℕ) → n ≤ m → (if b then 0 else suc n) ≤ suc m
place_by true n m h = omega arith
place_by false n m h = omega (arith, h)

pub place_within : (e : Entry) (homes : List Entry) → place_of e homes ≤ length homes
place_within e [] = omega arith
place_within e (f ∷ fs) = place_by (entry_eq e f) (place_of e fs) (length fs) (place_within e fs)

inside_by : (b : Bool) (n k m : ℕ) → (n < m → k ≡ n) → (if b then 0 else suc n) < suc m → (if b then 0 else suc k)
    ≡ (if b then 0 else suc n)
inside_by true n k m more low = refl
inside_by false n k m more low = ap suc (more (omega (arith, low)))

place_inside : (q e : Entry) (homes : List Entry) → place_of q homes < length homes → place_of q (homes ++ e ∷ []) ≡ place_of q homes
place_inside q e [] low = absurd (omega (arith, low))
place_inside q e (f ∷ fs) low =
    inside_by (entry_eq q f) (place_of q fs) (place_of q (fs ++ e ∷ [])) (length fs) (place_inside q e fs) low

past_by : (b : Bool) (n k m x : ℕ) → (m ≤ n → k ≡ m + x) → suc m ≤ (if b then 0 else suc n) → (if b then 0 else suc k) ≡ suc m + x
past_by true n k m x more low = absurd (omega (arith, low))
past_by false n k m x more low = let e = more (omega (arith, low)) in omega (arith, e)

place_past : (q e : Entry) (homes : List Entry) → length homes ≤ place_of q homes
    → place_of q (homes ++ e ∷ []) ≡ length homes + (if entry_eq q e then 0 else 1)
place_past q e [] low = zero_more (if entry_eq q e then 0 else 1)
  where
    zero_more : (n : ℕ) → n ≡ 0 + n
    zero_more n = omega arith
place_past q e (f ∷ fs) low =
    past_by (entry_eq q f) (place_of q fs) (place_of q (fs ++ e ∷ [])) (length fs) (if entry_eq q e then 0 else 1)
    (place_past q e fs) low

-- ---- the number that a directory gets

some_number : (c d : ℕ) → Some (Directory c) ≡ Some (Directory d) → c ≡ d
some_number c d h = cc

module _ (t : Table) (homes : List Entry) (first : AreFirst t homes) (e : Entry) where
  inside_or_past : (place_of e homes < length homes) ⊎ (length homes ≤ place_of e homes)
  inside_or_past = cases_lt (place_of e homes) (length homes)

  pub number_there : (d : ℕ) → get t e ≡ Some (Directory d) → d ≡ place_of e homes
  number_there d is = ⊎_elim
      (λ (low : place_of e homes < length homes). some_number d (place_of e homes) (sym is ∙ (first e).some low))
      (λ (high : length homes ≤ place_of e homes). absurd (nothing (sym is ∙ (first e).none high)))
      inside_or_past
    where
      nothing : Some (Directory d) ≡ None → ⊥
      nothing h = cc

  pub number_next : get t e ≡ None → length homes ≡ place_of e homes
  number_next is = ⊎_elim
      (λ (low : place_of e homes < length homes). absurd (nothing (sym is ∙ (first e).some low)))
      (λ (high : length homes ≤ place_of e homes). omega (arith, high, place_within e homes))
      inside_or_past
    where
      nothing : None ≡ Some (Directory (place_of e homes)) → ⊥
      nothing h = cc

  pub number_other : (node : Node) → get t e ≡ Some node → ((d : ℕ) → node ≢ Directory d) → length homes ≡ place_of e homes
  number_other node is other = ⊎_elim
      (λ (low : place_of e homes < length homes).
      absurd (other (place_of e homes) (same_Some node (Directory (place_of e homes)) (sym is ∙ (first e).some low))))
      (λ (high : length homes ≤ place_of e homes). omega (arith, high, place_within e homes))
      inside_or_past

-- ---- one entry more

pub first_empty : AreFirst empty []
first_empty e = record { some = λ low. absurd (omega (arith, low)); none = λ high. get-empty entry_cmp e }

module _ (t : Table) (homes : List Entry) (first : AreFirst t homes) (e : Entry) where
  abbrev more : List Entry
  more = homes ++ e ∷ []

  long : length more ≡ length homes + 1
  long = length-append homes (e ∷ [])

  -- the entry is in the list
  e_inside : (node : Node) → get t e ≡ Some node → place_of e homes < length homes
  e_inside node is = ⊎_elim
      (λ (low : place_of e homes < length homes). low)
      (λ (high : length homes ≤ place_of e homes). absurd (nothing (sym is ∙ (first e).none high)))
      (cases_lt (place_of e homes) (length homes))
    where
      nothing : Some node ≡ None → ⊥
      nothing h = cc

  -- or it isn't
  e_past : get t e ≡ None → length homes ≤ place_of e homes
  e_past is = ⊎_elim
      (λ (low : place_of e homes < length homes). absurd (nothing (sym is ∙ (first e).some low)))
      (λ (high : length homes ≤ place_of e homes). high)
      (cases_lt (place_of e homes) (length homes))
    where
      nothing : None ≡ Some (Directory (place_of e homes)) → ⊥
      nothing h = cc

  at_end : (q : Entry) → entry_eq q e ≡ true → length homes ≤ place_of q homes → place_of q more ≡ length homes
  at_end q same high =
      let p = place_past q e homes high in
      let zero_more : ◌≡◌ {A = ℕ} (if entry_eq q e then 0 else 1) 0 = ap (λ b. if b then 0 else 1) same in
      omega (arith, p, zero_more)

  behind : (q : Entry) → entry_eq q e ≡ false → length homes ≤ place_of q homes → place_of q more ≡ length homes + 1
  behind q other high =
      let p = place_past q e homes high in
      let one_more : ◌≡◌ {A = ℕ} (if entry_eq q e then 0 else 1) 1 = ap (λ b. if b then 0 else 1) other in
      omega (arith, p, one_more)

  same_node : (a b : ℕ) → a ≡ b → Some (Directory a) ≡ Some (Directory b)
  same_node a b h = ap (λ n. Some (Directory n)) h

  pub first_again : (node : Node) → get t e ≡ Some node → AreFirst t more
  first_again node is q = ⊎_elim
      (λ (low : place_of q homes < length homes).
      (let p = place_inside q e homes low in
      record {
        some = λ _. (first q).some low ∙ same_node (place_of q homes) (place_of q more) (sym p);
        none = λ high. absurd (omega (arith, high, long, p, low));
      }))
      (λ (high : length homes ≤ place_of q homes). ⊎_elim
      (λ (same : (entry_eq q e ≡ true) × (q ≡ e)).
      absurd (let low = e_inside node is in let p = ap (λ x. place_of x homes) same.1 in omega (arith, low, high, p)))
      (λ (other : (entry_eq q e ≡ false) × (q ≢ e)).
      (let p = behind q other.0 high in
      record {
        some = λ low. absurd (omega (arith, low, long, p));
        none = λ _. (first q).none high;
      }))
      (entry_cases q e))
      (cases_lt (place_of q homes) (length homes))

  pub first_more : get t e ≡ None → AreFirst (insert t e (Directory (length homes))) more
  first_more is q = ⊎_elim
      (λ (same : (entry_eq q e ≡ true) × (q ≡ e)).
      (let high : length homes ≤ place_of q homes = subst (λ x. length homes ≤ place_of x homes) (sym same.1) (e_past is) in
      let p = at_end q same.0 high in
      record {
        some = λ _.
            ap (get (insert t e (Directory (length homes)))) same.1
            ∙ get-insert_same entry_total entry_exact t e (Directory (length homes))
            ∙ same_node (length homes) (place_of q more) (sym p);
        none = λ past. absurd (omega (arith, past, long, p));
      }))
      (λ (other : (entry_eq q e ≡ false) × (q ≢ e)).
      (let there = get-insert_other entry_total entry_exact t q e (Directory (length homes)) other.1 in
      ⊎_elim
      (λ (low : place_of q homes < length homes).
      (let p = place_inside q e homes low in
      record {
        some = λ _. there ∙ (first q).some low ∙ same_node (place_of q homes) (place_of q more) (sym p);
        none = λ past. absurd (omega (arith, past, long, p, low));
      }))
      (λ (high : length homes ≤ place_of q homes).
      (let p = behind q other.0 high in
      record {
        some = λ low. absurd (omega (arith, low, long, p));
        none = λ _. there ∙ (first q).none high;
      }))
      (cases_lt (place_of q homes) (length homes))))
      (entry_cases q e)

  pub first_some : is_some (get t e) ≡ true → AreFirst t more
  first_some there = by (get t e) refl there
    where
      by : (o : Option Node) → get t e ≡ o → is_some o ≡ true → AreFirst t more
      by (Some node) is some = first_again node is
      by None is some = absurd (cc)

  pub first_none : is_some (get t e) ≡ false → AreFirst (insert t e (Directory (length homes))) more
  first_none free = by (get t e) refl free
    where
      by : (o : Option Node) → get t e ≡ o → is_some o ≡ false → AreFirst (insert t e (Directory (length homes))) more
      by (Some node) is none = absurd (cc)
      by None is none = first_more is

-- ---- as the reader keeps them

pub homes_push : (hs : List Home) (h : Home) (directory : ℕ) (name : List ℕ) → h.directory ≡ directory → string_bytes h.name ≡ name
    → homes_in (hs ++ h ∷ []) ≡ homes_in hs ++ entry_in directory name ∷ []
homes_push hs h directory name one two =
    map-append home_of hs (h ∷ []) ∙ (λ i. homes_in hs ++ entry_in (one i) (two i) ∷ [])

-- before the fourth version
pub number_early : (version : Version) (homes : List Entry) (e : Entry) → is_fourth version ≡ false
    → place_of e homes ≡ number_for version homes e
number_early version homes e early = sym (ap (λ b. if b then length homes else place_of e homes) early)
