-- What stands, by paths in their order: the list of a state's paths.
use Rattle.std.proofs.Common.{◌≡◌, ℕ, zero, suc, ◌+◌, ◌<◌, Bool, true, false, cond, T, List, [], ◌∷◌, ◌⊎◌, inl, inr, Option, None, Some, refl, sym}
use Rattle.std.proofs.Common.{ap, ◌∙◌, subst, arith, ⊎_elim, length, get_or, slice_get}
use Rattle.std.proofs.lemmas.Bool.{false≢true}
use Rattle.std.specs.FinMap.{FinMap, entries, find, from_sorted, get, entries-from_sorted, get-from_sorted, is_sorted, same_map}
use Rattle.std.specs.FinMap.Entries.{below_all}
use Rattle.std.specs.Option.{is_some, option_map, option_map_or}
use Rattle.std.specs.Ordering.{is_lt}
use Rattle.std.specs.declared.cmp.Ordering.TheVariants.{Less}
use Rattle.cs_tree_model.specs.Laws.Paths.{path_exact, path_total}
use Rattle.cs_tree_model.specs.Maps.Orders.{both_true}
use Rattle.cs_tree_model.specs.Tree.{Path, path_cmp}
use Rattle.cs_entries.specs.declared.node.Node.{Node}
use Rattle.cs_entries.specs.Laws.Listed.{In, node_of}
use Rattle.cs_entries.specs.Laws.Records.{find_in, in_find}
use Rattle.cs_apm.specs.Slots.{Slot, slot_at}
use Rattle.cs_state.specs.Shares.{count_standing, is_entry}

abbrev bit : Bool → ℕ
bit b = cond b 1 0

abbrev pub path_at : List Path → ℕ → Path
path_at ps i = get_or ps i []

-- what stands, with its path
abbrev pub standing : List Path → List Slot → List (Path × Node)
standing [] slots = []
standing (p ∷ ps) [] = []
standing (p ∷ ps) (s ∷ ss) = option_map_or (λ node. (p, node) ∷ standing ps ss) s (standing ps ss)

-- the path has what the slot of its place has
pub record IsThere (ps : List Path) (ss : List Slot) (q : Path) (v : Node) : Type 0 where
  pub id : ℕ
  pub low : id < length ps
  pub path : path_at ps id ≡ q
  pub slot : slot_at ss id ≡ Some v

-- paths of what stands ascend
abbrev pub AreRising : List Path → List Slot → Type 0
AreRising ps ss = (i j : ℕ) → i < j → j < length ps → is_entry (slot_at ss i) ≡ true → is_entry (slot_at ss j) ≡ true
    → path_cmp (path_at ps i) (path_at ps j) ≡ Less

-- ---- by number

standing_first : (s : Slot) (ss : List Slot) (i : ℕ) → count_standing (s ∷ ss) (suc i) ≡ bit (is_entry s) + count_standing ss i
standing_first s ss zero = refl
standing_first s ss (suc i) = (let rest = standing_first s ss i in omega (arith, rest))

one_more : (n : ℕ) → bit true + n ≡ suc n
one_more n = omega arith

no_more : (n : ℕ) → bit false + n ≡ n
no_more n = omega arith

-- what is at an id has its number
pub at_number : (ps : List Path) (ss : List Slot) → length ss ≡ length ps → (i : ℕ) → i < length ps → (node : Node)
    → slot_at ss i ≡ Some node → slice_get (standing ps ss) (count_standing ss i) ≡ Some (path_at ps i, node)
at_number [] ss long i low node is = absurd (omega (arith, low))
at_number (p ∷ ps) [] long i low node is = absurd (omega (arith, long))
at_number (p ∷ ps) (None ∷ ss) long zero low node is = absurd (false≢true (ap is_some is))
at_number (p ∷ ps) (Some m ∷ ss) long zero low node is = ap (option_map (λ w. (p, w))) is
at_number (p ∷ ps) (None ∷ ss) long (suc i) low node is =
    ap (slice_get (standing ps ss)) (standing_first None ss i ∙ no_more (count_standing ss i))
    ∙ at_number ps ss (omega (arith, long)) i (omega (arith, low)) node is
at_number (p ∷ ps) (Some m ∷ ss) long (suc i) low node is =
    ap (slice_get (standing (p ∷ ps) (Some m ∷ ss))) (standing_first (Some m) ss i ∙ one_more (count_standing ss i))
    ∙ at_number ps ss (omega (arith, long)) i (omega (arith, low)) node is

-- there are so many in all
pub count_all : (ps : List Path) (ss : List Slot) → length ss ≡ length ps → length (standing ps ss) ≡ count_standing ss (length ss)
count_all [] [] long = refl
count_all [] (s ∷ ss) long = absurd (omega (arith, long))
count_all (p ∷ ps) [] long = absurd (omega (arith, long))
count_all (p ∷ ps) (None ∷ ss) long =
    (let rest = count_all ps ss (omega (arith, long)) in let first = standing_first None ss (length ss) in omega (arith, rest, first))
count_all (p ∷ ps) (Some m ∷ ss) long =
    (let rest = count_all ps ss (omega (arith, long)) in let first = standing_first (Some m) ss (length ss) in omega (arith, rest, first))

-- ---- in order

below_standing : (p : Path) (ps : List Path) (ss : List Slot)
    → ((j : ℕ) → j < length ps → is_entry (slot_at ss j) ≡ true → path_cmp p (path_at ps j) ≡ Less)
    → T (below_all path_cmp p (standing ps ss))
below_standing p [] ss h = tt
below_standing p (q ∷ qs) [] h = tt
below_standing p (q ∷ qs) (None ∷ ss) h = below_standing p qs ss (λ j low here. h (suc j) (omega (arith, low)) here)
below_standing p (q ∷ qs) (Some node ∷ ss) h =
    both_true (is_lt (path_cmp p q)) (below_all path_cmp p (standing qs ss))
    (subst (λ o. T (is_lt o)) (sym (h 0 (omega arith) refl)) tt)
    (below_standing p qs ss (λ j low here. h (suc j) (omega (arith, low)) here))

pub standing_sorted : (ps : List Path) (ss : List Slot) → AreRising ps ss → T (is_sorted path_cmp (standing ps ss))
standing_sorted [] ss h = tt
standing_sorted (p ∷ ps) [] h = tt
standing_sorted (p ∷ ps) (None ∷ ss) h =
    standing_sorted ps ss (λ i j lt low a b. h (suc i) (suc j) (omega (arith, lt)) (omega (arith, low)) a b)
standing_sorted (p ∷ ps) (Some node ∷ ss) h =
    both_true (below_all path_cmp p (standing ps ss)) (is_sorted path_cmp (standing ps ss))
    (below_standing p ps ss (λ j low here. h 0 (suc j) (omega arith) (omega (arith, low)) refl here))
    (standing_sorted ps ss (λ i j lt low a b. h (suc i) (suc j) (omega (arith, lt)) (omega (arith, low)) a b))

-- ---- what it has

standing_in : (ps : List Path) (ss : List Slot) (i : ℕ) → i < length ps → (v : Node) → slot_at ss i ≡ Some v
    → In (path_at ps i, v) (standing ps ss)
standing_in [] ss i low v is = absurd (omega (arith, low))
standing_in (p ∷ ps) [] i low v is = absurd (false≢true (ap is_some is))
standing_in (p ∷ ps) (None ∷ ss) zero low v is = absurd (false≢true (ap is_some is))
standing_in (p ∷ ps) (Some m ∷ ss) zero low v is = inl (λ i. (p, node_of v m (sym is) i))
standing_in (p ∷ ps) (None ∷ ss) (suc i) low v is = standing_in ps ss i (omega (arith, low)) v is
standing_in (p ∷ ps) (Some m ∷ ss) (suc i) low v is = inr (standing_in ps ss i (omega (arith, low)) v is)

one_on : (p : Path) (s : Slot) (ps : List Path) (ss : List Slot) (q : Path) (v : Node) → IsThere ps ss q v → IsThere (p ∷ ps) (s ∷ ss) q v
one_on p s ps ss q v w = (let l = w.low in record { id = suc w.id; low = omega (arith, l); path = w.path; slot = w.slot })

standing_has : (ps : List Path) (ss : List Slot) (q : Path) (v : Node) → In (q, v) (standing ps ss) → IsThere ps ss q v
standing_has [] ss q v h = absurd h
standing_has (p ∷ ps) [] q v h = absurd h
standing_has (p ∷ ps) (None ∷ ss) q v h = one_on p None ps ss q v (standing_has ps ss q v h)
standing_has (p ∷ ps) (Some m ∷ ss) q v h = ⊎_elim
    (λ (here : ◌≡◌ {A = Path × Node} (q, v) (p, m)). record {
      id = 0;
      low = omega arith;
      path = ap (λ x. x.0) (sym here);
      slot = ap (λ x. Some x.1) (sym here);
    })
    (λ (later : In (q, v) (standing ps ss)). one_on p (Some m) ps ss q v (standing_has ps ss q v later))
    h

-- a map that has just what stands lists it
module _ (ps : List Path) (ss : List Slot) (rising : AreRising ps ss) (nodes : FinMap path_cmp Node)
    (there : (i : ℕ) → i < length ps → (v : Node) → slot_at ss i ≡ Some v → get nodes (path_at ps i) ≡ Some v)
    (has : (q : Path) (v : Node) → get nodes q ≡ Some v → IsThere ps ss q v) where
  sorted : T (is_sorted path_cmp (standing ps ss))
  sorted = standing_sorted ps ss rising

  same : (q : Path) → get nodes q ≡ get {R = path_cmp} (from_sorted (standing ps ss)) q
  same q = by (get nodes q) refl ∙ sym (get-from_sorted path_cmp (standing ps ss) q sorted)
    where
      nothing : get nodes q ≡ None → (o : Option Node) → find path_cmp q (standing ps ss) ≡ o → get nodes q ≡ o
      nothing none None e = none
      nothing none (Some v) e =
          (let w = standing_has ps ss q v (find_in path_total path_exact q (standing ps ss) v e) in
          ap (get nodes) (sym w.path) ∙ there w.id w.low v w.slot)

      by : (o : Option Node) → get nodes q ≡ o → get nodes q ≡ find path_cmp q (standing ps ss)
      by (Some v) is =
          (let w = has q v is in
          is ∙ sym (in_find path_total path_exact q (standing ps ss) v sorted
          (subst (λ p. In (p, v) (standing ps ss)) w.path (standing_in ps ss w.id w.low v w.slot))))
      by None none = nothing none (find path_cmp q (standing ps ss)) refl

  pub entries_are : entries nodes ≡ standing ps ss
  entries_are =
      ap entries (same_map path_total path_exact nodes (from_sorted (standing ps ss)) same)
      ∙ entries-from_sorted path_cmp (standing ps ss) sorted
