-- The slots mirror what each entry holds, step by step, and list it in order.
use Rattle.std.proofs.Common.{◌≡◌, ◌≢◌, ℕ, zero, suc, ◌<◌, Bool, true, false, cond, T, List, []}
use Rattle.std.proofs.Common.{◌∷◌, Option, None, Some, refl, sym, ap, ◌∙◌, subst, arith, ⊎_elim, length}
use Rattle.std.proofs.lemmas.Bool.{false≢true}
use Rattle.std.proofs.lemmas.List.{length-set}
use Rattle.std.specs.Prelude.{slice_set, fold, map}
use Rattle.std.specs.Ordering.{eq_by_cmp, is_eq, is_lt}
use Rattle.std.specs.declared.cmp.Ordering.TheVariants.{Less}
use Rattle.std.specs.FinMap.{find, get, insert, remove, entries, get-insert, get-remove}
use Rattle.std.specs.FinMap.{from_sorted, entries-from_sorted, get-from_sorted, is_sorted, same_map}
use Rattle.std.specs.FinMap.Entries.{below_all}
use Rattle.std.specs.Option.{option_map_or}
use Rattle.cs_tree_model.specs.Maps.Changes.{key_cases}
use Rattle.cs_tree_model.specs.Maps.Orders.{both_true}
use Rattle.cs_entries.specs.declared.entry.Entry.{Entry}
use Rattle.cs_entries.specs.declared.node.Node.{Node}
use Rattle.cs_entries.specs.declared.node.Node.TheVariants.{File}
use Rattle.cs_entries.specs.DirEntries.{entry_of}
use Rattle.cs_entries.specs.Entries.{entry_eq}
use Rattle.cs_entries.specs.Tables.{Table, entry_cmp}
use Rattle.cs_entries.specs.Laws.One.{entry_cases}
use Rattle.cs_entries.specs.Laws.Records.{entry_exact, entry_total}
use Rattle.cs_micro.specs.declared.micro_op.MicroOp.{MicroOp}
use Rattle.cs_micro.specs.declared.micro_op.MicroOp.TheVariants.{CreateDirEntry, DeleteDirEntry}
use Rattle.cs_micro.specs.declared.micro_op.MicroOp.TheVariants.{MoveDirEntry, LinkDirEntry}
use Rattle.cs_micro.specs.declared.micro_op.MicroOp.TheVariants.{ChangeFileSize, WriteBlock}
use Rattle.cs_micro.specs.declared.micro_op.MicroOp.TheVariants.{SetAttr, Say}
use Rattle.cs_apm.specs.Rules.{op_at}
use Rattle.cs_apm.specs.States.{entries_after}
use Rattle.cs_apm.specs.declared.slot.Step.{Step}
use Rattle.cs_apm.specs.declared.slot.Step.TheVariants.{Set, Move, Other}
use Rattle.cs_apm.specs.Slots.{AreAboveBy, AreAscending, AreSteps, IsPlace, IsStep, Mirror, Slot}
use Rattle.cs_apm.specs.Slots.{entry_at, held_in_slots, moved_slot, slot_at, slot_of, slots_after}
use Rattle.cs_apm.specs.Slots.{step_at, table_of_slots}

-- ---- entries that are one

pub same_entry : (e : Entry) → entry_eq e e ≡ true
same_entry e = ⊎_elim
    (λ (one : (entry_eq e e ≡ true) × (e ≡ e)). one.0)
    (λ (two : (entry_eq e e ≡ false) × (e ≢ e)). absurd (two.1 refl))
    (entry_cases e e)

pub turned : (e f : Entry) → eq_by_cmp entry_cmp f e ≡ entry_eq e f
turned e f = ⊎_elim
    (λ (one : (entry_eq e f ≡ true) × (e ≡ f)). ⊎_elim
    (λ (same : (eq_by_cmp entry_cmp f e ≡ true) × (f ≡ e)). same.0 ∙ sym one.0)
    (λ (other : (eq_by_cmp entry_cmp f e ≡ false) × (f ≢ e)). absurd (other.1 (sym one.1)))
    (key_cases entry_total entry_exact f e))
    (λ (two : (entry_eq e f ≡ false) × (e ≢ f)). ⊎_elim
    (λ (same : (eq_by_cmp entry_cmp f e ≡ true) × (f ≡ e)). absurd (two.1 (sym same.1)))
    (λ (other : (eq_by_cmp entry_cmp f e ≡ false) × (f ≢ e)). other.0 ∙ sym two.0)
    (key_cases entry_total entry_exact f e))
    (entry_cases e f)

less_apart : (e f : Entry) → entry_cmp e f ≡ Less → entry_eq e f ≡ false
less_apart e f less = ⊎_elim
    (λ (one : (entry_eq e f ≡ true) × (e ≡ f)). absurd (false≢true
    (sym (ap is_eq less) ∙ turned f e ∙ ap (λ w. entry_eq f w) one.1 ∙ same_entry f)))
    (λ (two : (entry_eq e f ≡ false) × (e ≢ f)). two.0)
    (entry_cases e f)

-- ---- one slot

above_at : (e : Entry) (es : List Entry) → AreAboveBy entry_cmp e es → (i : ℕ) → i < length es
    → entry_cmp e (entry_at es i) ≡ Less
above_at e [] h i lt = absurd (omega (arith, lt))
above_at e (f ∷ fs) h zero lt = h.0
above_at e (f ∷ fs) h (suc i) lt = above_at e fs h.1 i (omega (arith, lt))

pub at_place : (es : List Entry) (slots : List Slot) → AreAscending es
    → length slots ≡ length es → (i : ℕ) (e : Entry) → IsPlace es i e
    → slot_of es slots e ≡ slot_at slots i
at_place [] slots up long i e is = absurd (let l = is.0 in omega (arith, l))
at_place (f ∷ fs) [] up long i e is = absurd (omega (arith, long))
at_place (f ∷ fs) (s ∷ ss) up long zero e is =
    ap (λ b. cond b s (slot_of fs ss e)) (ap (entry_eq f) (sym is.1) ∙ same_entry f)
at_place (f ∷ fs) (s ∷ ss) up long (suc i) e is =
    let low : i < length fs = (let l = is.0 in omega (arith, l)) in
    ap (λ b. cond b s (slot_of fs ss e))
    (ap (entry_eq f) (sym is.1) ∙ less_apart f (entry_at fs i) (above_at f fs up.0 i low))
    ∙ at_place fs ss up.1 (omega (arith, long)) i e (low, is.1)

with_slot : (es : List Entry) (slots : List Slot) → AreAscending es
    → length slots ≡ length es → (i : ℕ) (e : Entry) → IsPlace es i e → (s : Slot) (q : Entry)
    → slot_of es (slice_set slots i s) q ≡ cond (entry_eq e q) s (slot_of es slots q)
with_slot [] slots up long i e is s q = absurd (let l = is.0 in omega (arith, l))
with_slot (f ∷ fs) [] up long i e is s q = absurd (omega (arith, long))
with_slot (f ∷ fs) (t ∷ ts) up long zero e is s q =
    shadowed (entry_eq e q) (entry_eq f q) _ _ _ (ap (λ w. entry_eq w q) (sym is.1))
  where
    shadowed : {A : Type 0} (a b : Bool) (x y z : A) → a ≡ b → cond b x z ≡ cond a x (cond b y z)
    shadowed true true x y z h = refl
    shadowed true false x y z h = absurd (false≢true (sym h))
    shadowed false true x y z h = absurd (false≢true h)
    shadowed false false x y z h = refl
with_slot (f ∷ fs) (t ∷ ts) up long (suc i) e is s q =
    let low : i < length fs = (let l = is.0 in omega (arith, l)) in
    let rest = with_slot fs ts up.1 (omega (arith, long)) i e (low, is.1) s q in
    ⊎_elim
    (λ (one : (entry_eq f q ≡ true) × (f ≡ q)).
    let other : entry_eq e q ≡ false =
    apart_of e f q (ap (entry_cmp f) (sym is.1) ∙ above_at f fs up.0 i low) one.1 in
    rw (one.0, other) refl)
    (λ (two : (entry_eq f q ≡ false) × (f ≢ q)). rw two.0 rest)
    (entry_cases f q)
  where
    apart_of : (e f q : Entry) → entry_cmp f e ≡ Less → f ≡ q → entry_eq e q ≡ false
    apart_of e f q less same = ⊎_elim
        (λ (one : (entry_eq e q ≡ true) × (e ≡ q)). absurd
        (false≢true
        (sym (less_apart f e less) ∙ ap (entry_eq f) (one.1 ∙ sym same) ∙ same_entry f)))
        (λ (two : (entry_eq e q ≡ false) × (e ≢ q)). two.0)
        (entry_cases e q)

-- ---- one step

pub get_inserted : (t : Table) (e q : Entry) (node : Node)
    → get (insert t e node) q ≡ cond (entry_eq e q) (Some node) (get t q)
get_inserted t e q node =
    get-insert entry_total t e node q ∙ ap (λ b. cond b (Some node) (get t q)) (turned e q)

get_removed : (t : Table) (e q : Entry) → get (remove t e) q ≡ cond (entry_eq e q) None (get t q)
get_removed t e q = get-remove entry_total t e q ∙ ap (λ b. cond b None (get t q)) (turned e q)

module _ (es : List Entry) (up : AreAscending es) (slots : List Slot)
    (long : length slots ≡ length es) (t : Table) (mirror : Mirror es slots t) where
  pub set_mirror : (i : ℕ) (e : Entry) → IsPlace es i e → (s : Slot) (u : Table)
      → ((q : Entry) → get u q ≡ cond (entry_eq e q) s (get t q)) → Mirror es (slice_set slots i s) u
  set_mirror i e is s u h q =
      h q ∙ ap (cond (entry_eq e q) s) (mirror q) ∙ sym (with_slot es slots up long i e is s q)

  move_mirror : (i j : ℕ) (a b : Entry) → IsPlace es i a → IsPlace es j b → (s : Slot)
      → slot_at slots i ≡ s
      → Mirror es (moved_slot i j slots s)
      (option_map_or (λ held. insert (remove t a) b held) (get t a) t)
  move_mirror i j a b from to None is q =
      let none : get t a ≡ None = mirror a ∙ at_place es slots up long i a from ∙ is in
      rw none (mirror q)
  move_mirror i j a b from to (Some node) is q =
      let some : get t a ≡ Some node = mirror a ∙ at_place es slots up long i a from ∙ is in
      rw some (
      get_inserted (remove t a) b q node
      ∙ ap (cond (entry_eq b q) (Some node))
      (get_removed t a q ∙ ap (cond (entry_eq a q) None) (mirror q) ∙ sym
      (with_slot es slots up long i a from None q))
      ∙ sym (with_slot es (slice_set slots i None) up (length-set slots i None ∙ long) j b to
      (Some node) q))

  step_mirror : (o : MicroOp) (s : Step) → IsStep es o s
      → Mirror es (slots_after slots s) (entries_after t o)
  step_mirror (CreateDirEntry e node rights bytes) (Set i s) h =
      set_mirror i (entry_of e) h.0 s (insert t (entry_of e) node)
      (λ q. get_inserted t (entry_of e) q node
      ∙ ap (λ w. cond (entry_eq (entry_of e) q) w (get t q)) (sym h.1))
  step_mirror (DeleteDirEntry e node) (Set i s) h =
      set_mirror i (entry_of e) h.0 s (remove t (entry_of e))
      (λ q. get_removed t (entry_of e) q
      ∙ ap (λ w. cond (entry_eq (entry_of e) q) w (get t q)) (sym h.1))
  step_mirror (MoveDirEntry a b node old) (Move i j) h =
      move_mirror i j (entry_of a) (entry_of b) h.0 h.1 (slot_at slots i) refl
  step_mirror (LinkDirEntry e kind file old half) (Set i s) h =
      set_mirror i (entry_of e) h.0 s (insert t (entry_of e) (File kind file))
      (λ q. get_inserted t (entry_of e) q (File kind file)
      ∙ ap (λ w. cond (entry_eq (entry_of e) q) w (get t q)) (sym h.1))
  step_mirror (ChangeFileSize file to) Other h = mirror
  step_mirror (WriteBlock file block start at bytes) Other h = mirror
  step_mirror (SetAttr target rights) Other h = mirror
  step_mirror Say Other h = mirror
  step_mirror o s h = absurd h

pub length_after : (slots : List Slot) (s : Step) → length (slots_after slots s) ≡ length slots
length_after slots (Set i s) = length-set slots i s
length_after slots (Move i j) = of_move (slot_at slots i)
  where
    of_move : (s : Slot) → length (moved_slot i j slots s) ≡ length slots
    of_move None = refl
    of_move (Some node) = length-set (slice_set slots i None) j (Some node) ∙ length-set slots i None
length_after slots Other = refl

-- ---- the steps of a set

pub step_is : (es : List Entry) (ops : List MicroOp) (steps : List Step)
    → AreSteps es ops steps → (k : ℕ) → IsStep es (op_at ops k) (step_at steps k)
step_is es [] [] h zero = tt
step_is es [] [] h (suc k) = tt
step_is es [] (s ∷ steps) h k = absurd h
step_is es (o ∷ ops) [] h k = absurd h
step_is es (o ∷ ops) (s ∷ steps) h zero = h.0
step_is es (o ∷ ops) (s ∷ steps) h (suc k) = step_is es ops steps h.1 k

pub fold_mirror : (es : List Entry) (up : AreAscending es) (ops : List MicroOp)
    (steps : List Step) → AreSteps es ops steps
    → (places : List ℕ) (slots : List Slot) (long : length slots ≡ length es) (t : Table)
    → Mirror es slots t
    → Mirror es (fold slots_after slots (map (step_at steps) places))
    (fold entries_after t (map (op_at ops) places))
fold_mirror es up ops steps h [] slots long t mirror = mirror
fold_mirror es up ops steps h (k ∷ places) slots long t mirror =
    fold_mirror es up ops steps h places (slots_after slots (step_at steps k))
    (length_after slots (step_at steps k) ∙ long) (entries_after t (op_at ops k))
    (step_mirror es up slots long t mirror (op_at ops k) (step_at steps k)
    (step_is es ops steps h k))

-- ---- the listing

below_held : (e : Entry) (es : List Entry) (slots : List Slot) → AreAboveBy entry_cmp e es
    → T (below_all entry_cmp e (held_in_slots es slots))
below_held e [] slots h = tt
below_held e (f ∷ fs) [] h = tt
below_held e (f ∷ fs) (None ∷ ss) h = below_held e fs ss h.1
below_held e (f ∷ fs) (Some node ∷ ss) h =
    both_true (is_lt (entry_cmp e f)) (below_all entry_cmp e (held_in_slots fs ss))
    (subst (λ o. T (is_lt o)) (sym h.0) tt) (below_held e fs ss h.1)

held_sorted : (es : List Entry) (slots : List Slot) → AreAscending es
    → T (is_sorted entry_cmp (held_in_slots es slots))
held_sorted [] slots up = tt
held_sorted (f ∷ fs) [] up = tt
held_sorted (f ∷ fs) (None ∷ ss) up = held_sorted fs ss up.1
held_sorted (f ∷ fs) (Some node ∷ ss) up =
    both_true (below_all entry_cmp f (held_in_slots fs ss))
    (is_sorted entry_cmp (held_in_slots fs ss)) (below_held f fs ss up.0) (held_sorted fs ss up.1)

pub entries-held : (es : List Entry) (slots : List Slot) → AreAscending es
    → entries (table_of_slots es slots) ≡ held_in_slots es slots
unfolding table_of_slots
entries-held es slots up =
    entries-from_sorted entry_cmp (held_in_slots es slots) (held_sorted es slots up)

no_find : (q e : Entry) (es : List Entry) (slots : List Slot) → AreAboveBy entry_cmp e es → q ≡ e
    → slot_of es slots q ≡ None
no_find q e [] slots h is = refl
no_find q e (f ∷ fs) [] h is = refl
no_find q e (f ∷ fs) (s ∷ ss) h is =
    ap (λ b. cond b s (slot_of fs ss q)) (other f h.0) ∙ no_find q e fs ss h.1 is
  where
    other : (f : Entry) → entry_cmp e f ≡ Less → entry_eq f q ≡ false
    other f less = ⊎_elim
        (λ (one : (entry_eq f q ≡ true) × (f ≡ q)). absurd
        (false≢true (sym (less_apart e f less) ∙ ap (entry_eq e) (one.1 ∙ is) ∙ same_entry e)))
        (λ (two : (entry_eq f q ≡ false) × (f ≢ q)). two.0)
        (entry_cases f q)

find_held : (es : List Entry) (slots : List Slot) → AreAscending es → (q : Entry)
    → find entry_cmp q (held_in_slots es slots) ≡ slot_of es slots q
find_held [] slots up q = refl
find_held (f ∷ fs) [] up q = refl
find_held (f ∷ fs) (None ∷ ss) up q = find_held fs ss up.1 q ∙ ⊎_elim
    (λ (one : (entry_eq f q ≡ true) × (f ≡ q)).
    no_find q f fs ss up.0 (sym one.1) ∙ sym (ap (λ b. cond b None (slot_of fs ss q)) one.0))
    (λ (two : (entry_eq f q ≡ false) × (f ≢ q)).
    sym (ap (λ b. cond b None (slot_of fs ss q)) two.0))
    (entry_cases f q)
find_held (f ∷ fs) (Some node ∷ ss) up q =
    λ i. cond (turned f q i) (Some node) (find_held fs ss up.1 q i)

-- the table of the slots is the one that they mirror
pub mirrored : (es : List Entry) (slots : List Slot) (t : Table) → AreAscending es
    → Mirror es slots t → t ≡ table_of_slots es slots
unfolding table_of_slots
mirrored es slots t up mirror = same_map entry_total entry_exact _ _ (λ q.
    mirror q ∙ sym (find_held es slots up q) ∙ sym
    (get-from_sorted entry_cmp (held_in_slots es slots) q (held_sorted es slots up)))
