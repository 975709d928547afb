-- What entries hold at the start, noted one by one.
use Rattle.std.proofs.Common.{◌≡◌, ◌≢◌, ℕ, ◌+◌, ◌<◌, ◌≤◌, ◌&&◌, Bool, true, false, cond, List, [], ◌∷◌, ◌++◌, Option, None, Some, T, map, option_map, suc}
use Rattle.std.proofs.Common.{refl, sym, ap, ◌∙◌, subst, arith, ⊎_elim, length, get_or, append_assoc, length-append}
use Rattle.std.proofs.lemmas.Bool.{cases_lt, false≢true}
use Rattle.std.proofs.lemmas.List.{append-nil}
use Rattle.std.specs.FinMap.{entries, entries_sorted, find, from_entries, get, get-entries, get-from_entries, get-insert, is_sorted, insert, len, len-insert}
use Rattle.std.specs.FinMap.Entries.{below_all}
use Rattle.std.specs.List.{Contains}
use Rattle.std.specs.Option.{is_some}
use Rattle.std.specs.Ordering.{eq_by_cmp, is_lt}
use Rattle.std.specs.declared.cmp.Ordering.{Ordering}
use Rattle.std.specs.declared.cmp.Ordering.TheVariants.{Less, Equal, Greater}
use Rattle.cs_entries.specs.declared.entry.Entry.{Entry}
use Rattle.cs_entries.specs.declared.node.Node.{Node}
use Rattle.cs_entries.specs.Entries.{entry_eq}
use Rattle.cs_entries.specs.Tables.{Table, entry_cmp}
use Rattle.cs_entries.specs.Laws.One.{entry_cases}
use Rattle.cs_entries.specs.Laws.Records.{entry_total}
use Rattle.cs_entries.specs.Rules.{entries_touched}
use Rattle.cs_micro.specs.Legal.{entry_op}
use Rattle.cs_micro.specs.declared.micro_op.MicroOp.{MicroOp}
use Rattle.cs_apm.specs.Held.{HasAllTouched, HasTouched, Held, HoldsAll, has, joined, slot_in}
use Rattle.cs_apm.specs.Rules.{op_at}
use Rattle.cs_apm.specs.Laws.Mirrors.{same_entry, turned}
use Rattle.cs_apm.specs.Slots.{AreAboveBy, AreAscending, Mirror, Slot, slot_of}

and_T : (a b : Bool) → T (a && b) → T a × T b
and_T true true h = (tt, tt)
and_T true false h = absurd h
and_T false b h = absurd h

-- ---- pairs, from the last on

-- those that are left, and what is noted of the others
pub record IsNoted (all left : List (Entry × Node)) (h : Held) : Type 0 where
  pub rest : List (Entry × Node)
  pub is : left ++ rest ≡ all
  pub held : (e : Entry) → get h e ≡ option_map Some (find entry_cmp e rest)
  pub few : len h ≤ length rest

pub none_noted : (all : List (Entry × Node)) (h : Held) → ((e : Entry) → get h e ≡ None) → len h ≡ 0 → IsNoted all all h
none_noted all h none few = record { rest = []; is = append-nil all; held = none; few = omega (arith, few) }

insert_few : (h : Held) (e : Entry) (s : Slot) → len (insert h e s) ≤ len h + 1
insert_few h e s = by (is_some (get h e)) (len-insert entry_total h e s)
  where
    by : (b : Bool) → len (insert h e s) ≡ cond b (len h) (len h + 1) → len (insert h e s) ≤ len h + 1
    by true is = omega (arith, is)
    by false is = omega (arith, is)

map_cond : (b : Bool) (node : Node) (o : Option Node)
    → cond b (Some (Some node)) (option_map Some o) ≡ option_map Some (cond b (Some node) o)
map_cond true node o = refl
map_cond false node o = refl

pub noted_more : (all left before : List (Entry × Node)) (old new : Held) (e : Entry) (node : Node) → IsNoted all before old
    → before ≡ left ++ (e, node) ∷ [] → new ≡ insert old e (Some node) → IsNoted all left new
noted_more all left before old new e node noted split is = record {
  rest = (e, node) ∷ noted.rest;
  is = sym (append_assoc left ((e, node) ∷ []) noted.rest) ∙ ap (λ v. v ++ noted.rest) (sym split) ∙ noted.is;
  held = λ q.
      ap (λ m. get m q) is ∙ get-insert entry_total old e (Some node) q
      ∙ ap (cond (eq_by_cmp entry_cmp q e) (Some (Some node))) (noted.held q)
      ∙ map_cond (eq_by_cmp entry_cmp q e) node (find entry_cmp q noted.rest);
  few = (let one = insert_few old e (Some node) in let more = noted.few in let same = ap len is in omega (arith, one, more, same));
}

-- none is left
pub nothing_left : (es : List (Entry × Node)) → length es ≡ 0 → es ≡ []
nothing_left [] is = refl
nothing_left (e ∷ es) is = absurd (omega (arith, is))

joined_map : (o : Option Node) → joined (option_map Some o) ≡ o
joined_map None = refl
joined_map (Some node) = refl

pub noted_all : (all left : List (Entry × Node)) (h : Held) → IsNoted all left h → left ≡ [] → HoldsAll h (from_entries all)
noted_all all left h noted none e =
    ap joined (noted.held e) ∙ joined_map (find entry_cmp e noted.rest)
    ∙ ap (find entry_cmp e) (ap (λ v. v ++ noted.rest) (sym none) ∙ noted.is)
    ∙ sym (get-from_entries entry_total all e)

pub noted_few : (all left : List (Entry × Node)) (h : Held) → IsNoted all left h → len h ≤ length all
noted_few all left h noted = (let few = noted.few in let is = ap length noted.is in omega (arith, few, is, length-append left noted.rest))

-- ---- one entry that is touched

pub some_joined : (o : Option Slot) → is_some o ≡ false → joined o ≡ None
some_joined None h = refl
some_joined (Some s) h = absurd (false≢true (sym h))

module _ (h : Held) (e : Entry) (absent : has h e ≡ false) where
  pub touched_there : has (insert h e None) e ≡ true
  touched_there = ap is_some
      (get-insert entry_total h e None e ∙ ap (λ b. cond b (Some None) (get h e)) (turned e e ∙ same_entry e))

  pub touched_same : (q : Entry) → slot_in (insert h e None) q ≡ slot_in h q
  touched_same q = ⊎_elim
      (λ (one : (entry_eq e q ≡ true) × (e ≡ q)).
      ap joined (get-insert entry_total h e None q ∙ ap (λ b. cond b (Some None) (get h q)) (turned e q ∙ one.0))
      ∙ sym (some_joined (get h q) (ap (has h) (sym one.1) ∙ absent)))
      (λ (two : (entry_eq e q ≡ false) × (e ≢ q)).
      ap joined (get-insert entry_total h e None q ∙ ap (λ b. cond b (Some None) (get h q)) (turned e q ∙ two.0)))
      (entry_cases e q)

  kept : (b : Bool) (o : Option Slot) → is_some o ≡ true → is_some (cond b (Some None) o) ≡ true
  kept true o h = refl
  kept false o h = h

  pub touched_others : (q : Entry) → has h q ≡ true → has (insert h e None) q ≡ true
  touched_others q there =
      ap is_some (get-insert entry_total h e None q) ∙ kept (eq_by_cmp entry_cmp q e) (get h q) there

  pub touched_few : len (insert h e None) ≤ len h + 1
  touched_few = insert_few h e None

-- one micro-operation more
pub touched_more : (ops : List MicroOp) (n : ℕ) (o : MicroOp) (old new : Held) → o ≡ op_at ops n
    → ((e : Entry) → has old e ≡ true → has new e ≡ true) → HasTouched new o → HasAllTouched old ops n → HasAllTouched new ops (n + 1)
touched_more ops n o old new at others there so_far k low = ⊎_elim
    (λ (l : k < n). λ j d inside. others (get_or (entries_touched (entry_op (op_at ops k))) j d) (so_far k l j d inside))
    (λ (h : n ≤ k).
    (let same : n ≡ k = omega (arith, low, h) in
    subst (λ m. HasTouched new (op_at ops m)) same (subst (HasTouched new) at there)))
    (cases_lt k n)

-- ---- the lists of what was noted

above_in : (e : Entry) (es : List (Entry × Slot)) → T (below_all entry_cmp e es) → AreAboveBy entry_cmp e (map (λ x. x.0) es)
above_in e [] h = tt
above_in e (x ∷ es) h =
    (let both = and_T (is_lt (entry_cmp e x.0)) (below_all entry_cmp e es) h in (less (entry_cmp e x.0) both.0, above_in e es both.1))
  where
    less : (o : Ordering) → T (is_lt o) → o ≡ Less
    less Less h = refl
    less Equal h = absurd h
    less Greater h = absurd h

ascend_in : (es : List (Entry × Slot)) → T (is_sorted entry_cmp es) → AreAscending (map (λ x. x.0) es)
ascend_in [] h = tt
ascend_in (x ∷ es) h =
    (let both = and_T (below_all entry_cmp x.0 es) (is_sorted entry_cmp es) h in (above_in x.0 es both.0, ascend_in es both.1))

pub entries_ascend : (h : Held) → AreAscending (map (λ x. x.0) (entries h))
entries_ascend h = ascend_in (entries h) (entries_sorted h)

slot_found : (es : List (Entry × Slot)) (q : Entry) → slot_of (map (λ x. x.0) es) (map (λ x. x.1) es) q ≡ joined (find entry_cmp q es)
slot_found [] q = refl
slot_found (x ∷ es) q =
    ap (λ b. cond b x.1 (slot_of (map (λ y. y.0) es) (map (λ y. y.1) es) q)) (sym (turned x.0 q))
    ∙ ap (cond (eq_by_cmp entry_cmp q x.0) x.1) (slot_found es q)
    ∙ joined_cond (eq_by_cmp entry_cmp q x.0) x.1 (find entry_cmp q es)
  where
    joined_cond : (b : Bool) (s : Slot) (o : Option Slot) → cond b s (joined o) ≡ joined (cond b (Some s) o)
    joined_cond true s o = refl
    joined_cond false s o = refl

pub mirror_held : (h : Held) (t : Table) → HoldsAll h t → Mirror (map (λ x. x.0) (entries h)) (map (λ x. x.1) (entries h)) t
mirror_held h t holds q = sym (holds q) ∙ ap joined (get-entries h q) ∙ sym (slot_found (entries h) q)

found_key : (es : List (Entry × Slot)) (q : Entry) → is_some (find entry_cmp q es) ≡ true → Contains (map (λ x. x.0) es) q
found_key [] q h = absurd (false≢true h)
found_key (x ∷ es) q h = ⊎_elim
    (λ (one : (entry_eq x.0 q ≡ true) × (x.0 ≡ q)). (0, omega arith, one.1))
    (λ (two : (entry_eq x.0 q ≡ false) × (x.0 ≢ q)).
    (let w = found_key es q (sym (ap (λ b. is_some (cond b (Some x.1) (find entry_cmp q es))) (turned x.0 q ∙ two.0)) ∙ h) in
    let low = w.1 in (suc w.0, omega (arith, low), w.2)))
    (entry_cases x.0 q)

pub has_key : (h : Held) (q : Entry) → has h q ≡ true → Contains (map (λ x. x.0) (entries h)) q
has_key h q there = found_key (entries h) q (ap is_some (sym (get-entries h q)) ∙ there)
