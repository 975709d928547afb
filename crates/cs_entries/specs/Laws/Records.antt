-- What is at each path by a table of entries that is a tree, as a map of paths.
use Rattle.std.proofs.Common.{◌≡◌, ◌≢◌, ℕ, ◌+◌, true, false, cond, List, [], ◌∷◌, T}
use Rattle.std.proofs.Common.{◌++◌, inl, inr, Option, None, Some, refl, sym, ap, ◌∙◌, arith, ⊎_elim}
use Rattle.std.proofs.lemmas.Bool.{false≢true}
use Rattle.std.proofs.lemmas.Cmp.{then_total, on_total}
use Rattle.std.specs.Cmp.{IsTotalOrder}
use Rattle.std.specs.Cmp.Lexicographic.{nat_list_cmp_total, slice_cmp}
use Rattle.std.proofs.lemmas.Cmp.{nat_cmp_total}
use Rattle.std.specs.FinMap.{get, insert, remove, entries, entries_sorted, find, get-entries, is_sorted}
use Rattle.std.specs.FinMap.{get-from_entries, IsAntisymmetric, nat_cmp-IsAntisymmetric, slice_cmp-IsAntisymmetric}
use Rattle.std.specs.FinMap.Entries.{below_all}
use Rattle.std.specs.Option.{is_some}
use Rattle.std.specs.Ordering.{eq_by_cmp, is_eq, nat_cmp, ordering_then, ordering_reverse}
use Rattle.std.specs.declared.cmp.Ordering.{Ordering}
use Rattle.std.specs.declared.cmp.Ordering.TheVariants.{Less, Equal, Greater}
use Rattle.cs_tree_model.specs.Maps.Changes.{key_cases, get-insert_same, get-insert_other, get-remove_same, get-remove_other}
use Rattle.cs_tree_model.specs.Maps.Orders.{both_first, both_second, less_of}
use Rattle.cs_tree_model.specs.Laws.Paths.{path_exact, path_total, option_cases}
use Rattle.cs_tree_model.specs.Laws.Reads.{parent_of_snoc}
use Rattle.cs_tree_model.specs.Tree.{Path, path_cmp, parent_path}
use Rattle.cs_entries.specs.Entries.{Entry, entry_eq, put, after}
use Rattle.cs_entries.specs.Entries.{EntryOp, Create, Link, Delete, Move, Other}
use Rattle.cs_entries.specs.Legal.{IsTree, IsLegal}
use Rattle.cs_entries.specs.Paths.{at_path}
use Rattle.cs_entries.specs.Tables.{entry_cmp, Table, held_in, table_after, below, paths_in}
use Rattle.cs_entries.specs.Laws.One.{entry_cases, put_here, put_other}
use Rattle.cs_entries.specs.Laws.Paths.{IsMore, last_cases, in_directory}
use Rattle.cs_entries.specs.Laws.Depths.{AreBelow, short_path}
use Rattle.cs_entries.specs.Laws.Listed.{In, node_of, listed_leads, leads_listed}
use Rattle.cs_entries.specs.declared.node.Node.{Node}
use Rattle.cs_entries.specs.declared.node.Node.TheVariants.{Directory, File}
use Rattle.cs_entries.specs.Tables.{AreNested}

pub entry_total : IsTotalOrder entry_cmp
entry_total =
    then_total (on_total (λ e. e.directory) nat_cmp_total) (on_total (λ e. e.name) nat_list_cmp_total)

pub entry_exact : IsAntisymmetric entry_cmp
entry_exact e f h = by (nat_cmp e.directory f.directory) refl h
  where
    by : (o : Ordering) → nat_cmp e.directory f.directory ≡ o
        → ordering_then o (slice_cmp nat_cmp e.name f.name) ≡ Equal → e ≡ f
    by Less is w = absurd (cc)
    by Equal is w =
        (let d = nat_cmp-IsAntisymmetric e.directory f.directory is in
        let n = slice_cmp-IsAntisymmetric nat_cmp-IsAntisymmetric e.name f.name w in
        λ i. record { directory = d i; name = n i })
    by Greater is w = absurd (cc)

module _ {K X : Type 0} {R : K → K → Ordering} (o : IsTotalOrder R) (exact : IsAntisymmetric R) where
  pub find_in : (q : K) (es : List (K × X)) (v : X) → find R q es ≡ Some v → In (q, v) es
  find_in q [] v h = absurd (false≢true (ap is_some h))
  find_in q (e ∷ es) v h = ⊎_elim
      (λ (one : (eq_by_cmp R q e.0 ≡ true) × (q ≡ e.0)).
      inl (λ i. (one.1 i, value (sym h ∙ ap (λ b. cond b (Some e.1) (find R q es)) one.0) i)))
      (λ (two : (eq_by_cmp R q e.0 ≡ false) × (q ≢ e.0)).
      inr (find_in q es v (sym (ap (λ b. cond b (Some e.1) (find R q es)) two.0) ∙ h)))
      (key_cases o exact q e.0)
    where
      value : Some v ≡ Some e.1 → v ≡ e.1
      value w = cc

  pub in_found : (q : K) (es : List (K × X)) (v : X) → In (q, v) es → find R q es ≢ None
  in_found q [] v h none = h
  in_found q (e ∷ es) v h none = ⊎_elim
      (λ (one : (eq_by_cmp R q e.0 ≡ true) × (q ≡ e.0)).
      false≢true (ap is_some (sym none ∙ ap (λ b. cond b (Some e.1) (find R q es)) one.0)))
      (λ (two : (eq_by_cmp R q e.0 ≡ false) × (q ≢ e.0)). ⊎_elim
      (λ (here : ◌≡◌ {A = K × X} (q, v) e). two.1 (ap (λ x. x.0) here))
      (λ (later : In (q, v) es). in_found q es v later
      (sym (ap (λ b. cond b (Some e.1) (find R q es)) two.0) ∙ none))
      h)
      (key_cases o exact q e.0)

  above_first : (k q : K) (es : List (K × X)) (v : X) → T (below_all R k es) → In (q, v) es → R k q ≡ Less
  above_first k q [] v h is = absurd is
  above_first k q (e ∷ es) v h is = ⊎_elim
      (λ (here : ◌≡◌ {A = K × X} (q, v) e). ap (R k) (ap (λ x. x.0) here) ∙ less_of _ (both_first _ _ h))
      (λ (later : In (q, v) es). above_first k q es v (both_second _ _ h) later)
      is

  pub in_find : (q : K) (es : List (K × X)) (v : X) → T (is_sorted R es) → In (q, v) es
      → find R q es ≡ Some v
  in_find q [] v sorted h = absurd h
  in_find q (e ∷ es) v sorted h = ⊎_elim
      (λ (one : (eq_by_cmp R q e.0 ≡ true) × (q ≡ e.0)).
      ap (λ b. cond b (Some e.1) (find R q es)) one.0 ∙ ⊎_elim
      (λ (here : ◌≡◌ {A = K × X} (q, v) e). ap (λ x. Some x.1) (sym here))
      (λ (later : In (q, v) es). absurd
      (let less = above_first e.0 q es v (both_first _ _ sorted) later in
      false≢true (sym (ap is_eq (o.antisymm q e.0 ∙ ap ordering_reverse less)) ∙ one.0)))
      h)
      (λ (two : (eq_by_cmp R q e.0 ≡ false) × (q ≢ e.0)).
      ap (λ b. cond b (Some e.1) (find R q es)) two.0 ∙ ⊎_elim
      (λ (here : ◌≡◌ {A = K × X} (q, v) e). absurd (two.1 (ap (λ x. x.0) here)))
      (λ (later : In (q, v) es). in_find q es v (both_second _ _ sorted) later)
      h)
      (key_cases o exact q e.0)

-- ---- a table

pub table_in : (t : Table) (e : Entry) (node : Node) → get t e ≡ Some node → In (e, node) (entries t)
table_in t e node h =
    find_in entry_total entry_exact e (entries t) node (sym (get-entries t e) ∙ h)

pub in_table : (t : Table) (e : Entry) (node : Node) → In (e, node) (entries t) → get t e ≡ Some node
in_table t e node h =
    get-entries t e ∙ in_find entry_total entry_exact e (entries t) node (entries_sorted t) h

-- an operation's effect on a table
pub table_step : (t : Table) (o : EntryOp) → IsLegal (held_in t) o → (q : Entry)
    → get (table_after t o) q ≡ after (held_in t) o q
table_step t (Create e node) l q = ⊎_elim
    (λ (h : (entry_eq e q ≡ true) × (e ≡ q)).
    ap (get (insert t e node)) (sym h.1) ∙ get-insert_same entry_total entry_exact t e node
    ∙ sym (put_here (held_in t) e (Some node)) ∙ ap (put (held_in t) e (Some node)) h.1)
    (λ (h : (entry_eq e q ≡ false) × (e ≢ q)).
    get-insert_other entry_total entry_exact t q e node (λ s. h.1 (sym s))
    ∙ sym (put_other (held_in t) e q (Some node) h.1))
    (entry_cases e q)
table_step t (Link e kind file) l q = ⊎_elim
    (λ (h : (entry_eq e q ≡ true) × (e ≡ q)).
    ap (get (insert t e (File kind file))) (sym h.1) ∙ get-insert_same entry_total entry_exact t e (File kind file)
    ∙ sym (put_here (held_in t) e (Some (File kind file))) ∙ ap (put (held_in t) e (Some (File kind file))) h.1)
    (λ (h : (entry_eq e q ≡ false) × (e ≢ q)).
    get-insert_other entry_total entry_exact t q e (File kind file) (λ s. h.1 (sym s))
    ∙ sym (put_other (held_in t) e q (Some (File kind file)) h.1))
    (entry_cases e q)
table_step t (Delete e node) l q = ⊎_elim
    (λ (h : (entry_eq e q ≡ true) × (e ≡ q)).
    ap (get (remove t e)) (sym h.1) ∙ get-remove_same entry_total entry_exact t e
    ∙ sym (put_here (held_in t) e None) ∙ ap (put (held_in t) e None) h.1)
    (λ (h : (entry_eq e q ≡ false) × (e ≢ q)).
    get-remove_other entry_total entry_exact t q e (λ s. h.1 (sym s))
    ∙ sym (put_other (held_in t) e q None h.1))
    (entry_cases e q)
table_step t (Move a b node old) l q =
    ap (λ m. get m q) moved ∙ ⊎_elim
    (λ (h : (entry_eq b q ≡ true) × (b ≡ q)).
    ap (get (insert (remove t a) b node)) (sym h.1)
    ∙ get-insert_same entry_total entry_exact (remove t a) b node
    ∙ sym (l.1) ∙ sym (put_here (put (held_in t) a None) b (get t a))
    ∙ ap (put (put (held_in t) a None) b (get t a)) h.1)
    (λ (h : (entry_eq b q ≡ false) × (b ≢ q)).
    get-insert_other entry_total entry_exact (remove t a) q b node (λ s. h.1 (sym s))
    ∙ ⊎_elim
    (λ (g : (entry_eq a q ≡ true) × (a ≡ q)).
    ap (get (remove t a)) (sym g.1) ∙ get-remove_same entry_total entry_exact t a
    ∙ sym (put_here (held_in t) a None) ∙ ap (put (held_in t) a None) g.1)
    (λ (g : (entry_eq a q ≡ false) × (a ≢ q)).
    get-remove_other entry_total entry_exact t q a (λ s. g.1 (sym s))
    ∙ sym (put_other (held_in t) a q None g.1))
    (entry_cases a q)
    ∙ sym (put_other (put (held_in t) a None) b q (get t a) h.1))
    (entry_cases b q)
  where
    moved : table_after t (Move a b node old) ≡ insert (remove t a) b node
    moved = (let at : get t a ≡ Some node = l.1 in rw at refl)
table_step t Other l q = refl

-- ---- what is at each path

module _ (t : Table) (tree : IsTree (held_in t)) (n : ℕ) (few : AreBelow n (held_in t)) where
  abbrev es : List (Entry × Node)
  es = entries t

  abbrev listed : List (Path × Node)
  listed = ([], Directory 0) ∷ below es (n + 1) [] 0

  leads : (q : Path) (v : Node) → In (q, v) listed → at_path (held_in t) q ≡ Some v
  leads q v h = ⊎_elim
      (λ (here : ◌≡◌ {A = Path × Node} (q, v) ([], Directory 0)).
      ap (λ x. at_path (held_in t) x.0) here ∙ ap (λ x. Some x.1) (sym here))
      (λ (later : In (q, v) (below es (n + 1) [] 0)).
      (let w = listed_leads (held_in t) es (in_table t) (n + 1) [] 0 q v later in
      ap (at_path (held_in t)) w.1 ∙ w.2))
      h

  lists : (q : Path) (v : Node) → at_path (held_in t) q ≡ Some v → In (q, v) listed
  lists [] v h = inl (λ i. ([], node_of v (Directory 0) (sym h) i))
  lists (x ∷ r) v h =
      (let short = short_path (held_in t) tree n few (x ∷ r) v h in
      inr (leads_listed (held_in t) es (table_in t) (n + 1) [] 0 x r v (omega (arith, short)) h))

  -- the map of paths has at each path what the names lead to
  pub paths_lead : (q : Path) → get (paths_in (n + 1) t) q ≡ at_path (held_in t) q
  unfolding paths_in
  paths_lead q = get-from_entries path_total listed q ∙ by (find path_cmp q listed) refl
    where
      by : (o : Option Node) → find path_cmp q listed ≡ o → find path_cmp q listed ≡ at_path (held_in t) q
      by (Some v) is = is ∙ sym (leads q v (find_in path_total path_exact q listed v is))
      by None is = ⊎_elim
          (λ (none : at_path (held_in t) q ≡ None). is ∙ sym none)
          (λ (some : (v : Node) × (at_path (held_in t) q ≡ Some v)).
          absurd (in_found path_total path_exact q listed some.0 (lists q some.0 some.1) is))
          (option_cases (at_path (held_in t) q))

pub paths_nested : (t : Table) → IsTree (held_in t) → (n : ℕ) → AreBelow n (held_in t)
    → AreNested (paths_in (n + 1) t)
paths_nested t tree n few = record {
  root = (0, paths_lead t tree n few []);
  nested = λ p node is named. ⊎_elim
      (λ (e : p ≡ []). absurd (named e))
      (λ (w : IsMore p).
      (let at : at_path (held_in t) (w.front ++ w.last ∷ []) ≡ Some node =
      ap (at_path (held_in t)) (sym w.is) ∙ sym (paths_lead t tree n few p) ∙ is in
      let i = in_directory (held_in t) w.front w.last node at in (
        i.directory,
        ap (get (paths_in (n + 1) t)) (ap parent_path w.is ∙ parent_of_snoc w.front w.last)
            ∙ paths_lead t tree n few w.front ∙ i.above,
      )))
      (last_cases p);
}
