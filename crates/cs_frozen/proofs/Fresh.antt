-- The fresh tree of a tree's files is a tree, whatever the modes say.
use Rattle.std.proofs.Common.{◌≡◌, ◌≢◌, ◌<◌, ◌≤◌, ℕ, zero, suc, T, List, [], ◌∷◌, ◌++◌, length, Option, None, Some, refl, sym, ap, ◌∙◌}
use Rattle.std.proofs.Common.{subst, ⊎_elim, arith, slice_get, length-append}
use Rattle.std.proofs.lemmas.Bool.{false≢true, cases_eq, cases_lt}
use Rattle.std.specs.Cmp.{tied_itself}
use Rattle.std.specs.Cmp.Lexicographic.{nat_list_cmp_total}
use Rattle.std.specs.FinMap.{get, entries, entries_sorted, get-entries, is_sorted, len-entries}
use Rattle.std.specs.Option.{option_map, is_some}
use Rattle.std.specs.Ordering.{is_lt, ordering_then}
use Rattle.std.specs.declared.cmp.Ordering.TheVariants.{Greater}
use Rattle.cs_tree_model.specs.declared.record.Record.{Record}
use Rattle.cs_tree_model.specs.Fresh.{fresh, fresh_record, place_in}
use Rattle.cs_tree_model.specs.Tree.{NameBytes, Path, path_cmp, Tree, IsTree, record_at}
use Rattle.cs_tree_model.specs.Laws.Fresh.{record_at-fresh}
use Rattle.cs_tree_model.specs.Laws.FreshReads.{next-fresh}
use Rattle.cs_tree_model.specs.Maps.Orders.{both_first}
use Rattle.cs_frozen.proofs.Places.{Entry, found_nth, below_at, rises, within}

-- the longer path comes after
longer_after : (p : Path) (x : NameBytes) → path_cmp (p ++ x ∷ []) p ≡ Greater
longer_after [] x = refl
longer_after (y ∷ p) x = ap (λ o. ordering_then o (path_cmp (p ++ x ∷ []) p)) (tied_itself nat_list_cmp_total y) ∙ longer_after p x

nothing_before_root : (p : Path) → T (is_lt (path_cmp p [])) → ⊥
nothing_before_root [] h = h
nothing_before_root (x ∷ p) h = h

root_first : (es : List Entry) → T (is_sorted path_cmp es) → (i : ℕ) (r : Record) → slice_get es i ≡ Some ([], r) → i ≡ 0
root_first [] s i r is = absurd (false≢true (ap is_some is))
root_first (d ∷ es) s zero r is = refl
root_first (d ∷ es) s (suc i) r is = absurd (nothing_before_root d.0 (below_at d.0 es i ([], r) (both_first _ _ s) is))

module _ (t : Tree) (h : IsTree t) where
  abbrev es : List Entry
  es = entries t.files

  sorted : T (is_sorted path_cmp es)
  sorted = entries_sorted t.files

  -- each fresh record is a record's
  record Behind (p : Path) (r : Record) : Type 0 where
    place : ℕ
    old : Record
    entry : slice_get es place ≡ Some (p, old)
    is : r ≡ fresh_record place old
    there : record_at t p ≡ Some old

  placed : (p : Path) (r : Record) → record_at t p ≡ Some r → slice_get es (place_in p es) ≡ Some (p, r)
  placed p r is = found_nth p r es (sym (get-entries t.files p) ∙ is)

  behind : (p : Path) (r : Record) → record_at (fresh t.files) p ≡ Some r → Behind p r
  behind p r is = by (get t.files p) refl
    where
      by : (o : Option Record) → get t.files p ≡ o → Behind p r
      by None e =
          absurd (false≢true (ap is_some (sym (ap (option_map (fresh_record (place_in p es))) e) ∙ sym (record_at-fresh t.files p) ∙ is)))
      by (Some old) e =
          let two : Some r ≡ Some (fresh_record (place_in p es) old) =
          sym is ∙ record_at-fresh t.files p ∙ ap (option_map (fresh_record (place_in p es))) e in
          record { place = place_in p es; old = old; entry = placed p old e; is = cc; there = e }

  -- each record has its fresh one
  ahead : (p : Path) (r : Record) → record_at t p ≡ Some r → (i : ℕ) × (slice_get es i ≡ Some (p, r))
      × (record_at (fresh t.files) p ≡ Some (fresh_record i r))
  ahead p r is = (place_in p es, placed p r is, record_at-fresh t.files p ∙ ap (option_map (fresh_record (place_in p es))) is)

  not_after : (p : Path) (x : NameBytes) (i j : ℕ) (r d : Record) → slice_get es i ≡ Some (p ++ x ∷ [], r) → slice_get es j ≡ Some (p, d)
      → j < i
  not_after p x i j r d is js = ⊎_elim
      (λ (lt : j < i). lt)
      (λ (le : i ≤ j). ⊎_elim
      (λ (same : i ≡ j).
      let one : ◌≡◌ {A = Entry} (p ++ x ∷ [], r) (p, d) =
      (let two : ◌≡◌ {A = Option Entry} (Some (p ++ x ∷ [], r)) (Some (p, d)) = sym is ∙ ap (slice_get es) same ∙ js in cc) in
      let long = ap (λ (w : Entry). length w.0) one in
      absurd (omega (arith, long, length-append p (x ∷ []))))
      (λ (other : i ≢ j).
      let less : i < j = omega (arith, other) in
      absurd (subst (λ o. T (is_lt o)) (longer_after p x) (rises es sorted i j (p ++ x ∷ [], r) (p, d) less is js)))
      (cases_eq i j))
      (cases_lt j i)

  pub fresh_is_tree : IsTree (fresh t.files)
  fresh_is_tree = record {
    root = (let a = ahead [] h.root.0 h.root.1 in (fresh_record a.0 h.root.0, a.2, h.root.2, root_first es sorted a.0 h.root.0 a.1));
    in_directory = λ p x r is.
        (let b = behind (p ++ x ∷ []) r is in
        let d = h.in_directory p x b.old b.there in
        let a = ahead p d.0 d.1 in (
          fresh_record a.0 d.0,
          a.2,
          d.2,
          subst (λ k. a.0 < k) (sym (ap (λ (w : Record). w.number) b.is))
              (not_after p x b.place a.0 b.old d.0 b.entry a.1),
        ));
    apart = λ p q a b pa qb same.
        (let v = behind p a pa in let w = behind q b qb in
        let places : v.place ≡ w.place = sym (ap (λ (r : Record). r.number) v.is) ∙ same ∙ ap (λ (r : Record). r.number) w.is in
        let one : ◌≡◌ {A = Entry} (p, v.old) (q, w.old) =
        (let two : ◌≡◌ {A = Option Entry} (Some (p, v.old)) (Some (q, w.old)) = sym v.entry ∙ ap (slice_get es) places ∙ w.entry in cc)
        in
        ap (λ (e : Entry). e.0) one);
    below = λ p r is.
        (let b = behind p r is in
        subst (λ k. r.number < k) (sym (next-fresh t.files ∙ len-entries t.files))
        (subst (λ k. k < length es) (sym (ap (λ (w : Record). w.number) b.is)) (within es b.place (p, b.old) b.entry)));
  }
