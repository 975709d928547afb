-- The entries of one directory, by the names in it and by their whole paths.
use Rattle.std.proofs.Common.{◌≡◌, ◌≢◌, true, false, cond, List, [], ◌∷◌, ◌++◌, Option, None, Some, ◌⊎◌, inl, inr, ⊎_elim, refl}
use Rattle.std.proofs.Common.{sym, ap, ◌∙◌}
use Rattle.std.proofs.lemmas.Bool.{false≢true}
use Rattle.std.specs.declared.cmp.Ordering.{Ordering}
use Rattle.std.specs.declared.cmp.Ordering.TheVariants.{Less, Equal, Greater}
use Rattle.std.specs.Cmp.{tied_itself}
use Rattle.std.specs.FinMap.{find, from_entries, get, get-from_entries, get-insert, get-remove, insert, remove, same_map}
use Rattle.std.specs.Option.{is_some}
use Rattle.std.specs.Ordering.{eq_by_cmp, is_eq, ordering_then}
use Rattle.cs_tree_model.specs.Laws.Nexts.{total}
use Rattle.cs_tree_model.specs.Laws.Paths.{path_cases, path_exact, path_total, snoc_front, snoc_not_nil}
use Rattle.cs_tree_model.specs.Tree.{NameBytes, Path, name_cmp, path_cmp}
use Rattle.cs_start.specs.Entries.{StartEntries}
use Rattle.cs_start.specs.Siblings.{AreIn, IsIn, in_directory, siblings_of}
use Rattle.cs_start.specs.declared.entry.StartEntry.{StartEntry}

-- a path is the root's, or has a last name
split : (p : Path) → (p ≡ []) ⊎ ((d : Path) × ((n : NameBytes) × (p ≡ d ++ n ∷ [])))
split [] = inl refl
split (x ∷ p) = ⊎_elim
    (λ (none : p ≡ []). inr ([], (x, ap (λ q. x ∷ q) none)))
    (λ (some : (d : Path) × ((n : NameBytes) × (p ≡ d ++ n ∷ []))).
    inr (x ∷ some.0, (some.1.0, ap (λ q. x ∷ q) some.1.1)))
    (split p)

-- a path is in the directory, or it is the path of no name there
pub places : (d q : Path) → (IsIn d q) ⊎ ((n : NameBytes) → q ≢ d ++ n ∷ [])
places d q = ⊎_elim
    (λ (top : q ≡ []). inr (λ n is. snoc_not_nil d n (sym top ∙ is)))
    (λ (low : (c : Path) × ((x : NameBytes) × (q ≡ c ++ x ∷ []))). ⊎_elim
    (λ (one : (eq_by_cmp path_cmp low.0 d ≡ true) × (low.0 ≡ d)). inl (low.1.0, low.1.1 ∙ ap (λ c. c ++ low.1.0 ∷ []) one.1))
    (λ (two : (eq_by_cmp path_cmp low.0 d ≡ false) × (low.0 ≢ d)).
    inr (λ n is. two.1 (snoc_front low.0 d low.1.0 n (sym low.1.1 ∙ is))))
    (path_cases low.0 d))
    (split q)

alone : (o : Ordering) → is_eq (ordering_then o Equal) ≡ is_eq o
alone Less = refl
alone Equal = refl
alone Greater = refl

-- of two names in a directory only the names are compared
same_test : (d : Path) (n x : NameBytes) → eq_by_cmp path_cmp (d ++ n ∷ []) (d ++ x ∷ []) ≡ eq_by_cmp name_cmp n x
same_test [] n x = alone (name_cmp n x)
same_test (y ∷ d) n x =
    ap (λ o. is_eq (ordering_then o (path_cmp (d ++ n ∷ []) (d ++ x ∷ [])))) (tied_itself total y) ∙ same_test d n x

abbrev pub Named : Type 0
Named = List (NameBytes × StartEntry)

find_here : (d : Path) (n : NameBytes) (es : Named) → find path_cmp (d ++ n ∷ []) (in_directory d es) ≡ find name_cmp n es
find_here d n [] = refl
find_here d n (e ∷ es) = λ i. cond (same_test d n e.0 i) (Some e.1) (find_here d n es i)

find_elsewhere : (d q : Path) (es : Named) → ((x : NameBytes) → q ≢ d ++ x ∷ []) → find path_cmp q (in_directory d es) ≡ None
find_elsewhere d q [] other = refl
find_elsewhere d q (e ∷ es) other = ⊎_elim
    (λ (one : (eq_by_cmp path_cmp q (d ++ e.0 ∷ []) ≡ true) × (q ≡ d ++ e.0 ∷ [])). absurd (other e.0 one.1))
    (λ (two : (eq_by_cmp path_cmp q (d ++ e.0 ∷ []) ≡ false) × (q ≢ d ++ e.0 ∷ [])).
    ap (λ b. cond b (Some e.1) (find path_cmp q (in_directory d es))) two.0 ∙ find_elsewhere d q es other)
    (path_cases q (d ++ e.0 ∷ []))

abbrev pub whole : Path → Named → StartEntries
whole d es = from_entries (in_directory d es)

pub get-here : (d : Path) (n : NameBytes) (es : Named) → get (whole d es) (d ++ n ∷ []) ≡ find name_cmp n es
get-here d n es = get-from_entries path_total (in_directory d es) (d ++ n ∷ []) ∙ find_here d n es

pub get-elsewhere : (d q : Path) (es : Named) → ((n : NameBytes) → q ≢ d ++ n ∷ []) → get (whole d es) q ≡ None
get-elsewhere d q es other = get-from_entries path_total (in_directory d es) q ∙ find_elsewhere d q es other

pub get-at : (d p : Path) (n : NameBytes) (es : Named) → p ≡ d ++ n ∷ [] → get (whole d es) p ≡ find name_cmp n es
get-at d p n es is = ap (get (whole d es)) is ∙ get-here d n es

-- the value of one name changes
change : (d : Path) (n : NameBytes) (w : Option StartEntry) (es fs : Named)
    → ((x : NameBytes) → find name_cmp x fs ≡ cond (eq_by_cmp name_cmp x n) w (find name_cmp x es))
    → (q : Path) → get (whole d fs) q ≡ cond (eq_by_cmp path_cmp q (d ++ n ∷ [])) w (get (whole d es) q)
change d n w es fs each q = ⊎_elim
    (λ (here : IsIn d q).
    let x = here.0 in
    get-at d q x fs here.1 ∙ each x
    ∙ (λ i. cond (sym (same_test d x n) i) w (sym (get-here d x es) i))
    ∙ ap (λ p. cond (eq_by_cmp path_cmp p (d ++ n ∷ [])) w (get (whole d es) p)) (sym here.1))
    (λ (other : (x : NameBytes) → q ≢ d ++ x ∷ []).
    get-elsewhere d q fs other ∙ sym (get-elsewhere d q es other)
    ∙ sym (⊎_elim
    (λ (one : (eq_by_cmp path_cmp q (d ++ n ∷ []) ≡ true) × (q ≡ d ++ n ∷ [])). absurd (other n one.1))
    (λ (two : (eq_by_cmp path_cmp q (d ++ n ∷ []) ≡ false) × (q ≢ d ++ n ∷ [])). ap (λ b. cond b w (get (whole d es) q)) two.0)
    (path_cases q (d ++ n ∷ []))))
    (places d q)

pub whole-insert : (d p : Path) (n : NameBytes) (e : StartEntry) (es fs : Named) → p ≡ d ++ n ∷ []
    → ((x : NameBytes) → find name_cmp x fs ≡ cond (eq_by_cmp name_cmp x n) (Some e) (find name_cmp x es))
    → whole d fs ≡ insert (whole d es) p e
whole-insert d p n e es fs is each = same_map path_total path_exact _ _ (λ q.
    change d n (Some e) es fs each q
    ∙ ap (λ r. cond (eq_by_cmp path_cmp q r) (Some e) (get (whole d es) q)) (sym is)
    ∙ sym (get-insert path_total (whole d es) p e q))

pub whole-remove : (d p : Path) (n : NameBytes) (es fs : Named) → p ≡ d ++ n ∷ []
    → ((x : NameBytes) → find name_cmp x fs ≡ cond (eq_by_cmp name_cmp x n) None (find name_cmp x es))
    → whole d fs ≡ remove (whole d es) p
whole-remove d p n es fs is each = same_map path_total path_exact _ _ (λ q.
    change d n None es fs each q
    ∙ ap (λ r. cond (eq_by_cmp path_cmp q r) None (get (whole d es) q)) (sym is)
    ∙ sym (get-remove path_total (whole d es) p q))

-- an entry is in the directory
pub are-in : (d : Path) (es : Named) → AreIn (siblings_of d es)
are-in d es p some = ⊎_elim
    (λ (here : IsIn d p). here)
    (λ (other : (n : NameBytes) → p ≢ d ++ n ∷ []). absurd (false≢true (sym (ap is_some (get-elsewhere d p es other)) ∙ some)))
    (places d p)
