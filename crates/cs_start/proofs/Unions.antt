-- Two maps of paths as one: what is at a path, what is below one, and what a change of one of them does.
use Rattle.std.proofs.Common.{◌≡◌, ◌≢◌, Bool, true, false, cond, not, ◌||◌, ◌++◌, List, [], ◌∷◌, Option, None, Some, option_map, ⊎_elim}
use Rattle.std.proofs.Common.{refl, sym, ap, ◌∙◌}
use Rattle.std.proofs.lemmas.Bool.{false≢true}
use Rattle.std.proofs.lemmas.List.Folds.{list_any-append}
use Rattle.std.specs.declared.cmp.Ordering.TheVariants.{Less, Equal, Greater}
use Rattle.std.specs.FinMap.{FinMap, empty, entries, entries-insert, find, from_entries, get, get-empty, get-entries, get-from_entries}
use Rattle.std.specs.FinMap.{get-insert, get-remove}
use Rattle.std.specs.FinMap.{insert, put, remove, same_map}
use Rattle.std.specs.FinMap.Entries.{by_order}
use Rattle.std.specs.List.{list_any}
use Rattle.std.specs.Option.{is_some, option_or}
use Rattle.std.specs.Ordering.{eq_by_cmp}
use Rattle.cs_tree_model.specs.Laws.Paths.{path_cases, path_exact, path_total}
use Rattle.cs_tree_model.specs.Tree.{Path, path_cmp}
use Rattle.cs_start.specs.Unions.{union}
use Rattle.cs_start.proofs.Views.{entries-empty}

twice : (b r : Bool) → (b || r) ≡ (b || (b || r))
twice true r = refl
twice false r = refl

swapped : (a b r : Bool) → (a || (b || r)) ≡ (b || (a || r))
swapped true true r = refl
swapped true false r = refl
swapped false b r = refl

module _ {X : Type 0} where
  -- ---- lists of entries

  pub find-append : (q : Path) (es fs : List (Path × X)) → find path_cmp q (es ++ fs) ≡ option_or (find path_cmp q es) (find path_cmp q fs)
  find-append q [] fs = refl
  find-append q (e ∷ es) fs =
      elim (eq_by_cmp path_cmp q e.0)
      as (λ b. cond b (Some e.1) (find path_cmp q (es ++ fs)) ≡ option_or (cond b (Some e.1) (find path_cmp q es)) (find path_cmp q fs)) [
        | true ↦ refl
        | false ↦ find-append q es fs
      ]

  any_put : (f : Path → Bool) (k : Path) (v : X) (es : List (Path × X))
      → list_any (λ e. f e.0) (put path_cmp k v es) ≡ (f k || list_any (λ e. f e.0) es)
  any_put f k v [] = refl
  any_put f k v (e ∷ es) =
      elim (path_cmp k e.0)
      as (λ o. path_cmp k e.0 ≡ o → list_any (λ e. f e.0) (by_order o ((k, v) ∷ e ∷ es) ((e.0, v) ∷ es) (e ∷ put path_cmp k v es))
      ≡ (f k || (f e.0 || list_any (λ e. f e.0) es))) [
        | Less ↦ λ is. refl
        | Equal ↦ λ is.
            twice (f e.0) (list_any (λ e. f e.0) es) ∙ ap (λ p. f p || (f e.0 || list_any (λ e. f e.0) es)) (sym (path_exact k e.0 is))
        | Greater ↦ λ is. ap (λ b. f e.0 || b) (any_put f k v es) ∙ swapped (f e.0) (f k) (list_any (λ e. f e.0) es)
      ] refl

  -- whether a path passes a test
  pub any-entries : (f : Path → Bool) (es : List (Path × X))
      → list_any (λ e. f e.0) (entries (from_entries {R = path_cmp} es)) ≡ list_any (λ e. f e.0) es
  any-entries f [] = ap (list_any (λ e. f e.0)) entries-empty
  any-entries f (e ∷ es) =
      ap (list_any (λ e. f e.0)) (entries-insert path_total (from_entries es) e.0 e.1)
      ∙ any_put f e.0 e.1 (entries (from_entries es))
      ∙ ap (λ b. f e.0 || b) (any-entries f es)

  -- ---- what is there

  pub get-union : (m n : FinMap path_cmp X) (q : Path) → get (union m n) q ≡ option_or (get m q) (get n q)
  unfolding union
  get-union m n q =
      get-from_entries path_total (entries m ++ entries n) q
      ∙ find-append q (entries m) (entries n)
      ∙ (λ i. option_or (sym (get-entries m q) i) (sym (get-entries n q) i))

  pub any-union : (f : Path → Bool) (m n : FinMap path_cmp X)
      → list_any (λ e. f e.0) (entries (union m n)) ≡ (list_any (λ e. f e.0) (entries m) || list_any (λ e. f e.0) (entries n))
  unfolding union
  any-union f m n = any-entries f (entries m ++ entries n) ∙ list_any-append (λ e. f e.0) (entries m) (entries n)

  some_or : (o p : Option X) → is_some (option_or o p) ≡ (is_some o || is_some p)
  some_or None p = refl
  some_or (Some x) p = refl

  pub or_nothing : (o : Option X) → option_or o None ≡ o
  or_nothing None = refl
  or_nothing (Some x) = refl

  -- where one of the maps has nothing
  pub some-first : (m n : FinMap path_cmp X) (q : Path) → get n q ≡ None → is_some (get m q) ≡ is_some (get (union m n) q)
  some-first m n q none =
      ap is_some (sym (or_nothing (get m q)) ∙ ap (option_or (get m q)) (sym none) ∙ sym (get-union m n q))

  pub some-second : (m n : FinMap path_cmp X) (q : Path) → get m q ≡ None → is_some (get n q) ≡ is_some (get (union m n) q)
  some-second m n q none = ap is_some (ap (λ o. option_or o (get n q)) (sym none) ∙ sym (get-union m n q))

  pub is_some-union : (m n : FinMap path_cmp X) (q : Path) → is_some (get (union m n) q) ≡ (is_some (get m q) || is_some (get n q))
  is_some-union m n q = ap is_some (get-union m n q) ∙ some_or (get m q) (get n q)

  pub union-empty : union (empty {X = X} {R = path_cmp}) empty ≡ empty
  union-empty = same_map path_total path_exact _ _ (λ q.
      get-union empty empty q ∙ (λ i. option_or (get-empty {X = X} path_cmp q i) (get-empty {X = X} path_cmp q i)) ∙ sym
      (get-empty path_cmp q))

  pub empty-union : (m : FinMap path_cmp X) → union empty m ≡ m
  empty-union m = same_map path_total path_exact _ _ (λ q.
      get-union empty m q ∙ ap (λ o. option_or o (get m q)) (get-empty {X = X} path_cmp q))

  -- ---- changes

  inserted : (b : Bool) (v : X) (o p : Option X) → option_or (cond b (Some v) o) p ≡ cond b (Some v) (option_or o p)
  inserted true v o p = refl
  inserted false v o p = refl

  removed : (b : Bool) (o p : Option X) → option_or (cond b None o) (cond b None p) ≡ cond b None (option_or o p)
  removed true o p = refl
  removed false o p = refl

  replaced : (b : Bool) (v : X) (o p : Option X) → option_or (cond b None o) (cond b (Some v) p) ≡ cond b (Some v) (option_or o p)
  replaced true v o p = refl
  replaced false v o p = refl

  module _ (m n : FinMap path_cmp X) (k : Path) where
    pub union-insert : (v : X) → union (insert m k v) n ≡ insert (union m n) k v
    union-insert v = same_map path_total path_exact _ _ (λ q.
        get-union (insert m k v) n q
        ∙ ap (λ o. option_or o (get n q)) (get-insert path_total m k v q)
        ∙ inserted (eq_by_cmp path_cmp q k) v (get m q) (get n q)
        ∙ ap (cond (eq_by_cmp path_cmp q k) (Some v)) (sym (get-union m n q))
        ∙ sym (get-insert path_total (union m n) k v q))

    -- where the first map has nothing
    pub union-insert_second : (v : X) → get m k ≡ None → union m (insert n k v) ≡ insert (union m n) k v
    union-insert_second v none = same_map path_total path_exact _ _ (λ q.
        get-union m (insert n k v) q
        ∙ ap (option_or (get m q)) (get-insert path_total n k v q)
        ∙ ⊎_elim
        (λ (one : (eq_by_cmp path_cmp q k ≡ true) × (q ≡ k)).
        let here : get m q ≡ None = ap (get m) one.1 ∙ none in
        rw (here, one.0) refl ∙ ap (λ b. cond b (Some v) (get (union m n) q)) (sym one.0))
        (λ (two : (eq_by_cmp path_cmp q k ≡ false) × (q ≢ k)).
        ap (λ b. option_or (get m q) (cond b (Some v) (get n q))) two.0
        ∙ sym (get-union m n q)
        ∙ ap (λ b. cond b (Some v) (get (union m n) q)) (sym two.0))
        (path_cases q k)
        ∙ sym (get-insert path_total (union m n) k v q))

    pub union-remove : union (remove m k) (remove n k) ≡ remove (union m n) k
    union-remove = same_map path_total path_exact _ _ (λ q.
        get-union (remove m k) (remove n k) q
        ∙ (λ i. option_or (get-remove path_total m k q i) (get-remove path_total n k q i))
        ∙ removed (eq_by_cmp path_cmp q k) (get m q) (get n q)
        ∙ ap (cond (eq_by_cmp path_cmp q k) None) (sym (get-union m n q))
        ∙ sym (get-remove path_total (union m n) k q))

    -- a value in the second map, and none in the first
    get-replaced : (v : X) (q : Path)
        → get (union (remove m k) (insert n k v)) q ≡ cond (eq_by_cmp path_cmp q k) (Some v) (get (union m n) q)
    get-replaced v q =
        get-union (remove m k) (insert n k v) q
        ∙ (λ i. option_or (get-remove path_total m k q i) (get-insert path_total n k v q i))
        ∙ replaced (eq_by_cmp path_cmp q k) v (get m q) (get n q)
        ∙ ap (cond (eq_by_cmp path_cmp q k) (Some v)) (sym (get-union m n q))

    pub union-replace : (v : X) → union (remove m k) (insert n k v) ≡ insert (union m n) k v
    union-replace v = same_map path_total path_exact _ _ (λ q. get-replaced v q ∙ sym (get-insert path_total (union m n) k v q))

    -- what moves from the first map to the second is still there
    pub union-move : (v : X) → get m k ≡ Some v → union (remove m k) (insert n k v) ≡ union m n
    union-move v is = same_map path_total path_exact _ _ (λ q. get-replaced v q ∙ ⊎_elim
        (λ (one : (eq_by_cmp path_cmp q k ≡ true) × (q ≡ k)).
        ap (λ b. cond b (Some v) (get (union m n) q)) one.0
        ∙ sym (get-union m n q ∙ ap (λ o. option_or o (get n q)) (ap (get m) one.1 ∙ is)))
        (λ (two : (eq_by_cmp path_cmp q k ≡ false) × (q ≢ k)). ap (λ b. cond b (Some v) (get (union m n) q)) two.0)
        (path_cases q k))

    pub remove-absent : get m k ≡ None → remove m k ≡ m
    remove-absent is = same_map path_total path_exact _ _ (λ q. get-remove path_total m k q ∙ ⊎_elim
        (λ (one : (eq_by_cmp path_cmp q k ≡ true) × (q ≡ k)).
        ap (λ b. cond b None (get m q)) one.0 ∙ sym (ap (get m) one.1 ∙ is))
        (λ (two : (eq_by_cmp path_cmp q k ≡ false) × (q ≢ k)). ap (λ b. cond b None (get m q)) two.0)
        (path_cases q k))

  -- ---- the entries of a list, one after another, each unless its path is taken

  module _ (m : FinMap path_cmp X) (e : Path × X) (es : List (Path × X)) (q : Path) where
    pub next-free : get m e.0 ≡ None
        → option_or (get (insert m e.0 e.1) q) (find path_cmp q es) ≡ option_or (get m q) (find path_cmp q (e ∷ es))
    next-free is =
        ap (λ o. option_or o (find path_cmp q es)) (get-insert path_total m e.0 e.1 q) ∙ ⊎_elim
        (λ (one : (eq_by_cmp path_cmp q e.0 ≡ true) × (q ≡ e.0)).
        let none : get m q ≡ None = ap (get m) one.1 ∙ is in
        rw (one.0, none) refl)
        (λ (two : (eq_by_cmp path_cmp q e.0 ≡ false) × (q ≢ e.0)). rw two.0 refl)
        (path_cases q e.0)

    taken : (o : Option X) → is_some o ≡ true → (p r : Option X) → option_or o p ≡ option_or o r
    taken None is p r = absurd (cc)
    taken (Some x) is p r = refl

    pub next-taken : is_some (get m e.0) ≡ true
        → option_or (get m q) (find path_cmp q es) ≡ option_or (get m q) (find path_cmp q (e ∷ es))
    next-taken is = ⊎_elim
        (λ (one : (eq_by_cmp path_cmp q e.0 ≡ true) × (q ≡ e.0)).
        taken (get m q) (ap (λ p. is_some (get m p)) one.1 ∙ is) _ _)
        (λ (two : (eq_by_cmp path_cmp q e.0 ≡ false) × (q ≢ e.0)). rw two.0 refl)
        (path_cases q e.0)

-- what a test of a look-up's result says of the map
pub absent : {A B : Type 0} (f : A → B) (o : Option A) (b : Bool) {r : Option B} → option_map f o ≡ r → is_some o ≡ not b → b ≡ true
    → r ≡ None
absent f None b is test holds = sym is
absent f (Some x) b is test holds = absurd (false≢true (sym (test ∙ ap not holds)))

pub present : {A B : Type 0} (f : A → B) (o : Option A) (b : Bool) {r : Option B} → option_map f o ≡ r → is_some o ≡ not b → b ≡ false
    → is_some r ≡ true
present f None b is test fails = absurd (false≢true (test ∙ ap not fails))
present f (Some x) b is test fails = ap is_some (sym is)
