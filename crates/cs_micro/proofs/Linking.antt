-- The paths of the start's files, link by link.
use Rattle.std.proofs.Common.{◌≡◌, ◌≢◌, ℕ, zero, suc, ◌+◌, ◌<◌, ◌==◌, Bool, true, false, cond, List, [], ◌∷◌, ◌++◌, length, map, take, get_or, Some}
use Rattle.std.proofs.Common.{refl, sym, ap, ◌∙◌, subst, ⊎_elim, arith}
use Rattle.std.proofs.lemmas.Bool.{cases_eq, eq-eqb, ne_eqb}
use Rattle.std.proofs.lemmas.List.{append-nil, ext_get_or, get_or-map, get_or-set_other, get_or-set_same, length-map, length-set}
use Rattle.std.proofs.lemmas.List.{map-append, map-set, take_more}
use Rattle.std.proofs.lemmas.List.Elements.{filter_more}
use Rattle.std.proofs.lemmas.List.FromFn.{get_or-map-range_with_len}
use Rattle.std.proofs.lemmas.Option.{get_or_from_slice_get, slice_get-get_or, slice_get_within}
use Rattle.std.specs.FinMap.{get}
use Rattle.std.specs.Option.{option_map}
use Rattle.std.specs.Prelude.{filter, slice_get, slice_set}
use Rattle.cs_tree_model.specs.Tree.{Path}
use Rattle.cs_trace.specs.Traces.{AreLinks, IsFileNumbered, IsPathOf, Trace, path_at, start_paths}
use Rattle.cs_micro.specs.Laws.Starts.{length-paths_of_files}
use Rattle.cs_micro.specs.Micros.{linked_to, paths_of_file, paths_of_files}

-- those of one file
pub paths_at : (files : List Path) (links : List (Path × ℕ)) (n : ℕ) → n < length files
    → get_or (paths_of_files files links) n [] ≡ paths_of_file files links n
unfolding paths_of_files
paths_at files links n low = get_or-map-range_with_len (paths_of_file files links) 0 (length files) n n [] low (omega arith)

-- the path at a place of a list
pub slice_get-path_at : {X : Type 0} (es : List (Path × X)) (k : ℕ) → k < length es
    → option_map (λ e. e.0) (slice_get es k) ≡ Some (path_at es k)
slice_get-path_at [] k low = absurd (omega (arith, low))
slice_get-path_at (e ∷ es) zero low = refl
slice_get-path_at (e ∷ es) (suc k) low = slice_get-path_at es k (omega (arith, low))

-- without links each file has one path
pub own_paths : (files : List Path) → paths_of_files files [] ≡ map (λ path. path ∷ []) files
own_paths files = ext_get_or [] (paths_of_files files []) (map (λ path. path ∷ []) files)
    (length-paths_of_files files [] ∙ sym (length-map files (λ path. path ∷ [])))
    (λ n low. let inside : n < length files = subst (λ k. n < k) (length-paths_of_files files []) low in
    paths_at files [] n inside ∙ sym (get_or-map (λ path. path ∷ []) files n [] [] inside))

-- one file more, with its own path
pub own_more : {V : Type 0} (f : V → List Path) (starts : List V) (files : List Path) (k : ℕ) (p : Path) (new : V)
    → slice_get files k ≡ Some p → map f starts ≡ map (λ path. path ∷ []) (take k files) → f new ≡ p ∷ []
    → map f (starts ++ new ∷ []) ≡ map (λ path. path ∷ []) (take (k + 1) files)
own_more f starts files k p new at so_far is =
    let taken : take (k + 1) files ≡ take k files ++ p ∷ [] =
    take_more files k p (slice_get_within files k p at) ∙ ap (λ q. take k files ++ q ∷ []) (get_or_from_slice_get files k p p at) in
    map-append f starts (new ∷ [])
    ∙ (λ w. so_far w ++ is w ∷ [])
    ∙ sym (ap (map (λ path. path ∷ [])) taken ∙ map-append (λ path. path ∷ []) (take k files) (p ∷ []))

-- one link more
linked_more : (file : ℕ) (links : List (Path × ℕ)) (k : ℕ) (d : Path × ℕ) → k < length links
    → linked_to file (take (k + 1) links) ≡ linked_to file (take k links)
    ++ cond ((get_or links k d).1 == file) ((get_or links k d).0 ∷ []) []
linked_more file links k d low =
    let link = get_or links k d in
    ap (map (λ l. l.0)) (filter_more (λ l. l.1 == file) links k d low)
    ∙ map-append (λ l. l.0) (filter (λ l. l.1 == file) (take k links)) (cond (link.1 == file) (link ∷ []) [])
    ∙ ap (λ v. linked_to file (take k links) ++ v) (one (link.1 == file))
  where
    one : (b : Bool) → map (λ l. l.0) (cond b (get_or links k d ∷ []) []) ≡ cond b ((get_or links k d).0 ∷ []) []
    one true = refl
    one false = refl

module _ (files : List Path) (links : List (Path × ℕ)) (k : ℕ) (p : Path) (file : ℕ) (d : Path × ℕ) (low : k < length links)
    (is : get_or links k d ≡ (p, file)) (known : file < length files) where
  abbrev old : List (List Path)
  old = paths_of_files files (take k links)

  abbrev more : List Path
  more = get_or old file [] ++ p ∷ []

  within : (n : ℕ) → n < length files → n < length old
  within n inside = subst (λ w. n < w) (sym (length-paths_of_files files (take k links))) inside

  new_at : (n : ℕ) → n < length files
      → get_or (paths_of_files files (take (k + 1) links)) n [] ≡ get_or old n [] ++ cond (file == n) (p ∷ []) []
  new_at n inside =
      paths_at files (take (k + 1) links) n inside
      ∙ ap (λ v. get_or files n [] ∷ v)
      (linked_more n links k d low ∙ ap (λ l. linked_to n (take k links) ++ cond (l.1 == n) (l.0 ∷ []) []) is)
      ∙ ap (λ v. v ++ cond (file == n) (p ∷ []) []) (sym (paths_at files (take k links) n inside))

  at : (n : ℕ) → n < length files → get_or (paths_of_files files (take (k + 1) links)) n [] ≡ get_or (slice_set old file more) n []
  at n inside = new_at n inside ∙ ⊎_elim
      (λ (e : file ≡ n).
      ap (λ b. get_or old n [] ++ cond b (p ∷ []) []) (eq-eqb file n e)
      ∙ ap (λ w. get_or old w [] ++ p ∷ []) (sym e)
      ∙ sym (ap (λ w. get_or (slice_set old file more) w []) (sym e) ∙ get_or-set_same old file more [] (within file known)))
      (λ (e : file ≢ n).
      ap (λ b. get_or old n [] ++ cond b (p ∷ []) []) (ne_eqb file n e) ∙ append-nil (get_or old n [])
      ∙ sym (get_or-set_other old file n more [] (λ s. e (sym s))))
      (cases_eq file n)

  pub links_more : paths_of_files files (take (k + 1) links) ≡ slice_set old file more
  links_more = ext_get_or [] (paths_of_files files (take (k + 1) links)) (slice_set old file more)
      (length-paths_of_files files (take (k + 1) links) ∙ sym (length-set old file more ∙ length-paths_of_files files (take k links)))
      (λ n high. at n (subst (λ w. n < w) (length-paths_of_files files (take (k + 1) links)) high))

-- a link more, if each file's paths are a list
pub link_pushed : {V : Type 0} (f : V → List Path) (starts : List V) (files : List Path) (links : List (Path × ℕ)) (k : ℕ) (link : Path × ℕ)
    (p : Path) (old new : V) → k < length links → link ≡ get_or links k link
    → link.1 < length files → map f starts ≡ paths_of_files files (take k links) → old ≡ get_or starts link.1 old → p ≡ link.0
    → f new ≡ f old ++ p ∷ []
    → map f (slice_set starts link.1 new) ≡ paths_of_files files (take (k + 1) links)
link_pushed f starts files links k link p old new low is known so_far read same pushed =
    let n = link.1 in
    let inside : n < length starts =
    subst (λ w. n < w) (sym (ap length so_far ∙ length-paths_of_files files (take k links)) ∙ length-map starts f) known in
    let was : f old ≡ get_or (paths_of_files files (take k links)) n [] =
    ap f read ∙ sym (get_or-map f starts n old [] inside) ∙ ap (λ v. get_or v n []) so_far in
    map-set f starts n new
    ∙ (λ w. slice_set (so_far w) n ((pushed ∙ (λ u. was u ++ same u ∷ [])) w))
    ∙ sym (links_more files links k link.0 n link low (sym is) known)

-- the number of a file at the start is below how many there are
pub numbers_below : (t : Trace) → ((n : ℕ) (p : Path) → IsFileNumbered n (get (start_paths t) p) → IsPathOf t n p)
    → (n : ℕ) (p : Path) → IsFileNumbered n (get (start_paths t) p) → n < length t.files
numbers_below t found n p at =
    let own = found n p at in
    slice_get_within t.files n own.own own.at

-- each link is of a file of the start
pub link_known : (t : Trace) → AreLinks (start_paths t) t.links
    → ((n : ℕ) (p : Path) → IsFileNumbered n (get (start_paths t) p) → n < length t.files)
    → (links : List (Path × ℕ)) → links ≡ t.links → (k : ℕ) (link : Path × ℕ) → k < length links → link ≡ get_or links k link
    → link.1 < length t.files
link_known t linked numbered links is k link low at =
    let here : k < length t.links = subst (λ ls. k < length ls) is low in
    numbered link.1 link.0
    (subst (IsFileNumbered link.1)
    (sym (linked k link (slice_get-get_or t.links k link here ∙ ap Some (sym (at ∙ ap (λ ls. get_or ls k link) is))))) refl)
