-- The text of a path, cut before its last name.
use Rattle.std.proofs.Common.{◌≡◌, ℕ, ◌<◌, ◌==◌, ◌||◌, Bool, true, false, List, [], ◌∷◌, ◌++◌, length, refl, sym, ap, subst, ◌∙◌, arith}
use Rattle.std.proofs.Common.{length-append}
use Rattle.std.proofs.lemmas.Bool.{ne_eqb, or_parts}
use Rattle.std.proofs.lemmas.Option.{same_Some}
use Rattle.std.specs.List.{list_any}
use Rattle.std.specs.Prelude.{if◌then◌else◌, IfSome, Option, Some, None, option_and_then, unwrap_or, Result, Ok, Err}
use Rattle.std.specs.Result.{result_ok}
use Rattle.cs_names.proofs.Cutting.{pieces-append}
use Rattle.cs_names.proofs.Joined.{parent_of-snoc}
use Rattle.cs_names.specs.Legal.{IsLegalName, name_in}
use Rattle.cs_names.specs.Laws.{name_in-legal}
use Rattle.cs_names.specs.Paths.{name_before, names_in, path_in}
use Rattle.cs_names.specs.Pieces.{pieces, put_first}
use Rattle.cs_names.specs.declared.fault.NameFault.{NameFault}
use Rattle.cs_names.specs.declared.fault.NameFault.TheVariants.{Forbidden}
use Rattle.cs_tree_model.specs.Tree.{Path, parent_path}
use Rattle.cs_start.specs.Names.{below_root, entry_path_of, IsFront, path_of, spelled_path}

pieces-plain : (bs : List ℕ) → list_any (λ c. c == 47 || c == 0) bs ≡ false → pieces 47 bs ≡ bs ∷ []
pieces-plain [] is = refl
pieces-plain (b ∷ bs) is =
    let both = or_parts (b == 47 || b == 0) (list_any (λ c. c == 47 || c == 0) bs) is in
    rw (or_parts (b == 47) (b == 0) both.0).0 (ap (put_first b) (pieces-plain bs both.1))

pieces-name : (name : List ℕ) → IsLegalName name → pieces 47 name ≡ name ∷ []
pieces-name name legal = pieces-plain name (or_parts _ _ (or_parts _ _ legal.allowed).0).0

-- ---- one name more

step_by : (x : List ℕ) (xs more p : Path) (first : Result (List ℕ) NameFault) (others all : Result Path NameFault)
    → ((q : Path) → others ≡ Ok q → all ≡ Ok (q ++ more)) → name_before first others ≡ Ok p → name_before first all ≡ Ok (p ++ more)
step_by x xs more p (Err fault) others all later is = absurd (cc)
step_by x xs more p (Ok name) (Err fault) all later is = absurd (cc)
step_by x xs more p (Ok name) (Ok q) all later is =
    let whole : name ∷ q ≡ p = cc in
    ap (name_before (Ok name)) (later q refl) ∙ ap (λ (names : Path). Ok (names ++ more)) whole

names_in-push : (texts : Path) (name : List ℕ) (p : Path) → IsLegalName name → names_in texts ≡ Ok p
    → names_in (texts ++ name ∷ []) ≡ Ok (p ++ name ∷ [])
names_in-push [] name p legal is =
    let none : [] ≡ p = cc in
    ap (λ first. name_before first (Ok [])) (name_in-legal name legal) ∙ ap (λ (names : Path). Ok (names ++ name ∷ [])) none
names_in-push (x ∷ texts) name p legal is =
    step_by x texts (name ∷ []) p (name_in x) (names_in texts) (names_in (texts ++ name ∷ [])) (λ q. names_in-push texts name q legal) is

some_more : (rest name : List ℕ) → (length (rest ++ 47 ∷ name) == 0) ≡ false
some_more rest name = ne_eqb (length (rest ++ 47 ∷ name)) 0 (λ none. absurd (omega (arith, none, length-append rest (47 ∷ name))))

push_by : (slash alone : Bool) (c : ℕ) (rest name : List ℕ) (p : Path) → (c == 47) ≡ slash → (length rest == 0) ≡ alone → IsLegalName name
    → 0 < length p
    → (if slash then (if alone then Ok [] else names_in (pieces 47 rest)) else Err Forbidden) ≡ Ok p
    → (if slash then (if length (rest ++ 47 ∷ name) == 0 then Ok [] else names_in (pieces 47 (rest ++ 47 ∷ name))) else Err Forbidden) ≡ Ok
    (p ++ name ∷ [])
push_by false alone c rest name p first none legal some is = absurd (cc)
push_by true true c rest name p first none legal some is = absurd (let root : [] ≡ p = cc in let count = ap length root in omega arith)
push_by true false c rest name p first none legal some is =
    ap (λ b. if b then Ok [] else names_in (pieces 47 (rest ++ 47 ∷ name))) (some_more rest name)
    ∙ ap names_in (pieces-append 47 rest name ∙ ap (λ cut. pieces 47 rest ++ cut) (pieces-name name legal))
    ∙ names_in-push (pieces 47 rest) name p legal is

path_in-push : (text name : List ℕ) (p : Path) → path_in text ≡ Ok p → 0 < length p → IsLegalName name
    → path_in (text ++ 47 ∷ name) ≡ Ok (p ++ name ∷ [])
path_in-push [] name p is some legal = absurd (cc)
path_in-push (c ∷ rest) name p is some legal = push_by (c == 47) (length rest == 0) c rest name p refl refl legal some is

ok_by : (read : Result Path NameFault) (p : Path) → result_ok read ≡ Some p → read ≡ Ok p
ok_by (Ok q) p is = let same : q ≡ p = cc in ap Ok same
ok_by (Err fault) p is = absurd (cc)

entry_by : (p : Path) (name : List ℕ) → below_root (p ++ name ∷ []) ≡ Some (p ++ name ∷ [])
entry_by [] name = refl
entry_by (x ∷ p) name = refl

-- a text that spells a path with a name behind it
pub record Pushed (text : List ℕ) (p : Path) (name : List ℕ) : Type 0 where
  pub legal : path_of text ≡ Some (p ++ name ∷ [])
  pub spelled : spelled_path text ≡ p ++ name ∷ []
  pub entry : entry_path_of text ≡ Some (p ++ name ∷ [])

-- the text of a directory other than the root
pub front_of : (above : List ℕ) (p : Path) → path_of above ≡ Some p → 0 < length p → IsFront above p
front_of above p spells some name legal = ap result_ok (path_in-push above name p (ok_by (path_in above) p spells) some legal)

-- the text of the root
pub front_of_root : IsFront [] []
front_of_root name legal =
    ap (λ b. result_ok (if b then Ok [] else names_in (pieces 47 name)))
    (ne_eqb (length name) 0 (λ none. absurd (omega (arith, none, legal.some))))
    ∙ ap (λ cut. result_ok (names_in cut)) (pieces-name name legal) ∙ ap result_ok (names_in-push [] name [] legal refl)

pub pushed : (text above name : List ℕ) (p : Path) → text ≡ above ++ 47 ∷ name → IsFront above p → IsLegalName name
    → Pushed text p name
pushed text above name p is front legal =
    let path : path_of text ≡ Some (p ++ name ∷ []) = ap path_of is ∙ front name legal in
    record {
      legal = path;
      spelled = ap (λ (q : Option Path). unwrap_or q []) path;
      entry = ap (option_and_then below_root) path ∙ entry_by p name;
    }

some_by_count : (q : Option Path) (p : Path) → q ≡ Some p → option_and_then below_root q ≡ Some p → 0 < length p
some_by_count None p is entry = absurd (cc)
some_by_count (Some []) p is entry = absurd (cc)
some_by_count (Some (x ∷ names)) p is entry = let same : x ∷ names ≡ p = cc in subst (λ (q : Path). 0 < length q) same (omega arith)

path_by : (q : Option Path) (p : Path) → option_and_then below_root q ≡ Some p → q ≡ Some p
path_by None p entry = absurd (cc)
path_by (Some []) p entry = absurd (cc)
path_by (Some (x ∷ names)) p entry = entry

-- an entry's path is a path, and has a name
pub path_of-entry : (text : List ℕ) (p : Path) → entry_path_of text ≡ Some p → (path_of text ≡ Some p) × (0 < length p)
path_of-entry text p entry = let is = path_by (path_of text) p entry in (is, some_by_count (path_of text) p is entry)

-- the path before the last name
pub above-push : (text above name : List ℕ) (p q : Path) → text ≡ above ++ 47 ∷ name → entry_path_of above ≡ Some q → IsLegalName name
    → path_of text ≡ Some p → q ≡ parent_path p
above-push text above name p q is entry legal spells =
    let part = path_of-entry above q entry in
    parent_of-snoc p q name
    (same_Some p (q ++ name ∷ []) (sym spells ∙ (pushed text above name q is (front_of above q part.0 part.1) legal).legal))

-- what holds of each value that there is
pub if_some : {A : Type 0} (r : Option A) (P : A → Type 0) → ((x : A) → r ≡ Some x → P x) → IfSome r P
if_some None P holds = tt
if_some (Some x) P holds = holds x refl

-- what two facts of a value give
pub if_some_both : {A : Type 0} (r : Option A) (P Q R : A → Type 0) → ((x : A) → P x → Q x → R x) → IfSome r P → IfSome r Q → IfSome r R
if_some_both None P Q R holds p q = tt
if_some_both (Some x) P Q R holds p q = holds x p q
