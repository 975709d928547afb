-- Rights that a line claims: what is legal again, and the first fault of a line with a path and rights.
use Rattle.std.proofs.Common.{◌≡◌, Bool, true, false, List, ℕ, Option, None, Some, Result, Ok, Err, refl, ap, sym, ◌∙◌, subst}
use Rattle.std.specs.Prelude.{IsOk, if◌then◌else◌}
use Rattle.std.specs.Option.{option_and_then}
use Rattle.cs_names.specs.Laws.{user_name_in-legal}
use Rattle.cs_names.specs.Legal.{IsUserName}
use Rattle.cs_tree_model.specs.Tree.{Path}
use Rattle.cs_trace_lines.specs.Values.{Claims}
use Rattle.cs_trace.specs.Judging.{or_bad_name, rights_in, with_path}
use Rattle.cs_trace.specs.Kept.{Freely}
use Rattle.cs_start.specs.Names.{entry_path_of}
use Rattle.cs_trace.specs.Names.{are_user_names, claims_by, new_path_of, rights_of}
use Rattle.cs_trace.specs.Outcomes.{Fails, Gives, Leaves}
use Rattle.cs_trace.specs.declared.fault.TraceFaultKind.{TraceFaultKind}
use Rattle.cs_trace.specs.declared.fault.TraceFaultKind.TheVariants.{BadName}
use Rattle.cs_start.specs.declared.rights.Rights.{Rights}

legal_again : (rights : Rights) → IsUserName rights.owner → IsUserName rights.group → rights_in (claims_by rights) ≡ Ok rights
legal_again rights owner group = rw (user_name_in-legal rights.owner owner, user_name_in-legal rights.group group) refl

pub claimed_again : (rights : Rights) (claims : Claims) → IsUserName rights.owner → IsUserName rights.group
    → claims.permissions ≡ rights.permissions → claims.owner ≡ rights.owner → claims.group ≡ rights.group → rights_in claims ≡ Ok rights
claimed_again rights claims legal_owner legal_group permissions owner group =
    ap rights_in {x = claims} {y = claims_by rights} (λ i. record { owner = owner i; group = group i; permissions = permissions i })
    ∙ legal_again rights legal_owner legal_group

-- ---- the names of a claim are legal, or BadName

legal_by : (claims : Claims) (rights : Rights) (legal : Bool)
    → (if legal then Ok (rights_of claims) else Err BadName) ≡ Ok rights → legal ≡ true
legal_by claims rights true e = refl
legal_by claims rights false e = absurd (cc)

pub legal_claims : (claims : Claims) (rights : Rights) → rights_in claims ≡ Ok rights → are_user_names claims ≡ true
legal_claims claims rights e = legal_by claims rights (are_user_names claims) e

same_by : (claims : Claims) (rights : Rights) (legal : Bool)
    → (if legal then Ok (rights_of claims) else Err BadName) ≡ Ok rights → rights_of claims ≡ rights
same_by claims rights true e = cc
same_by claims rights false e = absurd (cc)

pub same_claims : (claims : Claims) (rights : Rights) → rights_in claims ≡ Ok rights → claims ≡ claims_by rights
same_claims claims rights e = ap claims_by (same_by claims rights (are_user_names claims) e)

exact_by : (rights : Rights) (kind : TraceFaultKind) (legal : Bool) → (if legal then Ok rights else Err BadName) ≡ Err kind
    → Fails (if legal then Ok rights else Err BadName) kind IsOk
exact_by rights kind true e = absurd (cc)
exact_by rights kind false e = record { fault = λ _. e; memory = λ is. absurd (cc) }

pub rights_refused : (claims : Claims) (kind : TraceFaultKind) → rights_in claims ≡ Err kind → Fails (rights_in claims) kind IsOk
rights_refused claims kind e = exact_by (rights_of claims) kind (are_user_names claims) e

-- ---- a call that ends early

pub gives_fault : {A : Type 0} {expected : Result A TraceFaultKind} {May : Result A TraceFaultKind → Type 0} (r : Result A TraceFaultKind)
    (kind : TraceFaultKind) → r ≡ Err kind → Fails expected kind May → Gives expected r May
gives_fault {expected = expected} {May = May} r kind e fails = subst (λ s. Gives expected s May) (sym e) fails

pub leaves_fault : {A : Type 0} {expected : Result A TraceFaultKind} {May : Result A TraceFaultKind → Type 0}
    (r : Result (Unit {0}) TraceFaultKind) (new : A) (kind : TraceFaultKind) → r ≡ Err kind → Fails expected kind May
    → Leaves expected r new May
leaves_fault {expected = expected} {May = May} r new kind e fails = subst (λ s. Leaves expected s new May) (sym e) fails

-- ---- the header

fails_header_by : {A : Type 0} (x : A) (claims : Claims) (kind : TraceFaultKind) (legal : Bool)
    → Fails (if legal then Ok (rights_of claims) else Err BadName) kind IsOk → Fails (if legal then Ok x else Err BadName) kind Freely
fails_header_by x claims kind true fails = record {
  fault = λ other. absurd (let e = fails.fault other in cc);
  memory = λ is. tt;
}
fails_header_by x claims kind false fails = record { fault = λ other. let e = fails.fault other in cc; memory = λ is. tt }

pub fails_header : {A : Type 0} (x : A) (claims : Claims) (kind : TraceFaultKind)
    → Fails (rights_in claims) kind IsOk → Fails (if are_user_names claims then Ok x else Err BadName) kind Freely
fails_header x claims kind fails = fails_header_by x claims kind (are_user_names claims) fails

-- ---- a line with a path and rights

module _ {A : Type 0} (f : Path → Claims → Result A TraceFaultKind) (claims : Claims) where
  lost_by : (o : Option Path) (kind : TraceFaultKind) → or_bad_name o ≡ Err kind
      → Fails (with_path (option_and_then (λ p. if are_user_names claims then Some p else None) o) (λ q. f q claims)) kind Freely
  lost_by None kind e = record { fault = λ _. cc; memory = λ is. tt }
  lost_by (Some q) kind e = absurd (cc)

  -- the path isn't legal
  pub path_fails : (text : List ℕ) (kind : TraceFaultKind) → or_bad_name (entry_path_of text) ≡ Err kind
      → Fails (with_path (new_path_of text claims) (λ q. f q claims)) kind Freely
  path_fails text kind e = lost_by (entry_path_of text) kind e

  fails_by : (p : Path) (kind : TraceFaultKind) (legal : Bool)
      → Fails (if legal then Ok (rights_of claims) else Err BadName) kind IsOk
      → Fails (with_path (if legal then Some p else None) (λ q. f q claims)) kind Freely
  fails_by p kind true fails = record { fault = λ other. absurd (let e = fails.fault other in cc); memory = λ _. tt }
  fails_by p kind false fails = record { fault = λ other. let e = fails.fault other in cc; memory = λ is. tt }

  fails_at : (o : Option Path) (p : Path) (kind : TraceFaultKind) → or_bad_name o ≡ Ok p
      → Fails (rights_in claims) kind IsOk
      → Fails (with_path (option_and_then (λ q. if are_user_names claims then Some q else None) o) (λ q. f q claims)) kind Freely
  fails_at None p kind path fails = absurd (cc)
  fails_at (Some q) p kind path fails = fails_by q kind (are_user_names claims) fails

  -- the path is legal, and the rights fail
  pub rights_fail : (text : List ℕ) (p : Path) (kind : TraceFaultKind) → or_bad_name (entry_path_of text) ≡ Ok p
      → Fails (rights_in claims) kind IsOk
      → Fails (with_path (new_path_of text claims) (λ q. f q claims)) kind Freely
  rights_fail text p kind path fails = fails_at (entry_path_of text) p kind path fails

  found_at : (o : Option Path) (p : Path) (legal : Bool) → or_bad_name o ≡ Ok p → legal ≡ true
      → with_path (option_and_then (λ q. if legal then Some q else None) o) (λ q. f q claims) ≡ f p claims
  found_at None p legal path named = absurd (cc)
  found_at (Some q) p true path named = let same : q ≡ p = cc in ap (λ r. f r claims) same
  found_at (Some q) p false path named = absurd (cc)

  -- the path is legal, and so are the names
  pub with_rights : (text : List ℕ) (p : Path) (rights : Rights) → or_bad_name (entry_path_of text) ≡ Ok p → rights_in claims ≡ Ok rights
      → with_path (new_path_of text claims) (λ q. f q claims) ≡ f p (claims_by rights)
  with_rights text p rights path named =
      found_at (entry_path_of text) p (are_user_names claims) path (legal_claims claims rights named)
      ∙ ap (λ c. f p c) (same_claims claims rights named)
