-- A walk is the longest, and a page of a directory the fullest.
use Rattle.std.proofs.Common.{◌≡◌, ◌+◌, ◌-◌, ◌<◌, ◌≤◌, ℕ, Bool, true, false, if◌then◌else◌, nat_le, List, [], ◌∷◌, ◌++◌, length, Option}
use Rattle.std.proofs.Common.{Some, None, IfSome, Result, Ok, Err, refl, sym, ap, subst, arith}
use Rattle.std.proofs.lemmas.Bool.{leb-false, leb-true}
use Rattle.std.proofs.lemmas.List.{length-append}
use Rattle.std.specs.Prelude.{slice_get}
use Rattle.cs_names.specs.declared.rule_id.RuleId.{RuleId}
use Rattle.cs_permit.specs.Shown.{entry_bytes}
use Rattle.cs_permit.specs.Walks.{element}
use Rattle.cs_run.specs.Pages.{IsFullest, Page, no_more, with_bytes_first, page}
use Rattle.cs_run.specs.Walks.{IsLongest, go_on, walk_from}
use Rattle.cs_tree_model.specs.Tree.{NameBytes, Tree}
use Rattle.cs_users.specs.Rows.{Row}

module _ (t : Tree) (us : List Row) (u : List ℕ) where
  led : (n : ℕ) (x : List ℕ) (xs : List (List ℕ)) → ((m : ℕ) → IsLongest t us u m xs (walk_from t us u m xs)) → (r : Result ℕ RuleId)
      → element t us u n x ≡ r
      → IsLongest t us u n (x ∷ xs) (go_on (λ m. walk_from t us u m xs) t n r)
  led n x xs rest (Err rule) is = record { front = []; rest = x ∷ xs; whole = refl; leads = (refl, refl); stops = (rule, refl, is) }
  led n x xs rest (Ok m) is = record {
    front = x ∷ (rest m).front;
    rest = (rest m).rest;
    whole = ap (λ ys. x ∷ ys) (rest m).whole;
    leads = (m, is, refl, (rest m).leads);
    stops = (rest m).stops;
  }

  pub longest : (n : ℕ) (names : List (List ℕ)) → IsLongest t us u n names (walk_from t us u n names)
  longest n [] = record { front = []; rest = []; whole = refl; leads = (refl, refl); stops = refl }
  longest n (x ∷ xs) = led n x xs (λ m. longest m xs) (element t us u n x) refl

module _ (t : Tree) (d : ℕ) where
  -- what doesn't fit into the rest of the room doesn't fit behind what filled the room
  behind : (room size count : ℕ) (next : Option NameBytes) → size ≤ room
      → IfSome next (λ x. room - size < count + length (entry_bytes t d x))
      → IfSome next (λ x. room < size + count + length (entry_bytes t d x))
  behind room size count None less over = tt
  behind room size count (Some x) less over = omega arith

  pub fullest : (room : ℕ) (last : Option NameBytes) (names : List NameBytes) → IsFullest t d room names (page t d room last names)
  fullest room last [] = record { front = []; rest = []; whole = refl; entries = refl; fits = omega arith; next = tt }
  fullest room last (x ∷ xs) = by (nat_le size room) refl (fullest (room - size) (Some x) xs)
    where
      size : ℕ
      size = length (entry_bytes t d x)

      rest : Page
      rest = page t d (room - size) (Some x) xs

      by : (b : Bool) → nat_le size room ≡ b → IsFullest t d (room - size) xs rest
          → IsFullest t d room (x ∷ xs) (if b then with_bytes_first (entry_bytes t d x) rest else no_more last)
      by true p more =
          let less : size ≤ room = leb-true size room p in
          let all : length (entry_bytes t d x ++ rest.bytes) ≡ size + length rest.bytes = length-append (entry_bytes t d x) rest.bytes in
          record {
            front = x ∷ more.front;
            rest = more.rest;
            whole = ap (λ ys. x ∷ ys) more.whole;
            entries = ap (λ bytes. entry_bytes t d x ++ bytes) more.entries;
            fits = (let few = more.fits in omega arith);
            next = subst (λ n. IfSome (slice_get more.rest 0) (λ y. room < n + length (entry_bytes t d y))) (sym all)
                (behind room size (length rest.bytes) (slice_get more.rest 0) less more.next);
          }
      by false p more =
          let over : room < 0 + size = omega (arith, leb-false size room p) in
          record { front = []; rest = x ∷ xs; whole = refl; entries = refl; fits = omega arith; next = over }
