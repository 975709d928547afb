-- A walk, one element after another.
use Rattle.std.proofs.Common.{◌≡◌, ℕ, ◌+◌, ◌<◌, ◌≤◌, List, [], ◌∷◌, ◌++◌, length, drop, get_or, Option, Some, None, Ok, Err, refl, sym, ap}
use Rattle.std.proofs.Common.{◌∙◌}
use Rattle.std.specs.Prelude.{map, string_bytes, String}
use Rattle.std.specs.Global.{Global}
use Rattle.std.proofs.lemmas.List.{drop_more, drop_all}
use Rattle.cs_names.specs.declared.rule_id.RuleId.{RuleId}
use Rattle.cs_tree_model.specs.Tree.{Tree}
use Rattle.cs_users.specs.Rows.{Row}
use Rattle.cs_wire.specs.declared.message.Qid.{Qid}
use Rattle.cs_permit.specs.Walks.{element}
use Rattle.std.specs.List.{AllByRecursion}
use Rattle.cs_permit.specs.Shown.{qid_at}
use Rattle.cs_permit.specs.Sizes.{IsQid}
use Rattle.cs_run.specs.Walks.{WalkResult, with_qid_first, go_on, with_qids_first, walk_from}

pub onto-append : (qs : List Qid) (q : Qid) (w : WalkResult) → with_qids_first (qs ++ q ∷ []) w ≡ with_qids_first qs (with_qid_first q w)
onto-append [] q w = refl
onto-append (p ∷ qs) q w = ap (with_qid_first p) (onto-append qs q w)

pub onto-end : (qs : List Qid) (r : Option RuleId) (n : ℕ) → with_qids_first qs (record {
  qids = [];
  stopped = r;
  last = n;
}) ≡ record { qids = qs; stopped = r; last = n }
onto-end [] r n = refl
onto-end (p ∷ qs) r n = ap (with_qid_first p) (onto-end qs r n)

module _ (t : Tree) (us : List Row) (u : List ℕ) (n : ℕ) (names : List (String Global)) (i : ℕ) (x : String Global) (qs : List Qid)
    (target : WalkResult) where
  -- the walk from here is one element and the rest
  at_name : i < length names → x ≡ get_or names i x
      → walk_from t us u n (map string_bytes (drop i names))
      ≡ go_on (λ m. walk_from t us u m (map string_bytes (drop (i + 1) names))) t n (element t us u n (string_bytes x))
  at_name less is =
      ap (λ (l : List (String Global)). walk_from t us u n (map string_bytes l))
      (drop_more names i x less ∙ ap (λ y. y ∷ drop (i + 1) names) (sym is))

  pub stops_at : i < length names → x ≡ get_or names i x → (r : RuleId) → Err r ≡ element t us u n (string_bytes x)
      → with_qids_first qs (walk_from t us u n (map string_bytes (drop i names))) ≡ target → record {
        qids = qs;
        stopped = Some r;
        last = n;
      } ≡ target
  stops_at less is r fails done =
      sym (onto-end qs (Some r) n)
      ∙ ap (λ o. with_qids_first qs (go_on (λ m. walk_from t us u m (map string_bytes (drop (i + 1) names))) t n o)) fails
      ∙ sym (ap (with_qids_first qs) (at_name less is)) ∙ done

  pub goes_on : i < length names → x ≡ get_or names i x → (m : ℕ) → Ok m ≡ element t us u n (string_bytes x)
      → with_qids_first qs (walk_from t us u n (map string_bytes (drop i names))) ≡ target
      → with_qids_first (qs ++ qid_at t m ∷ []) (walk_from t us u m (map string_bytes (drop (i + 1) names))) ≡ target
  goes_on less is m leads done =
      onto-append qs (qid_at t m) _
      ∙ ap (λ o. with_qids_first qs (go_on (λ k. walk_from t us u k (map string_bytes (drop (i + 1) names))) t n o)) leads
      ∙ sym (ap (with_qids_first qs) (at_name less is)) ∙ done

module _ (t : Tree) (us : List Row) (u : List ℕ) (n : ℕ) (names : List (String Global)) (i : ℕ) (qs : List Qid) (target : WalkResult) where
  pub ends_at : length names ≤ i → with_qids_first qs (walk_from t us u n (map string_bytes (drop i names))) ≡ target → record {
    qids = qs;
    stopped = None;
    last = n;
  } ≡ target
  ends_at over done =
      sym (onto-end qs None n) ∙ ap (λ (l : List (String Global)). with_qids_first qs (walk_from t us u n (map string_bytes l)))
      (sym (drop_all i names over)) ∙ done

pub all-append : (qs : List Qid) (q : Qid) → AllByRecursion IsQid qs → IsQid q → AllByRecursion IsQid (qs ++ q ∷ [])
all-append [] q fit one = (one, tt)
all-append (p ∷ qs) q fit one = (fit.0, all-append qs q fit.1 one)
