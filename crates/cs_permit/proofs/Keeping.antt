-- A wstat that keeps each field.
use Rattle.std.proofs.Common.{◌≡◌, ◌∙◌, ℕ, ◌==◌, ◌⊎◌, Bool, true, false, not, ◌||◌, List, [], ◌∷◌, Option, Some, None, IsSomeAnd, IfSome}
use Rattle.std.proofs.Common.{inl, inr, if◌then◌else◌, refl, ap}
use Rattle.std.proofs.lemmas.Bool.{eq-eqb, or_left, or_right}
use Rattle.std.specs.Cmp.Lexicographic.{bytes_decides}
use Rattle.std.specs.Option.{is_none, option_map_or}
use Rattle.cs_names.specs.declared.rule_id.RuleId.TheVariants.{Q2, Q3}
use Rattle.cs_tree_model.specs.declared.record.MetadataBuf.{MetadataBuf}
use Rattle.cs_tree_model.specs.Tree.{Tree}
use Rattle.cs_users.specs.Members.{same_name}
use Rattle.cs_users.specs.Rows.{Row}
use Rattle.cs_wire.specs.declared.message.Qid.{Qid}
use Rattle.cs_permit.specs.declared.call.WstatCall.{WstatCall}
use Rattle.cs_permit.specs.Changes.{ChangesNothing, IsKept, IsKeptText, KeepsEach, changes_fixed, new_number, new_text, ones_qid, same_qid}
use Rattle.cs_permit.specs.Refusals.{first_failing}
use Rattle.cs_permit.specs.Shown.{qid_of}
use Rattle.cs_permit.specs.Wstats.{field_rules, group_rules, length_rules, mode_rules, name_rules}

either_true : {P Q : Type 0} (a b : Bool) → (P → a ≡ true) → (Q → b ≡ true) → P ⊎ Q → (a || b) ≡ true
either_true a b p q (inl x) = or_left a b (p x)
either_true a b p q (inr y) = or_right a b (q y)

new_number-kept : (ones present sent : ℕ) → IsKept ones present sent → new_number ones present sent ≡ None
new_number-kept ones present sent k =
    ap (λ b. if b then None else Some sent) (either_true (sent == ones) (sent == present) (eq-eqb sent ones) (eq-eqb sent present) k)

new_text-kept : (present sent : List ℕ) → IsKeptText present sent → new_text present sent ≡ None
new_text-kept present sent k =
    ap (λ b. if b then None else Some sent)
    (either_true (same_name sent []) (same_name sent present) (bytes_decides sent []).1 (bytes_decides sent present).1 k)

same_qids : (p q : Qid) → p ≡ q → same_qid p q ≡ true
same_qids p q e =
    let again : same_qid q q ≡ true = rw (eq-eqb q.kind q.kind refl, eq-eqb q.vers q.vers refl, eq-eqb q.path q.path refl) refl in
    ap (λ r. same_qid r q) e ∙ again

qid-kept : (file : MetadataBuf) (q : Qid) → (q ≡ ones_qid) ⊎ (q ≡ qid_of file)
    → not (same_qid q ones_qid || same_qid q (qid_of file)) ≡ false
qid-kept file q k =
    ap not (either_true (same_qid q ones_qid) (same_qid q (qid_of file)) (same_qids q ones_qid) (same_qids q (qid_of file)) k)

module _ (t : Tree) (us : List Row) (c : WstatCall) (file : MetadataBuf) where
  pub kept-changes : KeepsEach t c file → ChangesNothing t c file
  kept-changes k = record {
    name = new_text-kept _ _ k.name;
    len = new_number-kept _ _ _ k.len;
    mode = new_number-kept _ _ _ k.mode;
    mtime = new_number-kept _ _ _ k.mtime;
    group = new_text-kept _ _ k.gid;
  }

  kept-fixed : KeepsEach t c file → changes_fixed c file ≡ false
  kept-fixed k =
      rw (
        new_number-kept _ _ _ k.kind,
        new_number-kept _ _ _ k.dev,
        qid-kept file c.stat.qid k.qid,
        new_number-kept _ _ _ k.atime,
        new_text-kept _ _ k.uid,
        new_text-kept _ _ k.muid,
      ) refl

  kept-fields : ChangesNothing t c file → first_failing (field_rules t us c file) ≡ None
  unfolding name_rules length_rules mode_rules group_rules
  kept-fields n = rw (n.name, n.len, n.mode, n.mtime, n.group) refl

pub first_failing-kept : (t : Tree) (us : List Row) (c : WstatCall) (o : Option MetadataBuf) → IsSomeAnd o (KeepsEach t c)
    → first_failing ((Q2, is_none o) ∷ (Q3, option_map_or (changes_fixed c) o false) ∷ option_map_or (field_rules t us c) o []) ≡ None
first_failing-kept t us c None k = absurd k
first_failing-kept t us c (Some file) k =
    ap (λ b. if b then Some Q3 else first_failing (field_rules t us c file)) (kept-fixed t us c file k)
    ∙ kept-fields t us c file (kept-changes t us c file k)

pub ChangesNothing-kept : (t : Tree) (us : List Row) (c : WstatCall) (o : Option MetadataBuf) → IsSomeAnd o (KeepsEach t c)
    → IfSome o (ChangesNothing t c)
ChangesNothing-kept t us c None k = tt
ChangesNothing-kept t us c (Some file) k = kept-changes t us c file k
