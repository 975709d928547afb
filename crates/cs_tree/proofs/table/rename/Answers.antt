use Rattle.std.proofs.Common.{◌≡◌, ◌≢◌, ℕ, Option, None, Some, IfSome, IsSome, nat_eq, unwrap_or, refl, sym, ap, ◌∙◌, subst, ⊎_elim, []}
use Rattle.std.proofs.lemmas.Bool.{cases_eq}
use Rattle.std.specs.HashMap.{get}
use Rattle.std.specs.Option.{option_map, option_and_then}
use Rattle.std.specs.String.{string_bytes}
use Rattle.cs_tree.specs.declared.node.Node.{Node}
use Rattle.cs_tree.specs.Node.{Alike, renamed, step_at, with_child, with_name, with_stamp, without_child}
use Rattle.cs_tree.proofs.Tables.{one_table, with_at_here, with_at_other}
use Rattle.cs_tree.proofs.table.rename.Goals as goal

-- a step that keeps names
name_kept : (at : ℕ → Option Node) (k n : ℕ) (f : Node → Node) → ((d : Node) → (f d).name ≡ d.name)
    → option_and_then (λ d. d.name) (step_at at k f n) ≡ option_and_then (λ d. d.name) (at n)
name_kept at k n f same = ⊎_elim
    (λ (e : n ≡ k). ap (option_and_then (λ d. d.name)) (ap (step_at at k f) e ∙ with_at_here at k (option_map f (at k))) ∙ by (at k) ∙ ap
    (λ j. option_and_then (λ d. d.name) (at j)) (sym e))
    (λ (ne : n ≢ k). ap (option_and_then (λ d. d.name)) (with_at_other at k (option_map f (at k)) n ne))
    (cases_eq n k)
  where
    by : (o : Option Node) → option_and_then (λ d. d.name) (option_map f o) ≡ option_and_then (λ d. d.name) o
    by None = refl
    by (Some d) = same d

pub link_child-requires : goal.link_child-requires
link_child-requires c =
    subst (λ o. IfSome o (λ d. IsSome (get nat_eq c.args.nodes.now d.parent))) (sym c.in-Some.ensures.value) c.requires.above

pub returns-clause-ok : goal.returns-clause-ok
returns-clause-ok c =
    let at = get nat_eq c.args.nodes.now in
    let n = c.args.number in
    let d = c.in-Some.node.now in
    let y = c.args.name.now in
    let s = c.args.stamp in
    let key : string_bytes c.in_ok-key.key ≡ y = c.in_ok-key.ensures.cases ∙ c.as_string.ensures in
    let linked : get nat_eq c.link_child.new.nodes ≡ step_at at d.parent (λ u. with_child u y n) =
    sym (one_table _ (get nat_eq c.link_child.new.nodes) c.in_ok-link_child.ensures.ok) ∙
    ap (λ x. step_at at d.parent (λ u. with_child u x n)) key in
    let named : get nat_eq c.set_name.new.nodes ≡ step_at (step_at at d.parent (λ u. with_child u y n)) n (λ e. with_name e y) =
    sym (one_table _ (get nat_eq c.set_name.new.nodes) c.in-Some-set_name.ensures.set) ∙
    (λ i. step_at (linked i) n (λ e. with_name e (c.in_ok-name.ensures i))) in
    let old : c.in-Some-set_name.old ≡ unwrap_or d.name [] = ap (λ o. unwrap_or o [])
    (c.in-Some-set_name.ensures.old ∙ ap (λ v. option_and_then (λ e. e.name) (v n)) linked ∙ name_kept at d.parent n (λ u. with_child u y n)
    (λ u. refl) ∙ ap (option_and_then (λ e. e.name)) (sym c.in-Some.ensures.value)) in
    subst (λ o. IfSome o (λ e. Alike (renamed at n e y s) (get nat_eq c.unlink_and_stamp.new.nodes))) c.in-Some.ensures.value
    (λ q. c.unlink_and_stamp.ensures q ∙
    (λ i. step_at (named i) d.parent (λ u. with_stamp (without_child u ((c.as_str.ensures.value ∙ old) i)) s) q))
