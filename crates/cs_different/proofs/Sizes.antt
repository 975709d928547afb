-- A set without the first size above an offset leaves no size above it.
use Rattle.std.proofs.Common.{◌≡◌, ◌≢◌, ℕ, zero, suc, ◌<◌, ◌≤◌, ◌==◌, Bool, true, false, cond}
use Rattle.std.proofs.Common.{List, refl, sym, ap, ◌∙◌, subst, arith, ⊎_elim}
use Rattle.std.proofs.lemmas.Bool.{cases_Bool, cases_eq, cases_lt, eqb-true, false≢true}
use Rattle.cs_trace_lines.specs.Versions.{profile_of}
use Rattle.cs_micro.specs.Micros.{Micros}
use Rattle.cs_micro.specs.declared.micro_op.MicroOp.{MicroOp}
use Rattle.cs_micro.specs.declared.micro_op.MicroOp.TheVariants.{CreateDirEntry, DeleteDirEntry, MoveDirEntry, LinkDirEntry, ChangeFileSize}
use Rattle.cs_micro.specs.declared.micro_op.MicroOp.TheVariants.{WriteBlock, SetAttr, Say}
use Rattle.cs_apm.specs.Contents.{content_after, content_after_op}
use Rattle.cs_apm.specs.Orders.{needs_of}
use Rattle.cs_apm.specs.Reasons.{resizes_one_file}
use Rattle.cs_apm.specs.Rules.{op_at}
use Rattle.cs_sets.specs.Sets.{IsAllowed, is_member}
use Rattle.cs_apm.specs.States.{Content}
use Rattle.cs_apm.specs.Laws.Members.{contains_has, found_has, run}
use Rattle.cs_apm.specs.Laws.Reasons.{says_needs}
use Rattle.cs_different.specs.Wants.{IsGrower}

module _ (m : Micros) (n : ℕ) (places : List ℕ) (allowed : IsAllowed (needs_of m) n places) where
  -- with a size of a file the set has each earlier one
  size_closed : (f z j to more : ℕ) → z < j → op_at m.ops z ≡ ChangeFileSize f to → op_at m.ops j ≡ ChangeFileSize f more
      → is_member places j ≡ true → is_member places z ≡ true
  size_closed f z j to more low first second t =
      let at = found_has places j t in
      contains_has places z
      (allowed.closed at.0 z at.1
      (ap (needs_of m z) at.2
      ∙ says_needs m.ops m.syncs m.version (profile_of m.version) z j
      (record { before = low; reason = resizes_one_file f (to, first) (more, second) })))

  module _ (f offset z size : ℕ) (grower : IsGrower size m.ops f offset z) (lacks : is_member places z ≡ false) where
    small_size : (j to : ℕ) → op_at m.ops j ≡ ChangeFileSize f to → is_member places j ≡ true → to ≤ offset
    small_size j to e t = ⊎_elim
        (λ (low : j < z). grower.before j to low e)
        (λ (high : z ≤ j). ⊎_elim
        (λ (same : j ≡ z). absurd (false≢true (sym lacks ∙ ap (is_member places) (sym same) ∙ t)))
        (λ (ne : j ≢ z). absurd (false≢true (sym lacks ∙ size_closed f z j grower.to to (omega (arith, high, ne)) grower.grows e t)))
        (cases_eq j z))
        (cases_lt j z)

    one_size : (o : MicroOp) (c : Content) → c.size ≤ offset → ((to : ℕ) → o ≡ ChangeFileSize f to → to ≤ offset)
        → (content_after f c o).size ≤ offset
    one_size (ChangeFileSize file to) c low small = by (file == f) refl
      where
        by : (b : Bool) → (file == f) ≡ b → (cond b (content_after_op c (ChangeFileSize file to)) c).size ≤ offset
        by true e = small to (ap (λ v. ChangeFileSize v to) (eqb-true file f e))
        by false e = low
    one_size (WriteBlock file block start at bytes) c low small = by (file == f)
      where
        by : (b : Bool) → (cond b (content_after_op c (WriteBlock file block start at bytes)) c).size ≤ offset
        by true = low
        by false = low
    one_size (CreateDirEntry e node rights bytes) c low small = low
    one_size (DeleteDirEntry e node) c low small = low
    one_size (MoveDirEntry a b node old) c low small = low
    one_size (LinkDirEntry e kind file old half) c low small = low
    one_size (SetAttr target rights) c low small = low
    one_size Say c low small = low

    pub sizes_small : (c : Content) → c.size ≡ size → (j : ℕ) → (run (content_after f) (is_member places) c m.ops j).size ≤ offset
    sizes_small c e zero = (let l = grower.small in omega (arith, l, e))
    sizes_small c e (suc j) = ⊎_elim
        (λ (t : is_member places j ≡ true).
        subst (λ b. (cond b (content_after f (run (content_after f) (is_member places) c m.ops j) (op_at m.ops j))
        (run (content_after f) (is_member places) c m.ops j)).size ≤ offset) (sym t)
        (one_size (op_at m.ops j) (run (content_after f) (is_member places) c m.ops j) (sizes_small c e j) (λ to at. small_size j to at t)))
        (λ (g : is_member places j ≡ false).
        subst (λ b. (cond b (content_after f (run (content_after f) (is_member places) c m.ops j) (op_at m.ops j))
        (run (content_after f) (is_member places) c m.ops j)).size ≤ offset) (sym g) (sizes_small c e j))
        (cases_Bool (is_member places j))
