-- The rules of a profile, and of one whose rules say more.
use Rattle.std.proofs.Common.{◌≡◌, ℕ, ◌⊎◌, inl, inr, true, List, refl, sym, subst, ⊎_elim}
use Rattle.cs_trace_lines.specs.declared.profile.Profile.{Profile}
use Rattle.cs_trace_lines.specs.declared.profile.Profile.TheVariants.{Blocks, Ordered, Journal}
use Rattle.cs_trace_lines.specs.declared.version.Version.{Version}
use Rattle.cs_micro.specs.Micros.{Micros}
use Rattle.cs_micro.specs.declared.micro_op.MicroOp.{MicroOp}
use Rattle.cs_micro.specs.declared.sync_point.SyncPoint.{SyncPoint}
use Rattle.cs_apm.specs.Orders.{needs_by}
use Rattle.cs_apm.specs.Reasons.{KeepsOrder, Needs, Reason}
use Rattle.cs_apm.specs.Reasons.{writes_one_block, resizes_one_file, touches_one_entry, settles_one_directory, makes_directory}
use Rattle.cs_apm.specs.Reasons.{empties_directory, is_waited_for, tells_after, sets_one_file, is_kept_in_order}
use Rattle.cs_apm.specs.Reasons.{is_acknowledged_first, creates_what_is_linked, is_journaled, moves_directories, is_other_half}
use Rattle.cs_apm.specs.Laws.Reasons.{needs_says, says_needs}
use Rattle.cs_sets.specs.Sets.{IsAllowed}
use Rattle.cs_different.specs.Members.{stricter}

-- the rules of q say all that those of p say
record IsNoStricter (p q : Profile) : Type 0 where
  pub keeps : KeepsOrder p → KeepsOrder q
  pub journal : p ≡ Journal → q ≡ Journal

itself : (p : Profile) → IsNoStricter p p
itself p = record { keeps = λ k. k; journal = λ e. e }

blocks_least : (q : Profile) → IsNoStricter Blocks q
blocks_least q = record { keeps = λ k. absurd k; journal = λ e. absurd (cc e) }

journal_most : (p : Profile) → IsNoStricter p Journal
journal_most p = record { keeps = λ k. tt; journal = λ e. refl }

first_no_stricter : (p q : Profile) → IsNoStricter p (stricter p q)
first_no_stricter Blocks q = blocks_least q
first_no_stricter Ordered Blocks = itself Ordered
first_no_stricter Ordered Ordered = itself Ordered
first_no_stricter Ordered Journal = journal_most Ordered
first_no_stricter Journal q = itself Journal

second_no_stricter : (p q : Profile) → IsNoStricter q (stricter p q)
second_no_stricter Blocks q = itself q
second_no_stricter Ordered Blocks = blocks_least Ordered
second_no_stricter Ordered Ordered = itself Ordered
second_no_stricter Ordered Journal = itself Journal
second_no_stricter Journal q = journal_most q

pub one_of_both : (p q : Profile) → (stricter p q ≡ p) ⊎ (stricter p q ≡ q)
one_of_both Blocks q = inr refl
one_of_both Ordered Blocks = inl refl
one_of_both Ordered Ordered = inl refl
one_of_both Ordered Journal = inr refl
one_of_both Journal q = inl refl

module _ (ops : List MicroOp) (syncs : List SyncPoint) (version : Version) (p q : Profile) (is : IsNoStricter p q) (i j : ℕ) where
  reason_under : Reason ops syncs version p i j → Reason ops syncs version q i j
  reason_under (writes_one_block file block a b) = writes_one_block file block a b
  reason_under (resizes_one_file file a b) = resizes_one_file file a b
  reason_under (touches_one_entry e a b) = touches_one_entry e a b
  reason_under (settles_one_directory d a b) = settles_one_directory d a b
  reason_under (makes_directory e a b) = makes_directory e a b
  reason_under (empties_directory d a b) = empties_directory d a b
  reason_under (is_waited_for a) = is_waited_for a
  reason_under (tells_after a b) = tells_after a b
  reason_under (sets_one_file file a b) = sets_one_file file a b
  reason_under (is_kept_in_order k a b) = is_kept_in_order (is.keeps k) a b
  reason_under (is_acknowledged_first v a) = is_acknowledged_first v a
  reason_under (creates_what_is_linked file kind other a b) = creates_what_is_linked file kind other a b
  reason_under (is_journaled e a b) = is_journaled (is.journal e) a b
  reason_under (moves_directories a b) = moves_directories a b
  reason_under (is_other_half e kind file old a b) = is_other_half e kind file old a b

module _ (m : Micros) where
  needs_under : (p q : Profile) → IsNoStricter p q → (i j : ℕ) → needs_by m p i j ≡ true → needs_by m q i j ≡ true
  needs_under p q is i j t =
      let w : Needs m.ops m.syncs m.version p i j = needs_says m.ops m.syncs m.version p i j t in
      says_needs m.ops m.syncs m.version q i j
      (record { before = w.before; reason = reason_under m.ops m.syncs m.version p q is i j w.reason })

  allowed_under : (p q : Profile) → IsNoStricter p q → (n : ℕ) (places : List ℕ) → IsAllowed (needs_by m q) n places
      → IsAllowed (needs_by m p) n places
  allowed_under p q is n places h = record {
    ascending = h.ascending;
    in_range = h.in_range;
    closed = λ a i low t. h.closed a i low (needs_under p q is i _ t);
  }

  -- what the stricter of two profiles allows both allow
  pub both_allow : (p q : Profile) (n : ℕ) (places : List ℕ) → IsAllowed (needs_by m (stricter p q)) n places
      → IsAllowed (needs_by m p) n places × IsAllowed (needs_by m q) n places
  both_allow p q n places h = (
    allowed_under p (stricter p q) (first_no_stricter p q) n places h,
    allowed_under q (stricter p q) (second_no_stricter p q) n places h,
  )

  -- and what both allow it allows
  pub allowed_by_both : (p q : Profile) (n : ℕ) (places : List ℕ) → IsAllowed (needs_by m p) n places
      → IsAllowed (needs_by m q) n places → IsAllowed (needs_by m (stricter p q)) n places
  allowed_by_both p q n places one other = ⊎_elim
      (λ (e : stricter p q ≡ p). subst (λ r. IsAllowed (needs_by m r) n places) (sym e) one)
      (λ (e : stricter p q ≡ q). subst (λ r. IsAllowed (needs_by m r) n places) (sym e) other)
      (one_of_both p q)
