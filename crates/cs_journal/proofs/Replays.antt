-- The states that a replay goes through, and that a call more can be made in each.
use Rattle.std.proofs.Common.{◌≡◌, ◌∙◌, ℕ, zero, suc, ◌+◌, ◌-◌, ◌<◌, ◌≤◌, ◌^◌, List, [], ◌∷◌, length, length-take-le, take, Some, sym, ap}
use Rattle.std.proofs.Common.{subst, arith, add-one}
use Rattle.std.specs.Prelude.{option_map, slice_get}
use Rattle.cs_names.specs.declared.limits.TheConstants.{JOURNAL_ENTRIES}
use Rattle.cs_permit.specs.declared.call.OpenFile.{OpenFile}
use Rattle.cs_run.proofs.Versions.{versions_can_grow}
use Rattle.cs_run.specs.Opens.{AreBelow}
use Rattle.cs_run.specs.declared.answer.Answer.{Answer}
use Rattle.cs_tree_model.specs.Stores.{CanStamp}
use Rattle.cs_tree_model.specs.Tree.{Tree}
use Rattle.cs_users.specs.Rows.{Row}
use Rattle.cs_journal.proofs.Journals.{below-replay, next-replay, versions-replay}
use Rattle.cs_journal.specs.Audit.{answer_at}
use Rattle.cs_journal.specs.Bounds.{CanGrow}
use Rattle.cs_journal.specs.Journals.{EntryOf, RunState, answer_to, apply, left_by, replay, run_state, fresh_state}
use Rattle.cs_run.specs.Effects.{CallResult, call_result}

replay_suc : (s : RunState) (es : List EntryOf) (k : ℕ) (e : EntryOf) → slice_get es k ≡ Some e
    → replay s (take (suc k) es) ≡ apply (replay s (take k es)) e
replay_suc s [] k e there = cc
replay_suc s (x ∷ es) zero e there = let same : x ≡ e = cc in ap (apply s) same
replay_suc s (x ∷ es) (suc k) e there = replay_suc (apply s x) es k e there

nothing_below : AreBelow 0 []
nothing_below i d within = absurd (omega arith)

module _ (fresh : Tree) (us : List Row) (journal : List EntryOf) (grows : CanGrow fresh) (few : length journal ≤ JOURNAL_ENTRIES) (k : ℕ)
    (within : k < length journal) (tree : Tree) (opens : List OpenFile)
    (at : replay (fresh_state fresh us) (take k journal) ≡ run_state tree opens us k) where
  there : length (take k journal) ≡ k
  there = length-take-le k journal (omega (arith, within))

  pub versions_at : (n : ℕ) → CanStamp tree n
  versions_at =
      let P : RunState → Type 0 = λ s. (n : ℕ) → CanStamp s.tree n in
      subst P at
      (versions_can_grow (2 ^ 32 - JOURNAL_ENTRIES + length (take k journal)) (replay (fresh_state fresh us) (take k journal)).tree
      (versions-replay (2 ^ 32 - JOURNAL_ENTRIES) (fresh_state fresh us) (take k journal) grows.versions)
      (omega (arith, there, within, few)))

  pub next_at : tree.next < 2 ^ 64
  next_at =
      let P : RunState → Type 0 = λ s. s.tree.next < 2 ^ 64 in
      subst P at (omega (arith, next-replay (fresh_state fresh us) (take k journal), grows.next, there, within, few))

  pub above_at : AreBelow k opens
  above_at =
      let P : RunState → Type 0 = λ s. AreBelow s.entries s.opens in
      subst P at (below-replay (fresh_state fresh us) (take k journal) nothing_below)

  -- the state after the entry
  pub state_next : (e : EntryOf) → slice_get journal k ≡ Some e → (tree' : Tree) (opens' : List OpenFile) (answer : Answer)
      → call_result tree' opens' answer ≡ left_by (run_state tree opens us k) e
      → replay (fresh_state fresh us) (take (k + 1) journal) ≡ run_state tree' opens' us (k + 1)
  state_next e here tree' opens' answer effect =
      ap (λ n. replay (fresh_state fresh us) (take n journal)) (add-one k) ∙ replay_suc (fresh_state fresh us) journal k e here ∙ ap
      (λ s. apply s e) at ∙ (λ i. record { tree = (sym effect i).tree; opens = (sym effect i).opens; users = us; entries = k + 1 })

  -- the answer to its call
  pub answer_next : (e : EntryOf) → slice_get journal k ≡ Some e → (tree' : Tree) (opens' : List OpenFile) (answer : Answer)
      → call_result tree' opens' answer ≡ left_by (run_state tree opens us k) e → Some answer ≡ answer_at (fresh_state fresh us) journal k
  answer_next e here tree' opens' answer effect =
      ap (λ (l : CallResult). Some l.answer) effect ∙ sym
      (ap (λ o. option_map (answer_to (replay (fresh_state fresh us) (take k journal))) o) here ∙ ap
      (λ (s : RunState). Some (answer_to s e)) at)

-- the same state by another name of its place
pub state_at : (s : RunState) (journal : List EntryOf) (tree : Tree) (opens : List OpenFile) (us : List Row) (k place : ℕ) → k ≡ place
    → replay s (take k journal) ≡ run_state tree opens us k → replay s (take place journal) ≡ run_state tree opens us place
state_at s journal tree opens us k place same at = subst (λ (n : ℕ). replay s (take n journal) ≡ run_state tree opens us n) same at
