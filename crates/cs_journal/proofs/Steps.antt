-- What a step leaves of a run that holds what its journal gives, and of its pass.
use Rattle.std.proofs.Common.{◌≡◌, ◌≢◌, ◌∙◌, ℕ, ◌+◌, ◌-◌, ◌<◌, ◌≤◌, ◌^◌, ◌==◌, Bool, true, false, List, [], ◌∷◌, ◌++◌, length}
use Rattle.std.proofs.Common.{length-append, length-set, Some, get_or, set, refl, sym, ap, subst, arith}
use Rattle.std.proofs.lemmas.Bool.{eqb-false}
use Rattle.std.proofs.lemmas.Bool.Decides.{nat_tests}
use Rattle.std.proofs.lemmas.List.{get_or-set_same, get_or-set_other}
use Rattle.std.specs.Option.{option_map}
use Rattle.std.specs.Prelude.{is_some, nat_lt}
use Rattle.cs_names.specs.declared.limits.TheConstants.{JOURNAL_ENTRIES, RUN_ATTACHES}
use Rattle.cs_permit.specs.Calls.{rules_view}
use Rattle.cs_permit.specs.declared.call.Call.{Call}
use Rattle.cs_permit.specs.declared.call.OpenFile.{OpenFile}
use Rattle.cs_run.proofs.Versions.{versions_can_grow}
use Rattle.cs_run.specs.Effects.{CallResult, call_result}
use Rattle.cs_run.specs.Laws.{AllVersBelow, FitsCall}
use Rattle.cs_run.specs.Opens.{AreBelow}
use Rattle.cs_run.specs.Outcomes.{IsOutcomeOf, result_by_outcome, outcome, result_by_mark}
use Rattle.cs_run.specs.declared.answer.Answer.{Answer}
use Rattle.cs_run.specs.declared.answer.Answer.TheVariants.{Short}
use Rattle.cs_run.specs.declared.answer.Outcome.{Outcome}
use Rattle.cs_run.specs.declared.turn.Turn.{Turn}
use Rattle.cs_tree_model.specs.Stores.{CanStamp}
use Rattle.cs_tree_model.specs.Tree.{Tree}
use Rattle.cs_users.specs.Rows.{Row}
use Rattle.cs_journal.proofs.Ends.{along, entered_step, free, plain_ends, plainly, short_step}
use Rattle.cs_journal.proofs.Fitting.{other_fits, own_fits}
use Rattle.cs_journal.proofs.Journals.{IsLegal-push, below-replay, held_state, last-push, next-replay, other_entries, other_receipts}
use Rattle.cs_journal.proofs.Journals.{own_entries, own_receipts, replay-push, versions-replay}
use Rattle.cs_journal.proofs.Moves.{Moves, call_moves, released_call, under_few}
use Rattle.cs_journal.specs.Calls.{charge, closes_plainly, open_that_ends, is_full}
use Rattle.cs_journal.specs.declared.counts.PassCounts.{PassCounts}
use Rattle.cs_journal.specs.Holding.{IsHeld, counts_of, no_counts}
use Rattle.cs_journal.specs.Journals.{EntryOf, HasRoom, IsLegal, IsOutcome, RunState, answer_to, apply, entries_of_pass, fresh_state}
use Rattle.cs_journal.specs.Journals.{left_by, replay, rules_view_of, turn_in}
use Rattle.cs_journal.specs.Runs.{Fits, PassOf, ReceiptOf, RunOf, last_of, opens_under, receipt_of, receipts_in, state_of}
use Rattle.cs_journal.specs.Steps.{IsStep, pass_with_receipt, run_with_entry}

-- ---- a run that holds what its journal gives

nothing_below : AreBelow 0 []
nothing_below i d within = absurd (omega arith)

module _ {fresh tree : Tree} {us : List Row} {opens : List OpenFile} {journal : List EntryOf} {counts : List PassCounts}
    (h : IsHeld fresh tree us opens journal counts) where
  -- the run, and its state
  abbrev pub held_run : RunOf
  held_run = record { fresh = fresh; users = us; journal = journal; passes = length counts }

  abbrev pub here : RunState
  here = record { tree = tree; opens = opens; users = us; entries = length journal }

  pub state_here : state_of held_run ≡ here
  state_here = held_state fresh tree us opens journal counts h

  -- what is true of the state is true of the run by another name, and the other way round
  pub at_state : (P : RunState → ℕ → Type 0) (r : RunOf) (p p' : PassOf) → held_run ≡ r → p ≡ p' → P here p.number
      → P (state_of r) p'.number
  at_state P r p p' run_is pass_is there =
      along (λ x q. P (state_of x) q.number) r held_run p' p (sym run_is) (sym pass_is) (subst (λ s. P s p.number) (sym state_here) there)

  pub in_state : (P : RunState → ℕ → Type 0) (r : RunOf) (p p' : PassOf) → held_run ≡ r → p ≡ p' → P (state_of r) p'.number
      → P here p.number
  in_state P r p p' run_is pass_is there =
      subst (λ s. P s p.number) state_here (along (λ x q. P (state_of x) q.number) held_run r p p' run_is pass_is there)

  -- a close whose open is there has room
  pub plain_room : (pass : ℕ) (call : Call) → JOURNAL_ENTRIES < length journal + length opens + charge opens pass call
      → closes_plainly here pass call ≢ true
  plain_room pass call above plain = let none = free opens pass call (plain_ends here pass call plain) in
      omega (arith, above, none, h.limit)

  numbers_in : AreBelow (length journal) opens
  numbers_in = let P : RunState → Type 0 = λ s. AreBelow s.entries s.opens in
      subst P state_here (below-replay (fresh_state fresh us) journal nothing_below)

  versions_in : AllVersBelow (2 ^ 32 - JOURNAL_ENTRIES + length journal) tree
  versions_in = let P : Tree → Type 0 = λ t. AllVersBelow (2 ^ 32 - JOURNAL_ENTRIES + length journal) t in
      subst P (sym h.tree_is) (versions-replay (2 ^ 32 - JOURNAL_ENTRIES) (fresh_state fresh us) journal h.grows.versions)

  next_in : tree.next ≤ fresh.next + length journal
  next_in = let P : Tree → Type 0 = λ t. t.next ≤ fresh.next + length journal in
      subst P (sym h.tree_is) (next-replay (fresh_state fresh us) journal)

-- What a step begins with: a run that holds what its journal gives, a pass that fits, and room for
-- what the call is charged.
pub record Begun (fresh tree : Tree) (us : List Row) (opens : List OpenFile) (journal : List EntryOf) (counts : List PassCounts)
    (p : PassOf) (call : Call) (charged : ℕ) : Type 0 where
  pub held : IsHeld fresh tree us opens journal counts
  pub own : Fits (held_run held) p
  pub not_full : is_full (here held) p.number call ≡ false
  pub charged_is : charged ≡ charge opens p.number call

pub begun : {fresh tree : Tree} {us : List Row} {opens : List OpenFile} {journal : List EntryOf} {counts : List PassCounts}
    (h : IsHeld fresh tree us opens journal counts) (r : RunOf) (p p' : PassOf) (call : Call) (charged : ℕ)
    → held_run h ≡ r → p ≡ p' → Fits r p' → is_full (state_of r) p'.number call ≡ false → charged ≡ charge (state_of r).opens p'.number call
    → Begun fresh tree us opens journal counts p call charged
begun h r p p' call charged run_is pass_is own room charged_is = record {
  held = h;
  own = along Fits (held_run h) r p p' run_is pass_is own;
  not_full = in_state h (λ s n. is_full s n call ≡ false) r p p' run_is pass_is room;
  charged_is = in_state h (λ s n. charged ≡ charge s.opens n call) r p p' run_is pass_is charged_is;
}

module _ {fresh tree : Tree} {us : List Row} {opens : List OpenFile} {journal : List EntryOf} {counts : List
    PassCounts} {p : PassOf} {call : Call} {charged : ℕ} (b : Begun fresh tree us opens journal counts p call charged) where
  abbrev turn_here : ℕ → Turn
  turn_here now = record { moment = now; place = length journal; pass = p.number }

  room : length journal + (length opens + charge opens p.number call) ≤ JOURNAL_ENTRIES
  room =
      let full : nat_lt JOURNAL_ENTRIES (length journal + length opens + charge opens p.number call) ≡ false = b.not_full in
      grind (arith, nat_tests)

  -- the pass's reserved places are its opens
  reserved_is : p.reserved ≡ length (opens_under p.number opens)
  reserved_is = b.own.opens ∙ ap (λ (s : RunState). length (opens_under p.number s.opens)) (state_here b.held)

  -- the room that the call and the opens take isn't nothing, nor more than a journal has
  pub some_room : 1 ≤ length opens + charged
  some_room = let m = released_call opens p.number call in omega (arith, m.room, b.charged_is)

  pub own_room : 1 ≤ p.reserved + charged
  own_room = let m = released_call opens p.number call in omega (arith, m.own_room, b.charged_is, reserved_is)

  pub own_few : p.reserved + charged ≤ JOURNAL_ENTRIES
  own_few = omega (arith, room, b.charged_is, reserved_is, under_few p.number opens)

  pub known : p.number < RUN_ATTACHES
  known = let in_run : p.number < length counts = b.own.known in omega (arith, in_run, b.held.passes)

  one_more_entry : length journal + 1 ≤ JOURNAL_ENTRIES
  one_more_entry = let m = released_call opens p.number call in omega (arith, m.room, room)

  -- what a call asks for
  pub numbers_below : (place : ℕ) → place ≡ length journal → AreBelow place opens
  numbers_below place is = subst (λ n. AreBelow n opens) (sym is) (numbers_in b.held)

  pub versions_grow : (n : ℕ) → CanStamp tree n
  versions_grow = versions_can_grow (2 ^ 32 - JOURNAL_ENTRIES + length journal) tree (versions_in b.held) (omega (arith, one_more_entry))

  pub next_grows : tree.next < 2 ^ 64
  next_grows = omega (arith, one_more_entry, next_in b.held, b.held.grows.next)

  -- a growth for entry and receipt that is refused
  pub short_left : (r r' : RunOf) (p' q : PassOf) (now : ℕ) → held_run b.held ≡ r → p ≡ p' → r' ≡ r → q ≡ p'
      → is_some (open_that_ends opens p.number call) ≡ false → IsStep r p' now call Short r' q
  short_left r r' p' q now run_is pass_is same_run same_pass none =
      along (λ x y. IsStep r p' now call Short x y) r' r q p' same_run same_pass
      (along (λ x y. IsStep x y now call Short x y) r (held_run b.held) p' p (sym run_is) (sym pass_is)
      (short_step (held_run b.held) p now call b.held.legal b.own
      (subst (λ s. is_full s p.number call ≡ false) (sym (state_here b.held)) b.not_full)
      (subst (λ (s : RunState). is_some (open_that_ends s.opens p.number call) ≡ false) (sym (state_here b.held)) none)))

  -- ---- after the call
  module _ {now place : ℕ} {us' : List Row} {how : Outcome} {tree' : Tree} {opens' : List OpenFile} {answer : Answer} (users_are : us' ≡ us)
      (place_is : place ≡ length journal) (went : IsOutcomeOf (rules_view tree opens us') (record {
        moment = now;
        place = place;
        pass = p.number;
      }) call how (call_result tree' opens' answer)) where
    abbrev pub its_entry : EntryOf
    its_entry = record { pass = p.number; moment = now; call = call; outcome = how }

    ends : how ≡ outcome (rules_view tree opens us) (turn_here now) call went.mark
    ends = went.ends ∙ (λ i. outcome (rules_view tree opens (users_are i)) (record {
      moment = now;
      place = place_is i;
      pass = p.number;
    }) call went.mark)

    effect : call_result tree' opens' answer ≡ result_by_mark (rules_view tree opens us) (turn_here now) call went.mark
    effect = went.leaves_is ∙ (λ i. result_by_mark (rules_view tree opens (users_are i)) (record {
      moment = now;
      place = place_is i;
      pass = p.number;
    }) call went.mark)

    by_entry : call_result tree' opens' answer ≡ left_by (here b.held) its_entry
    by_entry = effect ∙ (λ i. result_by_outcome (rules_view tree opens us) (turn_here now) call (sym ends i))

    moved : Moves opens opens' p.number (charge opens p.number call)
    moved =
        let P : CallResult → Type 0 = λ l. Moves opens l.opens p.number (charge opens p.number call) in
        subst P (sym by_entry) (call_moves (rules_view tree opens us) (turn_here now) call how)

    applied_here : apply (state_of (held_run b.held)) its_entry ≡ record {
      tree = tree';
      opens = opens';
      users = us;
      entries = length journal + 1;
    }
    applied_here = ap (λ s. apply s its_entry) (state_here b.held) ∙ (λ i. record {
      tree = (sym by_entry i).tree;
      opens = (sym by_entry i).opens;
      users = us;
      entries = length journal + 1;
    })

    outcome_is : IsOutcome (state_of (held_run b.held)) its_entry
    outcome_is = let P : RunState → Type 0 = λ s. IsOutcome s its_entry in subst P (sym (state_here b.held)) (went.mark, ends)

    legal_after : IsLegal (fresh_state fresh us) (journal ++ its_entry ∷ [])
    legal_after =
        IsLegal-push (fresh_state fresh us) journal its_entry b.held.legal outcome_is
        (subst HasRoom (sym applied_here) (omega (arith, moved.room, room)))

    others_after : (q : ℕ) → q ≢ p.number
        → length (opens_under q (apply (state_of (held_run b.held)) its_entry).opens)
        ≡ length (opens_under q (state_of (held_run b.held)).opens)
    others_after q differs =
        ap (λ (s : RunState). length (opens_under q s.opens)) applied_here ∙ moved.others q differs ∙ sym
        (ap (λ (s : RunState). length (opens_under q s.opens)) (state_here b.held))

    places_after : p.reserved + length opens' - length opens ≡ length (opens_under p.number opens')
    places_after = omega (arith, reserved_is, moved.own)

    -- the places that are reserved then, and room for them
    pub places_more : length opens ≤ p.reserved + length opens'
    places_more = omega (arith, reserved_is, moved.own)

    pub places_few : p.reserved + length opens' < 2 ^ 64
    places_few =
        let m = moved in
        omega (arith, reserved_is, under_few p.number opens, m.room, room)

    pub room_after : length opens' + 1 ≤ length opens + charged
    room_after = omega (arith, moved.room, b.charged_is)

    pub own_room_after : p.reserved + length opens' - length opens + 1 ≤ p.reserved + charged
    own_room_after = omega (arith, moved.own_room, moved.own, reserved_is, b.charged_is)

    -- ---- as the code has it: how many receipts there are, and places
    module _ {many places : ℕ} (many_is : many ≡ length p.receipts + 1)
        (places_are : places ≡ p.reserved + length opens' - length opens) where
      abbrev counts_after : PassCounts
      counts_after = record { entries = many; opens = places; last = Some place }

      counts_are : counts_after ≡ counts_of p.number opens' (journal ++ its_entry ∷ [])
      counts_are =
          let entries : many ≡ length (entries_of_pass p.number (journal ++ its_entry ∷ [])) =
          many_is ∙ ap (λ n. n + 1) b.own.entries ∙ sym (own_entries p.number journal its_entry refl) in
          let last : Some place ≡ option_map (λ (r : ReceiptOf). r.place) (last_of (receipts_in p.number (journal ++ its_entry ∷ []))) =
          ap (λ n. Some n) place_is ∙ sym
          (ap (λ rs. option_map (λ (r : ReceiptOf). r.place) (last_of rs)) (own_receipts p.number journal its_entry refl) ∙ ap
          (option_map (λ (r : ReceiptOf). r.place)) (last-push (receipts_in p.number journal) (receipt_of (length journal) its_entry)))
          in
          λ i. record { entries = entries i; opens = (places_are ∙ places_after) i; last = last i }

      other_counts : (q : ℕ) → q ≢ p.number → counts_of q opens journal ≡ counts_of q opens' (journal ++ its_entry ∷ [])
      other_counts q differs =
          let other : its_entry.pass ≢ q = λ same. differs (sym same) in
          λ i. record {
            entries = sym (other_entries q journal its_entry other) i;
            opens = sym (moved.others q differs) i;
            last = option_map (λ (r : ReceiptOf). r.place) (last_of (sym (other_receipts q journal its_entry other) i));
          }

      counted_by : (q : ℕ) (same : Bool) → (q == p.number) ≡ same
          → get_or (set counts p.number counts_after) q no_counts ≡ counts_of q opens' (journal ++ its_entry ∷ [])
      counted_by q true same =
          let e : q ≡ p.number = grind (arith, nat_tests) in
          rw e (get_or-set_same counts p.number counts_after no_counts b.own.known ∙ counts_are)
      counted_by q false other =
          let ne : q ≢ p.number = eqb-false q p.number other in
          get_or-set_other counts p.number q counts_after no_counts ne ∙ b.held.counted q ∙ other_counts q ne

      pub held_after : (js : List EntryOf) → js ≡ journal ++ its_entry ∷ []
          → IsHeld fresh tree' us opens' js (set counts p.number counts_after)
      held_after js journal_is =
          let next : replay (fresh_state fresh us) (journal ++ its_entry ∷ []) ≡ record {
            tree = tree';
            opens = opens';
            users = us;
            entries = length journal + 1;
          } = replay-push (fresh_state fresh us) journal its_entry ∙ applied_here in
          subst (λ es. IsHeld fresh tree' us opens' es (set counts p.number counts_after)) (sym journal_is) (record {
            grows = b.held.grows;
            tree_is = ap (λ (s : RunState). s.tree) (sym next);
            opens_are = ap (λ (s : RunState). s.opens) (sym next);
            legal = legal_after;
            counted = λ q. counted_by q (q == p.number) refl;
            passes = omega (arith, b.held.passes, length-set counts p.number counts_after);
            limit = omega (arith, room, moved.room, length-append journal (its_entry ∷ []));
          })

      -- the run and the pass that are left
      abbrev run_after : RunOf
      run_after = run_with_entry (held_run b.held) its_entry

      abbrev pass_after : PassOf
      pass_after = pass_with_receipt (held_run b.held) p its_entry

      as_step : FitsCall call answer → IsStep (held_run b.held) p now call answer run_after pass_after
      as_step answers =
          let told : answer ≡ answer_to (state_of (held_run b.held)) its_entry =
          ap (λ (l : CallResult). l.answer) by_entry ∙ sym (ap (λ s. answer_to s its_entry) (state_here b.held)) in
          let not_full : is_full (state_of (held_run b.held)) p.number call ≡ false =
          subst (λ s. is_full s p.number call ≡ false) (sym (state_here b.held)) b.not_full in
          let marked : its_entry ≡ record {
            pass = p.number;
            moment = now;
            call = call;
            outcome =
                outcome (rules_view_of (state_of (held_run b.held))) (turn_in (state_of (held_run b.held)) p.number now) call went.mark;
          } =
          λ i. record {
            pass = p.number;
            moment = now;
            call = call;
            outcome =
                (ends ∙ ap (λ (s : RunState). outcome (rules_view_of s) (turn_in s p.number now) call went.mark) (sym (state_here b.held)))
                i;
          } in
          let made = entered_step (held_run b.held) p now call went.mark its_entry not_full marked in
          record {
            stepped = (made.0, (λ i. record { answer = told i; run = run_after; pass = pass_after }) ∙ made.1);
            legal = legal_after;
            fits = own_fits (held_run b.held) p its_entry refl b.own;
            others = λ q differs f. other_fits (held_run b.held) q its_entry (λ same. differs (sym same)) (others_after q.number differs) f;
            plain = λ plain.
                ap (λ (l : CallResult). l.answer) effect ∙ plainly (here b.held) p.number now call went.mark
                (subst (λ (s : RunState). closes_plainly s p.number call ≡ true) (state_here b.held) plain);
            answers = answers;
          }

      pub made_step : (r : RunOf) (p' : PassOf) (js : List EntryOf) (rs : List ReceiptOf) → held_run b.held ≡ r → p ≡ p'
          → js ≡ journal ++ its_entry ∷ [] → rs ≡ p.receipts ++ receipt_of (length journal) its_entry ∷ [] → FitsCall call answer
          → IsStep r p' now call answer (record {
            fresh = fresh;
            users = us;
            journal = js;
            passes = length (set counts p.number counts_after);
          }) (record { number = p.number; receipts = rs; reserved = places })
      made_step r p' js rs run_is pass_is journal_is receipts_are answers =
          let places_left : places ≡ length (opens_under p.number (apply (state_of (held_run b.held)) its_entry).opens) =
          places_are ∙ places_after ∙ sym (ap (λ (s : RunState). length (opens_under p.number s.opens)) applied_here) in
          along (λ x y. IsStep r p' now call answer x y) _ run_after _ pass_after
          (λ i. record { fresh = fresh; users = us; journal = journal_is i; passes = length-set counts p.number counts_after i })
          (λ i. record { number = p.number; receipts = receipts_are i; reserved = places_left i })
          (along (λ x y. IsStep x y now call answer run_after pass_after) r (held_run b.held) p' p (sym run_is) (sym pass_is)
          (as_step answers))
