-- The opens of a run after a call.
use Rattle.std.proofs.Common.{◌≡◌, ◌≢◌, ◌∙◌, ℕ, zero, suc, ◌<◌, ◌≤◌, Bool, true, false, cond, List, [], ◌∷◌, ◌++◌, length, Option, None}
use Rattle.std.proofs.Common.{Some, IsSome, get_or, refl, sym, ap, subst, arith}
use Rattle.std.specs.List.{position, position_or_len}
use Rattle.std.specs.Option.{option_map_or}
use Rattle.std.specs.Prelude.{nat_lt, option_and_then, remove, slice_get}
use Rattle.std.proofs.lemmas.Bool.{eq-eqb}
use Rattle.std.proofs.lemmas.Bool.Decides.{nat_tests}
use Rattle.std.proofs.lemmas.List.Quantifiers.{position-Some}
use Rattle.std.proofs.lemmas.List.Sums.{fails_before_first}
use Rattle.std.proofs.lemmas.Option.{slice_get-get_or, slice_get_within, get_or_from_slice_get}
use Rattle.cs_journal.specs.Journals.{rules_view_of, fresh_state, turn_in}
use Rattle.cs_journal.specs.Runs.{RunOf, state_of}
use Rattle.cs_journal.proofs.Journals.{below-replay}
use Rattle.cs_permit.specs.Calls.{RulesView}
use Rattle.cs_permit.specs.declared.call.Call.{Call}
use Rattle.cs_permit.specs.declared.call.Call.TheVariants as call
use Rattle.cs_permit.specs.declared.call.OpenFile.{OpenFile}
use Rattle.cs_permit.specs.Shown.{stat_at}
use Rattle.cs_names.specs.declared.rule_id.RuleId.TheVariants.{H2}
use Rattle.cs_wire.specs.declared.message.Qid.{Qid}
use Rattle.cs_wire.specs.Fields.{Value}
use Rattle.cs_wire.specs.Messages.{stat_shape}
use Rattle.cs_run.proofs.OpenLaws.{as_left, one_more}
use Rattle.cs_run.specs.declared.answer.Answer.{Answer}
use Rattle.cs_run.specs.declared.answer.Answer.TheVariants as a
use Rattle.cs_run.specs.declared.answer.Outcome.{Outcome}
use Rattle.cs_run.specs.declared.answer.Outcome.TheVariants as o
use Rattle.cs_run.specs.declared.turn.Turn.{Turn}
use Rattle.cs_run.specs.Effects.{close_effect, create_effect, effect_of, open_effect, remove_effect, write_effect, wstat_effect}
use Rattle.cs_run.specs.Laws.{opens_one}
use Rattle.cs_run.specs.Opens.{AreBelow, is_open, open_numbered, opens_without_if}
use Rattle.cs_run.specs.Outcomes.{result_by_outcome, closed_open_number}
use Rattle.cs_world.specs.Ends.{CallComesTo, Full, ShortBefore, Denied, Short, Granted}
use Rattle.cs_world.proofs.Placing.{get_end, get_kept}

none : OpenFile
none = record { number = 0; file = 0; mode = 0; pass = 0 }

-- ---- an open at a place

module _ {A : Type 0} (P : A → Bool) (xs : List A) (k : ℕ) (x : A) (there : slice_get xs k ≡ Some x) where
  fails_by : (b : Bool) → nat_lt (position_or_len P xs) (length xs) ≡ b → cond {A = Option ℕ} b (Some (position_or_len P xs)) None ≡ None
      → P x ≡ false
  fails_by true e is = absurd (cc)
  fails_by false e is =
      let low : k < length xs = slice_get_within xs k x there in
      let first : length xs ≤ position_or_len P xs = grind (arith, nat_tests) in
      let fails : P (get_or xs k x) ≡ false = fails_before_first P xs k x (omega arith) in
      ap P (sym (get_or_from_slice_get xs k x x there)) ∙ fails

  -- what has no place is nowhere
  fails : position P xs ≡ None → P x ≡ false
  fails is = fails_by (nat_lt (position_or_len P xs) (length xs)) refl is

module _ (number pass : ℕ) where
  -- it is at some place
  pub record At (opens : List OpenFile) : Type 0 where
    pub place : ℕ
    pub open_file : OpenFile
    pub there : slice_get opens place ≡ Some open_file
    pub is : is_open number pass open_file ≡ true

  at_by : (opens : List OpenFile) (p : Option ℕ) → position (is_open number pass) opens ≡ p → IsSome (option_and_then (slice_get opens) p)
      → At opens
  at_by opens None e h = absurd (cc)
  at_by opens (Some i) e h =
      let found = position-Some (is_open number pass) opens i none e in
      record { place = i; open_file = get_or opens i none; there = slice_get-get_or opens i none found.0; is = found.1 }

  pub at : (opens : List OpenFile) → IsSome (open_numbered number pass opens) → At opens
  at opens h = at_by opens (position (is_open number pass) opens) refl h

  finds_by : (opens : List OpenFile) (p : Option ℕ) → position (is_open number pass) opens ≡ p → At opens
      → IsSome (option_and_then (slice_get opens) p)
  finds_by opens None e at =
      absurd (let fails : is_open number pass at.open_file ≡ false = fails (is_open number pass) opens at.place at.open_file at.there e in
      let is : is_open number pass at.open_file ≡ true = at.is in cc)
  finds_by opens (Some i) e at =
      let found = position-Some (is_open number pass) opens i none e in
      let there : slice_get opens i ≡ Some (get_or opens i none) = slice_get-get_or opens i none found.0 in
      rw there refl

  pub finds : (opens : List OpenFile) → At opens → IsSome (open_numbered number pass opens)
  finds opens at = finds_by opens (position (is_open number pass) opens) refl at

  -- so it is there if others come after it
  pub more : (opens others : List OpenFile) → IsSome (open_numbered number pass opens)
      → IsSome (open_numbered number pass (opens ++ others))
  more opens others h =
      let its = at opens h in
      finds (opens ++ others) (record {
        place = its.place;
        open_file = its.open_file;
        there = get_kept opens others its.place its.open_file its.there;
        is = its.is;
      })

-- ---- one open less

-- what is at another place stays
elsewhere : (opens : List OpenFile) (i j : ℕ) (o : OpenFile) → i ≢ j → slice_get opens i ≡ Some o → (k : ℕ)
    × (slice_get (remove opens j) k ≡ Some o)
elsewhere [] i j o other there = absurd (cc)
elsewhere (x ∷ opens) zero zero o other there = absurd (other refl)
elsewhere (x ∷ opens) zero (suc j) o other there = (zero, there)
elsewhere (x ∷ opens) (suc i) zero o other there = (i, there)
elsewhere (x ∷ opens) (suc i) (suc j) o other there = let rest = elsewhere opens i j o (λ e. other (ap suc e)) there in (suc rest.0, rest.1)

its_number : (number pass : ℕ) (o : OpenFile) → is_open number pass o ≡ true → o.number ≡ number
its_number number pass o is = grind (arith, nat_tests)

module _ (number pass : ℕ) (opens : List OpenFile) (h : IsSome (open_numbered number pass opens)) where
  without_by : (other own : ℕ) → other ≢ number → (p : Option ℕ) → position (is_open other own) opens ≡ p
      → IsSome (open_numbered number pass (option_map_or (remove opens) p opens))
  without_by other own differs None e = h
  without_by other own differs (Some j) e =
      let its = at number pass opens h in
      let found = position-Some (is_open other own) opens j none e in
      let ended : slice_get opens j ≡ Some (get_or opens j none) = slice_get-get_or opens j none found.0 in
      let ended_number : (get_or opens j none).number ≡ other = its_number other own (get_or opens j none) found.1 in
      let own_number : its.open_file.number ≡ number = its_number number pass its.open_file its.is in
      let apart : its.place ≢ j = λ same.
      let one : Some its.open_file ≡ Some (get_or opens j none) = sym its.there ∙ ap (slice_get opens) same ∙ ended in
      let alike : its.open_file ≡ get_or opens j none = cc in
      differs (sym ended_number ∙ ap (λ (o : OpenFile). o.number) (sym alike) ∙ own_number) in
      let left = elsewhere opens its.place j its.open_file apart its.there in
      finds number pass (remove opens j) (record { place = left.0; open_file = its.open_file; there = left.1; is = its.is })

  -- it is there if another one is ended
  without : (closed : Option ℕ) (own : ℕ) → (closed ≡ Some number → ⊥)
      → IsSome (open_numbered number pass (opens_without_if closed own opens))
  without None own differs = h
  without (Some other) own differs = without_by other own (λ same. differs (ap Some same)) (position (is_open other own) opens) refl

-- ---- after a call

module _ (s : RulesView) (w : Turn) (asked : Call) (number pass : ℕ) (differs : closed_open_number asked ≡ Some number → ⊥)
    (h : IsSome (open_numbered number pass s.opens)) where
  granted_by : (b : Bool) → opens_one asked ≡ b → IsSome (open_numbered number pass (effect_of s w asked).opens)
  granted_by true one = let made = one_more s w asked one in rw made.more (more number pass s.opens (made.one ∷ []) h)
  granted_by false none = rw (as_left s w asked none) (without number pass s.opens h (closed_open_number asked) w.pass differs)

  applied_stands : (outcome : Outcome) → IsSome (open_numbered number pass (result_by_outcome s w asked outcome).opens)
  applied_stands o.Granted = granted_by (opens_one asked) refl
  applied_stands (o.Denied rule) = without number pass s.opens h (closed_open_number asked) w.pass differs
  applied_stands o.Short = without number pass s.opens h (closed_open_number asked) w.pass differs

module _ (run : RunOf) (now own : ℕ) (asked : Call) (answer : Answer) (run' : RunOf) where
  -- an open that the call doesn't end is still there
  pub stays : CallComesTo run now own asked answer run' → (number pass : ℕ) → (closed_open_number asked ≡ Some number → ⊥)
      → IsSome (open_numbered number pass (state_of run).opens) → IsSome (open_numbered number pass (state_of run').opens)
  stays (Full f is same) number pass differs h = subst (λ r. IsSome (open_numbered number pass (state_of r).opens)) (sym same) h
  stays (ShortBefore f none is same) number pass differs h = subst (λ r. IsSome (open_numbered number pass (state_of r).opens)) (sym same) h
  stays (Denied rule f fails m) number pass differs h =
      rw m.state
      (applied_stands (rules_view_of (state_of run)) (turn_in (state_of run) own now) asked number pass differs h (o.Denied rule))
  stays (Short f fails takes m) number pass differs h =
      rw m.state (applied_stands (rules_view_of (state_of run)) (turn_in (state_of run) own now) asked number pass differs h o.Short)
  stays (Granted f fails m) number pass differs h =
      rw m.state (applied_stands (rules_view_of (state_of run)) (turn_in (state_of run) own now) asked number pass differs h o.Granted)

-- ---- a new open

nothing_below : AreBelow 0 []
nothing_below i d inside = absurd (omega arith)

-- the numbers of opens are below the number of entries
pub below : (run : RunOf) (number pass : ℕ) → IsSome (open_numbered number pass (state_of run).opens) → number < (state_of run).entries
below run number pass h =
    let its = at number pass (state_of run).opens h in
    let all = below-replay (fresh_state run.fresh run.users) run.journal nothing_below in
    let low : its.place < length (state_of run).opens = slice_get_within (state_of run).opens its.place its.open_file its.there in
    let less : (get_or (state_of run).opens its.place none).number < (state_of run).entries = all its.place none low in
    let same : get_or (state_of run).opens its.place none ≡ its.open_file =
    get_or_from_slice_get (state_of run).opens its.place its.open_file none its.there in
    let number_is : its.open_file.number ≡ number = its_number number pass its.open_file its.is in
    omega (arith, less, ap (λ (o : OpenFile). o.number) same, number_is)

stat_tells : (o : Option (Value stat_shape)) (qid : Qid) (n number : ℕ) → option_map_or a.Stat o (a.Denied H2) ≡ a.Opened qid n number → ⊥
stat_tells None qid n number e = cc
stat_tells (Some stat) qid n number e = cc

-- only the answers to an open and a create name an open, and its number is the place of the call
opened_by : (s : RulesView) (w : Turn) (asked : Call) (qid : Qid) (n number : ℕ) → (effect_of s w asked).answer ≡ a.Opened qid n number
    → (opens_one asked ≡ true) × (n ≡ w.place)
unfolding open_effect create_effect write_effect close_effect remove_effect wstat_effect
opened_by s w (call.Open c) qid n number e = (refl, cc)
opened_by s w (call.Create c) qid n number e = (refl, cc)
opened_by s w (call.Attach c) qid n number e = absurd (cc)
opened_by s w (call.Walk c) qid n number e = absurd (cc)
opened_by s w (call.Read c) qid n number e = absurd (cc)
opened_by s w (call.Write c) qid n number e = absurd (cc)
opened_by s w (call.Close c) qid n number e = absurd (cc)
opened_by s w (call.Remove c) qid n number e = absurd (cc)
opened_by s w (call.Stat c) qid n number e = absurd (stat_tells (stat_at s.tree c.number) qid n number e)
opened_by s w (call.Wstat c) qid n number e = absurd (cc)

is_its : (o : OpenFile) (number pass : ℕ) → o.number ≡ number → o.pass ≡ pass → is_open number pass o ≡ true
is_its o number pass n p = rw (eq-eqb o.number number n, eq-eqb o.pass pass p) refl

module _ (run : RunOf) (now own : ℕ) (asked : Call) (answer : Answer) (run' : RunOf) (qid : Qid) (n number : ℕ)
    (told : answer ≡ a.Opened qid n number) where
  -- the open that an answer names is new, and is there
  pub opens : CallComesTo run now own asked answer run' → (n ≡ (state_of run).entries) × IsSome (open_numbered n own (state_of run').opens)
  opens (Full f is same) = absurd (cc)
  opens (ShortBefore f none is same) = absurd (cc)
  opens (Denied rule f fails m) = absurd (let is = m.answer_is in cc)
  opens (Short f fails takes m) = absurd (let is = m.answer_is in cc)
  opens (Granted f fails m) =
      let s : RulesView = rules_view_of (state_of run) in
      let w : Turn = turn_in (state_of run) own now in
      let its = opened_by s w asked qid n number (sym m.answer_is ∙ told) in
      let made = one_more s w asked its.0 in
      let there : slice_get (s.opens ++ made.one ∷ []) (length s.opens) ≡ Some made.one = get_end s.opens made.one in (
        its.1,
        rw (m.state, made.more) (finds n own (s.opens ++ made.one ∷ []) (record {
          place = length s.opens;
          open_file = made.one;
          there = there;
          is = is_its made.one n own (made.number ∙ sym its.1) made.pass;
        })),
      )
