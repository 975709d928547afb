-- A step on a run, under a pass that it gave.
use Rattle.std.proofs.Common.{◌≡◌, ◌≢◌, ◌∙◌, ℕ, ◌+◌, ◌<◌, Bool, true, false, not, ◌&&◌, List, [], ◌∷◌, ◌++◌, length, length-append}
use Rattle.std.proofs.Common.{length-set, Some, Ok, refl, sym, ap, subst, arith, inl, inr}
use Rattle.std.specs.Prelude.{is_some, nat_le, nat_lt, slice_get, slice_set}
use Rattle.std.proofs.lemmas.Bool.Decides.{nat_tests}
use Rattle.cs_names.specs.declared.limits.TheConstants.{RUN_ATTACHES}
use Rattle.cs_permit.specs.declared.call.AttachCall.{AttachCall}
use Rattle.cs_permit.specs.declared.call.Call.{Call}
use Rattle.cs_permit.specs.declared.call.Call.TheVariants as call
use Rattle.cs_run.specs.declared.answer.Answer.{Answer}
use Rattle.cs_journal.specs.Calls.{open_that_ends, is_full}
use Rattle.cs_journal.specs.Marks.{StepMark, refuses_entry}
use Rattle.cs_journal.specs.Runs.{Fits, PassOf, RunOf, fresh_pass, state_of, with_pass}
use Rattle.cs_journal.specs.Steps.{StepResult, step}
use Rattle.cs_world.specs.Marks.{RunMark, InRun}
use Rattle.cs_world.specs.Passes.{AreOf}
use Rattle.cs_world.specs.Runs.{attach_on, call_on, answer_and_run, run_step, with_pass_number}
use Rattle.cs_world.proofs.Placing.{get_pushed, get_set}

-- ---- what a step leaves of its run doesn't depend on the pass's receipts

module _ (r : RunOf) (p : PassOf) (now : ℕ) (c : Call) (mark : StepMark) where
  same_by : (full short : Bool) → is_full (state_of r) p.number c ≡ full
      → (refuses_entry mark && not (is_some (open_that_ends (state_of r).opens p.number c))) ≡ short
      → answer_and_run (step r p now c mark) ≡ run_step r now p.number c mark
  unfolding step
  same_by true short f e = rw f refl
  same_by false true f e = rw (f, e) refl
  same_by false false f e = rw (f, e) refl

  same_step : answer_and_run (step r p now c mark) ≡ run_step r now p.number c mark
  same_step = same_by _ _ refl refl

  keeps_by : (full short : Bool) → is_full (state_of r) p.number c ≡ full
      → (refuses_entry mark && not (is_some (open_that_ends (state_of r).opens p.number c))) ≡ short
      → ((step r p now c mark).run.passes ≡ r.passes) × ((step r p now c mark).pass.number ≡ p.number)
  unfolding step
  keeps_by true short f e = rw f (refl, refl)
  keeps_by false true f e = rw (f, e) (refl, refl)
  keeps_by false false f e = rw (f, e) (refl, refl)

  keeps : ((step r p now c mark).run.passes ≡ r.passes) × ((step r p now c mark).pass.number ≡ p.number)
  keeps = keeps_by _ _ refl refl

-- ---- a step was taken

abbrev pub Stepping : RunOf → PassOf → ℕ → Call → Answer → RunOf → PassOf → Type 0
Stepping r p now c answer r' p' = (mark : StepMark) × (◌≡◌ {A = StepResult} (record {
  answer = answer;
  run = r';
  pass = p';
}) (step r p now c mark))

module _ (r : RunOf) (p : PassOf) (now : ℕ) (c : Call) (answer : Answer) (r' : RunOf) (p' : PassOf)
    (t : Stepping r p now c answer r' p') where
  -- it is the definition's
  pub taken : ◌≡◌ {A = Answer × RunOf} (answer, r') (run_step r now p.number c t.0)
  taken = ap answer_and_run t.1 ∙ same_step r p now c t.0

  pub same_passes : r'.passes ≡ r.passes
  same_passes = ap (λ (s : StepResult). s.run.passes) t.1 ∙ (keeps r p now c t.0).0

  pub same_number : p'.number ≡ p.number
  same_number = ap (λ (s : StepResult). s.pass.number) t.1 ∙ (keeps r p now c t.0).1

-- ---- a call under a pass that the run gave

below_is : (n m : ℕ) → n < m → nat_lt n m ≡ true
below_is n m h = grind (arith, nat_tests)

module _ (r : RunOf) (ps : List PassOf) (all : AreOf r ps) (n : ℕ) (p : PassOf) (there : slice_get ps n ≡ Some p) (now : ℕ) (c : Call)
    (answer : Answer) (r' : RunOf) (p' : PassOf) (t : Stepping r p now c answer r' p') where
  pub asks : (mark : StepMark) × (◌≡◌ {A = Answer × RunOf} (answer, r') (call_on r now n c mark))
  asks =
      let number : p.number ≡ n = all.numbered n p there in
      let known : p.number < r.passes = (all.fit n p there).known in
      let inside : nat_lt n r.passes ≡ true = below_is n r.passes (omega arith) in
      (t.0, taken r p now c answer r' p' t ∙ rw inside (ap (λ k. run_step r now k c t.0) number))

  -- the passes still fit
  pub fitting : Fits r' p' → ((q : PassOf) → q.number ≢ p.number → Fits r q → Fits r' q) → AreOf r' (slice_set ps n p')
  fitting own others =
      let number : p.number ≡ n = all.numbered n p there in
      let same : p'.number ≡ p.number = same_number r p now c answer r' p' t in
      let passes : r'.passes ≡ r.passes = same_passes r p now c answer r' p' t in
      record {
        all = length-set ps n p' ∙ all.all ∙ sym passes;
        numbered =
            λ k q is. elim (get_set ps n k p' q is)
            [ inl here ↦ ap (λ (x : PassOf). x.number) here.1 ∙ same ∙ number ∙ sym here.0 | inr there ↦ all.numbered k q there.1 ];
        fit = λ k q is. elim (get_set ps n k p' q is) [
          | inl here ↦ subst (Fits r') (sym here.1) own
          | inr there ↦
              (let own_number : q.number ≡ k = all.numbered k q there.1 in
              others q (λ e. there.0 (sym own_number ∙ e ∙ number)) (all.fit k q there.1))
        ];
      }

-- ---- an attach

module _ (r : RunOf) (ps : List PassOf) (all : AreOf r ps) (r1 : RunOf) (p : PassOf) (new : r1 ≡ with_pass r)
    (made : p ≡ fresh_pass r.passes) (now : ℕ) (c : AttachCall) (answer : Answer) (r' : RunOf) (p' : PassOf)
    (t : Stepping r1 p now (call.Attach c) answer r' p') where
  pub attaches : length ps < RUN_ATTACHES → (number : ℕ) → number ≡ p.number → (mark : RunMark)
      × (◌≡◌ (Ok (number, answer), r') (attach_on r now c mark))
  attaches few number is =
      let count : length ps ≡ r.passes = all.all in
      let room : nat_le RUN_ATTACHES r.passes ≡ false = grind (arith, nat_tests) in
      let own : p.number ≡ r.passes = ap (λ (x : PassOf). x.number) made in
      let its : number ≡ r.passes = is ∙ own in
      let step : ◌≡◌ {A = Answer × RunOf} (answer, r') (run_step r1 now p.number (call.Attach c) t.0) =
      taken r1 p now (call.Attach c) answer r' p' t in
      (InRun t.0, rw (room, its) (ap (with_pass_number r.passes) (step ∙ (λ i. run_step (new i) now (own i) (call.Attach c) t.0))))

  -- the passes still fit
  pub fitting_more : Fits r' p' → ((q : PassOf) → Fits r q → Fits r1 q) → ((q : PassOf) → q.number ≢ p.number → Fits r1 q → Fits r' q)
      → AreOf r' (ps ++ p' ∷ [])
  fitting_more own kept others =
      let number : p.number ≡ r.passes = ap (λ (x : PassOf). x.number) made in
      let same : p'.number ≡ p.number = same_number r1 p now (call.Attach c) answer r' p' t in
      let passes : r'.passes ≡ r1.passes = same_passes r1 p now (call.Attach c) answer r' p' t in
      let more : r1.passes ≡ r.passes + 1 = ap (λ (x : RunOf). x.passes) new in
      let count : length ps ≡ r.passes = all.all in
      record {
        all = omega (arith, length-append ps (p' ∷ []));
        numbered =
            λ k q is. elim (get_pushed ps k p' q is) [
              | inl here ↦ ap (λ (x : PassOf). x.number) here.1 ∙ same ∙ number ∙ sym count ∙ sym here.0
              | inr there ↦ all.numbered k q
                  there.1
            ];
        fit = λ k q is. elim (get_pushed ps k p' q is) [
          | inl here ↦ subst (Fits r') (sym here.1) own
          | inr there ↦
              (let own_number : q.number ≡ k = all.numbered k q there.1 in
              others q (λ e. there.0 (sym own_number ∙ e ∙ number ∙ sym count)) (kept q (all.fit k q there.1)))
        ];
      }
