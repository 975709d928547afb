-- Without the marks that no reply reports, steps lead to the same.
use Rattle.std.proofs.Common.{◌≡◌, ◌∙◌, Bool, true, false, cond, List, [], ◌∷◌, map, refl, sym, ap, subst}
use Rattle.cs_world.specs.declared.reply.Reply.{Reply}
use Rattle.cs_world.specs.declared.step.Step.{Step}
use Rattle.cs_world.specs.Ample.{nothing_refused, says_out_of_memory}
use Rattle.cs_world.specs.Isolation.{RefusesOnlyWhereTold}
use Rattle.cs_world.specs.Lists.{IsStepList, reply_before, steps_of}
use Rattle.cs_world.specs.Marks.{WorldMark}
use Rattle.cs_world.specs.Steps.{step_of}
use Rattle.cs_world.specs.Worlds.{World}
use Rattle.cs_world.proofs.AmpleSteps.{same_ample}

abbrev told_of : World → Step → WorldMark → Bool
told_of w x mark = says_out_of_memory (step_of w x mark).0

-- a mark that the reply reports, else none
abbrev pub told_mark : World → Step × WorldMark → WorldMark
told_mark w x = cond (told_of w x.0 x.1) x.1 nothing_refused

abbrev remarked : World → List (Step × WorldMark) → List (Step × WorldMark)
remarked w [] = []
remarked w (x ∷ xs) = (x.0, told_mark w x) ∷ remarked (step_of w x.0 x.1).1 xs

module _ (w : World) (x : Step) (mark : WorldMark) where
  same_by : (b : Bool) → told_of w x mark ≡ b → step_of w x (cond b mark nothing_refused) ≡ step_of w x mark
  same_by true is = refl
  same_by false is = sym (same_ample w x mark is)

  told_by : (b : Bool) → told_of w x mark ≡ b → told_of w x (cond b mark nothing_refused) ≡ false
      → cond b mark nothing_refused ≡ nothing_refused
  told_by true is told = absurd (let e : told_of w x mark ≡ false = told in cc)
  told_by false is told = refl

  pub same_step : step_of w x (told_mark w (x, mark)) ≡ step_of w x mark
  same_step = same_by (told_of w x mark) refl

  pub only_told : told_of w x (told_mark w (x, mark)) ≡ false → told_mark w (x, mark) ≡ nothing_refused
  only_told told = told_by (told_of w x mark) refl told

steps_are : (w : World) (xs : List (Step × WorldMark))
    → map (λ (x : Step × WorldMark). x.0) (remarked w xs) ≡ map (λ (x : Step × WorldMark). x.0) xs
steps_are w [] = refl
steps_are w (x ∷ xs) = ap (λ (ys : List Step). x.0 ∷ ys) (steps_are (step_of w x.0 x.1).1 xs)

same_steps : (w : World) (xs : List (Step × WorldMark)) → steps_of w (remarked w xs) ≡ steps_of w xs
same_steps w [] = refl
same_steps w (x ∷ xs) =
    let next : World = (step_of w x.0 x.1).1 in
    ap (λ (y : Reply × World). reply_before y.0 (steps_of y.1 (remarked next xs))) (same_step w x.0 x.1) ∙ ap
    (reply_before (step_of w x.0 x.1).0) (same_steps next xs)

all_told : (w : World) (xs : List (Step × WorldMark)) → RefusesOnlyWhereTold w (remarked w xs)
all_told w [] = tt
all_told w (x ∷ xs) =
    let next : World = (step_of w x.0 x.1).1 in (
      only_told w x.0 x.1,
      subst (λ (y : Reply × World). RefusesOnlyWhereTold y.1 (remarked next xs)) (sym (same_step w x.0 x.1))
          (all_told next xs),
    )

-- a list of steps is one whose marks are all reported
pub run_told : (w : World) (steps : List Step) (replies : List Reply) (w' : World) → IsStepList w steps replies w'
    → (run : IsStepList w steps replies w') × RefusesOnlyWhereTold w run.marked
run_told w steps replies w' run = (
  record {
    marked = remarked w run.marked;
    steps_are = steps_are w run.marked ∙ run.steps_are;
    leads = run.leads ∙ sym (same_steps w run.marked);
  },
  all_told w run.marked,
)
