-- One shape for every step: the rules in their order, then the memory that the connection itself
-- takes, then the question.
use Rattle.std.specs.Prelude.{◌≡◌, ℕ, Bool, true, false, List, ◌∷◌, Option, None, Some, is_none}
use Rattle.std.specs.Prelude.{option_and_then, Result, Ok, Err}
use Rattle.std.specs.FinMap.{get}
use Rattle.cs_names.specs.declared.rule_id.RuleId.{RuleId}
use Rattle.cs_names.specs.declared.rule_id.RuleId.TheVariants.{S1, S5}
use Rattle.cs_fids.specs.Entries.{as_opened, as_walked}
use Rattle.cs_fids.specs.FidOf.{FidOf}
use Rattle.cs_fids.specs.Tables.{FidMap}
use Rattle.cs_fids.specs.declared.fid.Walked.{Walked}
use Rattle.cs_fids.specs.declared.fid.Opened.{Opened}
use Rattle.cs_permit.specs.Refusals.{Check, first_failing}
use Rattle.cs_run.specs.declared.answer.Answer.{Answer}
use Rattle.cs_run.specs.declared.answer.Answer.TheVariants as a
use Rattle.cs_session.specs.declared.reply.Reply.{Reply}
use Rattle.cs_session.specs.declared.reply.Reply.TheVariants as r
use Rattle.cs_session.specs.declared.question.RunQuestion.{RunQuestion}
use Rattle.cs_session.specs.Questions.{Question, CallOn}

-- what a connection checks before it looks at its fids: that no run awaits its attach, and that a
-- session has begun
abbrev pub after_session : Bool → Option ℕ → List Check → List Check
after_session awaits msize rules = (S5, awaits) ∷ (S1, is_none msize) ∷ rules

-- the error of the first rule that fails; then out of memory; then the question, and S5 if there
-- is none to ask
abbrev pub decide : Option RuleId → Bool → Option Question → Result Question Reply
decide (Some rule) refused q = Err (r.Error rule)
decide None true q = Err r.Memory
decide None false None = Err (r.Error S5)
decide None false (Some q) = Ok q

-- the decision on a request on the fids: no run may await its attach, and a session must have begun
abbrev pub request_decision : Bool → Option ℕ → List Check → Bool → Option Question
    → Result Question Reply
request_decision awaits msize rules refused q =
    decide (first_failing (after_session awaits msize rules)) refused q

-- what a function that decides may return: a question only if no memory was refused
abbrev pub Decides : {A : Type 0} → (A → Question) → (Bool → Result Question Reply) → Result A Reply
    → Type 0
Decides ask by (Ok x) = by false ≡ Ok (ask x)
Decides ask by (Err reply) = (refused : Bool) × (by refused ≡ Err reply)

-- what a run is asked
abbrev pub question_of : RunQuestion → Question
question_of x = CallOn x.now x.run x.pass x.call

-- the fid of that number that isn't open, and the one that is
abbrev pub walked_at : FidMap → ℕ → Option (FidOf Walked)
walked_at fids fid = option_and_then as_walked (get fids fid)

abbrev pub opened_at : FidMap → ℕ → Option (FidOf Opened)
opened_at fids fid = option_and_then as_opened (get fids fid)

-- the reply to a denial, else out of memory; no run gives another kind of answer instead
abbrev pub refusal : Answer → Reply
refusal (a.Denied rule) = r.Error rule
refusal answer = r.Memory
