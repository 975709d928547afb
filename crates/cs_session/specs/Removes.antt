-- A remove, and the close of an open fid (remove(5), clunk(5)).
use Rattle.std.specs.Prelude.{ℕ, Bool, false, [], ◌∷◌, Option, Result, option_map}
use Rattle.std.specs.FinMap.{get}
use Rattle.cs_names.specs.declared.rule_id.RuleId.TheVariants.{S5}
use Rattle.cs_fids.specs.declared.entry.FidEntry.{FidEntry}
use Rattle.cs_fids.specs.Entries.{as_opened, number_of, pass_of, run_of, user_of}
use Rattle.cs_fids.specs.Tables.{FidMap}
use Rattle.cs_permit.specs.declared.call.Call.TheVariants as c
use Rattle.cs_permit.specs.Refusals.{first_failing}
use Rattle.cs_run.specs.declared.answer.Answer.{Answer}
use Rattle.cs_run.specs.declared.answer.Answer.TheVariants as a
use Rattle.cs_session.specs.declared.question.RunQuestion.{RunQuestion}
use Rattle.cs_session.specs.declared.reply.Reply.{Reply}
use Rattle.cs_session.specs.declared.reply.Reply.TheVariants as r
use Rattle.cs_session.specs.Decisions.{decide, opened_at, question_of, refusal}
use Rattle.cs_session.specs.Questions.{Question, CallOn}

-- ---- remove

-- its user is moved into the call
abbrev pub remove_run_question : ℕ → FidEntry → RunQuestion
remove_run_question now e = record {
  now = now;
  run = run_of e;
  pass = pass_of e;
  call =
      c.Remove (record {
        number = number_of e;
        user = user_of e;
        open_number = option_map (λ f. f.state.open_number) (as_opened e);
      });
}

abbrev pub remove_question : ℕ → FidMap → ℕ → Option Question
remove_question now fids fid =
    option_map (λ e. question_of (remove_run_question now e)) (get fids fid)

abbrev pub remove_reply : Answer → Reply
remove_reply a.Removed = r.Remove
remove_reply answer = refusal answer

-- ---- close

abbrev pub close_question : ℕ → FidMap → ℕ → Option Question
close_question now fids fid =
    option_map (λ f. CallOn now f.run f.pass
    (c.Close (record { open_number = f.state.open_number; user = f.user }))) (opened_at fids fid)

-- it takes no memory
abbrev pub close_decision : ℕ → Bool → FidMap → ℕ → Result Question Reply
close_decision now awaits fids fid =
    decide (first_failing ((S5, awaits) ∷ [])) false (close_question now fids fid)

abbrev pub close_reply : Answer → Reply
close_reply a.Closed = r.Clunk
close_reply answer = refusal answer
