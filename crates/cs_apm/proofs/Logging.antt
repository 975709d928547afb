-- What forces the log of a file system with a journal.
use Rattle.std.proofs.Common.{◌≡◌, ℕ, ◌+◌, ◌-◌, ◌<◌, ◌≤◌, ◌&&◌, ◌||◌, Bool, true, false, cond, List, [], ◌∷◌, ◌++◌, suc, Option, Some}
use Rattle.std.proofs.Common.{length, get_or, drop, min, refl, sym, ap, ◌∙◌, subst, ⊎_elim, arith, append_assoc}
use Rattle.std.proofs.lemmas.Bool.{cases_eq, cases_lt}
use Rattle.std.proofs.lemmas.List.{get_or_append_left, get_or_at, get_or_past, length_push}
use Rattle.std.proofs.lemmas.Option.{get_or_from_slice_get, slice_get-get_or, slice_get_within}
use Rattle.std.proofs.Math.Seq.{drop-cons}
use Rattle.std.specs.List.{list_any}
use Rattle.std.specs.Prelude.{slice_get}
use Rattle.cs_trace_lines.specs.declared.profile.Profile.{Profile}
use Rattle.cs_trace_lines.specs.declared.profile.Profile.TheVariants.{Blocks, Ordered, Journal}
use Rattle.cs_trace.specs.declared.operation.Covers.{Covers}
use Rattle.cs_trace.specs.declared.operation.Covers.TheVariants as covers
use Rattle.cs_micro.specs.declared.micro_op.MicroOp.{MicroOp}
use Rattle.cs_micro.specs.declared.micro_op.MicroOp.TheVariants.{Say}
use Rattle.cs_micro.specs.declared.sync_point.SyncPoint.{SyncPoint}
use Rattle.cs_apm.specs.Finding.{AreLogged, is_by, logged_at}
use Rattle.cs_apm.specs.Laws.Lists.{any_between, none_between}
use Rattle.cs_apm.specs.Rules.{forces_log, has_to_log, is_entry_operation, is_forced_between, is_journaled, is_of_all, log_forced_at, op_at}
use Rattle.cs_apm.specs.Rules.{places_from}

-- ---- one sync point

or_true : (b : Bool) → (b || true) ≡ true
or_true true = refl
or_true false = refl

say_logs_nothing : (c : Covers) → is_of_all c ≡ false → has_to_log c Say ≡ false
say_logs_nothing covers.All not_all = not_all
say_logs_nothing (covers.File file) not_all = refl
say_logs_nothing (covers.Data file) not_all = refl
say_logs_nothing (covers.Range file offset count) not_all = refl
say_logs_nothing (covers.Directory d path) not_all = refl

pub forces_all : (ops : List MicroOp) (from : ℕ) (s : SyncPoint) → is_of_all s.covers ≡ true → forces_log ops from s ≡ true
forces_all ops from s is = ap (λ b. b || list_any (λ k. has_to_log s.covers (op_at ops k)) (places_from from s.at)) is

pub forces_found : (ops : List MicroOp) (from : ℕ) (s : SyncPoint) (k : ℕ) → from ≤ k → k < s.at
    → has_to_log s.covers (op_at ops k) ≡ true → forces_log ops from s ≡ true
forces_found ops from s k low high is =
    ap (λ b. is_of_all s.covers || b)
    (any_between (λ k. has_to_log s.covers (op_at ops k)) from (s.at - from) k low (omega (arith, low, high)) is)
    ∙ or_true (is_of_all s.covers)

-- none below one place more
pub logs_none : (ops : List MicroOp) (from : ℕ) (s : SyncPoint) (n : ℕ)
    → ((k : ℕ) → from ≤ k → k < n → has_to_log s.covers (op_at ops k) ≡ false)
    → has_to_log s.covers (op_at ops n) ≡ false
    → (k : ℕ) → from ≤ k → k < n + 1 → has_to_log s.covers (op_at ops k) ≡ false
logs_none ops from s n none here k low below = ⊎_elim
    (λ (before : k < n). none k low before)
    (λ (after : n ≤ k).
    (let same : k ≡ n = omega (arith, below, after) in ap (λ i. has_to_log s.covers (op_at ops i)) same ∙ here))
    (cases_lt k n)

-- behind the last operation there is nothing to log
pub forces_not : (ops : List MicroOp) (from : ℕ) (s : SyncPoint) → is_of_all s.covers ≡ false
    → ((k : ℕ) → from ≤ k → k < min s.at (length ops) → has_to_log s.covers (op_at ops k) ≡ false) → forces_log ops from s ≡ false
forces_not ops from s not_all none =
    ap (λ b. b || list_any (λ k. has_to_log s.covers (op_at ops k)) (places_from from s.at)) not_all
    ∙ none_between (λ k. has_to_log s.covers (op_at ops k)) from (s.at - from) (λ k low high. ⊎_elim
    (λ (inside : k < length ops). none k low (omega (arith, low, high, inside)))
    (λ (past : length ops ≤ k). ap (has_to_log s.covers) (get_or_past ops k Say past) ∙ say_logs_nothing s.covers not_all)
    (cases_lt k (length ops)))

-- ---- all of them

-- those so far, and those of the rest
abbrev pub IsForcedSoFar : List MicroOp → List SyncPoint → List ℕ → ℕ → ℕ → Type 0
IsForcedSoFar ops syncs forced from i = forced ++ log_forced_at ops from (drop i syncs) ≡ log_forced_at ops 0 syncs

-- one sync point more
pub forced_more : (ops : List MicroOp) (syncs : List SyncPoint) (forced more : List ℕ) (from i : ℕ) (s : SyncPoint) → i < length syncs
    → s ≡ get_or syncs i s → IsForcedSoFar ops syncs forced from i
    → more ≡ forced ++ cond (forces_log ops from s) (s.at ∷ []) []
    → IsForcedSoFar ops syncs more s.at (i + 1)
forced_more ops syncs forced more from i s low is so_far one =
    let next : i + 1 ≡ suc i = omega arith in
    ap (λ v. v ++ log_forced_at ops s.at (drop (i + 1) syncs)) one
    ∙ append_assoc forced (cond (forces_log ops from s) (s.at ∷ []) []) (log_forced_at ops s.at (drop (i + 1) syncs))
    ∙ ap (λ k. forced ++ log_forced_at ops from (s ∷ drop k syncs)) next
    ∙ ap (λ x. forced ++ log_forced_at ops from (x ∷ drop (suc i) syncs)) is
    ∙ ap (λ v. forced ++ log_forced_at ops from v) (sym (drop-cons syncs i s low))
    ∙ so_far

-- ---- the first behind each

and_false : (b : Bool) → (b && false) ≡ false
and_false true = refl
and_false false = refl

journaled_by : (profile : Profile) (ops : List MicroOp) (syncs : List SyncPoint) (i j : ℕ)
    → (is_entry_operation (op_at ops i) && is_forced_between (logged_at profile ops syncs) i j) ≡ is_journaled profile ops syncs i j
journaled_by Blocks ops syncs i j = and_false (is_entry_operation (op_at ops i))
journaled_by Ordered ops syncs i j = and_false (is_entry_operation (op_at ops i))
journaled_by Journal ops syncs i j = refl

-- one operation more
pub logged_more : (ops : List MicroOp) (syncs : List SyncPoint) (profile : Profile) (forced : List ℕ) (n : ℕ) (found : List (Option ℕ))
    (op : MicroOp) (first : Option ℕ) → forced ≡ logged_at profile ops syncs → op ≡ op_at ops n
    → ((j : ℕ) → is_by first j ≡ (is_entry_operation op && is_forced_between forced n j))
    → AreLogged ops syncs profile n found → AreLogged ops syncs profile (n + 1) (found ++ first ∷ [])
logged_more ops syncs profile forced n found op first are op_is is so_far = record {
  long = length_push found first ∙ ap (λ m. m + 1) so_far.long;
  each = λ i f there.
      let inside = slice_get_within (found ++ first ∷ []) i f there in
      let got = get_or_from_slice_get (found ++ first ∷ []) i f f there in
      let more = length_push found first in
      let long = so_far.long in
      ⊎_elim
      (λ (e : i ≡ n). subst (λ (x : Option ℕ). (j : ℕ) → is_by x j ≡ is_journaled profile ops syncs i j)
      (sym (get_or_at found first [] f i (so_far.long ∙ sym e)) ∙ got)
      (λ j. is j ∙ (λ w. is_entry_operation (op_is w) && is_forced_between (are w) n j) ∙ journaled_by profile ops syncs n j
      ∙ ap (λ k. is_journaled profile ops syncs k j) (sym e)))
      (λ (e : i ≡ n → ⊥).
      let low : i < length found = omega (arith, inside, more, long, e) in
      so_far.each i f (slice_get-get_or found i f low ∙ ap Some (sym (get_or_append_left found (first ∷ []) f i low) ∙ got)))
      (cases_eq i n);
}
