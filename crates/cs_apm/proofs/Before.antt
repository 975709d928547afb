-- A file before any operation.
use Rattle.std.proofs.Common.{◌≡◌, ℕ, zero, suc, ◌+◌, ◌-◌, ◌<◌, ◌≤◌, Bool, true, false, List, [], ◌∷◌, ◌++◌, length, get_or, sym, ap, ◌∙◌}
use Rattle.std.proofs.Common.{subst, ⊎_elim, arith, length-append, map}
use Rattle.std.proofs.lemmas.Bool.{cases_lt, cases_Bool, false≢true}
use Rattle.std.proofs.lemmas.List.{get_or_append_left, get_or-map, get_or_past, length-map}
use Rattle.std.proofs.lemmas.List.Folds.{list_any_at}
use Rattle.std.proofs.lemmas.Option.{slice_get-get_or}
use Rattle.std.specs.List.{list_any}
use Rattle.cs_tree_model.specs.declared.record.Record.{Record}
use Rattle.cs_tree_model.specs.Tree.{Path}
use Rattle.cs_trace.specs.Traces.{Trace}
use Rattle.cs_micro.specs.declared.micro_op.MicroOp.{MicroOp}
use Rattle.cs_micro.specs.declared.micro_op.MicroOp.TheVariants.{Say}
use Rattle.cs_apm.specs.Atlases.{AreChanged, AreStarts, content_before, files_left}
use Rattle.cs_apm.specs.States.{no_record}
use Rattle.cs_apm.specs.Contents.{changes_file, content_left}
use Rattle.cs_apm.specs.Rules.{op_at}
use Rattle.cs_apm.specs.States.{Content, bytes_of, content_at, content_of, files_made, no_content, owner_at, owners_made, owners_of}
use Rattle.cs_apm.specs.States.{start_state, state_of, with_created}
use Rattle.cs_apm.proofs.Contents.{content_idle, file_left}
use Rattle.cs_apm.proofs.FilesMade.{length-files_made}

behind : {Y : Type 0} (d : Y) (xs ys : List Y) (n : ℕ) → length xs ≤ n → get_or (xs ++ ys) n d ≡ get_or ys (n - length xs) d
behind d [] ys n high = (let same : n ≡ n - 0 = omega arith in ap (λ k. get_or ys k d) same)
behind d (x ∷ xs) ys zero high = absurd (omega (arith, high))
behind d (x ∷ xs) ys (suc n) high =
    let same : n - length xs ≡ suc n - length (x ∷ xs) = omega (arith, high) in
    behind d xs ys n (omega (arith, high)) ∙ ap (λ k. get_or ys k d) same

module _ (t : Trace) (ops : List MicroOp) (starts : List ℕ) (are : AreStarts t starts) (n : ℕ) where
  pub made_before : (content : Content) → length starts ≤ n → content ≡ get_or (files_made ops) (n - length starts) no_content
      → content ≡ content_before t ops n
  made_before content high is =
      is ∙ ap (λ k. get_or (files_made ops) (n - k) no_content) (are.long ∙ sym (length-map t.files (content_at t.records)))
      ∙ sym (behind no_content (map (content_at t.records) t.files) (files_made ops) n
      (let long = are.long in let same = length-map t.files (content_at t.records) in omega (arith, high, long, same)))

  pub start_before : (e : Path × Record) (items : List ℕ) (content : Content) → n < length starts
      → e ≡ get_or t.records (get_or starts n 0) no_record → items ≡ bytes_of e.1
      → content ≡ record { size = length items; bytes = items } → content ≡ content_before t ops n
  start_before e items content low read same is =
      let inside : n < length t.files = (let long = are.long in omega (arith, low, long)) in
      is ∙ ap (λ (v : List ℕ). let c : Content = record { size = length v; bytes = v } in c) same
      ∙ ap (λ (w : Path × Record). content_of w.1) read
      ∙ are.content n low
      ∙ sym (get_or-map (content_at t.records) t.files n [] no_content inside)
      ∙ sym (get_or_append_left (map (content_at t.records) t.files) (files_made ops) no_content n
      (let same_length = length-map t.files (content_at t.records) in omega (arith, inside, same_length)))

none_changed : (n : ℕ) (ops : List MicroOp) (k : ℕ) → list_any (changes_file n) ops ≡ false → changes_file n (op_at ops k) ≡ false
none_changed n ops k none = ⊎_elim
    (λ (low : k < length ops). ⊎_elim
    (λ (yes : changes_file n (op_at ops k) ≡ true). absurd (false≢true (sym none ∙ list_any_at (changes_file n) ops k Say low yes)))
    (λ (no_change : changes_file n (op_at ops k) ≡ false). no_change)
    (cases_Bool (changes_file n (op_at ops k))))
    (λ (high : length ops ≤ k). ap (changes_file n) (get_or_past ops k Say high))
    (cases_lt k (length ops))

-- a file whose flag isn't set stays
pub unflagged : (n count : ℕ) (ops : List MicroOp) (changed : List Bool) (flag : Bool) (f : Content) (places : List ℕ)
    → AreChanged ops count changed → n < length changed → flag ≡ get_or changed n false
    → flag ≡ false → f ≡ content_left n f ops places
unflagged n count ops changed flag f places are low read is =
    let said = are.each n (get_or changed n false) (slice_get-get_or changed n false low) in
    sym (content_idle n f ops (λ k. none_changed n ops k (sym said ∙ sym read ∙ is)) places)

-- ---- what a set leaves of each file

module _ (t : Trace) (ops : List MicroOp) (places : List ℕ) where
  as_many : length (map (content_at t.records) t.files ++ files_made ops) ≡ length (owners_of t ops)
  as_many =
      length-append (map (content_at t.records) t.files) (files_made ops)
      ∙ (λ w. length-map t.files (content_at t.records) w + length-files_made ops w)
      ∙ sym (length-append (map (owner_at t.records) t.files) (owners_made ops) ∙ ap (λ k. k + length (owners_made ops))
      (length-map t.files (owner_at t.records)))

  pub left_file : (n : ℕ) → n < length (owners_of t ops)
      → content_left n (content_before t ops n) ops places ≡ get_or (files_left t ops places) n no_content
  unfolding files_left state_of
  left_file n low = sym (file_left (with_created (start_state t) ops) ops places n (subst (λ k. n < k) (sym as_many) low))
