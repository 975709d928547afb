-- What a set leaves of a file, member by member, and of all files by their numbers.
use Rattle.std.proofs.Common.{◌≡◌, ◌≢◌, ℕ, ◌+◌, ◌<◌, ◌==◌, true, false, cond, List, [], ◌∷◌, length, take, get_or, refl, sym, ap, ◌∙◌}
use Rattle.std.proofs.Common.{subst, ⊎_elim, map}
use Rattle.std.proofs.lemmas.Bool.{cases_eq, eq-eqb, ne_eqb}
use Rattle.std.proofs.lemmas.List.{length-set, get_or-set_same, get_or-set_other, map_more}
use Rattle.std.proofs.lemmas.List.Sums.{fold_push}
use Rattle.std.specs.Prelude.{fold}
use Rattle.cs_micro.specs.declared.micro_op.MicroOp.{MicroOp}
use Rattle.cs_micro.specs.declared.micro_op.MicroOp.TheVariants.{CreateDirEntry, DeleteDirEntry, MoveDirEntry, LinkDirEntry, ChangeFileSize}
use Rattle.cs_micro.specs.declared.micro_op.MicroOp.TheVariants.{WriteBlock, SetAttr, Say}
use Rattle.cs_apm.specs.Contents.{content_after_op, changes_file, content_after, content_left}
use Rattle.cs_apm.specs.Rules.{op_at}
use Rattle.cs_apm.specs.States.{Content, State, state_after, files_after, no_content, with_file}

module _ (n : ℕ) (f : Content) (ops : List MicroOp) (places : List ℕ) where
  pub content_none : f ≡ content_left n f ops (take 0 places)
  unfolding content_left
  content_none = refl

  pub content_more : (k : ℕ) → k < length places
      → content_left n f ops (take (k + 1) places) ≡ content_after n (content_left n f ops (take k places)) (op_at ops (get_or places k 0))
  unfolding content_left
  content_more k low =
      ap (fold (content_after n) f) (map_more (op_at ops) places k 0 low) ∙ fold_push (content_after n) f (map (op_at ops) (take k places))
      (op_at ops (get_or places k 0))

  pub content_changed : (k : ℕ) (now before : Content) (o : MicroOp) → k < length places → o ≡ op_at ops (get_or places k 0)
      → changes_file n o ≡ true → now ≡ content_after_op before o
      → before ≡ content_left n f ops (take k places) → now ≡ content_left n f ops (take (k + 1) places)
  content_changed k now before o low at is step so_far =
      step ∙ sym (ap (λ b. cond b (content_after_op before o) before) is) ∙ (λ w. content_after n (so_far w) (at w)) ∙ sym
      (content_more k low)

  pub content_kept : (k : ℕ) (before : Content) (o : MicroOp) → k < length places → o ≡ op_at ops (get_or places k 0)
      → changes_file n o ≡ false
      → before ≡ content_left n f ops (take k places) → before ≡ content_left n f ops (take (k + 1) places)
  content_kept k before o low at is so_far =
      sym (ap (λ b. cond b (content_after_op before o) before) is) ∙ (λ w. content_after n (so_far w) (at w)) ∙ sym (content_more k low)

-- ---- all files

with_file_at : (files : List Content) (file n : ℕ) (g : Content → Content) → n < length files
    → get_or (with_file file g files) n no_content ≡ cond (file == n) (g (get_or files n no_content)) (get_or files n no_content)
with_file_at files file n g low = ⊎_elim
    (λ (e : file ≡ n). subst
    (λ v. get_or (with_file v g files) n no_content ≡ cond (v == n) (g (get_or files n no_content)) (get_or files n no_content)) (sym e)
    (get_or-set_same files n (g (get_or files n no_content)) no_content low ∙ sym
    (ap (λ b. cond b (g (get_or files n no_content)) (get_or files n no_content)) (eq-eqb n n refl))))
    (λ (e : file ≢ n). get_or-set_other files file n (g (get_or files file no_content)) no_content (λ s. e (sym s)) ∙ sym
    (ap (λ b. cond b (g (get_or files n no_content)) (get_or files n no_content)) (ne_eqb file n e)))
    (cases_eq file n)

length_files : (files : List Content) (o : MicroOp) → length (files_after files o) ≡ length files
length_files files (ChangeFileSize file size) = length-set files file _
length_files files (WriteBlock file block start at bytes) = length-set files file _
length_files files (CreateDirEntry e node rights bytes) = refl
length_files files (DeleteDirEntry e node) = refl
length_files files (MoveDirEntry a b node old) = refl
length_files files (LinkDirEntry e kind file old half) = refl
length_files files (SetAttr target rights) = refl
length_files files Say = refl

one_file : (files : List Content) (n : ℕ) (o : MicroOp) → n < length files
    → get_or (files_after files o) n no_content ≡ content_after n (get_or files n no_content) o
one_file files n (ChangeFileSize file size) low = with_file_at files file n (λ f. content_after_op f (ChangeFileSize file size)) low
one_file files n (WriteBlock file block start at bytes) low =
    with_file_at files file n (λ f. content_after_op f (WriteBlock file block start at bytes)) low
one_file files n (CreateDirEntry e node rights bytes) low = refl
one_file files n (DeleteDirEntry e node) low = refl
one_file files n (MoveDirEntry a b node old) low = refl
one_file files n (LinkDirEntry e kind file old half) low = refl
one_file files n (SetAttr target rights) low = refl
one_file files n Say low = refl

fold_file : (files : List Content) (n : ℕ) (os : List MicroOp) → n < length files
    → get_or (fold files_after files os) n no_content ≡ fold (content_after n) (get_or files n no_content) os
fold_file files n [] low = refl
fold_file files n (o ∷ os) low =
    fold_file (files_after files o) n os (subst (λ k. n < k) (sym (length_files files o)) low) ∙ ap (λ f. fold (content_after n) f os)
    (one_file files n o low)

files_fold : (s : State) (os : List MicroOp) → (fold state_after s os).files ≡ fold files_after s.files os
files_fold s [] = refl
files_fold s (o ∷ os) = files_fold (state_after s o) os

-- each file of a state is what the set leaves of it
pub file_left : (s : State) (ops : List MicroOp) (places : List ℕ) (n : ℕ) → n < length s.files
    → get_or (fold state_after s (map (op_at ops) places)).files n no_content ≡ content_left n (get_or s.files n no_content) ops places
unfolding content_left
file_left s ops places n low =
    ap (λ files. get_or files n no_content) (files_fold s (map (op_at ops) places)) ∙ fold_file s.files n (map (op_at ops) places) low

-- a file that no operation changes stays
pub content_idle : (n : ℕ) (f : Content) (ops : List MicroOp) → ((k : ℕ) → changes_file n (op_at ops k) ≡ false) → (places : List ℕ)
    → content_left n f ops places ≡ f
unfolding content_left
content_idle n f ops none [] = refl
content_idle n f ops none (k ∷ places) =
    ap (λ g. fold (content_after n) g (map (op_at ops) places)) (ap (λ b. cond b (content_after_op f (op_at ops k)) f) (none k)) ∙
    content_idle n f ops none places
