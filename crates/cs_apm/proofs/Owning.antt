-- Owner, group and permissions that a set leaves of a file, member by member, and of all files by their
-- numbers.
use Rattle.std.proofs.Common.{◌≡◌, ◌≢◌, ℕ, ◌+◌, ◌<◌, ◌==◌, cond, List, [], ◌∷◌, length, take, get_or, refl, sym, ap, ◌∙◌}
use Rattle.std.proofs.Common.{subst, ⊎_elim, map}
use Rattle.std.proofs.lemmas.Bool.{cases_eq, eq-eqb, ne_eqb}
use Rattle.std.proofs.lemmas.List.{length-set, get_or-set_same, get_or-set_other, map_more}
use Rattle.std.proofs.lemmas.List.Sums.{fold_push}
use Rattle.std.specs.Prelude.{fold, slice_set}
use Rattle.cs_entries.specs.declared.node.Node.TheVariants.{Directory, File}
use Rattle.cs_start.specs.declared.rights.Rights.{Rights}
use Rattle.cs_trace.specs.declared.operation.Target.TheVariants as targets
use Rattle.cs_trace.specs.Traces.{Trace}
use Rattle.cs_micro.specs.declared.micro_op.MicroOp.{MicroOp}
use Rattle.cs_micro.specs.declared.micro_op.MicroOp.TheVariants.{CreateDirEntry, DeleteDirEntry, MoveDirEntry, LinkDirEntry, ChangeFileSize}
use Rattle.cs_micro.specs.declared.micro_op.MicroOp.TheVariants.{WriteBlock, SetAttr, Say}
use Rattle.cs_apm.specs.Atlases.{directories_left, owners_left}
use Rattle.cs_apm.specs.Owners.{directory_after, directory_left, owner_after, owner_left}
use Rattle.cs_apm.specs.Rules.{op_at}
use Rattle.cs_apm.specs.States.{State, directories_after, directories_of, no_rights, owners_after, owners_of, start_state, state_after}
use Rattle.cs_apm.specs.States.{state_of, with_created}

module _ (step : Rights → MicroOp → Rights) (owner : Rights) (ops : List MicroOp) (places : List ℕ) where
  fold_more : (k : ℕ) → k < length places
      → fold step owner (map (op_at ops) (take (k + 1) places))
      ≡ step (fold step owner (map (op_at ops) (take k places))) (op_at ops (get_or places k 0))
  fold_more k low =
      ap (fold step owner) (map_more (op_at ops) places k 0 low)
      ∙ fold_push step owner (map (op_at ops) (take k places)) (op_at ops (get_or places k 0))

module _ (n : ℕ) (owner : Rights) (ops : List MicroOp) (places : List ℕ) where
  pub owner_none : owner ≡ owner_left n owner ops (take 0 places)
  unfolding owner_left
  owner_none = refl

  pub owner_more : (k : ℕ) → k < length places
      → owner_left n owner ops (take (k + 1) places)
      ≡ owner_after n (owner_left n owner ops (take k places)) (op_at ops (get_or places k 0))
  unfolding owner_left
  owner_more = fold_more (owner_after n) owner ops places

  pub directory_none : owner ≡ directory_left n owner ops (take 0 places)
  unfolding directory_left
  directory_none = refl

  pub directory_more : (k : ℕ) → k < length places
      → directory_left n owner ops (take (k + 1) places)
      ≡ directory_after n (directory_left n owner ops (take k places)) (op_at ops (get_or places k 0))
  unfolding directory_left
  directory_more = fold_more (directory_after n) owner ops places

-- ---- all files

set_at : (owners : List Rights) (file n : ℕ) (rights : Rights) → n < length owners
    → get_or (slice_set owners file rights) n no_rights ≡ cond (file == n) rights (get_or owners n no_rights)
set_at owners file n rights low = ⊎_elim
    (λ (e : file ≡ n). subst (λ v. get_or (slice_set owners v rights) n no_rights ≡ cond (v == n) rights (get_or owners n no_rights))
    (sym e)
    (get_or-set_same owners n rights no_rights low ∙ sym (ap (λ b. cond b rights (get_or owners n no_rights)) (eq-eqb n n refl))))
    (λ (e : file ≢ n). get_or-set_other owners file n rights no_rights (λ s. e (sym s)) ∙ sym
    (ap (λ b. cond b rights (get_or owners n no_rights)) (ne_eqb file n e)))
    (cases_eq file n)

length_owners : (owners : List Rights) (o : MicroOp) → length (owners_after owners o) ≡ length owners
length_owners owners (CreateDirEntry e node rights bytes) = refl
length_owners owners (DeleteDirEntry e node) = refl
length_owners owners (MoveDirEntry a b node old) = refl
length_owners owners (LinkDirEntry e kind file old half) = refl
length_owners owners (ChangeFileSize file size) = refl
length_owners owners (WriteBlock file block start at bytes) = refl
length_owners owners (SetAttr (targets.File file) rights) = length-set owners file rights
length_owners owners (SetAttr (targets.Directory d path) rights) = refl
length_owners owners Say = refl

one_owner : (owners : List Rights) (n : ℕ) (o : MicroOp) → n < length owners
    → get_or (owners_after owners o) n no_rights ≡ owner_after n (get_or owners n no_rights) o
one_owner owners n (CreateDirEntry e node rights bytes) low = refl
one_owner owners n (DeleteDirEntry e node) low = refl
one_owner owners n (MoveDirEntry a b node old) low = refl
one_owner owners n (LinkDirEntry e kind file old half) low = refl
one_owner owners n (ChangeFileSize file size) low = refl
one_owner owners n (WriteBlock file block start at bytes) low = refl
one_owner owners n (SetAttr (targets.File file) rights) low = set_at owners file n rights low
one_owner owners n (SetAttr (targets.Directory d path) rights) low = refl
one_owner owners n Say low = refl

fold_owner : (owners : List Rights) (n : ℕ) (os : List MicroOp) → n < length owners
    → get_or (fold owners_after owners os) n no_rights ≡ fold (owner_after n) (get_or owners n no_rights) os
fold_owner owners n [] low = refl
fold_owner owners n (o ∷ os) low =
    fold_owner (owners_after owners o) n os (subst (λ k. n < k) (sym (length_owners owners o)) low) ∙ ap (λ r. fold (owner_after n) r os)
    (one_owner owners n o low)

owners_fold : (s : State) (os : List MicroOp) → (fold state_after s os).owners ≡ fold owners_after s.owners os
owners_fold s [] = refl
owners_fold s (o ∷ os) = owners_fold (state_after s o) os

-- ---- all directories

length_directories : (all : List Rights) (o : MicroOp) → length (directories_after all o) ≡ length all
length_directories all (CreateDirEntry e (Directory d) rights bytes) = length-set all d rights
length_directories all (CreateDirEntry e (File kind file) rights bytes) = refl
length_directories all (DeleteDirEntry e node) = refl
length_directories all (MoveDirEntry a b node old) = refl
length_directories all (LinkDirEntry e kind file old half) = refl
length_directories all (ChangeFileSize file size) = refl
length_directories all (WriteBlock file block start at bytes) = refl
length_directories all (SetAttr (targets.File file) rights) = refl
length_directories all (SetAttr (targets.Directory d path) rights) = length-set all d rights
length_directories all Say = refl

one_directory : (all : List Rights) (n : ℕ) (o : MicroOp) → n < length all
    → get_or (directories_after all o) n no_rights ≡ directory_after n (get_or all n no_rights) o
one_directory all n (CreateDirEntry e (Directory d) rights bytes) low = set_at all d n rights low
one_directory all n (CreateDirEntry e (File kind file) rights bytes) low = refl
one_directory all n (DeleteDirEntry e node) low = refl
one_directory all n (MoveDirEntry a b node old) low = refl
one_directory all n (LinkDirEntry e kind file old half) low = refl
one_directory all n (ChangeFileSize file size) low = refl
one_directory all n (WriteBlock file block start at bytes) low = refl
one_directory all n (SetAttr (targets.File file) rights) low = refl
one_directory all n (SetAttr (targets.Directory d path) rights) low = set_at all d n rights low
one_directory all n Say low = refl

fold_directory : (all : List Rights) (n : ℕ) (os : List MicroOp) → n < length all
    → get_or (fold directories_after all os) n no_rights ≡ fold (directory_after n) (get_or all n no_rights) os
fold_directory all n [] low = refl
fold_directory all n (o ∷ os) low =
    fold_directory (directories_after all o) n os (subst (λ k. n < k) (sym (length_directories all o)) low)
    ∙ ap (λ r. fold (directory_after n) r os) (one_directory all n o low)

directories_fold : (s : State) (os : List MicroOp) → (fold state_after s os).directories ≡ fold directories_after s.directories os
directories_fold s [] = refl
directories_fold s (o ∷ os) = directories_fold (state_after s o) os

-- what is of each in a state is what the set leaves of it
module _ (t : Trace) (ops : List MicroOp) (places : List ℕ) where
  pub left_owner : (n : ℕ) → n < length (owners_of t ops)
      → owner_left n (get_or (owners_of t ops) n no_rights) ops places ≡ get_or (owners_left t ops places) n no_rights
  unfolding owners_left owner_left state_of
  left_owner n low = sym (
      ap (λ owners. get_or owners n no_rights) (owners_fold (with_created (start_state t) ops) (map (op_at ops) places))
      ∙ fold_owner (owners_of t ops) n (map (op_at ops) places) low)

  pub left_directory : (n : ℕ) → n < length (directories_of t ops)
      → directory_left n (get_or (directories_of t ops) n no_rights) ops places ≡ get_or (directories_left t ops places) n no_rights
  unfolding directories_left directory_left state_of
  left_directory n low = sym (
      ap (λ all. get_or all n no_rights) (directories_fold (with_created (start_state t) ops) (map (op_at ops) places))
      ∙ fold_directory (directories_of t ops) n (map (op_at ops) places) low)
