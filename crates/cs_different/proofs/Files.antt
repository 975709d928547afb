-- The parts of a state, by the places of a set.
use Rattle.std.proofs.Common.{◌≡◌, ◌≢◌, ℕ, ◌<◌, ◌≤◌, ◌==◌, cond, List, [], ◌∷◌, refl, sym}
use Rattle.std.proofs.Common.{ap, ◌∙◌, subst, arith, ⊎_elim, length, get_or, fold, map}
use Rattle.std.proofs.lemmas.Bool.{cases_eq, eq-eqb, ne_eqb}
use Rattle.std.proofs.lemmas.List.{get_or_past, get_or-set_same, get_or-set_other, length-set}
use Rattle.std.specs.Prelude.{slice_set}
use Rattle.cs_start.specs.declared.rights.Rights.{Rights}
use Rattle.cs_trace.specs.declared.operation.Target.TheVariants as targets
use Rattle.cs_micro.specs.declared.micro_op.MicroOp.{MicroOp}
use Rattle.cs_micro.specs.declared.micro_op.MicroOp.TheVariants.{CreateDirEntry, DeleteDirEntry, MoveDirEntry, LinkDirEntry, ChangeFileSize}
use Rattle.cs_micro.specs.declared.micro_op.MicroOp.TheVariants.{WriteBlock, SetAttr, Say}
use Rattle.cs_apm.specs.Contents.{content_after, content_left}
use Rattle.cs_apm.specs.Owners.{owner_after}
use Rattle.cs_apm.specs.Rules.{op_at}
use Rattle.cs_apm.specs.States.{Content, State, directories_after, entries_after, files_after, no_content, no_rights}
use Rattle.cs_apm.specs.States.{owners_after, state_after}
use Rattle.cs_apm.proofs.Contents.{file_left}

pub entries_at : (s : State) (os : List MicroOp) → (fold state_after s os).entries ≡ fold entries_after s.entries os
entries_at s [] = refl
entries_at s (o ∷ os) = entries_at (state_after s o) os

pub directories_at : (s : State) (os : List MicroOp) → (fold state_after s os).directories ≡ fold directories_after s.directories os
directories_at s [] = refl
directories_at s (o ∷ os) = directories_at (state_after s o) os

pub file_at : (s : State) (ops : List MicroOp) (places : List ℕ) (n : ℕ) → n < length s.files
    → get_or (fold state_after s (map (op_at ops) places)).files n no_content
    ≡ fold (content_after n) (get_or s.files n no_content) (map (op_at ops) places)
unfolding content_left
file_at s ops places n low = file_left s ops places n low

one_long : (files : List Content) (o : MicroOp) → length (files_after files o) ≡ length files
one_long files (ChangeFileSize file size) = length-set files file _
one_long files (WriteBlock file block start at bytes) = length-set files file _
one_long files (CreateDirEntry e node rights bytes) = refl
one_long files (DeleteDirEntry e node) = refl
one_long files (MoveDirEntry a b node old) = refl
one_long files (LinkDirEntry e kind file old half) = refl
one_long files (SetAttr target rights) = refl
one_long files Say = refl

long_files : (s : State) (os : List MicroOp) → length (fold state_after s os).files ≡ length s.files
long_files s [] = refl
long_files s (o ∷ os) = long_files (state_after s o) os ∙ one_long s.files o

-- past the last file there is none
pub no_file : (s : State) (os : List MicroOp) (n : ℕ) → length s.files ≤ n → get_or (fold state_after s os).files n no_content ≡ no_content
no_file s os n high = get_or_past (fold state_after s os).files n no_content (let l = long_files s os in omega (arith, l, high))

own_long : (owners : List Rights) (o : MicroOp) → length (owners_after owners o) ≡ length owners
own_long owners (SetAttr (targets.File file) rights) = length-set owners file rights
own_long owners (SetAttr (targets.Directory d path) rights) = refl
own_long owners (ChangeFileSize file size) = refl
own_long owners (WriteBlock file block start at bytes) = refl
own_long owners (CreateDirEntry e node rights bytes) = refl
own_long owners (DeleteDirEntry e node) = refl
own_long owners (MoveDirEntry a b node old) = refl
own_long owners (LinkDirEntry e kind file old half) = refl
own_long owners Say = refl

long_owners : (s : State) (os : List MicroOp) → length (fold state_after s os).owners ≡ length s.owners
long_owners s [] = refl
long_owners s (o ∷ os) = long_owners (state_after s o) os ∙ own_long s.owners o

pub no_owner : (s : State) (os : List MicroOp) (n : ℕ) → length s.owners ≤ n → get_or (fold state_after s os).owners n no_rights ≡ no_rights
no_owner s os n high = get_or_past (fold state_after s os).owners n no_rights (let l = long_owners s os in omega (arith, l, high))

set_at : (owners : List Rights) (file n : ℕ) (rights : Rights) → n < length owners
    → get_or (slice_set owners file rights) n no_rights ≡ cond (file == n) rights (get_or owners n no_rights)
set_at owners file n rights low = ⊎_elim
    (λ (e : file ≡ n). ap (λ v. get_or (slice_set owners v rights) n no_rights) e ∙ get_or-set_same owners n rights no_rights low
    ∙ sym (ap (λ b. cond b rights (get_or owners n no_rights)) (eq-eqb file n e)))
    (λ (e : file ≢ n). get_or-set_other owners file n rights no_rights (λ q. e (sym q))
    ∙ sym (ap (λ b. cond b rights (get_or owners n no_rights)) (ne_eqb file n e)))
    (cases_eq file n)

one_owner : (owners : List Rights) (n : ℕ) (o : MicroOp) → n < length owners
    → get_or (owners_after owners o) n no_rights ≡ owner_after n (get_or owners n no_rights) o
one_owner owners n (SetAttr (targets.File file) rights) low = set_at owners file n rights low
one_owner owners n (SetAttr (targets.Directory d path) rights) low = refl
one_owner owners n (ChangeFileSize file size) low = refl
one_owner owners n (WriteBlock file block start at bytes) low = refl
one_owner owners n (CreateDirEntry e node rights bytes) low = refl
one_owner owners n (DeleteDirEntry e node) low = refl
one_owner owners n (MoveDirEntry a b node old) low = refl
one_owner owners n (LinkDirEntry e kind file old half) low = refl
one_owner owners n Say low = refl

pub owner_at : (s : State) (os : List MicroOp) (n : ℕ) → n < length s.owners
    → get_or (fold state_after s os).owners n no_rights ≡ fold (owner_after n) (get_or s.owners n no_rights) os
owner_at s [] n low = refl
owner_at s (o ∷ os) n low =
    owner_at (state_after s o) os n (subst (λ v. n < v) (sym (own_long s.owners o)) low)
    ∙ ap (λ r. fold (owner_after n) r os) (one_owner s.owners n o low)
