-- Flags, and owners, one operation after the other.
use Rattle.std.proofs.Common.{◌≡◌, ◌≢◌, ℕ, ◌<◌, ◌||◌, ◌==◌, Bool, true, false, List, [], ◌∷◌, ◌++◌, Some, refl, sym, ap, ◌∙◌, subst, ⊎_elim}
use Rattle.std.proofs.Common.{length, take, drop, get_or}
use Rattle.std.proofs.Math.Seq.{drop-length, take-length}
use Rattle.std.proofs.lemmas.Bool.{cases_eq, eq-eqb, ne_eqb}
use Rattle.std.proofs.lemmas.List.{append-nil, get_or-set_other, get_or-set_same, length-set}
use Rattle.std.proofs.lemmas.List.Folds.{list_any-append}
use Rattle.std.proofs.lemmas.Option.{get_or_from_slice_get, slice_get-get_or, slice_get_within}
use Rattle.std.specs.List.{list_any}
use Rattle.std.specs.Prelude.{slice_get, slice_set}
use Rattle.cs_entries.specs.declared.node.Node.TheVariants.{Directory, File}
use Rattle.cs_micro.specs.declared.micro_op.MicroOp.{MicroOp}
use Rattle.cs_micro.specs.declared.micro_op.MicroOp.TheVariants.{CreateDirEntry, DeleteDirEntry, MoveDirEntry, LinkDirEntry, ChangeFileSize}
use Rattle.cs_micro.specs.declared.micro_op.MicroOp.TheVariants.{WriteBlock, SetAttr, Say}
use Rattle.cs_apm.specs.Atlases.{AreChanged}
use Rattle.cs_apm.specs.Making.{with_file_marked}
use Rattle.cs_apm.specs.Contents.{changes_file}
use Rattle.cs_sets.specs.Laws.Members.{or_false}
use Rattle.cs_apm.specs.States.{directories_made, owners_made}

-- a slice that was changed is put back
pub put_back : {X : Type 0} (xs ys : List X) (n : ℕ) → length xs ≡ length ys → n ≡ length ys → take n (xs ++ drop (length xs) ys) ≡ xs
put_back xs ys n same is =
    (λ i. take ((is ∙ sym same) i) (xs ++ drop (same i) ys)) ∙ ap (λ r. take (length xs) (xs ++ r)) (drop-length ys) ∙ ap (take (length xs))
    (append-nil xs) ∙ take-length xs

pub length-marked : (flags : List Bool) (o : MicroOp) → length (with_file_marked flags o) ≡ length flags
length-marked flags (CreateDirEntry e node rights bytes) = refl
length-marked flags (DeleteDirEntry e node) = refl
length-marked flags (MoveDirEntry a b node old) = refl
length-marked flags (LinkDirEntry e kind file old half) = refl
length-marked flags (ChangeFileSize file size) = length-set flags file true
length-marked flags (WriteBlock file block start at bytes) = length-set flags file true
length-marked flags (SetAttr target rights) = refl
length-marked flags Say = refl

or_true : (b : Bool) → (b || true) ≡ true
or_true true = refl
or_true false = refl

-- one flag is set
set_flag : (flags : List Bool) (file n : ℕ) (flag was : Bool) → ((f : Bool) → slice_get flags n ≡ Some f → f ≡ was)
    → slice_get (slice_set flags file true) n ≡ Some flag → flag ≡ (was || ((file == n) || false))
set_flag flags file n flag was so_far there =
    let low : n < length flags =
    subst (λ k. n < k) (length-set flags file true) (slice_get_within (slice_set flags file true) n flag there) in
    let got : get_or (slice_set flags file true) n false ≡ flag = get_or_from_slice_get (slice_set flags file true) n flag false there in
    ⊎_elim
    (λ (e : n ≡ file). sym got ∙ ap (λ k. get_or (slice_set flags file true) k false) e ∙ get_or-set_same flags file true false
    (subst (λ k. k < length flags) e low)
    ∙ sym (ap (λ b. was || (b || false)) (eq-eqb file n (sym e)) ∙ or_true was))
    (λ (e : n ≢ file). sym got ∙ get_or-set_other flags file n true false e ∙ so_far (get_or flags n false)
    (slice_get-get_or flags n false low)
    ∙ sym (ap (λ b. was || (b || false)) (ne_eqb file n (λ s. e (sym s))) ∙ or_false was))
    (cases_eq n file)

pub changed_more : (ops : List MicroOp) (count : ℕ) (flags : List Bool) (o : MicroOp) → AreChanged ops count flags
    → AreChanged (ops ++ o ∷ []) count (with_file_marked flags o)
changed_more ops count flags o are = record {
  long = length-marked flags o ∙ are.long;
  each = λ n flag there. one o n flag there ∙ sym (list_any-append (changes_file n) ops (o ∷ []));
}
  where
    one : (o : MicroOp) (n : ℕ) (flag : Bool) → slice_get (with_file_marked flags o) n ≡ Some flag
        → flag ≡ (list_any (changes_file n) ops || list_any (changes_file n) (o ∷ []))
    one (CreateDirEntry e node rights bytes) n flag there = are.each n flag there ∙ sym (or_false (list_any (changes_file n) ops))
    one (DeleteDirEntry e node) n flag there = are.each n flag there ∙ sym (or_false (list_any (changes_file n) ops))
    one (MoveDirEntry a b node old) n flag there = are.each n flag there ∙ sym (or_false (list_any (changes_file n) ops))
    one (LinkDirEntry e kind file old half) n flag there = are.each n flag there ∙ sym (or_false (list_any (changes_file n) ops))
    one (ChangeFileSize file size) n flag there = set_flag flags file n flag (list_any (changes_file n) ops) (are.each n) there
    one (WriteBlock file block start at bytes) n flag there = set_flag flags file n flag (list_any (changes_file n) ops) (are.each n) there
    one (SetAttr target rights) n flag there = are.each n flag there ∙ sym (or_false (list_any (changes_file n) ops))
    one Say n flag there = are.each n flag there ∙ sym (or_false (list_any (changes_file n) ops))

pub owners_made-append : (xs ys : List MicroOp) → owners_made (xs ++ ys) ≡ owners_made xs ++ owners_made ys
owners_made-append [] ys = refl
owners_made-append (CreateDirEntry e (File kind file) rights bytes ∷ xs) ys = ap (λ os. rights ∷ os) (owners_made-append xs ys)
owners_made-append (CreateDirEntry e (Directory d) rights bytes ∷ xs) ys = owners_made-append xs ys
owners_made-append (DeleteDirEntry e node ∷ xs) ys = owners_made-append xs ys
owners_made-append (MoveDirEntry a b node old ∷ xs) ys = owners_made-append xs ys
owners_made-append (LinkDirEntry e kind file old half ∷ xs) ys = owners_made-append xs ys
owners_made-append (ChangeFileSize file size ∷ xs) ys = owners_made-append xs ys
owners_made-append (WriteBlock file block start at bytes ∷ xs) ys = owners_made-append xs ys
owners_made-append (SetAttr target rights ∷ xs) ys = owners_made-append xs ys
owners_made-append (Say ∷ xs) ys = owners_made-append xs ys

pub directories_made-append : (xs ys : List MicroOp) → directories_made (xs ++ ys) ≡ directories_made xs ++ directories_made ys
directories_made-append [] ys = refl
directories_made-append (CreateDirEntry e (File kind file) rights bytes ∷ xs) ys = directories_made-append xs ys
directories_made-append (CreateDirEntry e (Directory d) rights bytes ∷ xs) ys = ap (λ os. rights ∷ os) (directories_made-append xs ys)
directories_made-append (DeleteDirEntry e node ∷ xs) ys = directories_made-append xs ys
directories_made-append (MoveDirEntry a b node old ∷ xs) ys = directories_made-append xs ys
directories_made-append (LinkDirEntry e kind file old half ∷ xs) ys = directories_made-append xs ys
directories_made-append (ChangeFileSize file size ∷ xs) ys = directories_made-append xs ys
directories_made-append (WriteBlock file block start at bytes ∷ xs) ys = directories_made-append xs ys
directories_made-append (SetAttr target rights ∷ xs) ys = directories_made-append xs ys
directories_made-append (Say ∷ xs) ys = directories_made-append xs ys
