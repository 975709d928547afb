-- The making of each file after the start's.
use Rattle.std.proofs.Common.{◌≡◌, ℕ, suc, ◌+◌, ◌<◌, false, true, List, [], ◌∷◌, ◌++◌, length, map, take, refl, sym, ap, ◌∙◌, arith}
use Rattle.std.proofs.lemmas.Bool.{false≢true}
use Rattle.std.proofs.lemmas.List.{append-nil, map-append, take_all, take_more}
use Rattle.std.specs.List.{All}
use Rattle.cs_entries.specs.declared.node.Node.TheVariants.{Directory, File}
use Rattle.cs_micro.specs.declared.micro_op.MicroOp.{MicroOp}
use Rattle.cs_micro.specs.declared.micro_op.MicroOp.TheVariants.{CreateDirEntry, DeleteDirEntry, MoveDirEntry, LinkDirEntry, ChangeFileSize}
use Rattle.cs_micro.specs.declared.micro_op.MicroOp.TheVariants.{WriteBlock, SetAttr, Say}
use Rattle.cs_apm.specs.Atlases.{AreMakings, content_made}
use Rattle.cs_apm.specs.Making.{makes_file}
use Rattle.cs_apm.specs.Rules.{op_at}
use Rattle.cs_apm.specs.States.{content_of_bytes, files_made, owners_made}

files_made-append : (xs ys : List MicroOp) → files_made (xs ++ ys) ≡ files_made xs ++ files_made ys
files_made-append [] ys = refl
files_made-append (CreateDirEntry e (File kind file) rights bytes ∷ xs) ys = ap (λ v. content_of_bytes bytes ∷ v) (files_made-append xs ys)
files_made-append (CreateDirEntry e (Directory d) rights bytes ∷ xs) ys = files_made-append xs ys
files_made-append (DeleteDirEntry e node ∷ xs) ys = files_made-append xs ys
files_made-append (MoveDirEntry a b node old ∷ xs) ys = files_made-append xs ys
files_made-append (LinkDirEntry e kind file old half ∷ xs) ys = files_made-append xs ys
files_made-append (ChangeFileSize file size ∷ xs) ys = files_made-append xs ys
files_made-append (WriteBlock file block start at bytes ∷ xs) ys = files_made-append xs ys
files_made-append (SetAttr target rights ∷ xs) ys = files_made-append xs ys
files_made-append (Say ∷ xs) ys = files_made-append xs ys

-- of the first n micro-operations
pub record AreMakingsOf (ops : List MicroOp) (n : ℕ) (makings : List ℕ) : Type 0 where
  pub made : map (λ k. content_made (op_at ops k)) makings ≡ files_made (take n ops)
  pub inside : All (λ k. k < length ops) makings

module _ (ops : List MicroOp) (n : ℕ) (low : n < length ops) where
  next : files_made (take (n + 1) ops) ≡ files_made (take n ops) ++ files_made (op_at ops n ∷ [])
  next = ap files_made (take_more ops n Say low) ∙ files_made-append (take n ops) (op_at ops n ∷ [])

  pub makings_same : (makings : List ℕ) → files_made (op_at ops n ∷ []) ≡ [] → AreMakingsOf ops n makings → AreMakingsOf ops (n + 1) makings
  makings_same makings none are = record {
    made = are.made ∙ sym (append-nil (files_made (take n ops))) ∙ ap (λ v. files_made (take n ops) ++ v) (sym none) ∙ sym next;
    inside = are.inside;
  }

  pub makings_more : (makings : List ℕ) → files_made (op_at ops n ∷ []) ≡ content_made (op_at ops n) ∷ [] → AreMakingsOf ops n makings
      → All (λ k. k < length ops) (makings ++ n ∷ []) → AreMakingsOf ops (n + 1) (makings ++ n ∷ [])
  makings_more makings one are all = record {
    made =
        map-append (λ k. content_made (op_at ops k)) makings (n ∷ [])
        ∙ (λ i. are.made i ++ sym one i) ∙ sym next;
    inside = all;
  }

-- by the test
pub one_made : (o : MicroOp) → makes_file o ≡ true → files_made (o ∷ []) ≡ content_made o ∷ []
one_made (CreateDirEntry e (File kind file) rights bytes) is = refl
one_made (CreateDirEntry e (Directory d) rights bytes) is = absurd (false≢true is)
one_made (DeleteDirEntry e node) is = absurd (false≢true is)
one_made (MoveDirEntry a b node old) is = absurd (false≢true is)
one_made (LinkDirEntry e kind file old half) is = absurd (false≢true is)
one_made (ChangeFileSize file size) is = absurd (false≢true is)
one_made (WriteBlock file block start at bytes) is = absurd (false≢true is)
one_made (SetAttr target rights) is = absurd (false≢true is)
one_made Say is = absurd (false≢true is)

pub none_made : (o : MicroOp) → makes_file o ≡ false → files_made (o ∷ []) ≡ []
none_made (CreateDirEntry e (File kind file) rights bytes) is = absurd (false≢true (sym is))
none_made (CreateDirEntry e (Directory d) rights bytes) is = refl
none_made (DeleteDirEntry e node) is = refl
none_made (MoveDirEntry a b node old) is = refl
none_made (LinkDirEntry e kind file old half) is = refl
none_made (ChangeFileSize file size) is = refl
none_made (WriteBlock file block start at bytes) is = refl
none_made (SetAttr target rights) is = refl
none_made Say is = refl

pub all_makings : (ops : List MicroOp) (n : ℕ) (makings : List ℕ) → length ops ≡ n → AreMakingsOf ops n makings → AreMakings ops makings
all_makings ops n makings is are = record {
  made = are.made ∙ ap files_made (take_all n ops (omega (arith, is)));
  inside = are.inside;
}

-- as many as the owners of those
pub length-files_made : (ops : List MicroOp) → length (files_made ops) ≡ length (owners_made ops)
length-files_made [] = refl
length-files_made (CreateDirEntry e (File kind file) rights bytes ∷ ops) = ap suc (length-files_made ops)
length-files_made (CreateDirEntry e (Directory d) rights bytes ∷ ops) = length-files_made ops
length-files_made (DeleteDirEntry e node ∷ ops) = length-files_made ops
length-files_made (MoveDirEntry a b node old ∷ ops) = length-files_made ops
length-files_made (LinkDirEntry e kind file old half ∷ ops) = length-files_made ops
length-files_made (ChangeFileSize file size ∷ ops) = length-files_made ops
length-files_made (WriteBlock file block start at bytes ∷ ops) = length-files_made ops
length-files_made (SetAttr target rights ∷ ops) = length-files_made ops
length-files_made (Say ∷ ops) = length-files_made ops
