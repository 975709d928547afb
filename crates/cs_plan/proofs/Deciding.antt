-- Two values differ if and only if `==` is false.
use Rattle.std.proofs.Common.{◌≡◌, ◌==◌, ℕ, true, false, ◌&&◌, List, Option, None, Some, rules, refl, ap, subst}
use Rattle.std.specs.Bool.{Decides}
use Rattle.std.proofs.lemmas.Slice.Eq.{bytes_eq-Decides, slice_eq-Decides}
use Rattle.cs_names.specs.Paths.{path_eq}
use Rattle.cs_entries.specs.declared.entry.DirEntry.{DirEntry}
use Rattle.cs_entries.specs.declared.node.FileKind.{FileKind}
use Rattle.cs_entries.specs.declared.node.FileKind.TheVariants as kinds
use Rattle.cs_entries.specs.declared.node.Node.{Node}
use Rattle.cs_entries.specs.declared.node.Node.TheVariants as nodes
use Rattle.cs_entries.specs.contracts.entry.DirEntryPartialEq as entry
use Rattle.cs_entries.specs.contracts.node.FileKindPartialEq as kind
use Rattle.cs_entries.specs.contracts.node.NodePartialEq as node
use Rattle.cs_start.specs.declared.rights.Rights.{Rights}
use Rattle.cs_start.specs.contracts.rights.RightsPartialEq as rights
use Rattle.cs_trace.specs.declared.operation.Operation.{Operation}
use Rattle.cs_trace.specs.declared.operation.Operation.TheVariants.{Creat, Mkdir, Link, Unlink, Rmdir, Rename, Write, Truncate, SetAttr}
use Rattle.cs_trace.specs.declared.operation.Operation.TheVariants.{Sync, Say}
use Rattle.cs_trace.specs.declared.operation.Operation.TheVariants as operations
use Rattle.cs_trace.specs.declared.operation.Covers.{Covers}
use Rattle.cs_trace.specs.declared.operation.Covers.TheVariants.{All, File, Data, Range, Directory}
use Rattle.cs_trace.specs.declared.operation.Target.{Target}
use Rattle.cs_trace.specs.declared.operation.Target.TheVariants as targets
use Rattle.cs_trace.specs.contracts.operation.CoversPartialEq as covers
use Rattle.cs_trace.specs.contracts.operation.OperationPartialEq as operation
use Rattle.cs_trace.specs.contracts.operation.TargetPartialEq as target
use Rattle.cs_plan.specs.declared.recipe.Recipe.{Recipe}
use Rattle.cs_plan.specs.contracts.recipe.RecipePartialEq as recipe

differ : {A : Type 0} → false ≡ true → A
differ e = cc

pub path_decides : (a b : List (List ℕ)) → Decides (path_eq a b) (a ≡ b)
path_decides a b = slice_eq-Decides bytes_eq-Decides a b _ refl

pub entry_decides : (a b : DirEntry) → Decides (entry.TheImpl.eq-value.it a b) (a ≡ b)
entry_decides a b = search (rules, path_decides)

pub kind_decides : (a b : FileKind) → Decides (kind.TheImpl.eq-value.it a b) (a ≡ b)
kind_decides a b = search rules

pub node_decides : (a b : Node) → Decides (node.TheImpl.eq-value.it a b) (a ≡ b)
node_decides a b = search (rules, kind_decides)

pub rights_decides : (a b : Rights) → Decides (rights.TheImpl.eq-value.it a b) (a ≡ b)
rights_decides a b = search (rules, bytes_eq-Decides)

covers_true : (a b : Covers) → covers.TheImpl.eq-value.it a b ≡ true → a ≡ b
covers_true All other = elim other as (λ (x : Covers). covers.TheImpl.eq-value.it All x ≡ true → All ≡ x) [ All ↦ λ e. refl | _ ↦ differ ]
covers_true (File n) other =
    elim other as (λ (x : Covers). covers.TheImpl.eq-value.it (File n) x ≡ true → File n ≡ x) [ File m ↦ λ e. search rules | _ ↦ differ ]
covers_true (Data n) other =
    elim other as (λ (x : Covers). covers.TheImpl.eq-value.it (Data n) x ≡ true → Data n ≡ x) [ Data m ↦ λ e. search rules | _ ↦ differ ]
covers_true (Range n o l) other =
    elim other as (λ (x : Covers). covers.TheImpl.eq-value.it (Range n o l) x ≡ true → Range n o l ≡ x)
    [ Range n' o' l' ↦ λ e. search rules | _ ↦ differ ]
covers_true (Directory n p) other =
    elim other as (λ (x : Covers). covers.TheImpl.eq-value.it (Directory n p) x ≡ true → Directory n p ≡ x)
    [ Directory n' p' ↦ λ e. search (rules, path_decides) | _ ↦ differ ]

target_true : (a b : Target) → target.TheImpl.eq-value.it a b ≡ true → a ≡ b
target_true (targets.File n) other =
    elim other as (λ (x : Target). target.TheImpl.eq-value.it (targets.File n) x ≡ true → targets.File n ≡ x)
    [ targets.File m ↦ λ e. search rules | targets.Directory n' p' ↦ differ ]
target_true (targets.Directory n p) other =
    elim other as (λ (x : Target). target.TheImpl.eq-value.it (targets.Directory n p) x ≡ true → targets.Directory n p ≡ x)
    [ targets.File m ↦ differ | targets.Directory n' p' ↦ λ e. search (rules, path_decides) ]

target_own : (a : Target) → target.TheImpl.eq-value.it a a ≡ true
target_own (targets.File n) = search rules
target_own (targets.Directory n p) = search (rules, path_decides)

target_decides : (a b : Target) → Decides (target.TheImpl.eq-value.it a b) (a ≡ b)
target_decides a b = (target_true a b, λ same. subst (λ x. target.TheImpl.eq-value.it a x ≡ true) same (target_own a))

pub recipe_decides : (a b : Recipe) → Decides (recipe.TheImpl.eq-value.it a b) (a ≡ b)
recipe_decides a b = search (rules, bytes_eq-Decides)

covers_own : (a : Covers) → covers.TheImpl.eq-value.it a a ≡ true
covers_own All = refl
covers_own (File n) = search rules
covers_own (Data n) = search rules
covers_own (Range n o l) = search rules
covers_own (Directory n p) = search (rules, path_decides)

-- what a rename replaces, if anything: a lemma for each case, so that none computes long
replaced_new : (a b a' b' : DirEntry) (n n' : Node) (y : Node)
    → operation.TheImpl.eq-value.it (Rename a b n None) (Rename a' b' n' (Some y)) ≡ true → None ≡ Some y
replaced_new a b a' b' n n' y e = search rules

replaced_gone : (a b a' b' : DirEntry) (n n' : Node) (x : Node)
    → operation.TheImpl.eq-value.it (Rename a b n (Some x)) (Rename a' b' n' None) ≡ true → Some x ≡ None
replaced_gone a b a' b' n n' x e = search rules

replaced_directories : (a b a' b' : DirEntry) (n n' : Node) (d d' : ℕ)
    → operation.TheImpl.eq-value.it (Rename a b n (Some (nodes.Directory d))) (Rename a' b' n' (Some (nodes.Directory d'))) ≡ true → d ≡ d'
replaced_directories a b a' b' n n' d d' e = search rules

replaced_kinds : (a b a' b' : DirEntry) (n n' : Node) (k k' : FileKind) (f f' : ℕ)
    → operation.TheImpl.eq-value.it (Rename a b n (Some (nodes.File k f))) (Rename a' b' n' (Some (nodes.File k' f'))) ≡ true → k ≡ k'
replaced_kinds a b a' b' n n' k k' f f' e = search (rules, kind_decides)

replaced_files : (a b a' b' : DirEntry) (n n' : Node) (k k' : FileKind) (f f' : ℕ)
    → operation.TheImpl.eq-value.it (Rename a b n (Some (nodes.File k f))) (Rename a' b' n' (Some (nodes.File k' f'))) ≡ true → f ≡ f'
replaced_files a b a' b' n n' kinds.Regular kinds.Regular f f' e = search rules
replaced_files a b a' b' n n' kinds.Regular kinds.Symlink f f' e = search rules
replaced_files a b a' b' n n' kinds.Symlink kinds.Regular f f' e = search rules
replaced_files a b a' b' n n' kinds.Symlink kinds.Symlink f f' e = search rules

replaced_by_file : (a b a' b' : DirEntry) (n n' : Node) (d f : ℕ) (k : FileKind)
    → operation.TheImpl.eq-value.it (Rename a b n (Some (nodes.Directory d))) (Rename a' b' n' (Some (nodes.File k f))) ≡ true
    → Some (nodes.Directory d) ≡ Some (nodes.File k f)
replaced_by_file a b a' b' n n' d f k e = search rules

replaced_by_directory : (a b a' b' : DirEntry) (n n' : Node) (d f : ℕ) (k : FileKind)
    → operation.TheImpl.eq-value.it (Rename a b n (Some (nodes.File k f))) (Rename a' b' n' (Some (nodes.Directory d))) ≡ true
    → Some (nodes.File k f) ≡ Some (nodes.Directory d)
replaced_by_directory a b a' b' n n' d f k e = search rules

replaced_true : (a b a' b' : DirEntry) (n n' : Node) (o o' : Option Node)
    → operation.TheImpl.eq-value.it (Rename a b n o) (Rename a' b' n' o') ≡ true → o ≡ o'
replaced_true a b a' b' n n' None None e = refl
replaced_true a b a' b' n n' None (Some y) e = replaced_new a b a' b' n n' y e
replaced_true a b a' b' n n' (Some x) None e = replaced_gone a b a' b' n n' x e
replaced_true a b a' b' n n' (Some (nodes.Directory d)) (Some (nodes.Directory d')) e =
    ap (λ k. Some (nodes.Directory k)) (replaced_directories a b a' b' n n' d d' e)
replaced_true a b a' b' n n' (Some (nodes.Directory d)) (Some (nodes.File k f)) e = replaced_by_file a b a' b' n n' d f k e
replaced_true a b a' b' n n' (Some (nodes.File k f)) (Some (nodes.Directory d)) e = replaced_by_directory a b a' b' n n' d f k e
replaced_true a b a' b' n n' (Some (nodes.File k f)) (Some (nodes.File k' f')) e = λ i.
    Some (nodes.File (replaced_kinds a b a' b' n n' k k' f f' e i) (replaced_files a b a' b' n n' k k' f f' e i))

replaced_own : (a b : DirEntry) (n : Node) (o : Option Node)
    → operation.TheImpl.eq-value.it (Rename a b n o) (Rename a b n o) ≡ true
replaced_own a b n None = search (rules, entry_decides, node_decides)
replaced_own a b n (Some x) = search (rules, entry_decides, node_decides)

operation_true : (a b : Operation) → operation.TheImpl.eq-value.it a b ≡ true → a ≡ b
operation_true (Creat e f r) other =
    elim other as (λ (x : Operation). operation.TheImpl.eq-value.it (Creat e f r) x ≡ true → Creat e f r ≡ x)
    [ Creat e' f' r' ↦ λ e. search (rules, entry_decides, rights_decides) | _ ↦ differ ]
operation_true (Mkdir e d r) other =
    elim other as (λ (x : Operation). operation.TheImpl.eq-value.it (Mkdir e d r) x ≡ true → Mkdir e d r ≡ x)
    [ Mkdir e' d' r' ↦ λ e. search (rules, entry_decides, rights_decides) | _ ↦ differ ]
operation_true (operations.Symlink e f r t) other =
    elim other as (λ (x : Operation). operation.TheImpl.eq-value.it (operations.Symlink e f r t) x ≡ true → operations.Symlink e f r t ≡ x)
    [ operations.Symlink e' f' r' t' ↦ λ e. search (rules, entry_decides, rights_decides, bytes_eq-Decides) | _ ↦ differ ]
operation_true (Link e f) other =
    elim other as (λ (x : Operation). operation.TheImpl.eq-value.it (Link e f) x ≡ true → Link e f ≡ x)
    [ Link e' f' ↦ λ e. search (rules, entry_decides) | _ ↦ differ ]
operation_true (Unlink e k f) other =
    elim other as (λ (x : Operation). operation.TheImpl.eq-value.it (Unlink e k f) x ≡ true → Unlink e k f ≡ x)
    [ Unlink e' k' f' ↦ λ e. search (rules, entry_decides, kind_decides) | _ ↦ differ ]
operation_true (Rmdir e d) other =
    elim other as (λ (x : Operation). operation.TheImpl.eq-value.it (Rmdir e d) x ≡ true → Rmdir e d ≡ x)
    [ Rmdir e' d' ↦ λ e. search (rules, entry_decides) | _ ↦ differ ]
operation_true (Rename a b n o) other =
    elim other as (λ (x : Operation). operation.TheImpl.eq-value.it (Rename a b n o) x ≡ true → Rename a b n o ≡ x) [
      | Rename a' b' n' o' ↦ λ e.
          (let from : a ≡ a' = search (rules, entry_decides) in
          let to : b ≡ b' = search (rules, entry_decides) in
          let moved : n ≡ n' = search (rules, node_decides) in
          let replaced : o ≡ o' = replaced_true a b a' b' n n' o o' e in
          λ i. Rename (from i) (to i) (moved i) (replaced i))
      | _ ↦ differ
    ]
operation_true (Write f s o b) other =
    elim other as (λ (x : Operation). operation.TheImpl.eq-value.it (Write f s o b) x ≡ true → Write f s o b ≡ x)
    [ Write f' s' o' b' ↦ λ e. search (rules, bytes_eq-Decides) | _ ↦ differ ]
operation_true (Truncate f s l) other =
    elim other as (λ (x : Operation). operation.TheImpl.eq-value.it (Truncate f s l) x ≡ true → Truncate f s l ≡ x)
    [ Truncate f' s' l' ↦ λ e. search rules | _ ↦ differ ]
operation_true (SetAttr t b r) other =
    elim other as (λ (x : Operation). operation.TheImpl.eq-value.it (SetAttr t b r) x ≡ true → SetAttr t b r ≡ x)
    [ SetAttr t' b' r' ↦ λ e. search (rules, target_decides, rights_decides) | _ ↦ differ ]
operation_true (Sync c) other =
    elim other as (λ (x : Operation). operation.TheImpl.eq-value.it (Sync c) x ≡ true → Sync c ≡ x)
    [ Sync c' ↦ λ e. ap Sync (covers_true c c' e) | _ ↦ differ ]
operation_true Say other =
    elim other as (λ (x : Operation). operation.TheImpl.eq-value.it Say x ≡ true → Say ≡ x) [ Say ↦ λ e. refl | _ ↦ differ ]

operation_own : (a : Operation) → operation.TheImpl.eq-value.it a a ≡ true
operation_own (Creat e f r) = search (rules, entry_decides, rights_decides)
operation_own (Mkdir e d r) = search (rules, entry_decides, rights_decides)
operation_own (operations.Symlink e f r t) = search (rules, entry_decides, rights_decides, bytes_eq-Decides)
operation_own (Link e f) = search (rules, entry_decides)
operation_own (Unlink e k f) = search (rules, entry_decides, kind_decides)
operation_own (Rmdir e d) = search (rules, entry_decides)
operation_own (Rename a b n o) = replaced_own a b n o
operation_own (Write f s o b) = search (rules, bytes_eq-Decides)
operation_own (Truncate f s l) = search rules
operation_own (SetAttr t b r) = search (rules, target_decides, rights_decides)
operation_own (Sync c) = covers_own c
operation_own Say = refl

pub operation_decides : (a b : Operation) → Decides (operation.TheImpl.eq-value.it a b) (a ≡ b)
operation_decides a b = (operation_true a b, λ same. subst (λ x. operation.TheImpl.eq-value.it a x ≡ true) same (operation_own a))

pub link_decides : (a b : List (List ℕ) × ℕ) → Decides (path_eq a.0 b.0 && a.1 == b.1) (a ≡ b)
link_decides a b = search (rules, path_decides)
