-- The members of a set by their marks, and what an allowed set has of the sizes and of the rights of a file.
use Rattle.std.proofs.Common.{◌≡◌, ◌≢◌, ℕ, zero, suc, ◌<◌, ◌≤◌, Bool, true, false, cond, List, [], ◌∷◌, ◌++◌, refl, sym, ap, ◌∙◌, arith}
use Rattle.std.proofs.Common.{⊎_elim, length, replicate}
use Rattle.std.proofs.lemmas.Bool.{cases_eq, false≢true, eqb-true}
use Rattle.std.proofs.lemmas.List.{get_or-set_other, get_or-set_same, append-nil}
use Rattle.std.specs.Prelude.{slice_set}
use Rattle.cs_start.specs.declared.rights.Rights.{Rights}
use Rattle.cs_trace.specs.declared.operation.Target.TheVariants as targets
use Rattle.cs_trace_lines.specs.Versions.{profile_of}
use Rattle.cs_micro.specs.declared.micro_op.MicroOp.{MicroOp}
use Rattle.cs_micro.specs.declared.micro_op.MicroOp.TheVariants.{ChangeFileSize, SetAttr}
use Rattle.cs_micro.specs.Micros.{Micros}
use Rattle.cs_apm.specs.Laws.Reasons.{needs_exactly}
use Rattle.cs_apm.specs.Orders.{needs_of}
use Rattle.cs_apm.specs.Owners.{owner_after}
use Rattle.cs_apm.specs.Reasons.{ChangesSize, SetsFile, resizes_one_file, sets_one_file}
use Rattle.cs_apm.specs.Rules.{op_at}
use Rattle.cs_state.specs.Owners.{sets_rights}
use Rattle.cs_state.specs.Shares.{numbers_that_pass, mark_at}
use Rattle.cs_state.specs.Steps.{resizes}
use Rattle.cs_state.specs.Windows.{size_after}
use Rattle.cs_state.proofs.Pages.{ids_same, unresized}
use Rattle.cs_state.proofs.Lasting.{IsSaidBy}

-- ---- marks that are set one after the other

pub none_marked : (n k : ℕ) → mark_at (replicate n false) k ≡ false
none_marked zero k = refl
none_marked (suc n) zero = refl
none_marked (suc n) (suc k) = none_marked n k

pub no_ids : (f : ℕ → Bool) → ((k : ℕ) → f k ≡ false) → (n : ℕ) → numbers_that_pass f n ≡ []
no_ids f none zero = refl
no_ids f none (suc n) =
    ap (λ b. numbers_that_pass f n ++ cond b (n ∷ []) []) (none n) ∙ append-nil (numbers_that_pass f n) ∙ no_ids f none n

-- one more passes, after all others
ids_more : (f g : ℕ → Bool) (p n : ℕ) → p < n → ((k : ℕ) → p ≤ k → f k ≡ false) → g p ≡ true → ((k : ℕ) → k ≢ p → g k ≡ f k)
    → numbers_that_pass g n ≡ numbers_that_pass f n ++ p ∷ []
ids_more f g p zero low none here same = absurd (omega (arith, low))
ids_more f g p (suc n) low none here same = ⊎_elim
    (λ (is : p ≡ n).
    (λ i. ids_same g f n (λ k less. same k (omega (arith, less, is))) i ++ cond ((ap g (sym is) ∙ here) i) (n ∷ []) [])
    ∙ sym (ap (λ b. (numbers_that_pass f n ++ cond b (n ∷ []) []) ++ p ∷ []) (none n (omega (arith, is))) ∙
    (λ i. append-nil (numbers_that_pass f n) i ++ is i ∷ [])))
    (λ (other : p ≢ n).
    ap (λ b. numbers_that_pass g n ++ cond b (n ∷ []) []) (same n (λ e. other (sym e)) ∙ none n (omega (arith, low)))
    ∙ append-nil (numbers_that_pass g n)
    ∙ ids_more f g p n (omega (arith, low, other)) none here same
    ∙ sym (ap (λ b. (numbers_that_pass f n ++ cond b (n ∷ []) []) ++ p ∷ []) (none n (omega (arith, low))) ∙ ap (λ l. l ++ p ∷ [])
    (append-nil (numbers_that_pass f n))))
    (cases_eq p n)

pub marked_more : (marks : List Bool) (n p : ℕ) → n ≡ length marks → p < n → ((k : ℕ) → p ≤ k → mark_at marks k ≡ false)
    → numbers_that_pass (mark_at (slice_set marks p true)) n ≡ numbers_that_pass (mark_at marks) n ++ p ∷ []
marked_more marks n p long low none =
    ids_more (mark_at marks) (mark_at (slice_set marks p true)) p n low none (get_or-set_same marks p true false (omega (arith, low, long)))
    (λ k other. get_or-set_other marks p k true false other)

pub mark_kept : (marks : List Bool) (p k : ℕ) → p < k → mark_at (slice_set marks p true) k ≡ mark_at marks k
mark_kept marks p k after = get_or-set_other marks p k true false (omega (arith, after))

-- ---- of what changes a file's size, and of what sets its rights, an allowed set has the first few

is_change : (o : MicroOp) (file : ℕ) → resizes file o ≡ true → ChangesSize o file
is_change (ChangeFileSize other to) file is = (to, ap (λ n. ChangeFileSize n to) (eqb-true other file is))
is_change _ file is = absurd (false≢true is)

pub size_needed : (micros : Micros) (file j k : ℕ) → j < k → resizes file (op_at micros.ops j) ≡ true
    → resizes file (op_at micros.ops k) ≡ true → needs_of micros j k ≡ true
size_needed micros file j k before first second =
    (needs_exactly micros.ops micros.syncs micros.version (profile_of micros.version) j k).1
    (record {
      before = before;
      reason = resizes_one_file file (is_change (op_at micros.ops j) file first) (is_change (op_at micros.ops k) file second);
    })

is_setter : (o : MicroOp) (file : ℕ) → sets_rights file o ≡ true → SetsFile o file
is_setter (SetAttr (targets.File other) rights) file is = (rights, ap (λ n. SetAttr (targets.File n) rights) (eqb-true other file is))
is_setter _ file is = absurd (false≢true is)

pub owner_needed : (micros : Micros) (file j k : ℕ) → j < k → sets_rights file (op_at micros.ops j) ≡ true
    → sets_rights file (op_at micros.ops k) ≡ true → needs_of micros j k ≡ true
owner_needed micros file j k before first second =
    (needs_exactly micros.ops micros.syncs micros.version (profile_of micros.version) j k).1
    (record {
      before = before;
      reason = sets_one_file file (is_setter (op_at micros.ops j) file first) (is_setter (op_at micros.ops k) file second);
    })

-- ---- the last of them says all

any_size : (n size other : ℕ) (o : MicroOp) → resizes n o ≡ true → size_after n size o ≡ size_after n other o
any_size n size other (ChangeFileSize file to) is = ap (λ b. cond b to size) is ∙ sym (ap (λ b. cond b to other) is)
any_size n size other _ is = absurd (false≢true is)

pub size_says : (n : ℕ) → IsSaidBy ℕ (size_after n) (resizes n)
size_says n = record { kept = unresized n; said = any_size n }

unset : (n : ℕ) (owner : Rights) (o : MicroOp) → sets_rights n o ≡ false → owner_after n owner o ≡ owner
unset n owner (SetAttr (targets.File file) rights) is = ap (λ b. cond b rights owner) is
unset n owner _ is = refl

any_owner : (n : ℕ) (owner other : Rights) (o : MicroOp) → sets_rights n o ≡ true → owner_after n owner o ≡ owner_after n other o
any_owner n owner other (SetAttr (targets.File file) rights) is = ap (λ b. cond b rights owner) is ∙ sym (ap (λ b. cond b rights other) is)
any_owner n owner other _ is = absurd (false≢true is)

pub owner_says : (n : ℕ) → IsSaidBy Rights (owner_after n) (sets_rights n)
owner_says n = record { kept = unset n; said = any_owner n }
