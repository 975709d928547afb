-- Rows filled bit by bit.
use Rattle.std.proofs.Common.{◌≡◌, ℕ, ◌+◌, ◌<◌, ◌≤◌, ◌==◌, ◌&&◌, ◌||◌, nat_lt, Bool, true, false, List, [], ◌∷◌, ◌++◌, length, Some, refl}
use Rattle.std.proofs.Common.{sym, ap, ◌∙◌, subst, ⊎_elim, arith}
use Rattle.std.proofs.lemmas.Bool.{cases_eq, cases_lt, lt-ltb, le-ltb, eq-eqb, ne_eqb}
use Rattle.std.proofs.lemmas.List.{length_push, get_or_append_left, get_or_at}
use Rattle.std.proofs.lemmas.Option.{slice_get-get_or, slice_get_within, get_or_from_slice_get}
use Rattle.cs_trace_lines.specs.declared.profile.Profile.{Profile}
use Rattle.cs_trace_lines.specs.declared.version.Version.{Version}
use Rattle.cs_sets.specs.declared.row.Row.{Row}
use Rattle.cs_sets.specs.Bits.{has_place}
use Rattle.cs_micro.specs.declared.micro_op.MicroOp.{MicroOp}
use Rattle.cs_micro.specs.declared.sync_point.SyncPoint.{SyncPoint}
use Rattle.cs_apm.specs.Rules.{needs}
use Rattle.cs_apm.specs.Rows.{IsRow, AreRows}

-- the bits below a place
abbrev pub IsFilled : (ℕ → ℕ → Bool) → ℕ → Row → ℕ → Type 0
IsFilled need j row w = (i : ℕ) → has_place row i ≡ (nat_lt i w && need i j)

pub filled_none : (need : ℕ → ℕ → Bool) (j : ℕ) (bits : Row) → ((k : ℕ) → has_place bits k ≡ false) → IsFilled need j bits 0
filled_none need j bits none i = let t : nat_lt i 0 ≡ false = le-ltb i 0 (omega arith) in none i ∙ sym (ap (λ b. b && need i j) t)

tests_more : (i w : ℕ) → nat_lt i (w + 1) ≡ (i == w || nat_lt i w)
tests_more i w = ⊎_elim
    (λ (e : i ≡ w). let t = eq-eqb i w e in let l : nat_lt i (w + 1) ≡ true = lt-ltb i (w + 1) (omega arith) in
    l ∙ sym (ap (λ b. b || nat_lt i w) t))
    (λ (e : i ≡ w → ⊥). let t = ne_eqb i w e in ⊎_elim
    (λ (l : i < w). let a : nat_lt i (w + 1) ≡ true = lt-ltb i (w + 1) (omega arith) in
    a ∙ sym (ap (λ b. b || nat_lt i w) t ∙ lt-ltb i w l))
    (λ (l : w ≤ i). let a : nat_lt i (w + 1) ≡ false = le-ltb i (w + 1) (omega (arith, l, e)) in
    a ∙ sym (ap (λ b. b || nat_lt i w) t ∙ le-ltb i w l))
    (cases_lt i w))
    (cases_eq i w)

pub filled_set : (need : ℕ → ℕ → Bool) (j : ℕ) (row set : Row) (w : ℕ) → need w j ≡ true
    → ((k : ℕ) → has_place set k ≡ (k == w || has_place row k)) → IsFilled need j row w → IsFilled need j set (w + 1)
filled_set need j row set w is one filled i = one i ∙ ⊎_elim
    (λ (e : i ≡ w). let t = eq-eqb i w e in let n : need i j ≡ true = ap (λ v. need v j) e ∙ is in
    ap (λ b. b || has_place row i) t ∙ sym (ap (λ b. b && need i j) (tests_more i w ∙ ap (λ b. b || nat_lt i w) t) ∙ n))
    (λ (e : i ≡ w → ⊥). let t = ne_eqb i w e in
    ap (λ b. b || has_place row i) t ∙ filled i ∙ sym (ap (λ b. b && need i j) (tests_more i w ∙ ap (λ b. b || nat_lt i w) t)))
    (cases_eq i w)

pub filled_skip : (need : ℕ → ℕ → Bool) (j : ℕ) (row : Row) (w : ℕ) → need w j ≡ false → IsFilled need j row w → IsFilled need j row (w + 1)
filled_skip need j row w is filled i = filled i ∙ ⊎_elim
    (λ (e : i ≡ w). let n : need i j ≡ false = ap (λ v. need v j) e ∙ is in let l : nat_lt i w ≡ false = le-ltb i w (omega arith) in
    let m : nat_lt i (w + 1) ≡ true = lt-ltb i (w + 1) (omega arith) in ap (λ b. b && need i j) l ∙ sym (ap (λ b. b && need i j) m ∙ n))
    (λ (e : i ≡ w → ⊥). let t = ne_eqb i w e in ap (λ b. b && need i j) (sym (tests_more i w ∙ ap (λ b. b || nat_lt i w) t)))
    (cases_eq i w)

pub needs_later : (ops : List MicroOp) (syncs : List SyncPoint) (version : Version) (profile : Profile) (i j : ℕ) → j ≤ i
    → needs ops syncs version profile i j ≡ false
unfolding needs
needs_later ops syncs version profile i j h = let e : nat_lt i j ≡ false = le-ltb i j h in rw e refl

pub filled_all : (ops : List MicroOp) (syncs : List SyncPoint) (version : Version) (profile : Profile) (j : ℕ) (row : Row)
    → IsFilled (needs ops syncs version profile) j row j → IsRow (needs ops syncs version profile) j row
filled_all ops syncs version profile j row filled i = filled i ∙ ⊎_elim
    (λ (l : i < j). ap (λ b. b && needs ops syncs version profile i j) (lt-ltb i j l))
    (λ (h : j ≤ i). ap (λ b. b && needs ops syncs version profile i j) (le-ltb i j h) ∙ sym (needs_later ops syncs version profile i j h))
    (cases_lt i j)

pub rows_more : (need : ℕ → ℕ → Bool) (n : ℕ) (rows : List Row) (row : Row) → AreRows need n rows → IsRow need n row
    → AreRows need (n + 1) (rows ++ row ∷ [])
rows_more need n rows row are is = record {
  long = length_push rows row ∙ ap (λ m. m + 1) are.long;
  each = λ j r there.
      let inside = slice_get_within (rows ++ row ∷ []) j r there in
      let got = get_or_from_slice_get (rows ++ row ∷ []) j r r there in
      let more = length_push rows row in
      let long = are.long in
      ⊎_elim
      (λ (e : j ≡ n). subst (IsRow need j) (sym (get_or_at rows row [] r j (are.long ∙ sym e)) ∙ got)
      (subst (λ v. IsRow need v row) (sym e) is))
      (λ (e : j ≡ n → ⊥).
      let low : j < length rows = omega (arith, inside, more, long, e) in
      are.each j r (slice_get-get_or rows j r low ∙ ap Some (sym (get_or_append_left rows (row ∷ []) r j low) ∙ got)))
      (cases_eq j n);
}
