-- What was searched, as what is wanted.
use Rattle.std.proofs.Common.{◌≡◌, ◌≢◌, ℕ, zero, suc, ◌<◌, ◌≤◌, ◌||◌, Bool, true, false, cond, List, [], ◌∷◌, Option, None, Some, IfSome}
use Rattle.std.proofs.Common.{refl, sym, ap, ◌∙◌, subst, ⊎_elim, length, get_or}
use Rattle.std.proofs.lemmas.Bool.{cases_Bool, cases_lt, eq-eqb, false≢true}
use Rattle.std.proofs.lemmas.List.{get_or_past}
use Rattle.std.specs.List.{list_any}
use Rattle.cs_entries.specs.declared.entry.Entry.{Entry}
use Rattle.cs_entries.specs.declared.node.Node.TheVariants.{Directory, File}
use Rattle.cs_entries.specs.Entries.{entry_eq}
use Rattle.cs_trace.specs.Traces.{Trace}
use Rattle.cs_micro.specs.Micros.{Micros}
use Rattle.cs_micro.specs.declared.micro_op.MicroOp.{MicroOp}
use Rattle.cs_micro.specs.declared.micro_op.MicroOp.TheVariants.{Say}
use Rattle.cs_apm.specs.Atlases.{Atlas, IsAtlas}
use Rattle.cs_apm.specs.Rules.{op_at}
use Rattle.cs_apm.specs.Slots.{Slot, slot_of}
use Rattle.cs_apm.specs.States.{start_state}
use Rattle.cs_same_states.specs.Slots.{file_in}
use Rattle.cs_different.specs.Wants.{IsMaker, holds, links, makes}

pub some_weaker : {A : Type 0} {P Q : A → Type 0} (o : Option A) → ((a : A) → P a → Q a) → IfSome o P → IfSome o Q
some_weaker None f h = tt
some_weaker (Some a) f h = f a h

none_of : {X : Type 0} (p : X → Bool) (xs : List X) (d : X) → list_any p xs ≡ false → p d ≡ false → (i : ℕ) → p (get_or xs i d) ≡ false
none_of p [] d none last i = last
none_of p (x ∷ xs) d none last zero = first (p x) (list_any p xs) none
  where
    first : (a b : Bool) → (a || b) ≡ false → a ≡ false
    first true b e = absurd (false≢true (sym e))
    first false b e = refl
none_of p (x ∷ xs) d none last (suc i) = none_of p xs d (later (p x) (list_any p xs) none) last i
  where
    later : (a b : Bool) → (a || b) ≡ false → b ≡ false
    later true b e = absurd (false≢true (sym e))
    later false b e = e

module _ (n : ℕ) where
  no_file : (s : Slot) → holds n s ≡ false → file_in s ≢ Some n
  no_file None none e = cc e
  no_file (Some (Directory d)) none e = cc e
  no_file (Some (File kind k)) none e = (let same : k ≡ n = cc e in false≢true (sym none ∙ eq-eqb k n same))

  no_slot : (es : List Entry) (slots : List Slot) → list_any (holds n) slots ≡ false → (e : Entry)
      → file_in (slot_of es slots e) ≢ Some n
  no_slot [] slots none e is = cc is
  no_slot (f ∷ fs) [] none e is = cc is
  no_slot (f ∷ fs) (s ∷ ss) none e is = ⊎_elim
      (λ (t : entry_eq f e ≡ true).
      no_file s (parts (holds n s) (list_any (holds n) ss) none).0
      (ap file_in (sym (ap (λ b. cond b s (slot_of fs ss e)) t)) ∙ is))
      (λ (g : entry_eq f e ≡ false).
      no_slot fs ss (parts (holds n s) (list_any (holds n) ss) none).1 e
      (ap file_in (sym (ap (λ b. cond b s (slot_of fs ss e)) g)) ∙ is))
      (cases_Bool (entry_eq f e))
    where
      parts : (a b : Bool) → (a || b) ≡ false → (a ≡ false) × (b ≡ false)
      parts true b e = absurd (false≢true (sym e))
      parts false b e = (refl, e)

pub maker_is : (t : Trace) (m : Micros) (known : List MicroOp) (a : Atlas) (n z : ℕ) → known ≡ m.ops → IsAtlas t m a
    → list_any (links n) known ≡ false → list_any (holds n) a.slots ≡ false
    → (z < length known) × (makes n (op_at known z) ≡ true)
    → ((i : ℕ) → i < length known → makes n (op_at known i) ≡ true → i ≡ z)
    → IsMaker (start_state t).entries m.ops n z
maker_is t m known a n z e is unlinked unheld made only =
    let from : IsMaker (start_state t).entries known n z = record {
      made = made.1;
      alone = λ i yes. ⊎_elim
          (λ (low : i < length known). only i low yes)
          (λ (high : length known ≤ i). absurd (false≢true (sym (ap (makes n) (get_or_past known i Say high)) ∙ yes)))
          (cases_lt i (length known));
      linkless = λ i. none_of (links n) known Say unlinked refl i;
      absent = λ f q. no_slot n a.entries a.slots unheld f (ap file_in (sym (is.start f)) ∙ q);
    } in
    subst (λ os. IsMaker (start_state t).entries os n z) e from
