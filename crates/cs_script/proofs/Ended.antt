-- What is left of what a script wrote, once its output is flushed.
use Rattle.std.proofs.Common.{◌≡◌, ℕ, zero, suc, List, [], Option, refl, sym, subst, inl, inr}
use Rattle.std.proofs.lemmas.List.{append-nil}
use Rattle.std.proofs.KnownBytes.{Appends-kept}
use Rattle.std.specs.Prelude.{Result, Ok, Err}
use Rattle.std.specs.Io.KnownBytes.{Keeps}
use Rattle.cs_world.specs.Worlds.{World}
use Rattle.cs_inputs.specs.Ended.{reported}
use Rattle.cs_inputs.specs.declared.inputs.Inputs.{Inputs}
use Rattle.cs_inputs.proofs.Flushing.{front_kept, front_of_all, keeps_kept}
use Rattle.cs_script.specs.Scripted.{RanTo, Scripts, StoppedAt}
use Rattle.cs_script.specs.declared.script.ScriptLine.{ScriptLine}

ran_kept : (w : World) (lines : List ScriptLine) (old mid new : Option (List ℕ)) (w' : World) → RanTo w lines old mid w' → Keeps mid new
    → RanTo w lines old new w'
ran_kept w lines old mid new w' r kept = record {
  text = r.text;
  prints = r.prints;
  written = Appends-kept old mid new r.text r.written kept;
}

-- all of the lines are the first ones, with none after them
stopped_at_end : (w : World) (lines : List ScriptLine) (old mid new : Option (List ℕ)) (w' : World) → RanTo w lines old mid w'
    → Keeps mid new → StoppedAt w lines old new w'
stopped_at_end w lines old mid new w' r kept = record {
  run = lines;
  unrun = [];
  text = r.text;
  parts = sym (append-nil lines);
  prints = r.prints;
  written = front_kept old mid new r.text (front_of_all old mid r.text r.written) kept;
}

stopped_kept : (w : World) (lines : List ScriptLine) (old mid new : Option (List ℕ)) (w' : World) → StoppedAt w lines old mid w'
    → Keeps mid new → StoppedAt w lines old new w'
stopped_kept w lines old mid new w' s kept = record {
  run = s.run;
  unrun = s.unrun;
  text = s.text;
  parts = s.parts;
  prints = s.prints;
  written = front_kept old mid new s.text s.written kept;
}

ran_all : {E : Type 0} (inputs : Inputs) (done : Result (Unit {0}) E) (came left old mid new : Option (List ℕ)) → done ≡ Ok tt
    → Scripts inputs done came left old mid → Keeps mid new → Scripts inputs (reported zero) came left old new
ran_all inputs (Ok u) came left old mid new is (w, w', lines, begins, ran) kept = (
  w,
  w',
  lines,
  begins,
  ran_kept w lines old mid new w' ran kept,
)
ran_all inputs (Err fault) came left old mid new is s kept = absurd (cc)

ran_some : {E : Type 0} (inputs : Inputs) (n : ℕ) (done : Result (Unit {0}) E) (came left old mid new : Option (List ℕ))
    → Scripts inputs done came left old mid → Keeps mid new → Scripts inputs (reported (suc n)) came left old new
ran_some inputs n (Ok u) came left old mid new (w, w', lines, begins, ran) kept =
    inr (w, w', lines, begins, stopped_at_end w lines old mid new w' ran kept)
ran_some inputs n (Err fault) came left old mid new (inl same) kept = inl (keeps_kept old mid new same kept)
ran_some inputs n (Err fault) came left old mid new (inr (w, w', lines, begins, stopped)) kept =
    inr (w, w', lines, begins, stopped_kept w lines old mid new w' stopped kept)

pub ended : {E : Type 0} (inputs : Inputs) (status : ℕ) (done : Result (Unit {0}) E) (came left old mid new : Option (List ℕ))
    → (status ≡ 0 → done ≡ Ok tt) → Scripts inputs done came left old mid → Keeps mid new
    → Scripts inputs (reported status) came left old new
ended inputs zero done came left old mid new said s kept = ran_all inputs done came left old mid new (said refl) s kept
ended inputs (suc n) done came left old mid new said s kept = ran_some inputs n done came left old mid new s kept

-- the same of the reader and the writers that a stream was made of and came apart into
pub ended_over : {E : Type 0} (inputs : Inputs) (status : ℕ) (done : Result (Unit {0}) E)
    (came came' left old old' mid mid' new : Option (List ℕ)) → came ≡ came' → old ≡ old' → mid' ≡ mid → (status ≡ 0 → done ≡ Ok tt)
    → Scripts inputs done came left old mid → Keeps mid' new → Scripts inputs (reported status) came' left old' new
ended_over inputs status done came came' left old old' mid mid' new a b m said s kept =
    subst (λ (x : Option (List ℕ)). Scripts inputs (reported status) x left old' new) a
    (subst (λ (x : Option (List ℕ)). Scripts inputs (reported status) came left x new) b
    (ended inputs status done came left old mid new said s (subst (λ (x : Option (List ℕ)). Keeps x new) m kept)))
