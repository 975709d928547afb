-- What is left of what a command wrote, once it has flushed its output.
use Rattle.std.proofs.Common.{◌≡◌, ℕ, zero, suc, List, [], ◌++◌, Option, None, Some, refl, sym, subst, ◌⊎◌, inl, inr}
use Rattle.std.proofs.KnownBytes.{Appends-kept}
use Rattle.std.proofs.lemmas.List.{append-nil}
use Rattle.std.specs.Prelude.{Result, Ok, Err}
use Rattle.std.specs.Io.KnownBytes.{Appends, Keeps}
use Rattle.cs_stream.specs.Streams.{AppendsFront, Writes}
use Rattle.cs_inputs.specs.Ended.{WritesSuch, reported}

-- all of a text is some of it from the front
pub front_of_all : (old new : Option (List ℕ)) (text : List ℕ) → Appends old new text → AppendsFront old new text
front_of_all old new text all = record { sent = text; unsent = []; parts = sym (append-nil text); appends = all }

pub front_kept : (old mid new : Option (List ℕ)) (text : List ℕ) → AppendsFront old mid text → Keeps mid new → AppendsFront old new text
front_kept old mid new text front kept = record {
  sent = front.sent;
  unsent = front.unsent;
  parts = front.parts;
  appends = Appends-kept old mid new front.sent front.appends kept;
}

pub keeps_kept : (old mid new : Option (List ℕ)) → Keeps old mid → Keeps mid new → Keeps old new
keeps_kept None mid new first then = tt
keeps_kept (Some xs) None new first then = absurd first
keeps_kept (Some xs) (Some ys) None first then = absurd then
keeps_kept (Some xs) (Some ys) (Some zs) first then = subst (λ (v : List ℕ). zs ≡ v) first then

-- a text that has the property was written to its end, or not
pub written_such : {E : Type 0} (P : List ℕ → Type 0) (r : Result (Unit {0}) E) (old new : Option (List ℕ)) (text : List ℕ) → P text
    → Writes r old new text → WritesSuch P r old new
written_such P (Ok done) old new text has all = (text, has, all)
written_such P (Err fault) old new text has front = inr (text, has, front)

failed : {E : Type 0} (P : List ℕ → Type 0) (done : Result (Unit {0}) E) (old mid new : Option (List ℕ)) → WritesSuch P done old mid
    → Keeps mid new → Keeps old new ⊎ ((text : List ℕ) × P text × AppendsFront old new text)
failed P (Ok u) old mid new (text, has, all) kept = inr (text, has, front_kept old mid new text (front_of_all old mid text all) kept)
failed P (Err fault) old mid new (inl same) kept = inl (keeps_kept old mid new same kept)
failed P (Err fault) old mid new (inr (text, has, front)) kept = inr (text, has, front_kept old mid new text front kept)

done_all : {E : Type 0} (P : List ℕ → Type 0) (done : Result (Unit {0}) E) (old mid new : Option (List ℕ)) → done ≡ Ok tt
    → WritesSuch P done old mid → Keeps mid new → (text : List ℕ) × P text × Appends old new text
done_all P (Ok u) old mid new is (text, has, all) kept = (text, has, Appends-kept old mid new text all kept)
done_all P (Err fault) old mid new is w kept = absurd (cc)

-- the status tells whether all was written
pub ended : {E : Type 0} (P : List ℕ → Type 0) (status : ℕ) (done : Result (Unit {0}) E) (old mid new : Option (List ℕ))
    → (status ≡ 0 → done ≡ Ok tt) → WritesSuch P done old mid → Keeps mid new → WritesSuch P (reported status) old new
ended P zero done old mid new said w kept = done_all P done old mid new (said refl) w kept
ended P (suc n) done old mid new said w kept = failed P done old mid new w kept
