use Rattle.std.proofs.Common.{ℕ, Bool, List, [], false, ◌≡◌}
use Rattle.std.proofs.lemmas.List.Elements.{All-nil}
use Rattle.cs_sets.specs.Sets.{IsAllowed}
use Rattle.cs_sets.specs.Every.{every}
use Rattle.cs_sets.specs.Different.{IsLike, firsts, state_of}
use Rattle.cs_sets.specs.Laws.Complete.{each_allowed, has_each}
use Rattle.cs_sets.specs.Laws.Classes.{different_are}
use Rattle.cs_sets.specs.Laws.Firsts.{all_met, apart, found_any, kept_all}
use Rattle.cs_sets.specs.Laws.Lists.{all_pairs}
use Rattle.cs_sets.proofs.laws.different_members_leave_all.Goals as goal

leaves_like : (act : ℕ → ℕ → ℕ) (start : ℕ) (like : ℕ → ℕ → Bool) → IsLike like
    → IsLike (λ a b. like (state_of act start a) (state_of act start b))
leaves_like act start like fine = record {
  itself = λ x. fine.itself (state_of act start x);
  passes_on = λ x y z p q. fine.passes_on (state_of act start x) (state_of act start y) (state_of act start z) p q;
}

pub returns : goal.returns
returns c = record {
  same = λ act start same like needs n back is fine coarser acts.
      different_are same act start is acts needs n like fine coarser back;
  each = λ act start like needs n places back fine allowed.
      let leaves : List ℕ → List ℕ → Bool = λ a b. like (state_of act start a) (state_of act start b) in
      let w = found_any (λ a. leaves a places) (firsts leaves (every needs n))
      (all_met leaves (leaves_like act start like fine) (every needs n) [] places (has_each needs back n places allowed)) in
      (w.1, ((w.0, w.2, w.3), w.4));
  apart = λ act start like needs n fine.
      let leaves : List ℕ → List ℕ → Bool = λ a b. like (state_of act start a) (state_of act start b) in
      all_pairs (λ a b. leaves a b ≡ false) (firsts leaves (every needs n))
      (apart leaves (leaves_like act start like fine) (every needs n) [] tt);
  allowed = λ act start like needs n back fine.
      let leaves : List ℕ → List ℕ → Bool = λ a b. like (state_of act start a) (state_of act start b) in
      kept_all leaves (leaves_like act start like fine) (IsAllowed needs n) (every needs n) [] (each_allowed needs back n)
      (All-nil (IsAllowed needs n));
}
