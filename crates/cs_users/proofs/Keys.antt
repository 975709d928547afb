-- A map with keys of bytes, after a change at one of them.
use Rattle.std.proofs.Common.{◌≡◌, ℕ, Bool, true, false, cond, List, Vec, Option, sym, subst, ◌∙◌, ⊎_elim}
use Rattle.std.specs.Global.{Global}
use Rattle.std.specs.HashMap.{HashMap, UpdatesBy, get_by}
use Rattle.std.specs.Cmp.Lexicographic.{pointwise, bytes_decides, nat_list_eq_equiv}
use Rattle.std.specs.Map.{AreApart, IsKeyTest, KeepsOthers, lookup}
use Rattle.std.specs.Prelude.{nat_eq}
use Rattle.std.proofs.lemmas.Bool.{cases_Bool, cond-true, cond-false}

-- the value under these bytes
abbrev pub get_by_bytes : {X S : Type 0} → HashMap (Vec ℕ Global) X S → List ℕ → Option X
get_by_bytes m bytes = get_by (λ key. pointwise nat_eq bytes key.items) m

others_kept : {K X : Type 0} (eq : K → K → Bool) (test : K → Bool) (old new : List (K × X)) → KeepsOthers eq test old new
    → (other : K → Bool) → IsKeyTest eq other → AreApart test other → lookup other new ≡ lookup other old
unfolding KeepsOthers
others_kept eq test old new h = h

apart : (bs cs ks : List ℕ) → pointwise nat_eq bs cs ≡ false → pointwise nat_eq bs ks ≡ true → pointwise nat_eq cs ks ≡ false
apart bs cs ks n y = nat_list_eq_equiv.symm cs ks ∙ sym (nat_list_eq_equiv.congr bs ks cs y) ∙ n

-- it has the new value under those bytes, and what it had under others
pub get_by_bytes-updated : {X S : Type 0} (bs : List ℕ) (m n : HashMap (Vec ℕ Global) X S) (w : Option X)
    → UpdatesBy (λ x y. pointwise nat_eq x.items y.items) (λ key. pointwise nat_eq bs key.items) m n w
    → (cs : List ℕ) → get_by_bytes n cs ≡ cond (pointwise nat_eq bs cs) w (get_by_bytes m cs)
get_by_bytes-updated {X} {S} bs m n w h cs =
    ⊎_elim
    (λ y. subst (λ (l : List ℕ). get_by_bytes n l ≡ w) ((bytes_decides bs cs).0 y) h.1 ∙ sym
    (cond-true (pointwise nat_eq bs cs) w (get_by_bytes m cs) y))
    (λ e. others_kept _ _ _ _ h.3 _ (λ x y. nat_list_eq_equiv.congr cs x.items y.items) (λ key. apart bs cs key.items e) ∙ sym
    (cond-false (pointwise nat_eq bs cs) w (get_by_bytes m cs) e))
    (cases_Bool (pointwise nat_eq bs cs))
