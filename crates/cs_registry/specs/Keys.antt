-- What names a run: the number of its state, and its own name.
use Rattle.std.specs.Prelude.{ℕ, Bool, ◌&&◌, List, nat_eq}
use Rattle.std.specs.Cmp.{IsEquivalence, and_equiv, nat_eq_equiv, on_equiv}
use Rattle.std.specs.Cmp.Lexicographic.{nat_list_eq_equiv}
use Rattle.cs_names.specs.Texts.{same_bytes}

pub record Key : Type 0 where
  pub number : ℕ
  pub name : List ℕ

abbrev pub same_key : Key → Key → Bool
same_key k l = nat_eq k.number l.number && same_bytes k.name l.name

-- keys that are the same are interchangeable
pub same_key-laws : IsEquivalence same_key
same_key-laws =
    and_equiv (on_equiv (λ (key : Key). key.number) nat_eq_equiv)
    (on_equiv (λ (key : Key). key.name) nat_list_eq_equiv)
