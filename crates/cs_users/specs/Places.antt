-- The place of a name's row among the rows.
use Rattle.std.specs.Prelude.{◌≡◌, ℕ, List, Vec, nat_eq}
use Rattle.std.specs.Global.{Global}
use Rattle.std.specs.HashMap.{HashMap, get_by}
use Rattle.std.specs.Cmp.Lexicographic.{pointwise}
use Rattle.std.specs.declared.hash.BuildHasherDefault.{BuildHasherDefault}
use Rattle.std.specs.declared.hash.FoldHasher.{FoldHasher}
use Rattle.cs_users.specs.Groups.{place_of}
use Rattle.cs_users.specs.Rows.{Row, AreNamed}

-- each row has a legal name of its own, under which its place is kept, and nothing else is kept
pub record IsIndexed (rows : List Row)
    (places : HashMap (Vec ℕ Global) ℕ (BuildHasherDefault FoldHasher)) : Type 0 where
  pub named : AreNamed rows
  pub found : (name : List ℕ)
      → get_by (λ key. pointwise nat_eq name key.items) places ≡ place_of rows name
