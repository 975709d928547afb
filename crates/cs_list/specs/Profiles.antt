-- The profiles whose file systems may leave a set.
use Rattle.std.specs.Prelude.{◌≡◌, ◌↔◌, ℕ, Bool, true, false, IsTrue, List, codes}
use Rattle.cs_trace_lines.specs.Versions.{is_fourth}
use Rattle.cs_trace_lines.specs.declared.profile.Profile.TheVariants.{Blocks, Ordered, Journal}
use Rattle.cs_micro.specs.Micros.{Micros}
use Rattle.cs_apm.specs.Orders.{order_by}
use Rattle.cs_apm.specs.Profiles.{MayBeLeft}
use Rattle.cs_list.specs.declared.profiles.Orders.{Orders}
use Rattle.cs_list.specs.declared.profiles.Profiles.{Profiles}

-- the orders are those of the three profiles
pub record AreOrders (m : Micros) (orders : Orders) : Type 0 where
  pub blocks : orders.blocks ≡ order_by m Blocks
  pub ordered : orders.ordered ≡ order_by m Ordered
  pub journal : orders.journal ≡ order_by m Journal

-- a trace of an earlier version isn't asked about `journal`
pub record MayBeLeftByJournal (m : Micros) (places : List ℕ) : Type 0 where
  pub fourth : is_fourth m.version ≡ true
  pub left : MayBeLeft m Journal places

-- a set has exactly the profiles whose file systems may leave it
pub record HasProfiles (m : Micros) (places : List ℕ) (profiles : Profiles) : Type 0 where
  pub blocks : IsTrue profiles.blocks ↔ MayBeLeft m Blocks places
  pub ordered : IsTrue profiles.ordered ↔ MayBeLeft m Ordered places
  pub journal : IsTrue profiles.journal ↔ MayBeLeftByJournal m places

-- their names as a JSON array
abbrev pub profiles_array : Bool → Bool → Bool → List ℕ
profiles_array false false false = codes "[]"
profiles_array false false true = codes "[\"journal\"]"
profiles_array false true false = codes "[\"ordered\"]"
profiles_array false true true = codes "[\"ordered\",\"journal\"]"
profiles_array true false false = codes "[\"blocks\"]"
profiles_array true false true = codes "[\"blocks\",\"journal\"]"
profiles_array true true false = codes "[\"blocks\",\"ordered\"]"
profiles_array true true true = codes "[\"blocks\",\"ordered\",\"journal\"]"

abbrev pub array_of : Profiles → List ℕ
array_of profiles = profiles_array profiles.blocks profiles.ordered profiles.journal
