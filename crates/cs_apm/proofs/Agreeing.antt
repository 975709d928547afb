-- The order of a trace says what the rules say, and allows the same sets.
use Rattle.std.proofs.Common.{◌≡◌, ℕ, ◌<◌, List, length, sym, subst}
use Rattle.cs_trace_lines.specs.declared.profile.Profile.{Profile}
use Rattle.cs_micro.specs.Micros.{Micros}
use Rattle.cs_sets.specs.Orders.{needs_in}
use Rattle.cs_sets.specs.Sets.{IsAllowed}
use Rattle.cs_apm.specs.Laws.Allowed.{same_allowed}
use Rattle.cs_apm.specs.Orders.{needs_by, order_by}
use Rattle.cs_apm.proofs.Entries.{entry_of_rules, length_table}

module _ (m : Micros) (profile : Profile) where
  abbrev n : ℕ
  n = length m.ops

  says : (i j : ℕ) → j < n → needs_in (order_by m profile) i j ≡ needs_by m profile i j
  says i j low = entry_of_rules m.ops m.syncs m.version profile n i j low

  long : length (order_by m profile) ≡ n
  long = length_table (needs_by m profile) n

  pub order_says : (i j : ℕ) → j < length m.ops → needs_in (order_by m profile) i j ≡ needs_by m profile i j
  order_says = says

  pub allowed_by_rules : (places : List ℕ) → IsAllowed (needs_in (order_by m profile)) (length (order_by m profile)) places
      → IsAllowed (needs_by m profile) (length m.ops) places
  allowed_by_rules places h =
      same_allowed (needs_in (order_by m profile)) (needs_by m profile) n places says
      (subst (λ k. IsAllowed (needs_in (order_by m profile)) k places) long h)

  pub allowed_by_order : (places : List ℕ) → IsAllowed (needs_by m profile) (length m.ops) places
      → IsAllowed (needs_in (order_by m profile)) (length (order_by m profile)) places
  allowed_by_order places h =
      subst (λ k. IsAllowed (needs_in (order_by m profile)) k places) (sym long)
      (same_allowed (needs_by m profile) (needs_in (order_by m profile)) n places (λ i j low. sym (says i j low)) h)
