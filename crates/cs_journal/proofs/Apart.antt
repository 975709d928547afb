-- The calls of which an entry and a receipt share nothing.
use Rattle.std.proofs.Common.{◌≡◌, Bool, true, false, refl}
use Rattle.std.specs.Prelude.{◌||◌}
use Rattle.cs_permit.specs.declared.call.Call.{Call}
use Rattle.cs_permit.specs.declared.call.Call.TheVariants as k
use Rattle.cs_permit.specs.declared.call.WriteCall.{WriteCall}
use Rattle.cs_journal.specs.Small.{is_small, is_listing_start, is_write}

without_false : (b : Bool) → (b || false) ≡ true → b ≡ true
without_false true is = refl
without_false false is = is

-- a small call, or a write, is small if it isn't a write
pub small_unless_write : (call : Call) → (is_small call || is_write call) ≡ true
    → ((c : WriteCall) → call ≡ k.Write c → ⊥) → is_small call ≡ true
small_unless_write (k.Write c) is other = absurd (other c refl)
small_unless_write (k.Attach c) is other = is
small_unless_write (k.Walk c) is other = is
small_unless_write (k.Open c) is other = is
small_unless_write (k.Create c) is other = is
small_unless_write (k.Read c) is other = without_false (is_listing_start c.place) is
small_unless_write (k.Close c) is other = refl
small_unless_write (k.Remove c) is other = refl
small_unless_write (k.Stat c) is other = refl
small_unless_write (k.Wstat c) is other = is
