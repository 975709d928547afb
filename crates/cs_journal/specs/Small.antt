-- The calls that an entry keeps without allocating.
use Rattle.std.specs.Prelude.{◌==◌, ◌&&◌, not, Bool, true, false, is_some}
use Rattle.cs_fids.specs.declared.place.Place.{Place}
use Rattle.cs_permit.specs.declared.call.Call.{Call}
use Rattle.cs_permit.specs.declared.call.Call.TheVariants as call

-- the place before the first entry of a directory
abbrev pub is_listing_start : Place → Bool
is_listing_start place = place.end == 0 && not (is_some place.last)

-- a call that an entry keeps whole: a close, a remove, a stat, or a read whose place is the start,
-- as every read of a file
abbrev pub is_small : Call → Bool
is_small (call.Close c) = true
is_small (call.Remove c) = true
is_small (call.Stat c) = true
is_small (call.Read c) = is_listing_start c.place
is_small other = false

-- a write, of which the bytes are kept apart from the rest
abbrev pub is_write : Call → Bool
is_write (call.Write c) = true
is_write other = false
