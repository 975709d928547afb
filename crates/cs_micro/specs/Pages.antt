-- The pages of a file, in whose ends file systems write sizes and zeros.
use Rattle.std.specs.Prelude.{ℕ, ◌+◌, ◌-◌, ◌*◌, ◌/◌, ◌&&◌, nat_lt, min, Bool, List, [], ◌∷◌}
use Rattle.std.specs.Prelude.{if◌then◌else◌, replicate}
use Rattle.cs_micro.specs.declared.pages.TheConstants.{PAGE_BYTES}

-- the end of the page that an offset is in; of an offset at which a page ends, the offset itself
abbrev pub page_end : ℕ → ℕ
page_end offset = (offset + (PAGE_BYTES - 1)) / PAGE_BYTES * PAGE_BYTES

-- a file of this size grows to the end of its last page, and then past it
abbrev pub grows_past_page : ℕ → ℕ → Bool
grows_past_page size end = nat_lt size (page_end size) && nat_lt (page_end size) end

-- the sizes that a file takes as it grows to `end`
abbrev pub sizes_on_way : ℕ → ℕ → List ℕ
sizes_on_way size end = if grows_past_page size end then page_end size ∷ end ∷ [] else end ∷ []

-- the bytes from a length on that are zeroed before a file of this size is cut to it: those up to
-- the end of the page or of the file, whichever is first
abbrev pub zeros_behind : ℕ → ℕ → List ℕ
zeros_behind size to = replicate (min (page_end to) size - to) 0
