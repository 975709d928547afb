-- Rights: the union of what others, the owner and the group may do.
use Rattle.std.specs.Prelude.{◌≡◌, ◌≢◌, ◌⊎◌, ℕ, ◌*◌, Bool, ◌&&◌, ◌||◌, ◌==◌, not, List, bit_and}
use Rattle.cs_users.specs.Rows.{Row, none_name}
use Rattle.cs_users.specs.Members.{IsMember, same_name, is_member}
use Rattle.cs_users.specs.declared.rights.Right.{Right}
use Rattle.cs_users.specs.declared.rights.Right.TheVariants.{Read, Write, Execute}

-- the bit of a right among those of others
abbrev pub bit_of : Right → ℕ
bit_of Read = 4
bit_of Write = 2
bit_of Execute = 1

-- the mode has a bit of the mask
abbrev pub has_bit : ℕ → ℕ → Bool
has_bit mode mask = not (bit_and mode mask == 0)

-- the mode has that bit
abbrev pub HasBit : ℕ → ℕ → Type 0
HasBit mode bit = bit_and mode bit ≢ 0

-- the user is the owner, and not `none`
pub record Owns (user owner : List ℕ) : Type 0 where
  pub same : user ≡ owner
  pub somebody : user ≢ none_name

-- the test of the same
abbrev pub owns : List ℕ → List ℕ → Bool
owns user owner = same_name user owner && not (same_name user none_name)

-- others may, or the owner, who is the user, may, or the group, of which the user is a member, may
abbrev pub HasRight : List Row → List ℕ → List ℕ → List ℕ → ℕ → Right → Type 0
HasRight rows user owner group mode right =
    HasBit mode (bit_of right) ⊎ (Owns user owner × HasBit mode (bit_of right * 64))
    ⊎ (IsMember rows user group × HasBit mode (bit_of right * 8))

-- the bit is set for others, or for the owner, or for the group
abbrev pub mode_allows : ℕ → Bool → Bool → ℕ → Bool
mode_allows mode owner member bit =
    has_bit mode bit || (owner && has_bit mode (bit * 64)) || (member && has_bit mode (bit * 8))

-- the test of the same
abbrev pub has_right : List Row → List ℕ → List ℕ → List ℕ → ℕ → Right → Bool
has_right rows user owner group mode right =
    mode_allows mode (owns user owner) (is_member rows user group) (bit_of right)
