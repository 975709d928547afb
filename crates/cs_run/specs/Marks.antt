-- Which allocation of a call fails, as data.
use Rattle.std.specs.Prelude.{Bool, true, false}

-- Whether memory suffices for what a granted call takes.
pub data CallMark : Type 0 where
  Ample : CallMark
  -- an allocation that the grant makes fails
  NoGrant : CallMark

-- memory is refused
abbrev pub is_refused : CallMark → Bool
is_refused Ample = false
is_refused NoGrant = true
