-- Which memory a connection is refused, as data. The port's own definition says what the port is
-- refused.
use Rattle.std.specs.Prelude.{Bool, true, false, List}

-- in a step: nothing, or what the connection itself takes: room in its table of fids, or a copy of
-- a name in the table
pub data OwnMark : Type 0 where
  Ample : OwnMark
  NoOwn : OwnMark

-- in a message: what decoding it takes, or a mark for each step
pub data MessageMark : Type 0 where
  NoDecode : MessageMark
  Steps : List OwnMark → MessageMark

abbrev pub refuses_own : OwnMark → Bool
refuses_own Ample = false
refuses_own NoOwn = true
