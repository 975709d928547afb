-- How a fid is made, moved and opened.
use Rattle.std.specs.Prelude.{ℕ, List, None}
use Rattle.cs_fids.specs.FidOf.{FidOf}
use Rattle.cs_fids.specs.declared.fid.Walked.{Walked}
use Rattle.cs_fids.specs.declared.fid.Opened.{Opened}
use Rattle.cs_fids.specs.declared.place.Place.{Place}

-- before the first entry of a directory
abbrev pub first_place : Place
first_place = record { end = 0; last = None }

-- a fid that isn't open
abbrev pub walked_fid : ℕ → ℕ → ℕ → List ℕ → FidOf Walked
walked_fid run pass number user = record {
  run = run;
  pass = pass;
  number = number;
  user = user;
  state = record {};
}

-- the same fid, for another file of its run
abbrev pub moved_to : FidOf Walked → ℕ → FidOf Walked
moved_to fid number = record fid { number = number }

-- the same fid, open, with the reads of a directory at their start
abbrev pub opened_fid : FidOf Walked → ℕ → ℕ → FidOf Opened
opened_fid fid mode open_number = record {
  run = fid.run;
  pass = fid.pass;
  number = fid.number;
  user = fid.user;
  state = record { mode = mode; open_number = open_number; place = first_place };
}

-- the same fid, with its reads of a directory continuing at that place
abbrev pub with_place : FidOf Opened → Place → FidOf Opened
with_place fid place = record fid {
  state = record { mode = fid.state.mode; open_number = fid.state.open_number; place = place };
}
