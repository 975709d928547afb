-- What a stream's calls do to its bytes, if these are known, and to its counts.
use Rattle.std.specs.Prelude.{◌≡◌, ℕ, ◌+◌, ◌-◌, ◌<◌, ◌≤◌, ◌⊎◌, ◌==◌, ◌&&◌, min, nat_lt}
use Rattle.std.specs.Prelude.{if◌then◌else◌, List, ◌++◌, length, take, Option}
use Rattle.std.specs.Prelude.{Result, Ok, Err}
use Rattle.std.specs.Io.KnownBytes.{Appends, Consumes, IsAtEnd, Keeps}
use Rattle.cs_names.specs.declared.limits.TheConstants.{CONNECTION_READS, INTERRUPTIONS}
use Rattle.cs_stream.specs.declared.stream.Counts.{Counts}
use Rattle.cs_stream.specs.declared.stream.Transfer.{Transfer}
use Rattle.cs_stream.specs.declared.stream.Transfer.TheVariants.{Bytes, Interrupted, Failed}

-- a read gave the first bytes of what was left; none only at the end, or without room
abbrev pub ReadGives : Option (List ℕ) → Option (List ℕ) → Transfer → List ℕ → Type 0
ReadGives old new (Bytes count) buf =
    (count ≤ length buf) × Consumes old new (take count buf)
    × (count ≡ 0 → 0 < length buf → IsAtEnd new)
ReadGives old new other buf = Keeps old new

-- a write took the first of the bytes
abbrev pub WriteGives : Option (List ℕ) → Option (List ℕ) → Transfer → List ℕ → Type 0
WriteGives old new (Bytes count) buf = (count ≤ length buf) × Appends old new (take count buf)
WriteGives old new other buf = Keeps old new

-- known bytes grow by some of these, from the front
pub record AppendsFront (old new : Option (List ℕ)) (bytes : List ℕ) : Type 0 where
  pub sent : List ℕ
  pub unsent : List ℕ
  pub parts : bytes ≡ sent ++ unsent
  pub appends : Appends old new sent

-- all of the bytes were written, or after a fault some of them from the front
abbrev pub Writes : {E : Type 0} → Result (Unit {0}) E → Option (List ℕ) → Option (List ℕ) → List ℕ
    → Type 0
Writes (Ok done) old new bytes = Appends old new bytes
Writes (Err fault) old new bytes = AppendsFront old new bytes

-- ---- counts

-- so many more, but at most 2^64 - 1
abbrev pub saturating_sum : ℕ → ℕ → ℕ
saturating_sum more count = count + min more (18446744073709551615 - count)

-- the counts after a read that gave this, into so much room
abbrev pub counted_read : Transfer → ℕ → Counts → Counts
counted_read (Bytes count) room c =
    record c {
      reads = saturating_sum 1 c.reads;
      interrupted_reads = 0;
      ends = (if count == 0 && nat_lt 0 room then saturating_sum 1 c.ends else c.ends);
    }
counted_read Interrupted room c =
    record c {
      reads = saturating_sum 1 c.reads;
      interrupted_reads =
          saturating_sum 1 c.interrupted_reads;
    }
counted_read Failed room c =
    record c {
      reads = saturating_sum 1 c.reads;
      interrupted_reads = 0;
      failed_reads =
          saturating_sum 1 c.failed_reads;
    }

-- the counts after a write of so many bytes that gave this
abbrev pub counted_write : Transfer → ℕ → Counts → Counts
counted_write (Bytes count) bytes c =
    record c {
      writes = saturating_sum 1 c.writes;
      interrupted_writes = 0;
      idle_writes =
          (if count == 0 && nat_lt 0 bytes then saturating_sum 1 c.idle_writes else c.idle_writes);
    }
counted_write Interrupted bytes c =
    record c {
      writes = saturating_sum 1 c.writes;
      interrupted_writes =
          saturating_sum 1 c.interrupted_writes;
    }
counted_write Failed bytes c =
    record c {
      writes = saturating_sum 1 c.writes;
      interrupted_writes = 0;
      failed_writes = saturating_sum 1 c.failed_writes;
    }

-- no read was made
pub record KeepsReads (old new : Counts) : Type 0 where
  pub reads : new.reads ≡ old.reads
  pub failed : new.failed_reads ≡ old.failed_reads
  pub interrupted : new.interrupted_reads ≡ old.interrupted_reads
  pub ends : new.ends ≡ old.ends

-- no count of writes, or of their faults, is lower
pub record KeepsFaults (old new : Counts) : Type 0 where
  pub writes : old.writes ≤ new.writes
  pub failed : old.failed_writes ≤ new.failed_writes
  pub idle : old.idle_writes ≤ new.idle_writes

-- the last INTERRUPTIONS calls were all interrupted, and all were made since: the counts are of the
-- calls before and by now, and of the interrupted calls in a row up to now
abbrev pub GaveUp : ℕ → ℕ → ℕ → Type 0
GaveUp before now interrupted =
    (saturating_sum INTERRUPTIONS before ≤ now) × (INTERRUPTIONS ≤ interrupted)

-- at most INTERRUPTIONS of the calls since were interrupted in a row up to now; the counts are of
-- the interrupted calls in a row, before and now
abbrev pub GaveUpInTime : ℕ → ℕ → Type 0
GaveUpInTime before now = now ≤ saturating_sum INTERRUPTIONS before

-- a write failed, or took no byte, or the last ones were all interrupted
abbrev pub BlamesWrites : Counts → Counts → Type 0
BlamesWrites old new =
    (saturating_sum 1 old.failed_writes ≤ new.failed_writes)
    ⊎ (saturating_sum 1 old.idle_writes ≤ new.idle_writes)
    ⊎ GaveUp old.writes new.writes new.interrupted_writes

-- a read failed, or the last ones were all interrupted, or as many were made as a connection has
abbrev pub BlamesReads : Counts → Counts → Type 0
BlamesReads old new =
    (saturating_sum 1 old.failed_reads ≤ new.failed_reads)
    ⊎ GaveUp old.reads new.reads new.interrupted_reads
    ⊎ (saturating_sum CONNECTION_READS old.reads ≤ new.reads)
