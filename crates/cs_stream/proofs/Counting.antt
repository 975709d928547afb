-- Counts over several calls.
use Rattle.std.proofs.Common.{◌≡◌, ℕ, ◌+◌, ◌<◌, ◌≤◌, Bool, true, false, cond, eqb, ltb, ◌&&◌, refl, ap, ◌∙◌, inl, inr, arith}
use Rattle.std.proofs.lemmas.Bool.{eqb-true, lt-ltb}
use Rattle.cs_stream.specs.declared.stream.Counts.{Counts}
use Rattle.cs_stream.specs.declared.stream.Transfer.{Transfer}
use Rattle.cs_stream.specs.declared.stream.Transfer.TheVariants.{Bytes, Interrupted, Failed}
use Rattle.cs_stream.specs.Streams.{saturating_sum, counted_read, counted_write, KeepsReads, KeepsFaults, BlamesWrites}

pub keeps_reads_same : (c : Counts) → KeepsReads c c
keeps_reads_same c = record { reads = refl; failed = refl; interrupted = refl; ends = refl }

pub keeps_reads_then : (a b c : Counts) → KeepsReads a b → KeepsReads b c → KeepsReads a c
keeps_reads_then a b c p q = record {
  reads = q.reads ∙ p.reads;
  failed = q.failed ∙ p.failed;
  interrupted = q.interrupted ∙ p.interrupted;
  ends = q.ends ∙ p.ends;
}

counted_write_keeps : (done : Transfer) (bytes : ℕ) (c : Counts) → KeepsReads c (counted_write done bytes c)
counted_write_keeps (Bytes count) bytes c = record { reads = refl; failed = refl; interrupted = refl; ends = refl }
counted_write_keeps other bytes c = record { reads = refl; failed = refl; interrupted = refl; ends = refl }

-- a write makes no read
pub keeps_reads_more : (a b c : Counts) (done : Transfer) (bytes : ℕ) → KeepsReads a b → c ≡ counted_write done bytes b → KeepsReads a c
keeps_reads_more a b c done bytes p e = rw e (keeps_reads_then a b (counted_write done bytes b) p (counted_write_keeps done bytes b))

-- a count that may rise doesn't fall
pub up_if : (test : Bool) (was count : ℕ) → was ≤ count → was ≤ cond test (saturating_sum 1 count) count
up_if true was count le = omega (arith, le)
up_if false was count le = le

pub keeps_faults_same : (c : Counts) → KeepsFaults c c
keeps_faults_same c = record { writes = omega arith; failed = omega arith; idle = omega arith }

pub keeps_faults_then : (a b c : Counts) → KeepsFaults a b → KeepsFaults b c → KeepsFaults a c
keeps_faults_then a b c p q = record {
  writes = omega (arith, p.writes, q.writes);
  failed = omega (arith, p.failed, q.failed);
  idle = omega (arith, p.idle, q.idle);
}

-- a fault that came later came since
pub blames_writes : (a b c : Counts) → KeepsFaults a b → BlamesWrites b c → BlamesWrites a c
blames_writes a b c p (inl failed) = inl (omega (arith, p.failed, failed))
blames_writes a b c p (inr (inl idle)) = inr (inl (omega (arith, p.idle, idle)))
blames_writes a b c p (inr (inr gave)) = inr (inr (omega (arith, p.writes, gave.0), gave.1))

-- what is known of the reads so far, none of which met an end
pub record Reading (count : ℕ) (was is : Counts) : Type 0 where
  pub reads : is.reads ≡ saturating_sum count was.reads
  pub failed : was.failed_reads ≤ is.failed_reads
  pub ends : is.ends ≡ was.ends
  pub faults : KeepsFaults was is

counted_reading : (count : ℕ) (was is : Counts) (done : Transfer) (room : ℕ) → Reading count was is
    → (counted_read done room is).ends ≡ is.ends → Reading (count + 1) was (counted_read done room is)
counted_reading count was is (Bytes n) room r same = record {
  reads = omega (arith, r.reads);
  failed = r.failed;
  ends = same ∙ r.ends;
  faults = record { writes = r.faults.writes; failed = r.faults.failed; idle = r.faults.idle };
}
counted_reading count was is Interrupted room r same = record {
  reads = omega (arith, r.reads);
  failed = r.failed;
  ends = r.ends;
  faults = record { writes = r.faults.writes; failed = r.faults.failed; idle = r.faults.idle };
}
counted_reading count was is Failed room r same = record {
  reads = omega (arith, r.reads);
  failed = omega (arith, r.failed);
  ends = r.ends;
  faults = record { writes = r.faults.writes; failed = r.faults.failed; idle = r.faults.idle };
}

-- one read more, which met no end
pub reading_more : (count : ℕ) (was is : Counts) (done : Transfer) (room : ℕ) (new : Counts) → Reading count was is
    → new ≡ counted_read done room is → (counted_read done room is).ends ≡ is.ends → Reading (count + 1) was new
reading_more count was is done room new r e same = rw e (counted_reading count was is done room r same)

-- and no more
pub reading_kept : (count : ℕ) (was is new : Counts) → Reading count was is → KeepsReads is new → KeepsFaults is new → Reading count was new
reading_kept count was is new r keeps faults = record {
  reads = keeps.reads ∙ r.reads;
  failed = omega (arith, r.failed, keeps.failed);
  ends = keeps.ends ∙ r.ends;
  faults = keeps_faults_then was is new r.faults faults;
}

-- a read of some bytes meets no end
pub no_end : (count room ends : ℕ) → 0 < count → cond (eqb count 0 && ltb 0 room) (saturating_sum 1 ends) ends ≡ ends
no_end count room ends some = by (eqb count 0) refl
  where
    by : (b : Bool) → eqb count 0 ≡ b → cond (b && ltb 0 room) (saturating_sum 1 ends) ends ≡ ends
    by true none = (let zero : count ≡ 0 = eqb-true count 0 none in absurd (omega arith))
    by false none = refl

-- an end was met
pub one_end : (was is room : ℕ) → is ≡ was → 0 < room → cond (eqb 0 0 && ltb 0 room) (saturating_sum 1 is) is ≡ saturating_sum 1 was
one_end was is room same some = rw (lt-ltb 0 room some) (ap (saturating_sum 1) same)
