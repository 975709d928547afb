-- What was written stays when the output is flushed.
use Rattle.std.proofs.Common.{List, ℕ, Option}
use Rattle.std.proofs.KnownBytes.{Appends-kept}
use Rattle.std.specs.Io.KnownBytes.{Keeps}
use Rattle.cs_every.specs.Texts.{count_text, picks_text}
use Rattle.cs_inputs.specs.declared.inputs.Inputs.{Inputs}
use Rattle.cs_plan.specs.Scenes.{Scene}
use Rattle.cs_picks.specs.Families.{family_in}
use Rattle.cs_picks.specs.Sets.{PrintsSets, WritesSets, every_in}
use Rattle.cs_picks.specs.declared.sets.PickSets.{PickSets}
use Rattle.cs_picks.specs.declared.sets.PickSets.TheVariants.{Of, Every, EveryUnder, Different, DifferentUnder, Count, Sample}
use Rattle.cs_picks.specs.Under.{WritesThose}
use Rattle.cs_different.specs.Members.{AreAll, IsMember}
use Rattle.cs_different.specs.Under.{AreDifferentUnder}
use Rattle.std.proofs.Common.{length}

those_kept : (Are : List (List ℕ) → Type 0) (most : ℕ) (old mid new : Option (List ℕ)) → WritesThose Are most old mid → Keeps mid new
    → WritesThose Are most old new
those_kept Are most old mid new written kept = record {
  sets = written.sets;
  are = written.are;
  few = written.few;
  written = Appends-kept old mid new (picks_text written.sets) written.written kept;
}

writes_kept : (s : Scene) (sets : PickSets) (old mid new : Option (List ℕ)) → WritesSets s sets old mid → Keeps mid new
    → WritesSets s sets old new
writes_kept s (Of family) old mid new written kept = Appends-kept old mid new (picks_text (family_in s family)) written kept
writes_kept s (Every most) old mid new written kept = (written.0, Appends-kept old mid new (picks_text (every_in s)) written.1 kept)
writes_kept s (Different most) old mid new written kept = record {
  sets = written.sets;
  different = written.different;
  few = written.few;
  written = Appends-kept old mid new (picks_text written.sets) written.written kept;
}
writes_kept s (EveryUnder profile most) old mid new written kept = those_kept (AreAll (IsMember s profile)) most old mid new written kept
writes_kept s (DifferentUnder profile most) old mid new written kept =
    those_kept (AreDifferentUnder s profile) most old mid new written kept
writes_kept s Count old mid new written kept = Appends-kept old mid new (count_text (length (every_in s))) written kept
writes_kept s (Sample seed count) old mid new written kept = record {
  drawn = written.drawn;
  long = written.long;
  members = written.members;
  written = Appends-kept old mid new (picks_text written.drawn) written.written kept;
}

pub prints_kept : (inputs : Inputs) (sets : PickSets) (old mid new : Option (List ℕ)) → PrintsSets inputs sets old mid → Keeps mid new
    → PrintsSets inputs sets old new
prints_kept inputs sets old mid new (s, is, both) kept = (s, is, (both.0, writes_kept s sets old mid new both.1 kept))
