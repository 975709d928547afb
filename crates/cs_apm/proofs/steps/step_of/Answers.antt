use Rattle.std.proofs.Common.{arith, subst}
use Rattle.cs_entries.specs.DirEntries.{root_home}
use Rattle.cs_apm.specs.Making.{HasTouched}
use Rattle.cs_apm.proofs.steps.step_of.Goals as goal

pub place_of_entry-requires-clause-there : goal.place_of_entry-requires-clause-there
place_of_entry-requires-clause-there c =
    (subst (HasTouched c.args.entries.now) c.in-CreateDirEntry.is c.requires.there) 0 root_home (omega arith)

pub place_of_entry-requires-in-DeleteDirEntry-clause-there :
    goal.place_of_entry-requires-in-DeleteDirEntry-clause-there
place_of_entry-requires-in-DeleteDirEntry-clause-there c =
    (subst (HasTouched c.args.entries.now) c.in-DeleteDirEntry.is c.requires.there) 0 root_home (omega arith)

pub place_of_entry-requires-in-MoveDirEntry-clause-there :
    goal.place_of_entry-requires-in-MoveDirEntry-clause-there
place_of_entry-requires-in-MoveDirEntry-clause-there c =
    (subst (HasTouched c.args.entries.now) c.in-MoveDirEntry.is c.requires.there) 0 root_home (omega arith)

pub place_of_entry-requires-in-LinkDirEntry-clause-there :
    goal.place_of_entry-requires-in-LinkDirEntry-clause-there
place_of_entry-requires-in-LinkDirEntry-clause-there c =
    (subst (HasTouched c.args.entries.now) c.in-LinkDirEntry.is c.requires.there) 0 root_home (omega arith)
