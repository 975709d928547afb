use Rattle.cs_start.specs.Starts.{record_at}
use Rattle.cs_start.proofs.Recorded.{places_decide}
use Rattle.cs_start.proofs.start_records.Start.is_same_path.Goals as goal

pub returns : goal.returns
returns c =
    let here = c.entry.result in
    let there = c.entry-2.result in
    places_decide c.are_same_paths.result _ _ (record_at c.args.place here.0.now here.1.now here.2.now)
    (record_at c.args.other_place there.0.now there.1.now there.2.now) c.entry.ensures.value c.entry-2.ensures.value
    c.are_same_paths.ensures
