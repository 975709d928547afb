use Rattle.std.proofs.Common.{◌∙◌, ap}
use Rattle.cs_world.specs.Asking.{find_answer, found_by}
use Rattle.cs_world.proofs.Finding.{finds}
use Rattle.cs_world.proofs.runs.RunsPort.find.Goals as goal

pub returns : goal.returns
returns c =
    let is = finds c.self.inside.states c.in-Some.key c.find_key.result c.find_key.new.self c.find_key.ensures.finds in
    (is.0, rw (← c.self.view_is) (ap find_answer is.1 ∙ ap (found_by c.self.inside.states is.0) c.in-Some.ensures))
