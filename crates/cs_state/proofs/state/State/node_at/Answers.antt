use Rattle.std.proofs.Common.{◌≡◌, ℕ, Option, None, Some, IfSome, refl, sym, ◌∙◌}
use Rattle.cs_entries.specs.declared.node.Node.{Node}
use Rattle.cs_apm.specs.Slots.{slot_at}
use Rattle.cs_state.specs.declared.numbers.Found.{Found}
use Rattle.cs_state.specs.declared.state.State.{State}
use Rattle.cs_state.specs.Shares.{number_of_id}
use Rattle.cs_state.specs.States.{slots_in, IsNodeAt}
use Rattle.cs_state.proofs.state.State.node_at.Goals as goal

node_there : (s : State) (n : ℕ) (f : Found) (slot : Option Node) → f.slot ≡ slot → f.slot ≡ slot_at (slots_in s) f.id
    → number_of_id (slots_in s) f.id ≡ Some n → IfSome slot (IsNodeAt s n)
node_there s n f None is at number = tt
node_there s n f (Some node) is at number = (f.id, (sym at ∙ is, number))

pub returns-clause-there : goal.returns-clause-there
returns-clause-there c =
    let f = c.in_ok-found_at.field-0 in
    node_there c.args.self.now c.args.number f f.slot refl c.in_ok-found_at.ensures.slot c.in_ok-found_at.ensures.number
