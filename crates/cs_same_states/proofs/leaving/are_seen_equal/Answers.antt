use Rattle.std.proofs.Common.{◌≡◌, sym, ap, ◌∙◌, subst, length}
use Rattle.cs_trace.specs.Traces.{Trace}
use Rattle.cs_micro.specs.Micros.{Micros, micros_in}
use Rattle.cs_apm.specs.Atlases.{IsAtlas, atlas_in}
use Rattle.cs_apm.specs.Orders.{needs_of}
use Rattle.cs_sets.specs.Sets.{IsAllowed}
use Rattle.cs_apm.specs.States.{crash_state_of}
use Rattle.cs_apm.proofs.Folding.{if_ok}
use Rattle.cs_same_states.proofs.leaving.are_seen_equal.Goals as goal

pub is_equal_pair-requires-clause-allowed : goal.is_equal_pair-requires-clause-allowed
is_equal_pair-requires-clause-allowed c =
    let back = sym c.trace.ensures in
    record {
      ops = c.ops.ensures.value ∙ ap (λ (m : Micros). m.ops) c.micros.ensures ∙ ap (λ (t : Trace). (micros_in t).ops) back;
      atlas = subst (λ t. IsAtlas t (micros_in t) (atlas_in c.args.parts.now.tables)) back c.requires.parts.atlas;
      first = subst (λ t. IsAllowed (needs_of (micros_in t)) (length (micros_in t).ops) c.args.places.now) back c.requires.first;
      second = subst (λ t. IsAllowed (needs_of (micros_in t)) (length (micros_in t).ops) c.args.others.now) back c.requires.second;
    }

pub returns : goal.returns
returns c =
    if_ok c.is_equal_pair.result (λ same given yes.
    subst (λ t. crash_state_of t (micros_in t) c.args.places.now ≡ crash_state_of t (micros_in t) c.args.others.now) c.trace.ensures
    (given yes)) c.is_equal_pair.ensures
