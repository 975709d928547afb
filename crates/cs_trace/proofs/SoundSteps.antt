-- Each operation that is accepted leaves a sound state.
use Rattle.std.proofs.Common.{◌≡◌, ◌≢◌, ℕ, ◌+◌, ◌≤◌, List, [], ◌∷◌, ◌++◌, Ok, refl, sym, ap, ◌∙◌, subst, arith}
use Rattle.std.proofs.lemmas.List.Sums.{sum_by_push}
use Rattle.cs_names.specs.declared.limits.TheConstants.{TREE_RECORDS}
use Rattle.cs_trace.specs.Attributes.{attributes_after}
use Rattle.cs_trace.specs.Judging.{resolve}
use Rattle.cs_trace.specs.Operations.{FileSystem, IsLegal, made_by, system_after, system_after_all}
use Rattle.cs_trace.specs.State.{State}
use Rattle.cs_trace.specs.States.{after_operation}
use Rattle.cs_trace.specs.declared.operation.Operation.{Operation}
use Rattle.cs_trace_lines.specs.Lines as line
use Rattle.cs_trace_lines.specs.Lines.{OperationLine}
use Rattle.cs_trace_lines.specs.declared.version.Version.{Version}
use Rattle.cs_trace_lines.proofs.Octal.{IsOctal}
use Rattle.cs_trace.proofs.Resolved.{IsOfVersion, resolve_taken}
use Rattle.cs_trace.proofs.Sound.{IsSound, IsStart, system_of}
use Rattle.cs_trace.proofs.SoundOperations.{counted_after, housed_after, legal_push, now_after}
use Rattle.cs_trace.proofs.SoundRights.{kept_octal, rights_after_op}

after_push : (fs : FileSystem) (ops : List Operation) (o : Operation)
    → system_after_all fs (ops ++ o ∷ []) ≡ system_after (system_after_all fs ops) o
after_push fs [] o = refl
after_push fs (x ∷ ops) o = after_push (system_after fs x) ops o

module _ (s : State) (sound : IsSound s) (made : s.made ≢ 0) where
  -- the start stays as it was
  same_start : (o : Operation) → IsStart (after_operation s o) sound.initial sound.homes
  same_start o =
      let old = sound.start made in
      record { tree = old.tree; agree = old.agree; at_home = old.at_home; stay = old.stay; many = old.many }

  pub sound_after : (o : Operation) → IsLegal s.version s.system o → s.made + made_by s.version o ≤ TREE_RECORDS
      → IsSound (after_operation s o)
  sound_after o legal few = record {
    fresh = λ none. absurd (made (omega (arith, none)));
    initial = sound.initial;
    homes = sound.homes;
    start = λ _. same_start o;
    now = λ _. now_after s.version s.system (sound.now made) o legal;
    system =
        ap (λ fs. system_after fs o) sound.system ∙ sym (after_push (system_of s sound.initial sound.homes) s.operations o);
    legal =
        legal_push s.version (system_of s sound.initial sound.homes) s.operations o sound.legal
        (subst (λ fs. IsLegal s.version fs o) sound.system legal);
    octal = sound.octal;
    kinds = sound.kinds;
    small = sound.small;
    numbered = sound.numbered;
    linked = sound.linked;
    found = sound.found;
    below = sound.below;
    few = few;
    counted = counted_after s.version s.system.sizes s.made o sound.counted;
    housed = housed_after s.version s.system.homes s.made o sound.housed;
    tallied = (let push = sum_by_push (made_by s.version) s.operations o in let was = sound.tallied in omega (arith, was, push));
    rights =
        kept_octal s.version s.attributes (attributes_after s.attributes o) sound.rights
        (rights_after_op s.version s.system s.attributes o sound.rights legal);
  }

  pub operation_sound : (l : OperationLine) → IsOctal (line.Operation l) → IsOfVersion l s → (o : Operation) → resolve s l ≡ Ok o
      → IsSound (after_operation s o)
  operation_sound l octal version o is =
      let taken = resolve_taken s (sound.now made) sound.rights sound.few l octal version o is in
      sound_after o taken.legal taken.few
