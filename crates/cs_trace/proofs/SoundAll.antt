-- All lines that are accepted leave a sound state.
use Rattle.std.proofs.Common.{◌≡◌, ◌≢◌, ℕ, ◌+◌, ◌==◌, Bool, true, false, List, [], ◌∷◌, length}
use Rattle.std.proofs.Common.{Option, None, Some, option_map, Result, Ok, Err, refl, sym, ap, ◌∙◌, subst, arith, ◌≤◌}
use Rattle.std.proofs.lemmas.Bool.{eqb-false, eqb-true}
use Rattle.std.specs.FinMap.{get, get-empty}
use Rattle.std.specs.Option.{option_and_then, option_map_or}
use Rattle.std.specs.Prelude.{if◌then◌else◌}
use Rattle.cs_start.specs.Names.{entry_path_of}
use Rattle.cs_start.specs.declared.entry.StartEntry.{StartEntry}
use Rattle.cs_tree_model.specs.Maps.Values.{get-map_values}
use Rattle.cs_tree_model.specs.Tree.{Path, path_cmp}
use Rattle.std.proofs.lemmas.List.{length-map}
use Rattle.cs_trace.specs.Judging.{and_then, or_bad_name, resolve}
use Rattle.cs_trace.specs.Kept.{IsBounded, IsStarting}
use Rattle.cs_trace.specs.Names.{are_user_names, new_path_of}
use Rattle.cs_trace.specs.State.{State, empty_state}
use Rattle.cs_trace.specs.States.{after_header, after_operation, at_line, first_step, later_step, line_step, start_link_step, start_step}
use Rattle.cs_trace.specs.States.{state_from, state_in, step}
use Rattle.cs_trace.specs.Traces.{IsTrace, trace_of_state}
use Rattle.cs_trace.specs.declared.fault.TraceFault.{TraceFault}
use Rattle.cs_trace.specs.declared.fault.TraceFaultKind.{TraceFaultKind}
use Rattle.cs_trace.specs.declared.fault.TraceFaultKind.TheVariants.{BadName, Syntax, UnknownOp}
use Rattle.cs_trace_lines.specs.Lines.{Header, Line, Operation, OperationLine, Start, StartLine, StartLink, UnknownOperation, UnknownStart}
use Rattle.cs_trace_lines.specs.Values.{Claims}
use Rattle.cs_trace_lines.specs.Lines.{line_in}
use Rattle.cs_trace_lines.specs.Values.{is_blank}
use Rattle.cs_trace_lines.specs.declared.version.Version.{Version}
use Rattle.cs_trace_lines.proofs.Octal.{IsOctal, line_octal}
use Rattle.cs_trace_lines.proofs.Versioned.{IsOfVersion, line_versioned}
use Rattle.cs_trace.proofs.Accepted.{good, legal_is, then_by}
use Rattle.cs_trace.proofs.Named.{entry_named, named_new}
use Rattle.cs_trace.proofs.Sound.{IsSound, entry_size}
use Rattle.cs_trace.proofs.SoundFirst.{empty_sound, header_sound}
use Rattle.cs_trace.proofs.SoundLines.{start_link_sound, start_sound}
use Rattle.cs_trace.proofs.SoundStarts.{begun, node_of}
use Rattle.cs_trace.proofs.SoundSteps.{operation_sound}
use Rattle.cs_trace.proofs.Whole.{whole_is}

no_length : {X : Type 0} (xs : List X) → length xs ≡ 0 → xs ≡ []
no_length [] none = refl
no_length (x ∷ xs) none = absurd (omega (arith, none))

-- ---- the header

header_by : (version : Version) (claims : Claims) → claims.permissions ≤ 511 → (legal : Bool) (next : State)
    → (if legal then Ok (after_header empty_state version claims) else Err BadName) ≡ Ok next → IsSound next
header_by version claims octal true next is =
    let same : after_header empty_state version claims ≡ next = cc in subst IsSound same (header_sound version claims octal)
header_by version claims octal false next is = absurd (cc)

first_sound : (l : Line) → IsOctal l → (next : State) → first_step empty_state l ≡ Ok next → IsSound next
first_sound (Header version claims) octal next is = header_by version claims octal (are_user_names claims) next is
first_sound (Start line) octal next is = absurd (cc)
first_sound (StartLink path from) octal next is = absurd (cc)
first_sound (Operation line) octal next is = absurd (cc)
first_sound UnknownStart octal next is = absurd (cc)
first_sound UnknownOperation octal next is = absurd (cc)

-- ---- the other lines

no_fault : (kind : TraceFaultKind) (next : State) → Err kind ≡ Ok next → ⊥
no_fault kind next h = cc

module _ (s : State) (sound : IsSound s) (made : s.made ≢ 0) where
  started : (l : StartLine) → l.claims.permissions ≤ 511 → s.operations ≡ [] → (next : State) → start_step s l ≡ Ok next → IsSound next
  started l octal none =
      then_by (or_bad_name (new_path_of l.path l.claims)) _ IsSound (λ p is.
      (let named = named_new l.path l.claims p (legal_is (new_path_of l.path l.claims) p is) in
      start_sound s sound made none p named.0 named.1 l.claims octal l.content))

  linked : (path from : List ℕ) → s.operations ≡ [] → (next : State) → start_link_step s path from ≡ Ok next → IsSound next
  linked path from none =
      then_by (or_bad_name (entry_path_of path)) _ IsSound (λ q is.
      then_by (or_bad_name (entry_path_of from)) _ IsSound (λ p _.
      start_link_sound s sound made none p q (entry_named path q (legal_is (entry_path_of path) q is)).0))

  if_first : (none : Bool) → length s.operations == 0 ≡ none → (r : Result State TraceFaultKind) (kind : TraceFaultKind)
      → (s.operations ≡ [] → (next : State) → r ≡ Ok next → IsSound next)
      → (next : State) → (if none then r else Err kind) ≡ Ok next → IsSound next
  if_first true is r kind each next does = each (no_length s.operations (eqb-true (length s.operations) 0 is)) next does
  if_first false is r kind each next does = absurd (no_fault kind next does)

  later_sound : (l : Line) → IsOctal l → IsOfVersion s.version l → (next : State) → later_step s l ≡ Ok next → IsSound next
  later_sound (Header version claims) octal of next is = absurd (cc)
  later_sound (Start line) octal of next is =
      if_first (length s.operations == 0) refl (start_step s line) Syntax (started line octal) next is
  later_sound (StartLink path from) octal of next is =
      if_first (length s.operations == 0) refl (start_link_step s path from) Syntax (linked path from) next is
  later_sound UnknownStart octal of next is = unknown (length s.operations == 0) is
    where
      unknown : (none : Bool) → (if none then Err UnknownOp else Err Syntax) ≡ Ok next → IsSound next
      unknown true h = absurd (no_fault UnknownOp next h)
      unknown false h = absurd (no_fault Syntax next h)
  later_sound (Operation l) octal of next is =
      then_by (resolve s l) _ IsSound
      (λ o does y same. subst IsSound (ok_same (after_operation s o) y same) (operation_sound s sound made l octal of o does)) next is
    where
      ok_same : (a b : State) → good a ≡ Ok b → a ≡ b
      ok_same a b h = cc
  later_sound UnknownOperation octal of next is = absurd (cc)

line_by : (s : State) → IsSound s → (l : Line) → IsOctal l → IsOfVersion s.version l → (fresh : Bool) → s.made == 0 ≡ fresh → (next : State)
    → (if fresh then first_step s l else later_step s l) ≡ Ok next → IsSound next
line_by s sound l octal of true is next does =
    let same = sound.fresh (eqb-true s.made 0 is) in
    first_sound l octal next (ap (λ x. first_step x l) (sym same) ∙ does)
line_by s sound l octal of false is next does = later_sound s sound (eqb-false s.made 0 is) l octal of next does

read_by : (s : State) → IsSound s → (text : List ℕ) (o : Option Line) → line_in s.version text ≡ o → (next : State)
    → option_map_or (line_step s) o (Err Syntax) ≡ Ok next → IsSound next
read_by s sound text None is next does = absurd (no_fault Syntax next does)
read_by s sound text (Some l) is next does =
    line_by s sound l (line_octal s.version text l is) (line_versioned s.version text l is) (s.made == 0) refl next does

step_by : (s : State) → IsSound s → (text : List ℕ) (blank : Bool) (next : State)
    → (if blank then Ok s else option_map_or (line_step s) (line_in s.version text) (Err Syntax)) ≡ Ok next → IsSound next
step_by s sound text true next does = let same : s ≡ next = cc in subst IsSound same sound
step_by s sound text false next does = read_by s sound text (line_in s.version text) refl next does

pub step_sound : (s : State) → IsSound s → (text : List ℕ) (next : State) → step s text ≡ Ok next → IsSound next
step_sound s sound text next does = step_by s sound text (is_blank text) next does

-- ---- all lines

from_by : (number : ℕ) (r : Result State TraceFaultKind) (rest : State → Result State TraceFault) (last : State)
    → ((next : State) → r ≡ Ok next → rest next ≡ Ok last → IsSound last) → and_then (at_line number r) rest ≡ Ok last → IsSound last
from_by number (Ok next) rest last each is = each next refl is
from_by number (Err kind) rest last each is = absurd (cc)

from_sound : (s : State) → IsSound s → (number : ℕ) (lines : List (List ℕ)) (last : State) → state_from s number lines ≡ Ok last
    → IsSound last
from_sound s sound number [] last is = let same : s ≡ last = cc in subst IsSound same sound
from_sound s sound number (text ∷ lines) last is =
    from_by number (step s text) (λ next. state_from next (number + 1) lines) last
    (λ next does rest. from_sound next (step_sound s sound text next does) (number + 1) lines last rest) is

pub state_sound : (lines : List (List ℕ)) (s : State) → state_in lines ≡ Ok s → IsSound s
state_sound lines s is = from_sound empty_state empty_sound 1 lines s is

-- a state that isn't empty is a trace
pub trace_whole : (lines : List (List ℕ)) (s : State) → state_in lines ≡ Ok s → s.made ≢ 0 → IsTrace (trace_of_state s)
trace_whole lines s is made = whole_is s (state_sound lines s is) made

-- ---- what the next line may count on

starting_by : (s : State) → IsSound s → (fresh : Bool) → s.made == 0 ≡ fresh → s.operations ≡ [] → IsStarting s
starting_by s sound true is none = subst IsStarting (sym (sound.fresh (eqb-true s.made 0 is))) (record {
  stands = λ p e there. absurd (no_value e (sym (get-empty path_cmp p) ∙ there));
  even = refl;
  below = empty_sound.below;
})
  where
    no_value : (e : StartEntry) → None ≡ Some e → ⊥
    no_value e h = cc
starting_by s sound false is none =
    let was = begun s sound (eqb-false s.made 0 is) none in
    record {
      stands = λ p e there. was.start.agree p ∙ get-map_values path_cmp node_of s.start p ∙ ap (option_map node_of) there;
      even = ap length was.sizes ∙ length-map s.files (λ q. entry_size (get s.start q));
      below = sound.below;
    }

pub bounded : (lines : List (List ℕ)) (s : State) → state_in lines ≡ Ok s → IsBounded s
bounded lines s is =
    let sound = state_sound lines s is in
    record {
      fresh = sound.fresh;
      starting = starting_by s sound (s.made == 0) refl;
      few = sound.few;
      counted = sound.counted;
      housed = sound.housed;
    }
