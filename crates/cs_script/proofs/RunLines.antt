-- Lines of a script that are run one after another.
use Rattle.std.proofs.Common.{◌≡◌, ℕ, ◌+◌, ◌<◌, List, [], ◌∷◌, ◌++◌, get_or, length, take, drop, Option, refl, sym, ap, subst, ◌∙◌}
use Rattle.std.proofs.Common.{append_assoc}
use Rattle.std.proofs.lemmas.List.{append-nil, take-append-drop, take_more}
use Rattle.std.specs.Io.KnownBytes.{Appends}
use Rattle.cs_stream.specs.Streams.{AppendsFront}
use Rattle.std.proofs.KnownBytes.{Appends-nil, Appends-trans}
use Rattle.cs_world.specs.Worlds.{World}
use Rattle.cs_script.specs.declared.script.ScriptLine.{ScriptLine}
use Rattle.cs_script.specs.Scripted.{RanTo, StoppedAt}
use Rattle.cs_script.specs.Printed.{Prints, PrintsAll}

-- one line more
prints_more : (w : World) (lines : List ScriptLine) (text : List ℕ) (v : World) (line : ScriptLine) (more : List ℕ) (w' : World)
    → PrintsAll w lines text v → Prints v line more w' → PrintsAll w (lines ++ line ∷ []) (text ++ more) w'
prints_more w [] text v line more w' (none, same) p = (
  more,
  [],
  w',
  subst (λ (x : World). Prints x line more w') same p,
  (refl, refl),
  ap (λ (t : List ℕ). t ++ more) none ∙ sym
      (append-nil more),
)
prints_more w (first ∷ lines) text v line more w' (front, back, mid, one, others, parts) p = (
  front,
  back
      ++ more,
  mid,
  one,
  prints_more mid lines back v line more w' others p,
  ap (λ (t : List ℕ). t ++ more) parts ∙ append_assoc front
      back more,
)

pub ran_none : (w : World) (con : Option (List ℕ)) → RanTo w [] con con w
ran_none w con = record { text = []; prints = (refl, refl); written = Appends-nil con }

pub ran_more : (w : World) (lines : List ScriptLine) (old mid new : Option (List ℕ)) (v : World) (line : ScriptLine) (text : List ℕ)
    (w' : World)
    → RanTo w lines old mid v → Prints v line text w' → Appends mid new text → RanTo w (lines ++ line ∷ []) old new w'
ran_more w lines old mid new v line text w' r p appends = record {
  text = r.text ++ text;
  prints = prints_more w lines r.text v line text w' r.prints p;
  written = Appends-trans old mid new r.text text r.written appends;
}

pub ran_part : (w : World) (all lines rest : List ScriptLine) (old mid new : Option (List ℕ)) (v : World) (line : ScriptLine)
    (text : List ℕ) (w' : World)
    → RanTo w lines old mid v → Prints v line text w' → AppendsFront mid new text → all ≡ (lines ++ line ∷ []) ++ rest
    → StoppedAt w all old new w'
ran_part w all lines rest old mid new v line text w' r p part parts = record {
  run = lines ++ line ∷ [];
  unrun = rest;
  text = r.text ++ text;
  parts = parts;
  prints = prints_more w lines r.text v line text w' r.prints p;
  written = record {
    sent = r.text ++ part.sent;
    unsent = part.unsent;
    parts = ap (λ (t : List ℕ). r.text ++ t) part.parts ∙ sym (append_assoc r.text part.sent part.unsent);
    appends = Appends-trans old mid new r.text part.sent r.written part.appends;
  };
}

-- the first lines, and the one after them
next_is : (all : List ScriptLine) (i : ℕ) (line : ScriptLine) → i < length all → line ≡ get_or all i line
    → take (i + 1) all ≡ take i all ++ line ∷ []
next_is all i line within is = take_more all i line within ∙ ap (λ (l : ScriptLine). take i all ++ l ∷ []) (sym is)

pub ran_next : (w : World) (all : List ScriptLine) (i : ℕ) (line : ScriptLine) (old mid new : Option (List ℕ)) (v w' : World)
    (text : List ℕ)
    → i < length all → line ≡ get_or all i line → RanTo w (take i all) old mid v → Prints v line text w' → Appends mid new text
    → RanTo w (take (i + 1) all) old new w'
ran_next w all i line old mid new v w' text within is r p appends =
    subst (λ (ls : List ScriptLine). RanTo w ls old new w') (sym (next_is all i line within is))
    (ran_more w (take i all) old mid new v line text w' r p appends)

pub ran_until : (w : World) (all : List ScriptLine) (i : ℕ) (line : ScriptLine) (old mid new : Option (List ℕ)) (v w' : World)
    (text : List ℕ)
    → i < length all → line ≡ get_or all i line → RanTo w (take i all) old mid v → Prints v line text w' → AppendsFront mid new text
    → StoppedAt w all old new w'
ran_until w all i line old mid new v w' text within is r p part =
    ran_part w all (take i all) (drop (i + 1) all) old mid new v line text w' r p part
    (sym (take-append-drop (i + 1) all) ∙ ap (λ (ls : List ScriptLine). ls ++ drop (i + 1) all) (next_is all i line within is))
