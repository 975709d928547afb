use Rattle.std.proofs.Common.{◌≡◌, ◌≢◌, ◌<◌, ◌≤◌, ◌+◌, ◌-◌, ◌++◌, ◌∷◌, [], ◌∙◌, Some, Global, Vec, ap, arith, get_or, length, subst, suc, sym}
use Rattle.std.proofs.lemmas.List.{append-nil, get_or_default}
use Rattle.std.specs.List.{AllWithin}
use Rattle.cs_entries.specs.declared.entry.Entry.{Entry}
use Rattle.cs_entries.specs.declared.node.Node.{Node}
use Rattle.cs_entries.specs.declared.node.Node.TheVariants.{Directory}
use Rattle.cs_entries.specs.DirEntries.{root_home}
use Rattle.cs_entries.specs.Tables.{below}
use Rattle.cs_tree_model.specs.Tree.{Path}
use Rattle.cs_apm.specs.Slots.{entry_at, held_in_slots, slot_at}
use Rattle.cs_apm.proofs.Walking.{below_is, found_directory, found_other, kept, none_behind, none_left, rest, skipped}
use Rattle.cs_apm.proofs.walk.+push_below.Goals.{in-Directory+in_ok-push_below, in_default-node}
use Rattle.cs_apm.proofs.walk.+push_below.Goals as goal

pub loop-i-init : goal.loop-i-init
loop-i-init t c =
    let es = c.args.entries.now in
    let ss = c.args.slots.now in
    let path = c.args.path.now in
    let d = c.args.directory in
    let deep = c.args.deep in
    let first = c.range_of-first.result.0 in
    let given = c.range_of-first.ensures in
    let order = given.order in
    let within = given.within in
    let some = c.if-deep-eq0.false in
    let down : deep ≡ suc (deep - 1) = omega (arith, some) in
    let same : 0 + first ≡ first = omega arith in
    let none : AllWithin (λ (e : Entry). e.directory ≢ d) es 0 (0 + first) =
    subst (AllWithin (λ (e : Entry). e.directory ≢ d) es 0) (sym same) given.before in
    ap (λ v. c.args.found.now.items ++ v)
    (sym (below_is es ss path d deep (deep - 1) down
    ∙ skipped es ss (deep - 1) path d c.requires.each first 0 (omega (arith, order, within)) none
    ∙ ap (rest es ss (deep - 1) path d) same))

pub loop-i-preserved-in_default : goal.loop-i-preserved-in_default
loop-i-preserved-in_default t c =
    let es = c.args.entries.now in
    let ss = c.args.slots.now in
    let path = c.args.path.now in
    let d = c.args.directory in
    let deep = c.args.deep in
    let i = c.loop-i.i in
    let before = c.loop-i-test.true in
    let within = c.range_of-first.ensures.within in
    let old = c.args.found.now.items ++ below (held_in_slots es ss) deep path d in
    kept es ss (deep - 1) path d c.requires.each old c.loop-i.found.items i (omega (arith, before, within)) c.loop-i.invariant
    (none_left (slot_at ss i) c.in_default.not-Some)

pub loop-i-preserved : goal.loop-i-preserved
loop-i-preserved t c =
    let es = c.args.entries.now in
    let ss = c.args.slots.now in
    let path = c.args.path.now in
    let d = c.args.directory in
    let deep = c.args.deep in
    let i = c.loop-i.i in
    let end = c.range_of-first.result.1 in
    let before : i < end = c.loop-i-test.true in
    let within = c.range_of-first.ensures.within in
    let low : i < length es = omega (arith, before, within) in
    let from : c.range_of-first.result.0 ≤ i = c.loop-i.auto.i in
    let found = c.loop-i.found.items in
    let child = c.in_ok-child.child in
    let old = c.args.found.now.items ++ below (held_in_slots es ss) deep path d in
    let own : (entry_at es i).directory ≡ d = c.range_of-first.ensures.of i root_home from before in
    let named : child ≡ path ++ (entry_at es i).name ∷ [] =
    c.in_ok-child.ensures
    ∙ ap (λ name. path ++ name ∷ []) (c.as_str.ensures.value
    ∙ ap (λ (e : Entry). e.name) (get_or_default es i c.index-entries-i.result root_home low)) in
    let pushed : c.push.new.self.items ≡ found ++ (child, c.in-Some.node) ∷ [] =
    c.in_ok-push.ensures.items ∙ ap (λ (p : Path). found ++ (p, c.in-Some.node) ∷ []) c.in_ok-try_clone.ensures in
    elim c.match-node.branch [
      | in-Directory+in_ok-push_below w ↦
          subst (λ (v : Vec (Path × Node) Global). v.items ++ rest es ss (deep - 1) path d (i + 1) ≡ old) (sym w.found-is)
          (found_directory es ss (deep - 1) path d c.requires.each old found i low c.loop-i.invariant own child named w.in-Directory.number
          c.push.new.self.items w.push_below.new.found.items (c.in-Some.is ∙ ap Some w.in-Directory.is)
          (pushed ∙ ap (λ (x : Node). found ++ (child, x) ∷ []) w.in-Directory.is) w.in_ok-push_below.ensures)
      | in_default-node w ↦
          subst (λ (v : Vec (Path × Node) Global). v.items ++ rest es ss (deep - 1) path d (i + 1) ≡ old) (sym w.found-is)
          (found_other es ss (deep - 1) path d c.requires.each old found i low c.loop-i.invariant own child named c.in-Some.node
          c.push.new.self.items w.in_default-node.not-Directory c.in-Some.is pushed)
    ]

pub returns : goal.returns
returns t c =
    let es = c.args.entries.now in
    let ss = c.args.slots.now in
    let path = c.args.path.now in
    let d = c.args.directory in
    let deep = c.args.deep in
    let i = c.loop-i.i in
    let end = c.range_of-first.result.1 in
    let given = c.range_of-first.ensures in
    let order = given.order in
    let within = given.within in
    let past = c.loop-i-test.false in
    let most : i ≤ end = c.loop-i.auto.i-end order in
    let same : i ≡ end = omega (arith, past, most) in
    let gap = length es - end in
    let whole : end + gap ≡ length es = omega (arith, within) in
    let none : AllWithin (λ (e : Entry). e.directory ≢ d) es end (end + gap) =
    subst (AllWithin (λ (e : Entry). e.directory ≢ d) es end) (sym whole) given.behind in
    let nothing =
    ap (rest es ss (deep - 1) path d) same
    ∙ skipped es ss (deep - 1) path d c.requires.each gap end (omega (arith, whole)) none
    ∙ none_behind es ss (deep - 1) path d (end + gap) (omega (arith, whole)) in
    sym (append-nil c.loop-i.found.items) ∙ ap (λ v. c.loop-i.found.items ++ v) (sym nothing) ∙ c.loop-i.invariant
